-- What is said of a document's first fault.
use Rattle.std.specs.Prelude.{ℕ, List, Option, option_map}
use Rattle.serde_json.specs.Data.{Data}
use Rattle.fly_schema.specs.declared.fault.DocFault.{DocFault}
use Rattle.fly_schema.specs.declared.fault.DocKind.{DocKind}
use Rattle.fly_schema.specs.Faults.{first_fault}
use Rattle.fly_schema.specs.Places.{Fault, place_text}
use Rattle.fly_schema.specs.Table.{Forms, MessageRow}

-- its kind, and the text of its place
abbrev pub Report : Type 0
Report = DocKind × List ℕ

abbrev pub report_of : Fault → Report
report_of f = (f.0, place_text f.1)

abbrev pub report_in : DocFault → Report
report_in f = (f.kind, f.place)

-- the first fault of a document, which is to have this form
abbrev pub first_report : List MessageRow → Forms → Data → Option Report
first_report rows form d = option_map report_of (first_fault rows form d)
