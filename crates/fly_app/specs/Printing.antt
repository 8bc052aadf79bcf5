-- The texts that are printed, and how they are.
use Rattle.std.specs.Prelude.{◌≡◌, ◌⊎◌, ℕ, List, [], ◌∷◌, ◌++◌, flat_map, codes, decimal}
use Rattle.fly_ports.specs.Sink.{SinkState, Writes, FailsToWrite, Tries}
use Rattle.fly_schema.specs.declared.fault.DocKind.{DocKind}
use Rattle.fly_schema.specs.declared.fault.DocKind.TheVariants as kinds
use Rattle.fly_faults.specs.declared.fault.Code.{Code}
use Rattle.fly_faults.specs.declared.fault.Code.TheVariants as code
use Rattle.fly_faults.specs.declared.fault.Fault.{Fault}
use Rattle.fly_app.specs.declared.status.Status.{Status}
use Rattle.fly_app.specs.declared.status.Status.TheVariants as statuses

-- the end of each line
abbrev pub newline : List ℕ
newline = 10 ∷ []

-- ---- lines

-- the line for words that are no command, with the number of the first wrong one
abbrev pub usage_text : ℕ → List ℕ
usage_text k = codes "usage: word " ++ decimal k ++ newline

-- what a document's fault is called
abbrev pub kind_name : DocKind → List ℕ
kind_name kinds.NotJson = codes "NotJson"
kind_name kinds.FloatRefused = codes "FloatRefused"
kind_name kinds.WrongKind = codes "WrongKind"
kind_name kinds.Missing = codes "Missing"
kind_name kinds.LeftOut = codes "LeftOut"
kind_name kinds.TooDeep = codes "TooDeep"
kind_name kinds.TooLarge = codes "TooLarge"
kind_name kinds.NoMemory = []

-- the line for a document, called by a word, with this fault at this place
abbrev pub document_line : List ℕ → DocKind → List ℕ → List ℕ
document_line word kind place = word ++ codes ": " ++ kind_name kind ++ codes " " ++ place ++ newline

-- what a fault of a bundle is called
abbrev pub code_name : Code → List ℕ
code_name code.DuplicateId = codes "DuplicateId"
code_name code.WorkflowNotFound = codes "WorkflowNotFound"
code_name code.NoNodes = codes "NoNodes"
code_name code.TooManyNodes = codes "TooManyNodes"
code_name code.TaskNotFound = codes "TaskNotFound"
code_name code.NodeNotFound = codes "NodeNotFound"
code_name code.BranchNoCondition = codes "BranchNoCondition"
code_name code.BoundTwice = codes "BoundTwice"
code_name code.VariableNotFound = codes "VariableNotFound"
code_name code.IllegalEnumValue = codes "IllegalEnumValue"
code_name code.MismatchedTypes = codes "MismatchedTypes"
code_name code.NotBound = codes "NotBound"
code_name code.ArrayNoMapped = codes "ArrayNoMapped"
code_name code.TypeTooDeep = codes "TypeTooDeep"
code_name code.ExprFault = codes "ExprFault"
code_name code.OutputNotBound = codes "OutputNotBound"
code_name code.CycleDetected = codes "CycleDetected"
code_name code.TemplateInput = codes "TemplateInput"
code_name code.RecursiveWorkflow = codes "RecursiveWorkflow"
code_name code.NestingTooDeep = codes "NestingTooDeep"
code_name code.PlanTooLarge = codes "PlanTooLarge"
code_name code.TooManyArrays = codes "TooManyArrays"

-- the detail behind a space, where there is one
abbrev pub detail_text : List ℕ → List ℕ
detail_text [] = []
detail_text (byte ∷ bytes) = codes " " ++ (byte ∷ bytes)

-- the line for a fault of a bundle
abbrev pub fault_line : Fault → List ℕ
fault_line f = codes "bundle: " ++ code_name f.code ++ codes " " ++ f.place ++ detail_text f.detail ++ newline

-- a line for each
abbrev pub fault_lines : List Fault → List ℕ
fault_lines faults = flat_map fault_line faults

-- the line for a file that was not read
abbrev pub unread_text : List ℕ → List ℕ
unread_text path = codes "cannot read " ++ path ++ newline

-- what is tried where an answer can't be written
abbrev pub unwritten_text : List ℕ
unwritten_text = codes "cannot write" ++ newline

-- what is tried where there is no memory for an answer
abbrev pub no_memory_text : List ℕ
no_memory_text = codes "out of memory" ++ newline

-- ---- printing

-- a write of the line failed, and behind the first part of it `cannot write` was tried
pub record FailsToSay (old new : SinkState) (line : List ℕ) : Type 0 where
  pub between : SinkState
  pub part : FailsToWrite old between line
  pub rest : Tries between new unwritten_text

-- the text was printed, or the write of it failed and that was tried to be said
abbrev pub PrintsText : SinkState → SinkState → SinkState → SinkState → List ℕ → Status → Type 0
PrintsText out new_out err new_err text status =
    (status ≡ statuses.Done) × Writes out new_out text × (new_err ≡ err)
    ⊎ (status ≡ statuses.WriteFault) × FailsToWrite out new_out text × Tries err new_err unwritten_text

-- the line was said and is the reason for the status, or the write of it failed
abbrev pub SaysLine : SinkState → SinkState → List ℕ → Status → Status → Type 0
SaysLine old new line reason status =
    (status ≡ reason) × Writes old new line
    ⊎ (status ≡ statuses.WriteFault) × FailsToSay old new line
