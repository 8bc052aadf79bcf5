-- What stands in the files that a command reads: documents, and the faults that they have.
use Rattle.std.specs.Prelude.{◌≡◌, ◌≢◌, ℕ, List, [], Option, Some, codes}
use Rattle.fly_ports.specs.Files.{Contents}
use Rattle.fly_docs.specs.declared.workflow.Bundle.{Bundle}
use Rattle.fly_docs.specs.declared.closure.Closure.{Closure}
use Rattle.fly_docs.specs.declared.submission.Submission.{Submission}
use Rattle.fly_docs.specs.Acyclic.{RunsAcyclic}
use Rattle.fly_docs.specs.Closures.{closure_of}
use Rattle.fly_docs.specs.Typed.{IsTyped}
use Rattle.fly_schema.specs.declared.fault.DocFault.{DocFault}
use Rattle.fly_schema.specs.declared.fault.DocKind.TheVariants.{NoMemory}
use Rattle.fly_schema.specs.Table.{Forms}
use Rattle.fly_idl.specs.Reading.{ReadsBundle, ReadsSubmissions, IsFirstFault}
use Rattle.fly_faults.specs.FaultList.{faults_of}
use Rattle.fly_app.specs.Outside.{IsContent}
use Rattle.fly_app.specs.Printing.{document_line, fault_lines}

-- what documents are called in lines on their faults
abbrev pub bundle_word : List ℕ
bundle_word = codes "bundle"

abbrev pub submissions_word : List ℕ
submissions_word = codes "submissions"

-- A file at the path, the one that is told where contents are. It is a bundle that is well typed and acyclic, and this
-- is its closure.
pub record IsClosureAt (contents : Option Contents) (path : List ℕ) (closure : Closure) : Type 0 where
  pub file : List ℕ
  pub content : IsContent contents path file
  pub bundle : Bundle
  pub reads : ReadsBundle file bundle
  pub faultless : faults_of bundle ≡ []
  pub typed : IsTyped bundle
  pub acyclic : RunsAcyclic bundle
  pub compiled : closure_of bundle ≡ Some closure

-- a file at the path is the document of these submissions
pub record AreSubmissionsAt (contents : Option Contents) (path : List ℕ) (submissions : List Submission) : Type 0 where
  pub file : List ℕ
  pub content : IsContent contents path file
  pub reads : ReadsSubmissions file submissions

-- a file at the path whose document, of this form, breaks a rule first here, as the line says under the document's word
pub record HasDocumentFault (word : List ℕ) (form : Forms) (contents : Option Contents)
    (path line : List ℕ) : Type 0 where
  pub file : List ℕ
  pub content : IsContent contents path file
  pub fault : DocFault
  pub first : IsFirstFault form file fault
  pub known : fault.kind ≢ NoMemory
  pub printed : line ≡ document_line word fault.kind fault.place

-- a file at the path whose bundle is not well typed or not acyclic, and a line for each of its faults
pub record HasBundleFaults (contents : Option Contents) (path lines : List ℕ) : Type 0 where
  pub file : List ℕ
  pub content : IsContent contents path file
  pub bundle : Bundle
  pub reads : ReadsBundle file bundle
  pub faulty : faults_of bundle ≢ []
  pub not_typed : IsTyped bundle → RunsAcyclic bundle → ⊥
  pub printed : lines ≡ fault_lines (faults_of bundle)
