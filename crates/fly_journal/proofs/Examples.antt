-- Lines of small entries, computed on the definitions.
use Rattle.std.proofs.Common.{◌≡◌, refl, ℕ, [], ◌∷◌, ◌++◌, Option, Some, None, codes}
use Rattle.std.specs.Prelude.{pos}
use Rattle.std.specs.Fmt.{digits}
use Rattle.serde_json.specs.Written.{compact_text}
use Rattle.serde_json.proofs.OnLiterals.{serde_json_on_literals}
use Rattle.fly_types.specs.declared.literals.Literal.TheVariants as literal
use Rattle.fly_types.specs.declared.literals.LiteralMap.{LiteralMap}
use Rattle.fly_docs.specs.declared.node.Node.{Node}
use Rattle.fly_docs.specs.declared.workflow.Workflow.{Workflow}
use Rattle.fly_docs.specs.declared.workflow.Bundle.{Bundle}
use Rattle.fly_policy.specs.declared.outcome.Outcome.TheVariants as outcome
use Rattle.fly_state.specs.declared.entries.Entry.{Entry}
use Rattle.fly_state.specs.declared.entries.Op.{Op}
use Rattle.fly_state.specs.declared.entries.Op.TheVariants as op
use Rattle.fly_state.specs.declared.entries.Reply.{Reply}
use Rattle.fly_state.specs.declared.entries.Reply.TheVariants as reply
use Rattle.fly_state.specs.declared.moves.Move.{Move}
use Rattle.fly_state.specs.declared.moves.Step.{Step}
use Rattle.fly_state.specs.declared.moves.Step.TheVariants as step
use Rattle.fly_state.specs.Plans.{RunPlan}
use Rattle.fly_writers.proofs.Layers.{literal_json-Integer}
use Rattle.fly_journal.specs.Outcomes.{outcome_json}
use Rattle.fly_journal.specs.Lines.{line_text}

abbrev entry : Op → Reply → Entry
entry o r = record { worker = 0; op = o; reply = r }

-- a plan of one node
abbrev plan_of_one : Bundle → Workflow → Node → RunPlan
plan_of_one documents w node = record {
  documents = documents;
  nodes = record { path = codes "n0" ∷ []; workflow = w; place = 0; node = node } ∷ [];
}

abbrev at : Option ℕ → Option ℕ → Step → Move
at node item s = record { at = record { node = node; item = item }; step = s }

abbrev inputs : LiteralMap
inputs = record { entries = (codes "a", literal.Integer (pos 3)) ∷ [] }

-- ---- an execution begins

pub submit : (plan : RunPlan) → line_text plan (entry (op.Submit (codes "e1") inputs) reply.Submitted)
    ≡ codes "{\"exec\":\"e1\",\"inputs\":{\"literals\":{\"a\":{\"scalar\":{\"primitive\":{\"integer\":\"3\"}}}}},"
    ++ codes "\"op\":\"submit\",\"r\":\"submitted\",\"w\":0}\n"
unfolding serde_json_on_literals digits
submit plan = rw (literal_json-Integer (pos 3)) refl

pub tick : (plan : RunPlan) → line_text plan (entry (op.Tick (pos 0)) (reply.Now (pos 0)))
    ≡ codes "{\"moment\":0,\"now\":0,\"op\":\"tick\",\"r\":\"now\",\"w\":0}\n"
unfolding serde_json_on_literals digits
tick plan = refl

pub sweep : (plan : RunPlan) → line_text plan (entry op.Sweep (reply.Swept 0))
    ≡ codes "{\"count\":0,\"op\":\"sweep\",\"r\":\"swept\",\"w\":0}\n"
unfolding serde_json_on_literals digits
sweep plan = refl

pub read : (plan : RunPlan) → line_text plan (entry (op.Read 0 0) (reply.Viewed (codes "e1") 0 0))
    ≡ codes "{\"back\":0,\"current\":0,\"exec\":\"e1\",\"from\":0,\"op\":\"read\",\"r\":\"viewed\",\"version\":0,\"w\":0}\n"
unfolding serde_json_on_literals digits
read plan = refl

pub write : (documents : Bundle) (w : Workflow) (node : Node) → line_text (plan_of_one documents w node)
    (entry (op.Write (codes "e1") 0 (at (Some 0) None step.Queue ∷ [])) (reply.Written 1))
    ≡ codes "{\"base\":0,\"exec\":\"e1\",\"moves\":[{\"at\":\"n0\",\"do\":\"queue\"}],"
    ++ codes "\"op\":\"write\",\"r\":\"written\",\"version\":1,\"w\":0}\n"
unfolding serde_json_on_literals digits
write documents w node = refl

pub claim : (plan : RunPlan) → line_text plan (entry op.Claim reply.Nothing)
    ≡ codes "{\"op\":\"claim\",\"r\":\"nothing\",\"w\":0}\n"
unfolding serde_json_on_literals digits
claim plan = refl

-- ---- slots, steps and empty fields

pub slots : (documents : Bundle) (w : Workflow) (node : Node) → line_text (plan_of_one documents w node)
    (entry (op.Write (codes "e1") 2 (at (Some 0) (Some 1) (step.Run (Some 7) None) ∷ at None None step.Close ∷ []))
    (reply.Stale 3))
    ≡ codes "{\"base\":2,\"current\":3,\"exec\":\"e1\","
    ++ codes "\"moves\":[{\"at\":\"n0#1\",\"do\":\"run\",\"miss\":7},{\"at\":\".\",\"do\":\"close\"}],"
    ++ codes "\"op\":\"write\",\"r\":\"stale\",\"w\":0}\n"
unfolding serde_json_on_literals digits
slots documents w node = refl

pub import : (plan : RunPlan)
    → line_text plan (entry (op.Import (record { project = []; domain = []; name = codes "d"; version = [] })
    (codes "t") (record { entries = [] })) reply.Imported)
    ≡ codes "{\"content\":{},\"dataset\":{\"domain\":\"\",\"name\":\"d\",\"project\":\"\",\"version\":\"\"},"
    ++ codes "\"op\":\"import\",\"r\":\"imported\",\"tag\":\"t\",\"w\":0}\n"
unfolding serde_json_on_literals digits
import plan = refl

pub failure : compact_text (outcome_json (outcome.Fatal (codes "USER:Bad") []))
    ≡ codes "{\"code\":\"USER:Bad\",\"kind\":\"NON_RECOVERABLE\",\"message\":\"\"}"
unfolding serde_json_on_literals
failure = refl
