-- Where what is recorded of nodes stands in its lists, by the nodes' numbers.
use Rattle.std.specs.Prelude.{◌≡◌, ℕ, position, Option, Some, None, option_map}
use Rattle.std.specs.BTreeMap.{BTreeMap, get}
use Rattle.std.specs.Option.{option_cmp}
use Rattle.std.specs.Ordering.{nat_cmp, ordering_then, is_eq}
use Rattle.std.specs.declared.cmp.Ordering.{Ordering}
use Rattle.fly_types.specs.declared.literals.LiteralMap.{LiteralMap}
use Rattle.fly_docs.specs.declared.attempt_name.AttemptName.{AttemptName}
use Rattle.fly_policy.specs.declared.outcome.Outcome.{Outcome}
use Rattle.fly_state.specs.Plans.{RunPlan, Path, number_of}
use Rattle.fly_eval.specs.declared.results.Results.{Results}
use Rattle.fly_eval.specs.declared.results.Hits.{Hits}
use Rattle.fly_eval.specs.declared.tables.Records.{Records}

-- a node's number, and an attempt's
abbrev pub Key : Type 0
Key = ℕ × ℕ

abbrev pub key_cmp : Key → Key → Ordering
key_cmp x y = ordering_then (nat_cmp x.0 y.0) (nat_cmp x.1 y.1)

-- the key of an attempt of a node of the plan; none for any other
abbrev pub attempt_key : RunPlan → AttemptName → Option Key
attempt_key plan name = by name.item
  where
    by : Option ℕ → Option Key
    by None = option_map (λ i. (i, name.attempt)) (number_of plan name.path)
    by (Some item) = None

-- the table has the first place of each attempt
abbrev pub HasOutcomePlaces : RunPlan → Results → BTreeMap (Option Key) ℕ → Type 0
HasOutcomePlaces plan results table =
    (key : Option Key) → get (option_cmp key_cmp) table key
    ≡ position (λ (r : AttemptName × Outcome). is_eq (option_cmp key_cmp key (attempt_key plan r.0))) results.list

-- the table has the first place of each node
abbrev pub HasAnswerPlaces : RunPlan → Hits → BTreeMap (Option ℕ) ℕ → Type 0
HasAnswerPlaces plan hits table =
    (key : Option ℕ) → get (option_cmp nat_cmp) table key
    ≡ position (λ (h : Path × Option LiteralMap). is_eq (option_cmp nat_cmp key (number_of plan h.0))) hits.list

-- what is recorded, with its tables
pub record AreRecords (plan : RunPlan) (results : Results) (hits : Hits) (records : Records) : Type 0 where
  pub results_are : records.results.now ≡ results
  pub hits_are : records.hits.now ≡ hits
  pub placed : HasOutcomePlaces plan results records.outcomes
  pub answered : HasAnswerPlaces plan hits records.answers
