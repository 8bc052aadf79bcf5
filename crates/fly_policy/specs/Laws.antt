-- The laws of `==`: a source file names no file of `proofs`, so their proofs stand here.
use Rattle.std.specs.Cmp.{IsPartialEquivalence, IsEquivalence, partial_equiv_from_equiv}
use Rattle.fly_types.specs.Laws.{equal-laws}
use Rattle.fly_policy.specs.contracts.outcome.Outcome as outcome
use Rattle.fly_policy.specs.Same.{same_outcome}

pub same_outcome-laws : IsEquivalence same_outcome
unfolding same_outcome
same_outcome-laws = equal-laws outcome.the_row.coded

pub same_outcome-partial_laws : IsPartialEquivalence same_outcome
same_outcome-partial_laws = partial_equiv_from_equiv same_outcome-laws
