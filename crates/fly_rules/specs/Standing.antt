-- How a node stands that is not yet started, by what it looks at: the nodes that it promises from or names, and for a case its branch first.
use Rattle.std.specs.Prelude.{ℕ, ◌==◌, Bool, true, false, if◌then◌else◌, List}
use Rattle.std.specs.List.{list_any}

-- Waiting for others; blocked by a failure, for good; to be skipped; or ready to go on.
pub data Standing : Type 0 where
  waiting : Standing
  blocked : Standing
  skipped : Standing
  ready : Standing

abbrev pub is_waiting_standing : Standing → Bool
is_waiting_standing waiting = true
is_waiting_standing _ = false

abbrev pub is_blocked_standing : Standing → Bool
is_blocked_standing blocked = true
is_blocked_standing _ = false

abbrev pub is_skipped_standing : Standing → Bool
is_skipped_standing skipped = true
is_skipped_standing _ = false

abbrev pub is_ready_standing : Standing → Bool
is_ready_standing ready = true
is_ready_standing _ = false

-- How a node stands among others, each of which by itself would make it stand so: a skipped one makes it skipped; else one that is awaited
-- makes it wait; else one that failed or is blocked blocks it; else it is ready.
abbrev pub standing_among : List Standing → Standing
standing_among others =
    if list_any is_skipped_standing others then skipped
    else (if list_any is_waiting_standing others then waiting else (if list_any is_blocked_standing others then blocked else ready))

-- What a branch shows to its cases: it is undecided; it is blocked; it was skipped or found no case; or it chose one.
pub data BranchSight : Type 0 where
  undecided : BranchSight
  stuck : BranchSight
  passed_over : BranchSight
  chose : ℕ → BranchSight

-- the case of this number, by its branch and then, where that chose it, by the others that it looks at
abbrev pub standing_of_case : BranchSight → ℕ → Standing → Standing
standing_of_case undecided case among_others = waiting
standing_of_case stuck case among_others = blocked
standing_of_case passed_over case among_others = skipped
standing_of_case (chose chosen) case among_others = if chosen == case then among_others else skipped
