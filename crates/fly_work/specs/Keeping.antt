-- What a keeper of the journal kept of a worker's calls, where some of them ran a child.
use Rattle.std.specs.Prelude.{◌≡◌, ◌≢◌, true, ℕ, List, [], ◌∷◌, ◌++◌, map, length}
use Rattle.fly_state.specs.declared.entries.Entry.{Entry}
use Rattle.fly_round.specs.declared.told.Told.{Told}
use Rattle.fly_work.specs.Turns.{call_entry, is_claim, claims_of}

-- the last of the calls is the claim of so many claims, or there are no calls and no claims
abbrev pub EndsAtClaim : List Told → ℕ → Type 0
EndsAtClaim front count = (length (claims_of front) ≡ count) × (front ≢ [] → (before : List Told) × (last : Told) × (front ≡ before ++ last ∷ []) × (is_claim last ≡ true))

-- Of a worker's calls, of which the first so many claims ran their child: the keeper kept all up to the last of these
-- claims, or nothing where no child ran, and of the rest a first part.
pub record KeepsBefore {K : Type 0} (kept kept_part : K → List Entry → K → Type 0) (worker : ℕ) (calls : List Told) (ran : ℕ) (old new : K) : Type 0 where
  pub front : List Told
  pub back : List Told
  pub all : calls ≡ front ++ back
  pub ends : EndsAtClaim front ran
  pub between : K
  pub front_kept : kept old (map (call_entry worker) front) between
  pub back_part : kept_part between (map (call_entry worker) back) new
