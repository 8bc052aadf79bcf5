-- What workers leave of their passes, and in the list that they share.
use Rattle.std.specs.Prelude.{◌≡◌, ℕ, ◌<◌, List, [], length, flat_map, false, slice_index_or}
use Rattle.fly_desk.specs.declared.annals.Annals.{Ghosts}
use Rattle.fly_desk.specs.declared.desk.Desk.{Desk}
use Rattle.fly_desk.specs.declared.pass.Pass.{Pass}
use Rattle.fly_desk.specs.Annals.{IsMadeOf}
use Rattle.fly_desk.specs.Pass.{IsOf, own, calls_left, is_out}

-- the calls are so many turns of the worker, in order: each has its mark, and stands behind those before it
pub record HasTurns (worker turns : ℕ) (calls : List (ℕ × (ℕ × ℕ))) : Type 0 where
  pub number : length calls ≡ turns
  pub marks : (turn : ℕ) (d : ℕ × (ℕ × ℕ)) → turn < turns → (slice_index_or calls turn d).1 ≡ (worker, turn)
  pub rising : (earlier later : ℕ) (d : ℕ × (ℕ × ℕ)) → earlier < later → later < turns
      → (slice_index_or calls earlier d).0 < (slice_index_or calls later d).0

module _ {O E B : Type 0} {g : Ghosts O E B} where
  -- the pass has these calls left, and has made none
  pub record IsFresh (desk : Desk O E B) (calls : ℕ) (pass : Pass O E B g) : Type 0 where
    pub place : IsOf desk pass
    pub idle : is_out pass ≡ false
    pub own_is : own pass ≡ []
    pub left_is : calls_left pass ≡ calls

  -- the pass has no call left
  pub record IsSpent (desk : Desk O E B) (pass : Pass O E B g) : Type 0 where
    pub place : IsOf desk pass
    pub idle : is_out pass ≡ false
    pub left_is : calls_left pass ≡ 0

module _ {O B : Type 0} {g : Ghosts O (ℕ × ℕ) B} where
  -- all calls of the worker's pass are made, and they are its turns
  pub record HasWorked (desk : Desk O (ℕ × ℕ) B) (worker turns : ℕ) (pass : Pass O (ℕ × ℕ) B g) : Type 0 where
    pub spent : IsSpent desk pass
    pub turns_are : HasTurns worker turns (own pass)

-- The list is made of the parts of all workers and of nothing else, and each part has its worker's turns
pub record IsWorkOf (workers turns : ℕ) (list : List (ℕ × ℕ)) (parts : List (List (ℕ × (ℕ × ℕ)))) : Type 0 where
  pub number : length parts ≡ workers
  pub turns_are : (worker : ℕ) → worker < workers → HasTurns worker turns (slice_index_or parts worker [])
  pub made : IsMadeOf list [] (flat_map (λ part. part) parts)
