-- What a pass knows, as contracts say it.
use Rattle.std.specs.Prelude.{◌≡◌, ℕ, List, [], Bool, false, is_some, Option, Some}
use Rattle.fly_desk.specs.declared.annals.Annals.{Ghosts}
use Rattle.fly_desk.specs.declared.desk.Desk.{Desk}
use Rattle.fly_desk.specs.declared.pass.Pass.{Pass}
use Rattle.fly_desk.specs.View.{list_in, spare_in, opening_in, basis_in, calls_in}

module _ {O E B : Type 0} {g : Ghosts O E B} where
  -- the pass is one of the desk's
  abbrev pub IsOf : Desk O E B → Pass O E B g → Type 0
  IsOf desk pass = pass.seat.table_id ≡ desk.table.shared.table_id

  -- the longest list that the pass has seen
  abbrev pub seen : Pass O E B g → List E
  seen pass = pass.seat.me.0.seen

  -- the pass's own calls: the place of each in the list, and its entry
  abbrev pub own : Pass O E B g → List (ℕ × E)
  own pass = pass.seat.me.0.own

  -- how many calls are left
  abbrev pub calls_left : Pass O E B g → ℕ
  calls_left pass = pass.left

  -- the list, the basis and the number of calls at the start of the pass's desk
  abbrev pub opening_of : Pass O E B g → List E
  opening_of pass = opening_in pass.seat.me.0

  abbrev pub basis_of : Pass O E B g → Option B
  basis_of pass = basis_in pass.seat.me.0

  abbrev pub calls_of : Pass O E B g → ℕ
  calls_of pass = calls_in pass.seat.me.0

  -- whether a turn of the pass is out
  abbrev pub is_out : Pass O E B g → Bool
  is_out pass = is_some pass.seat.me.0.turn

  -- the list and the spare that the object had when it was handed out
  abbrev pub list_out : Pass O E B g → List E
  list_out pass = list_in pass.seat.me.0

  abbrev pub spare_out : Pass O E B g → ℕ
  spare_out pass = spare_in pass.seat.me.0

  -- the two passes know of one start
  pub record HasSameStart (one other : Pass O E B g) : Type 0 where
    pub opening : opening_of one ≡ opening_of other
    pub basis : basis_of one ≡ basis_of other
    pub calls : calls_of one ≡ calls_of other

  -- the pass is as it was but for a turn
  pub record KeepsItsCalls (before after : Pass O E B g) : Type 0 where
    pub seen_is : seen after ≡ seen before
    pub own_is : own after ≡ own before
    pub left_is : calls_left after ≡ calls_left before

  -- the pass has seen this list, which is the list at the start, made no call, and has all the calls
  pub record IsNew (pass : Pass O E B g) (list : List E) (basis : B) (calls : ℕ) : Type 0 where
    pub seen_is : seen pass ≡ list
    pub own_is : own pass ≡ []
    pub left_is : calls_left pass ≡ calls
    pub opening_is : opening_of pass ≡ list
    pub basis_is : basis_of pass ≡ Some basis
    pub calls_is : calls_of pass ≡ calls
    pub idle : is_out pass ≡ false
