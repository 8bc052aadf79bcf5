-- Which names are one, and what is kept of an attempt that was handed out or settled.
use Rattle.std.specs.Prelude.{ℕ, ℤ, ◌==◌, ◌&&◌, Bool, bytes_eq, nat_eq}
use Rattle.std.specs.Option.{option_eq}
use Rattle.std.specs.Cmp.Lexicographic.{pointwise}
use Rattle.fly_docs.specs.declared.attempt_name.AttemptName.{AttemptName}
use Rattle.fly_policy.specs.declared.outcome.Outcome.{Outcome}
use Rattle.fly_attempts.specs.declared.parts.Handout.{Handout}
use Rattle.fly_attempts.specs.declared.parts.Ending.{Ending}

-- An attempt that was handed out, and the moment then.
pub record Claim : Type 0 where
  pub name : AttemptName
  pub moment : ℤ
  pub place : ℕ

-- What an attempt came to.
pub record Settlement : Type 0 where
  pub name : AttemptName
  pub outcome : Outcome
  pub place : ℕ

-- the two are one name
abbrev pub same_name : AttemptName → AttemptName → Bool
same_name a b =
    bytes_eq a.exec b.exec && pointwise bytes_eq a.path b.path && option_eq nat_eq a.item b.item
    && a.attempt == b.attempt

-- a claim without its name
abbrev pub handout_of : Claim → Handout
handout_of c = record { moment = c.moment; place = c.place }

-- the claim of the name that was handed out so
abbrev pub claim_from : AttemptName → Handout → Claim
claim_from name h = record { name = name; moment = h.moment; place = h.place }

-- a settlement with a number for its name
abbrev pub ending_of : ℕ → Settlement → Ending
ending_of number s = record { number = number; outcome = s.outcome; place = s.place }

-- the settlement of the name that came to that
abbrev pub settlement_from : AttemptName → Ending → Settlement
settlement_from name e = record { name = name; outcome = e.outcome; place = e.place }
