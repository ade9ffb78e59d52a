-- The first limit that is passed.
use Rattle.std.proofs.Common.{◌≡◌, ℕ, zero, suc, ◌<◌, List, [], ◌∷◌, length, get_or, drop, sym, ap, arith}
use Rattle.std.specs.Prelude.{Option, Some, None, Err}
use Rattle.std.specs.Option.{option_or}
use Rattle.gb_core.specs.declared.place.Place.{Place}
use Rattle.gb_core.specs.declared.refusal.Refused.{Refused}
use Rattle.gb_goal.specs.declared.sequent.Sequent.{Sequent}
use Rattle.gb_theory.specs.Limits.{goal_limit, each_limit, limited}

pub each_limit-at : (goals : List Sequent) (i : ℕ) (goal : Sequent) → i < length goals → goal ≡ get_or goals i goal → each_limit (drop i goals) ≡ option_or (goal_limit goal) (each_limit (drop (suc i) goals))
each_limit-at [] i goal h e = absurd (omega (arith, h))
each_limit-at (g ∷ more) zero goal h e = ap (λ x. option_or (goal_limit x) (each_limit more)) (sym e)
each_limit-at (g ∷ more) (suc i) goal h e = each_limit-at more i goal (omega (arith, h)) e

-- the first goal decides, if it is refused
pub limited-first : (first more : Option ℕ) (place : Place) (e : Refused) → Err e ≡ limited first place → Err e ≡ limited (option_or first more) place
limited-first None more place e h = absurd (cc)
limited-first (Some n) more place e h = h
