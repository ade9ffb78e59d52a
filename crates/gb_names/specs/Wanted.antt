-- Terms of a wanted type.
use Rattle.std.specs.Prelude.{◌≡◌, ℕ, ◌^◌, nat_lt, Bool, true, if◌then◌else◌, Option, Some, None}
use Rattle.gb_core.specs.declared.place.Place.{Place}
use Rattle.gb_core.specs.declared.refusal.Why.TheVariants.{TypeMismatch, TooMany}
use Rattle.gb_core.specs.declared.ty.Ty.{Ty}
use Rattle.gb_core.specs.declared.ty.Ty.TheVariants.{Bool as bool_ty}
use Rattle.gb_terms.specs.declared.term.Term.{Term, out-Term}
use Rattle.gb_goal.specs.Answers.{Answer, nowhere}
use Rattle.gb_goal.specs.Answers.Answer.{given, refused}
use Rattle.gb_core.specs.SameTypes.{ty_eq}

-- a number of things as a term counts them; more are past the nodes of a formula, and the place is for the caller to say
abbrev pub counted : ℕ → Answer ℕ
counted n = if nat_lt n (2 ^ 32) then given n else refused (TooMany 65536) nowhere

abbrev pub type_of_term : Term → Ty
type_of_term t = (out-Term t).ty

-- whether a type may stand where one is wanted, or none
abbrev pub fits : Option Ty → Ty → Bool
fits None t = true
fits (Some w) t = ty_eq t w

-- the term itself, refused where another type is wanted
abbrev pub wanted : Option Ty → Place → Term → Answer Term
wanted w p t = if fits w (type_of_term t) then given t else refused TypeMismatch p

-- a truth may stand where a type is wanted
abbrev pub truth : Option Ty → Place → Answer (Unit {0})
truth w p = if fits w bool_ty then given tt else refused TypeMismatch p

-- a term has the wanted type, where one is wanted
abbrev pub HasType : Option Ty → Term → Type 0
HasType None t = Unit {0}
HasType (Some w) t = type_of_term t ≡ w
