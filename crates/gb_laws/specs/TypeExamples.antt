-- Small terms.
use Rattle.std.specs.Prelude.{[], ◌∷◌}
use Rattle.gb_core.specs.declared.ty.Ty.{Ty}
use Rattle.gb_core.specs.declared.ty.Ty.TheVariants as ty
use Rattle.gb_terms.specs.declared.op.Op.{Op}
use Rattle.gb_terms.specs.declared.op.Op.TheVariants.{Coin}
use Rattle.gb_terms.specs.declared.term.Term.{Term}
use Rattle.gb_terms.specs.declared.term.Head.TheVariants as head
use Rattle.gb_meaning.specs.Names.{Name}
use Rattle.gb_meaning.specs.Trees.{term, distributions}
use Rattle.gb_laws.specs.Typing.{Context}
use Rattle.gb_laws.specs.Typing.Binder.{value}

-- the context with a binder of this type around
abbrev pub within : Context → Ty → Context
within c t = record c { bound = value t ∷ c.bound }

-- what the innermost binder binds, at a type
abbrev pub innermost : Ty → Term
innermost t = term (head.Bound 0) [] t

-- an operator at the innermost bound value, twice
abbrev pub doubled : Op → Ty → Ty → Term
doubled o u t = term (head.Builtin o) (innermost u ∷ innermost u ∷ []) t

abbrev pub coin : Term
coin = term (head.Builtin Coin) [] (distributions ty.Bool)

-- the measure of an event under the fair coin
abbrev pub coin_measure : Term → Term
coin_measure e = term head.Mu (coin ∷ e ∷ []) ty.Real

-- the distribution that an operator of the script gives
abbrev pub drawn_by : Name → Term
drawn_by n = term (head.User n) [] (distributions ty.Bool)
