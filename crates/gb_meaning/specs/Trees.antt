-- Trees by their constructors, where definitions compute.
use Rattle.std.specs.Prelude.{List, [], ◌∷◌}
use Rattle.sqlite_items.specs.formers.items.Items.{the_former}
use Rattle.gb_core.specs.declared.ty.Ty.{Ty, end_of-Ty, more_of-Ty}
use Rattle.gb_core.specs.declared.ty.Ty.TheVariants.{Opt', Distr'}
use Rattle.gb_terms.specs.declared.term.Term.{Term, Term', Row_of-Term, end_of-Term, more_of-Term, end_of-Head, more_of-Head}
use Rattle.gb_terms.specs.declared.term.Head.{Head}
use mathlib.Core.Former.{arity, this}

abbrev pub places : List Term → List (Unit {0})
places [] = []
places (t ∷ ts) = tt ∷ places ts

abbrev pub row : (ts : List Term) → Row_of-Term (arity (the_former (this {0})) (places ts))
row [] = end_of-Term
row (t ∷ ts) = more_of-Term t (row ts)

-- the term of this head, these arguments and this type
abbrev pub term : Head → List Term → Ty → Term
term h ts ty = Term' tt (more_of-Head h end_of-Head) (places ts) (row ts) ty

-- the type of distributions over a type
abbrev pub distributions : Ty → Ty
distributions t = Distr' tt (more_of-Ty t end_of-Ty)

-- the type of options of a type
abbrev pub options : Ty → Ty
options t = Opt' tt (more_of-Ty t end_of-Ty)
