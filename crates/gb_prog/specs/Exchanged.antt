-- Forms with their sides exchanged.
use Rattle.std.specs.Prelude.{[], ◌∷◌}
use Rattle.gb_terms.specs.declared.op.Side.TheVariants.{Left, Right}
use Rattle.gb_terms.specs.declared.term.Term.{Term}
use Rattle.gb_walk.specs.declared.change.Change.TheVariants.{ToSide}
use Rattle.gb_walk.specs.Change.{Changes, term_changed}

abbrev pub exchanging : Changes
exchanging = ToSide Left Right ∷ ToSide Right Left ∷ []

-- the form, with the left memory in the place of the right one and the right one in that of the left
abbrev pub exchanged : Term → Term
exchanged f = term_changed f exchanging
