-- What is to hold before a sampling.
use Rattle.std.specs.Prelude.{[], ◌∷◌}
use Rattle.gb_terms.specs.declared.op.Side.TheVariants.{Own}
use Rattle.gb_terms.specs.declared.op.Read.TheVariants.{Program}
use Rattle.gb_terms.specs.declared.term.Term.{Term}
use Rattle.gb_walk.specs.declared.change.Change.TheVariants.{ToTerm}
use Rattle.gb_walk.specs.Change.{term_changed}
use Rattle.gb_typing.specs.Samplings.{Sampling}
use Rattle.gb_typing.specs.Supports.{nearest, for_support}

-- the postcondition of the sampled value
abbrev pub with_value : Sampling → Term → Term
with_value x q = term_changed q (ToTerm (Program x.target Own) (nearest x.ty) ∷ [])

-- The postcondition holds of each value that may be drawn: `forall v, v \in d => Q`.
abbrev pub each_drawn : Sampling → Term → Term
each_drawn x q = for_support x.ty x.from (with_value x q)
