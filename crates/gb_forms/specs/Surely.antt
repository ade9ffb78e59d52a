-- That some value is drawn.
use Rattle.std.specs.Prelude.{true, [], ◌∷◌}
use Rattle.gb_core.specs.declared.ty.Ty.TheVariants.{Real as real_ty}
use Rattle.gb_terms.specs.declared.op.Rel.TheVariants.{Equal}
use Rattle.gb_terms.specs.declared.op.Side.{Side}
use Rattle.gb_terms.specs.declared.term.Term.{Term}
use Rattle.gb_terms.specs.declared.term.Head.TheVariants.{Mu}
use Rattle.gb_terms.specs.Make.{node, truth_literal}
use Rattle.gb_typing.specs.Forms.{located}
use Rattle.gb_typing.specs.Samplings.{Sampling}
use Rattle.gb_prog.specs.Compared.{compared, one}

-- how likely any value is drawn at all: `mu d (fun v => true)`
abbrev pub drawing : Side → Sampling → Term
drawing r x = node Mu (located r x.from ∷ truth_literal true ∷ []) real_ty

-- Some value is drawn: `mu d (fun v => true) = 1%r`.
abbrev pub surely_drawn : Side → Sampling → Term
surely_drawn r x = compared Equal (drawing r x) one
