-- A statement that isn't true.
use Rattle.std.specs.Prelude.{[]}
use Rattle.gb_core.specs.declared.ty.Ty.TheVariants as ty
use Rattle.gb_core.specs.declared.value.Value.TheVariants.{Num}
use Rattle.gb_terms.specs.declared.term.Head.TheVariants.{Lit}
use Rattle.gb_goal.specs.declared.sequent.Sequent.{Sequent}
use Rattle.gb_meaning.specs.Trees.{term}

-- `false`
abbrev pub falsehood : Sequent
falsehood = record { logical = []; memories = []; modules = []; hyps = []; conclusion = term (Lit (Num 0)) [] ty.Bool }
