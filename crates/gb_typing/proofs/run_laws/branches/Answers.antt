use Rattle.std.proofs.Common.{refl}
use Rattle.gb_meaning.specs.State.{closed}
use Rattle.gb_terms.specs.declared.term.Head.TheVariants.{If}
use Rattle.gb_typing.proofs.Branches.{run_if, denominator_yes, denominator_no}
use Rattle.gb_typing.proofs.run_laws.branches.Goals as goal

pub returns : goal.returns
returns x = record {
  run = λ g s e a b is m. run_if g s (If e a b) e a b refl is m;
  where_true = λ g e a b is. denominator_yes g closed (If e a b) e a b refl is;
  where_false = λ g e a b is. denominator_no g closed (If e a b) e a b refl is;
}
