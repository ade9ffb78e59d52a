use Rattle.std.proofs.Common.{[], rules}
use Rattle.gb_core.specs.declared.ty.Ty.TheVariants.{Bool as bool_ty, Distr}
use Rattle.gb_terms.specs.declared.op.Op.TheVariants.{Coin}
use Rattle.gb_terms.specs.declared.term.Head.TheVariants.{Builtin}
use Rattle.gb_terms.specs.Make.{node}
use Rattle.gb_goal.specs.Answers.Answer.{given}
use Rattle.gb_names.proofs.allowed.coin.Goals as goal

pub returns : goal.returns
returns c =
    let h = c.wanted.ensures (given (node (Builtin Coin) [] (Distr bool_ty))) c.fair_coin.ensures in search (rules, h)
