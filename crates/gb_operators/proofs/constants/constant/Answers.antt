use Rattle.std.proofs.Common.{true, false, rules}
use Rattle.gb_terms.specs.Make.{truth_literal}
use Rattle.gb_goal.specs.Answers.Answer.{given}
use Rattle.gb_names.specs.Names.{unit}
use Rattle.gb_operators.proofs.constants.constant.Goals as goal

pub returns-in-True : goal.returns-in-True
returns-in-True c =
    let h = c.wanted.ensures (given (truth_literal true)) c.truth.ensures in search (rules, h)

pub returns-in-False : goal.returns-in-False
returns-in-False c =
    let h = c.wanted-in-False.ensures (given (truth_literal false)) c.truth-in-False.ensures in search (rules, h)

pub returns-in-Unit : goal.returns-in-Unit
returns-in-Unit c =
    let h = c.wanted-in-Unit.ensures (given unit) c.unit.ensures in search (rules, h)
