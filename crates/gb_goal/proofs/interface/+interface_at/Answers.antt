use Rattle.std.proofs.Common.{rules, ap, ◌∙◌}
use Rattle.std.specs.Option.{option_copied}
use Rattle.gb_goal.specs.Interfaces.{interface_at}
use Rattle.gb_goal.proofs.Interfaces.{applied_at}
use Rattle.gb_goal.proofs.interface.+interface_at.Goals as goal

pub interface_at-returns-in_err-lacks-in-Apply : goal.interface_at-returns-in_err-lacks-in-Apply
interface_at-returns-in_err-lacks-in-Apply t c =
    let x = c.in-Apply in
    let ds = c.args.scope.now in
    let a = option_copied c.args.around in
    let e = ap (interface_at ds a) x.is ∙ applied_at ds a x.name x.args in
    search (rules, e)

pub interface_at-returns-in_ok-lacks-in-Apply : goal.interface_at-returns-in_ok-lacks-in-Apply
interface_at-returns-in_ok-lacks-in-Apply t c =
    let x = c.in-Apply in
    let ds = c.args.scope.now in
    let a = option_copied c.args.around in
    let e = ap (interface_at ds a) x.is ∙ applied_at ds a x.name x.args in
    search (rules, e)
