use Rattle.std.proofs.Common.{rules, ap, ◌∙◌}
use Rattle.gb_goal.specs.Scope.{proc_at}
use Rattle.gb_goal.proofs.Interfaces.{proc_applied}
use Rattle.gb_goal.proofs.scope.Scope.procedure.Goals as goal

pub returns-in-Apply : goal.returns-in-Apply
returns-in-Apply c =
    let x = c.in-Apply in
    let ds = c.args.self.now in
    let n = c.args.reference.now.name in
    let e = ap (λ m. proc_at ds m n) x.is ∙ proc_applied ds x.«module» x.args n in
    search (rules, e)
