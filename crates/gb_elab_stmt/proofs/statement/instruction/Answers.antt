use Rattle.std.proofs.Common.{rules}
use Rattle.gb_names.specs.Environment.{environment}
use Rattle.gb_elab_stmt.proofs.Stated.{unbuilt}
use Rattle.gb_elab_stmt.proofs.statement.instruction.Goals as goal

pub returns-in_default : goal.returns-in_default
returns-in_default c =
    let e =
    unbuilt (environment c.args.at.now) c.args.head c.args.first.now c.args.rest.now c.args.place c.in_default.not-Sample c.in_default.not-Assign c.in_default.not-Store
    c.in_default.not-AssignCall c.in_default.not-Call c.in_default.not-FunctorCall c.in_default.not-TupleStatement in
    search (rules, e)
