use Rattle.std.proofs.Common.{rules, ap}
use Rattle.gb_call.specs.LastCall.{of_statement}
use Rattle.gb_call.proofs.LastCalls.{call_ends}
use Rattle.gb_call.proofs.last_call.call.Goals as goal

pub returns-in-Call : goal.returns-in-Call
returns-in-Call c =
    let x = c.in-Call in
    let a = call_ends c.args.before.now x.targets x.procedure x.arguments in
    let b = ap (of_statement c.args.before.now) x.is in
    search (rules, a, b)
