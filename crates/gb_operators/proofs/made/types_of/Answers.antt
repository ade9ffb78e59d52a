use Rattle.std.proofs.Common.{map, take_all, ap, ◌∙◌, arith}
use Rattle.gb_names.specs.Wanted.{type_of_term}
use Rattle.gb_operators.proofs.Types.{one_more}
use Rattle.gb_operators.proofs.made.types_of.Goals as goal

pub loop-t-preserved : goal.loop-t-preserved
loop-t-preserved c =
    one_more c.args.terms.now c.loop-t.t-index c.t-item.result c.loop-t.all c.push.new.self c.in_ok-ty.ty c.loop-t-test.true c.t-item.is c.loop-t.invariant c.in_ok-push.ensures.ok
    (c.in_ok-ty.ensures ∙ c.get.ensures)

pub returns : goal.returns
returns c = c.loop-t.invariant ∙ ap (map type_of_term) (take_all c.loop-t.t-index c.args.terms.now (omega arith))
