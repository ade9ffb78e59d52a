use Rattle.std.proofs.Common.{◌+◌, ◌||◌, drop, ap, sym, ◌∙◌}
use Rattle.gb_ended.specs.Named.{is_one}
use Rattle.gb_ended.proofs.NamedSteps.{one_next}
use Rattle.gb_ended.proofs.named.is_one.Goals as goal

pub returns-then-same_name : goal.returns-then-same_name
returns-then-same_name c =
    let l = c.loop-other in
    let rest = is_one (drop (l.other-index + 1) c.args.names.now) c.args.name.now in
    let e = one_next c.args.names.now l.other-index c.other-item.result c.args.name.now c.loop-other-test.true c.other-item.is c.same_name.result c.same_name.ensures in
    sym (sym l.invariant ∙ e ∙ ap (λ b. b || rest) c.if-same_name.true)

pub loop-other-preserved : goal.loop-other-preserved
loop-other-preserved c =
    let l = c.loop-other in
    let rest = is_one (drop (l.other-index + 1) c.args.names.now) c.args.name.now in
    let e = one_next c.args.names.now l.other-index c.other-item.result c.args.name.now c.loop-other-test.true c.other-item.is c.same_name.result c.same_name.ensures in
    sym (e ∙ ap (λ b. b || rest) c.if-same_name.false) ∙ l.invariant
