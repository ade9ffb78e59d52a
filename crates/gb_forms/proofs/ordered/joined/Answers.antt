use Rattle.std.proofs.Common.{◌+◌, ◌-◌, length, take, ap, sym, ◌∙◌}
use Rattle.gb_forms.specs.Ordered.{joined}
use Rattle.gb_forms.proofs.OrderSteps.{joined_front}
use Rattle.gb_forms.proofs.ordered.joined.Goals as goal

pub loop-k-preserved : goal.loop-k-preserved
loop-k-preserved c =
    let list = c.args.list.now in
    let k = c.loop-k.k in
    let front = joined_front list k c.index-list-at.result c.loop-k.all c.loop-k-test.true c.index-list-at.is in
    let put = rw c.as_slice.ensures at c.in_ok-all.ensures in
    ap (joined (take (length list - (k + 1)) list)) put ∙ sym front ∙ c.loop-k.invariant
