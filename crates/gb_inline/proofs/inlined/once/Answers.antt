use Rattle.std.proofs.Common.{◌≡◌, IfOk, subst, ◌∙◌}
use Rattle.gb_inline.specs.Asking.{expansion}
use Rattle.gb_inline.specs.Inlined.{each_inlined}
use Rattle.gb_inline.proofs.inlined.once.Goals as goal

pub returns : goal.returns
returns c =
    let made = c.each_inlined in
    subst (λ u. IfOk made.result (λ m. m ≡ each_inlined (expansion c.args.asks.now u) c.args.list.now)) (c.as_slice.ensures ∙ c.in_ok-used.ensures) made.ensures
