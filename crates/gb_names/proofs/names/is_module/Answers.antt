use Rattle.std.proofs.Common.{bytes_eq, sym, ◌∙◌}
use Rattle.gb_names.proofs.Parts.{any_here, any_later, any_none}
use Rattle.gb_names.proofs.names.is_module.Goals as goal

pub returns-then-eq : goal.returns-then-eq
returns-then-eq c =
    sym (any_here (λ x. bytes_eq x.name c.args.name.now) c.args.list.now c.loop-x.x-index c.x-item.result c.loop-x-test.true c.x-item.is (sym c.eq.ensures ∙ c.if-eq.true))
    ∙ c.loop-x.invariant

pub loop-x-preserved : goal.loop-x-preserved
loop-x-preserved c =
    sym (any_later (λ x. bytes_eq x.name c.args.name.now) c.args.list.now c.loop-x.x-index c.x-item.result c.loop-x-test.true c.x-item.is (sym c.eq.ensures ∙ c.if-eq.false))
    ∙ c.loop-x.invariant

pub returns : goal.returns
returns c = sym (any_none (λ x. bytes_eq x.name c.args.name.now) c.args.list.now c.loop-x.x-index c.loop-x-test.false) ∙ c.loop-x.invariant
