use Rattle.std.proofs.Common.{bytes_eq, sym, ◌∙◌}
use Rattle.gb_names.proofs.Parts.{any_here, any_later, any_none}
use Rattle.gb_names.proofs.globals.is_parameter.Goals as goal

pub returns-then-eq : goal.returns-then-eq
returns-then-eq c =
    sym (any_here (λ q. bytes_eq q.name c.args.name.now) c.args.params.now c.loop-q.q-index c.q-item.result c.loop-q-test.true c.q-item.is (sym c.eq.ensures ∙ c.if-eq.true))
    ∙ c.loop-q.invariant

pub loop-q-preserved : goal.loop-q-preserved
loop-q-preserved c =
    sym (any_later (λ q. bytes_eq q.name c.args.name.now) c.args.params.now c.loop-q.q-index c.q-item.result c.loop-q-test.true c.q-item.is (sym c.eq.ensures ∙ c.if-eq.false))
    ∙ c.loop-q.invariant

pub returns : goal.returns
returns c = sym (any_none (λ q. bytes_eq q.name c.args.name.now) c.args.params.now c.loop-q.q-index c.loop-q-test.false) ∙ c.loop-q.invariant
