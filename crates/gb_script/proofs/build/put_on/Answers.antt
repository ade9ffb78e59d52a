use Rattle.std.proofs.Common.{List, ◌++◌, ap, sym, ◌∙◌}
use Rattle.gb_script.specs.declared.value.Value.{Value}
use Rattle.gb_script.proofs.Stacks.{moved, shorter}
use Rattle.gb_script.proofs.build.put_on.Goals as goal

pub loop-value-smaller : goal.loop-value-smaller
loop-value-smaller c = shorter c.loop-value.rest c.pop.new.self c.in-Some.value c.in-Some.ensures

pub loop-value-preserved : goal.loop-value-preserved
loop-value-preserved c =
    moved c.loop-value.rest c.pop.new.self c.loop-value.stack c.push.new.self _ c.in-Some.value c.in-Some.ensures c.in_ok-push.ensures.ok c.loop-value.invariant

pub returns : goal.returns
returns c = ap (λ (l : List Value). l ++ c.loop-value.stack) (sym c.in_default.ensures.0) ∙ c.loop-value.invariant
