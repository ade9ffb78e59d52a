use Rattle.std.proofs.Common.{List, ◌++◌, ap, sym, ◌∙◌}
use Rattle.gb_script.specs.declared.tree.Node.{Node}
use Rattle.gb_script.proofs.Stacks.{moved, shorter}
use Rattle.gb_script.proofs.build.list_before.Goals as goal

pub loop-tree-smaller : goal.loop-tree-smaller
loop-tree-smaller c = shorter c.loop-tree.rest c.pop.new.self c.in-Some.tree c.in-Some.ensures

pub loop-tree-preserved : goal.loop-tree-preserved
loop-tree-preserved c =
    moved c.loop-tree.rest c.pop.new.self c.loop-tree.all c.push.new.self _ c.in-Some.tree c.in-Some.ensures c.in_ok-push.ensures.ok c.loop-tree.invariant

pub returns : goal.returns
returns c = ap (λ (l : List Node). l ++ c.loop-tree.all) (sym c.in_default.ensures.0) ∙ c.loop-tree.invariant
