use Rattle.std.proofs.Common.{List, ◌∷◌, ◌++◌, ap, map, sym, ◌∙◌}
use Rattle.gb_script.specs.declared.tree.Node.{Node}
use Rattle.gb_script.specs.declared.value.Value.{Value}
use Rattle.gb_script.specs.Value.{part_of}
use Rattle.gb_script.proofs.Stacks.{map_moved, shorter}
use Rattle.gb_script.proofs.build.parts_before.Goals as goal

pub loop-value-smaller : goal.loop-value-smaller
loop-value-smaller c = shorter c.loop-value.rest c.pop.new.self c.in-Some.value c.in-Some.ensures

pub loop-value-preserved : goal.loop-value-preserved
loop-value-preserved c =
    map_moved (λ v. part_of c.args.place v) c.loop-value.rest c.pop.new.self c.in-Some.value c.loop-value.all c.push.new.self _ c.in-Some.ensures
    (c.in_ok-push.ensures.ok ∙ ap (λ (n : Node). n ∷ c.loop-value.all) c.part_of.ensures) c.loop-value.invariant

pub returns : goal.returns
returns c = ap (λ (l : List Value). map (λ v. part_of c.args.place v) l ++ c.loop-value.all) (sym c.in_default.ensures.0) ∙ c.loop-value.invariant
