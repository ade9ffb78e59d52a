use Rattle.std.specs.Prelude.{◌≡◌, List, [], ◌∷◌}
use Rattle.std.proofs.Common.{subst}
use Rattle.gb_script.specs.declared.tree.Node.{Node}
use Rattle.gb_script.specs.declared.value.Value.{Value}
use Rattle.gb_script.specs.declared.value.Value.TheVariants.{Tree, Trees}
use Rattle.gb_script.specs.Sorts.{Is}
use Rattle.gb_script.proofs.Sorted.{one_sorted}
use Rattle.gb_script.proofs.reading.tree_of.Goals as goal

not_none : (stack whole : List Value) (x : Node) → whole ≡ Tree x ∷ [] → stack ≡ whole → stack ≡ [] → ⊥
not_none stack whole x e f h = cc

not_list : (stack whole rest : List Value) (x : Node) (top : Value) (xs : List Node) → whole ≡ Tree x ∷ [] → stack ≡ whole → stack ≡ top ∷ rest → top ≡ Trees xs → ⊥
not_list stack whole rest x top xs e f g h = cc

same_top : (stack whole rest : List Value) (x y : Node) (top : Value) → whole ≡ Tree x ∷ [] → stack ≡ whole → stack ≡ top ∷ rest → top ≡ Tree y → whole ≡ Tree y ∷ []
same_top stack whole rest x y top e f g h = cc

same_node : (whole : List Value) (x y : Node) → whole ≡ Tree x ∷ [] → whole ≡ Tree y ∷ [] → x ≡ y
same_node whole x y e f = cc

pub unreachable-requires : goal.unreachable-requires
unreachable-requires g c =
    let o = one_sorted g.given.language c.args.text.now g.given.sorts g.given.grammar c.requires.0 g.given.part g.given.sort c.requires.1.0 g.given.kinds c.args.steps.items c.requires.1.1 in
    not_none c.in_ok-stack.stack _ o.0 o.1 c.in_ok-stack.ensures c.in-None.ensures.0

pub unreachable-requires-in-Some-Trees : goal.unreachable-requires-in-Some-Trees
unreachable-requires-in-Some-Trees g c =
    let o = one_sorted g.given.language c.args.text.now g.given.sorts g.given.grammar c.requires.0 g.given.part g.given.sort c.requires.1.0 g.given.kinds c.args.steps.items c.requires.1.1 in
    not_list c.in_ok-stack.stack _ c.pop.new.self o.0 c.in-Some-Trees.field-0 c.in-Some-Trees.field-0-0 o.1 c.in_ok-stack.ensures c.in-Some-Trees.ensures c.in-Some-Trees.field-0-is

pub returns-clause-built : goal.returns-clause-built
returns-clause-built g c =
    let o = one_sorted g.given.language c.args.text.now g.given.sorts g.given.grammar c.requires.0 g.given.part g.given.sort c.requires.1.0 g.given.kinds c.args.steps.items c.requires.1.1 in
    same_top c.in_ok-stack.stack _ c.pop.new.self o.0 c.in-Some-Tree.tree c.in-Some-Tree.field-0 o.1 c.in_ok-stack.ensures c.in-Some-Tree.ensures c.in-Some-Tree.field-0-is

pub returns-clause-sorted : goal.returns-clause-sorted
returns-clause-sorted g c =
    let o = one_sorted g.given.language c.args.text.now g.given.sorts g.given.grammar c.requires.0 g.given.part g.given.sort c.requires.1.0 g.given.kinds c.args.steps.items c.requires.1.1 in
    subst (λ (x : Node). Is g.given.language g.given.sort x) (same_node _ o.0 c.in-Some-Tree.tree o.1
    (same_top c.in_ok-stack.stack _ c.pop.new.self o.0 c.in-Some-Tree.tree c.in-Some-Tree.field-0 o.1 c.in_ok-stack.ensures c.in-Some-Tree.ensures c.in-Some-Tree.field-0-is)) o.2
