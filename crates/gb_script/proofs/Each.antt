-- What holds of each node of a tree.
use Rattle.std.specs.Prelude.{List}
use Rattle.gb_script.specs.declared.tree.Node.{Node}
use Rattle.gb_script.specs.Each.{Each, each, EachOf, none, more}

module _ (P Q : Node → Type 0) (f : (x : Node) → P x → Q x) where
  mutual
    -- What follows from what holds of each node holds of each node.
    pub each_so : {x : Node} → Each P x → Each Q x
    each_so {x = x} (each p d) = each (f x p) (each_of_so d)

    pub each_of_so : {xs : List Node} → EachOf P xs → EachOf Q xs
    each_of_so none = none
    each_of_so (more d ds) = more (each_so d) (each_of_so ds)
