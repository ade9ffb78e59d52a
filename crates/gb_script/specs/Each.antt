-- What holds of each node of a tree.
use Rattle.std.specs.Prelude.{List, [], ◌∷◌}
use Rattle.gb_script.specs.declared.tree.Node.{Node}
use Rattle.gb_script.specs.Tree.{parts_of}

module _ (P : Node → Type 0) where
  mutual
    -- It holds of the node and of its parts, and theirs.
    pub data Each : Node → Type 0 where
      each : {x : Node} → P x → EachOf (parts_of x) → Each x

    pub data EachOf : List Node → Type 0 where
      none : EachOf []
      more : {x : Node} {xs : List Node} → Each x → EachOf xs → EachOf (x ∷ xs)
