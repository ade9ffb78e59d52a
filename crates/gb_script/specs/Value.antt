-- What stands on the stack.
use Rattle.std.specs.Prelude.{List, [], ◌∷◌, ◌++◌}
use Rattle.gb_core.specs.declared.place.Place.{Place}
use Rattle.gb_script.specs.declared.head.Head.TheVariants as head
use Rattle.gb_script.specs.declared.tree.Node.{Node}
use Rattle.gb_script.specs.declared.value.Value.{Value}
use Rattle.gb_script.specs.declared.value.Value.TheVariants.{Tree, Trees}
use Rattle.gb_script.specs.Tree.{node}

-- a value as a part of a node
abbrev pub part_of : Place → Value → Node
part_of place (Tree x) = x
part_of place (Trees xs) = node head.List [] xs place

abbrev pub trees_of : Value → List Node
trees_of (Tree x) = x ∷ []
trees_of (Trees xs) = xs

-- the trees, and the elements of lists among them
abbrev pub flattened : List Value → List Node
flattened [] = []
flattened (v ∷ vs) = trees_of v ++ flattened vs
