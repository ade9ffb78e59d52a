-- Trees of a script as readers make them: a tuple, and a type of tuples, has two parts at least, and something is written.
use Rattle.std.specs.Prelude.{List, [], ◌∷◌}
use Rattle.gb_script.specs.declared.head.Head.{Head}
use Rattle.gb_script.specs.declared.head.Head.TheVariants as head
use Rattle.gb_script.specs.declared.tree.Node.{Node}
use Rattle.gb_script.specs.Each.{Each}
use Rattle.gb_script.specs.Tree.{head_of, parts_of}

abbrev pub HasTwoParts : List Node → Type 0
HasTwoParts (x ∷ y ∷ xs) = Unit {0}
HasTwoParts _ = ⊥

abbrev pub HasPart : List Node → Type 0
HasPart (x ∷ xs) = Unit {0}
HasPart [] = ⊥

-- a statement that begins with a word writes one variable at most
abbrev pub WritesOne : Head → Type 0
WritesOne head.TupleStatement = ⊥
WritesOne _ = Unit {0}

abbrev pub HasItsParts : Head → List Node → Type 0
HasItsParts head.ProductType xs = HasTwoParts xs
HasItsParts head.Tuple xs = HasTwoParts xs
HasItsParts head.TupleStatement (ts ∷ xs) = HasPart (parts_of ts)
HasItsParts head.NamedLoop (v ∷ x ∷ t ∷ xs) = WritesOne (head_of t)
HasItsParts _ xs = Unit {0}

-- a node that is a tuple, and one like it, has its parts
abbrev pub IsFull : Node → Type 0
IsFull x = HasItsParts (head_of x) (parts_of x)

-- .. and so has each node of a tree
abbrev pub IsFullTree : Node → Type 0
IsFullTree x = Each IsFull x
