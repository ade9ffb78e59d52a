-- Parts of trees that are read.
use Rattle.std.proofs.Common.{ℕ, zero, suc, List, [], ◌∷◌, take, drop}
use Rattle.std.specs.List.{AllByRecursion}
use Rattle.gb_script.specs.declared.tree.Node.{Node}
use Rattle.gb_script.specs.Each.{EachOf}
use Rattle.gb_script.specs.Each.Each.{each}
use Rattle.gb_script.specs.Each.EachOf.{none, more}
use Rattle.gb_script.specs.Tree.{head_of, parts_of}
use Rattle.gb_shown.specs.Trees.{HasItsParts}
use Rattle.gb_shown.specs.Words.{HasItsNames, IsReadNode, IsReadTree}

abbrev pub AreRead : List Node → Type 0
AreRead ns = AllByRecursion IsReadTree ns

each_part : {ns : List Node} → EachOf IsReadNode ns → AreRead ns
each_part none = tt
each_part (more k ks) = (k, each_part ks)

pub parts_read : (t : Node) → IsReadTree t → AreRead (parts_of t)
parts_read t (each k ks) = each_part ks

pub node_read : (t : Node) → IsReadTree t → IsReadNode t
node_read t (each k ks) = k

-- what a node of a head and parts has
pub names_of : (t : Node) → IsReadTree t → HasItsNames (head_of t) (parts_of t)
names_of t k = let n = node_read t k in n.names

pub full_of : (t : Node) → IsReadTree t → HasItsParts (head_of t) (parts_of t)
full_of t k = let n = node_read t k in n.full

pub take_read : (n : ℕ) (ts : List Node) → AreRead ts → AreRead (take n ts)
take_read zero ts k = tt
take_read (suc n) [] k = tt
take_read (suc n) (t ∷ ts) k = (k.0, take_read n ts k.1)

pub drop_read : (n : ℕ) (ts : List Node) → AreRead ts → AreRead (drop n ts)
drop_read zero ts k = k
drop_read (suc n) [] k = tt
drop_read (suc n) (t ∷ ts) k = drop_read n ts k.1
