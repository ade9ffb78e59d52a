-- What forms read of all globals of modules.
use Rattle.std.proofs.Common.{◌≡◌, List, [], ◌∷◌, map, refl, ap}
use Rattle.gb_script.specs.declared.tree.Node.{Node}
use Rattle.gb_script.specs.Tree.{head_of, parts_of, place_of}
use Rattle.gb_names.proofs.Nodes.{said_is}
use Rattle.gb_elab.specs.Globs.{seeing, whole_in, with_seen}

pub whole_in_is : (t : Node) → whole_in t ≡ seeing (head_of t) (with_seen (parts_of t)) (place_of t)
unfolding whole_in
whole_in_is t = said_is (λ h x ps p. seeing h ps p) t

pub nodes_seen : (ts : List Node) → map (λ a. a.0) (with_seen ts) ≡ ts
nodes_seen [] = refl
nodes_seen (t ∷ ts) = ap (λ us. t ∷ us) (nodes_seen ts)
