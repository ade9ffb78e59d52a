-- The tree of a text of the language, in which names stand where they should.
use Rattle.std.proofs.Common.{List, refl}
use Rattle.gb_language.specs.Language.{IsSorted, node_signatures}
use Rattle.gb_language.specs.declared.rows.TheConstants.{COMMAND}
use Rattle.gb_script.specs.declared.tree.Node.{Node}
use Rattle.gb_script.specs.Each.{Each, EachOf}
use Rattle.gb_script.specs.Each.Each.{each}
use Rattle.gb_script.specs.Each.EachOf.{none, more}
use Rattle.gb_shown.specs.Trees.{IsFull, IsFullTree}
use Rattle.gb_shown.specs.Words.{IsReadNode, IsReadTree}
use Rattle.gb_shown.proofs.NamesBySorts.{IsNamedNode, IsWorded, tree_named}

-- a command each name of which is a name has names where they should stand
command_named : (x : Node) → IsSorted COMMAND x → Each IsWorded x → Each IsNamedNode x
unfolding node_signatures
command_named x s w = tree_named s refl w

mutual
  joined : {x : Node} → Each IsNamedNode x → Each IsFull x → IsReadTree x
  joined (each {x = x} n ns) (each f fs) = each (record { name = n.word; names = n.names; full = f }) (all_joined ns fs)

  all_joined : {xs : List Node} → EachOf IsNamedNode xs → EachOf IsFull xs → EachOf IsReadNode xs
  all_joined none fs = none
  all_joined (more n ns) (more f fs) = more (joined n f) (all_joined ns fs)

-- a well-sorted command whose names are names, and whose tuples have their parts, is as readers make them
pub command_read : (x : Node) → IsSorted COMMAND x → Each IsWorded x → IsFullTree x → IsReadTree x
command_read x s w f = joined (command_named x s w) f
