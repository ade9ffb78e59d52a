use Rattle.std.proofs.Common.{◌≡◌, sum, map, take}
use Rattle.gb_terms.specs.Nodes.{term_nodes, instr_nodes, saturated}
use Rattle.gb_terms.proofs.nodes.+nodes.Given as goal

abbrev pub invariant-nodes_of_terms-loop-t : goal.invariant-nodes_of_terms-loop-t
invariant-nodes_of_terms-loop-t l = l.total ≡ saturated (sum (map term_nodes (take l.t-index l.list)))

abbrev pub invariant-nodes_of_instrs-loop-i : goal.invariant-nodes_of_instrs-loop-i
invariant-nodes_of_instrs-loop-i l = l.total ≡ saturated (sum (map instr_nodes (take l.i-index l.list)))
