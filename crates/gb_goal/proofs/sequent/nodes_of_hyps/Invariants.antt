use Rattle.std.proofs.Common.{◌≡◌, take}
use Rattle.gb_terms.specs.Nodes.{saturated}
use Rattle.gb_goal.specs.Nodes.{hyp_nodes}
use Rattle.gb_goal.proofs.sequent.nodes_of_hyps.Given as goal

abbrev pub invariant-loop-h : goal.invariant-loop-h
invariant-loop-h l = l.total ≡ saturated (hyp_nodes (take l.h-index l.hyps))
