-- The number of nodes of a sequent: those of its hypotheses and of its conclusion.
use Rattle.std.specs.Prelude.{ℕ, ◌+◌, List, sum, map}
use Rattle.gb_terms.specs.Nodes.{term_nodes}
use Rattle.gb_goal.specs.declared.sequent.Hyp.{Hyp}
use Rattle.gb_goal.specs.declared.sequent.Sequent.{Sequent}

abbrev pub hyp_nodes : List Hyp → ℕ
hyp_nodes hs = sum (map (λ h. term_nodes h.form) hs)

abbrev pub sequent_nodes : Sequent → ℕ
sequent_nodes s = hyp_nodes s.hyps + term_nodes s.conclusion
