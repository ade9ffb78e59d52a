use Rattle.std.proofs.Common.{◌≡◌, map, take}
use Rattle.gb_terms.specs.declared.term.Instr.{out-Instr}
use Rattle.gb_rewrite.specs.Unfolded.{statement_at}
use Rattle.gb_rewrite.proofs.bodies.+statement_unfolded.Given as goal

abbrev pub invariant-all_statements_unfolded-loop-i : goal.invariant-all_statements_unfolded-loop-i
invariant-all_statements_unfolded-loop-i l = l.made ≡ map (λ i. statement_at l.name l.body (out-Instr i)) (take l.i-index l.list)
