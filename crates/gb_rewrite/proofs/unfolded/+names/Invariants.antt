use Rattle.std.proofs.Common.{◌≡◌, map, drop}
use Rattle.std.specs.List.{list_any}
use Rattle.gb_rewrite.specs.Unfolded.{names, instr_names}
use Rattle.gb_rewrite.proofs.unfolded.+names.Given as goal

abbrev pub invariant-any_names-loop-t : goal.invariant-any_names-loop-t
invariant-any_names-loop-t l =
    list_any (λ b. b) (map (names l.name) (drop l.t-index l.list)) ≡ list_any (λ b. b) (map (names l.name) l.list)

abbrev pub invariant-any_statement_names-loop-i : goal.invariant-any_statement_names-loop-i
invariant-any_statement_names-loop-i l =
    list_any (λ b. b) (map (instr_names l.name) (drop l.i-index l.list)) ≡ list_any (λ b. b) (map (instr_names l.name) l.list)
