use Rattle.std.proofs.Common.{◌≡◌, ◌+◌, drop}
use Rattle.std.specs.List.{prefix_len}
use Rattle.gb_read_script.specs.GoalLines.{is_dash, dashes}
use Rattle.gb_read_script.proofs.goal_lines.dashes.Given as goal

abbrev pub invariant-loop-token : goal.invariant-loop-token
invariant-loop-token l = record {
  count : l.count ≡ l.token-index;
  rest : l.count + prefix_len is_dash (drop l.count l.line.lexemes) ≡ dashes l.line;
}
