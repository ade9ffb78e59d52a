use Rattle.std.proofs.Common.{◌≡◌, ◌++◌, length}
use Rattle.std.specs.List.{All}
use Rattle.gb_read_script.specs.GoalLines.{IsEntry, texts}
use Rattle.gb_read_script.proofs.goal_lines.context.Given as goal

abbrev pub invariant-loop-text : goal.invariant-loop-text
invariant-loop-text l = record {
  whole : l.initial.lines ≡ texts l.entries ++ l.lines;
  each : All IsEntry l.entries;
}

abbrev pub decreases-loop-text : goal.decreases-loop-text
decreases-loop-text l = length l.lines
