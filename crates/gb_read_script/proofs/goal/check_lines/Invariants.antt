use Rattle.std.proofs.Common.{take}
use Rattle.std.specs.List.{All}
use Rattle.gb_read_script.specs.Goal.{IsShort}
use Rattle.gb_read_script.proofs.goal.check_lines.Given as goal

abbrev pub invariant-loop-line : goal.invariant-loop-line
invariant-loop-line l = All IsShort (take l.line-index l.goal.context)
