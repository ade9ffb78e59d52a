use Rattle.std.proofs.Common.{◌≡◌, [], length}
use Rattle.gb_read_script.specs.Line.{lines_before}
use Rattle.gb_read_script.proofs.line.lines_of.Given as goal

abbrev pub invariant-loop-token : goal.invariant-loop-token
invariant-loop-token l = lines_before l.end l.tokens l.lines ≡ lines_before l.end l.initial.tokens []

abbrev pub decreases-loop-token : goal.decreases-loop-token
decreases-loop-token l = length l.tokens
