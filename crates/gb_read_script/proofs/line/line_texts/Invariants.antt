use Rattle.std.proofs.Common.{◌≡◌, ◌++◌, length, map}
use Rattle.gb_read_script.specs.Line.{text_of}
use Rattle.gb_read_script.proofs.line.line_texts.Given as goal

abbrev pub invariant-loop-tokens : goal.invariant-loop-tokens
invariant-loop-tokens l = l.texts ++ map text_of l.lines ≡ map text_of l.initial.lines

abbrev pub decreases-loop-tokens : goal.decreases-loop-tokens
decreases-loop-tokens l = length l.lines
