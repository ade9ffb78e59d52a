use Rattle.std.proofs.Common.{◌≡◌, drop}
use Rattle.gb_limits.specs.LeftOut.{is_word_of}
use Rattle.gb_limits.proofs.left_out.is_word_of.Given as goal

abbrev pub invariant-loop-word : goal.invariant-loop-word
invariant-loop-word l = is_word_of (drop l.word-index l.words) l.bytes ≡ is_word_of l.words l.bytes
