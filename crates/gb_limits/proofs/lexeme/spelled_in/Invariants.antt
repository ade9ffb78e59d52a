use Rattle.std.proofs.Common.{◌≡◌, drop}
use Rattle.gb_limits.specs.Lexeme.{spelled_in}
use Rattle.gb_limits.proofs.lexeme.spelled_in.Given as goal

abbrev pub invariant-loop-spelling : goal.invariant-loop-spelling
invariant-loop-spelling l = spelled_in (drop l.spelling-index l.spellings) l.bytes ≡ spelled_in l.spellings l.bytes
