use Rattle.std.proofs.Common.{◌≡◌, length, map, take, drop}
use Rattle.gb_lex.specs.Lex.{AreSpans}
use Rattle.gb_lex.specs.PlaceAfter.{place_after}
use Rattle.gb_limits.specs.Lexeme.{lexeme_of}
use Rattle.gb_limits.proofs.lexeme.text.Given as goal

abbrev pub invariant-loop-token : goal.invariant-loop-token
invariant-loop-token l = record {
  spans : AreSpans l.reached (drop l.token-index l.tokens) (length l.bytes);
  reached : l.place ≡ place_after l.fn.at (take l.reached l.bytes);
  made : l.lexemes ≡ map (lexeme_of l.bytes l.fn.at) (take l.token-index l.tokens);
}
