use Rattle.std.proofs.Common.{◌≡◌, ◌≤◌, ◌-◌, ◌++◌, drop, length}
use Rattle.gb_lex.specs.Piece.{pieces_of}
use Rattle.gb_lex.specs.Lex.{tokens_among, fault_among, tokens_of, fault_of}
use Rattle.gb_lex.proofs.lexing.tokens.Given as goal

abbrev pub invariant-loop-from : goal.invariant-loop-from
invariant-loop-from l =
    (l.from ≤ length l.text)
    × (l.found ++ tokens_among l.from (pieces_of (drop l.from l.text)) ≡ tokens_of l.text)
    × (fault_among l.from (pieces_of (drop l.from l.text)) ≡ fault_of l.text)

abbrev pub decreases-loop-from : goal.decreases-loop-from
decreases-loop-from l = length l.initial.text - l.from
