use Rattle.std.proofs.Common.{◌≡◌, ◌≤◌, ◌-◌, drop, length}
use Rattle.std.specs.Prelude.{◌&&◌}
use Rattle.gb_lex.specs.Piece.{pieces_of}
use Rattle.gb_lex.specs.Lex.{final_among, are_blank}
use Rattle.gb_lex.proofs.commands.cut.Given as goal

abbrev pub invariant-loop-at : goal.invariant-loop-at
invariant-loop-at l =
    (l.at ≤ length l.text)
    × (final_among l.at (pieces_of (drop l.at l.text)) ≡ final_among l.fn.from (pieces_of (drop l.fn.from l.text)))
    × ((l.blank && are_blank (pieces_of (drop l.at l.text))) ≡ are_blank (pieces_of (drop l.fn.from l.text)))

abbrev pub decreases-loop-at : goal.decreases-loop-at
decreases-loop-at l = length l.initial.text - l.at
