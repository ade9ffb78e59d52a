use Rattle.std.proofs.Common.{◌≡◌, ◌≤◌, ◌+◌, take}
use Rattle.gb_lex.specs.PlaceAfter.{place_after}
use Rattle.gb_lex.proofs.places.advance.Given as goal

abbrev pub invariant-loop-byte : goal.invariant-loop-byte
invariant-loop-byte l =
    (l.here ≡ place_after l.fn.place (take l.byte-index l.piece))
    × (l.here.line ≤ l.fn.place.line + l.byte-index)
    × (l.here.col ≤ l.fn.place.col + l.byte-index)
