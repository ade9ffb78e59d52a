use Rattle.std.proofs.Common.{arith, ◌≡◌, ◌+◌, ◌∙◌, vec_len, refl}
use Rattle.std.proofs.lemmas.List.{length-take}
use Rattle.gb_outside.proofs.Bytes.{length-piece, reads_on}
use Rattle.gb_outside.proofs.whole.read_whole.Goals as goal

pub loop-piece-preserved : goal.loop-piece-preserved
loop-piece-preserved g c =
    let within = rw c.in-Ok-Some.field-0-is at c.in-Ok-Some.ensures.within in
    let read = rw (c.in-Ok-Some.field-0-is, c.len-at.ensures) at c.in-Ok-Some.ensures.bytes in
    let grown = c.in_ok-extend_from_slice-in-Ok-Some.ensures in
    let len : vec_len c.extend_from_slice.new.self ≡ vec_len c.loop-piece.bytes + c.in-Ok-Some.taken =
    rw (grown.len, length-piece) refl in (
      rw len (omega (arith, within, c.read_at.auto.into, length-take c.min-room.result c.loop-piece.piece, c.min-room.ensures, c.len-at.ensures, c.loop-piece.invariant.0)),
      omega (arith, c.in-Ok-Some.ensures.never_falls),
      c.in-Ok-Some.ensures.unchanged ∙ c.loop-piece.invariant.2,
      rw (grown.items, len)
          (reads_on _ _ _ _ _ _ _ _ c.loop-piece.invariant.2 c.loop-piece.bytes.ok.0 within c.loop-piece.invariant.3 read),
    )
