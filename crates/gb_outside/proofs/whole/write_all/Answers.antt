use Rattle.std.proofs.Common.{arith, length-drop}
use Rattle.gb_outside.proofs.Bytes.{take-rest, Appends-more}
use Rattle.gb_outside.proofs.whole.write_all.Goals as goal

pub loop-at-preserved : goal.loop-at-preserved
loop-at-preserved g c =
    let next = rw (take-rest c.loop-at.at c.args.bytes.now) at c.in_ok-taken.ensures.bytes in
    let within = rw (take-rest c.loop-at.at c.args.bytes.now) at c.in_ok-taken.ensures.within in (
      omega (arith, length-drop c.loop-at.at c.args.bytes.now, within),
      omega (arith, c.in_ok-taken.ensures.never_falls),
      Appends-more _ _ _ _ _ _ c.loop-at.invariant.2 next,
    )
