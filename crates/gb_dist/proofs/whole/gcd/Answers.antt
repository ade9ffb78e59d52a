use Rattle.std.proofs.Common.{arith}
use Rattle.std.proofs.lemmas.Nat.Gcd.{IsGcd-from_zero, IsGcd-from_mod}
use Rattle.gb_dist.proofs.Divisors.{gcd_is, pos_of_IsGcd, below_of_IsGcd}
use Rattle.gb_dist.proofs.whole.gcd.Goals as goal

pub loop-y-preserved : goal.loop-y-preserved
loop-y-preserved c g h = c.loop-y.invariant g (IsGcd-from_mod _ _ g h)

pub returns : goal.returns
returns c =
    let h = c.loop-y.invariant _ (IsGcd-from_zero _ _ (omega arith)) in
    record { value = gcd_is _ _ _ h; above = λ p. pos_of_IsGcd _ _ _ h p; below = λ p. below_of_IsGcd _ _ _ h p }
