use Rattle.std.proofs.Common.{ℤ, ℕ, ◌≡◌, ◌<◌, ◌≤◌, ◌^◌, FitsSigned, arith, unsigned_abs, pos, negsuc, ap, ◌∙◌}
use Rattle.std.specs.Int.{w128, cast_signed, cast_unsigned}
use Rattle.std.specs.Prelude.{int_div, ◌<ℤ◌}
use Rattle.std.proofs.lemmas.Int.{ints, to_z-of_z, quot_fits, quot_is, fits_signed_from_abs}
use Rattle.gb_dist.proofs.Lowest.{reduced_parts, reduced_is_kept, size_of_positive}
use Rattle.gb_dist.proofs.Sizes.{size_of_small}
use Rattle.gb_dist.specs.Fractions.{gcd}
use Rattle.gb_dist.proofs.frac.reduced.Goals as goal

-- what the code computes as a quotient
abbrev quoted : ℤ → ℕ → ℤ
quoted z g = cast_signed w128 (cast_unsigned w128 (int_div (cast_signed w128 (cast_unsigned w128 z)) (cast_signed w128 g)))

quotient : (z : ℤ) (g : ℕ) → FitsSigned w128 z → 0 < g → g < 2 ^ 127 → quoted z g ≡ int_div z (pos g)
quotient z g f h k = quot_is w128 z (pos g) f (fits_signed_from_abs w128 (pos g) k) (quot_fits w128 z (pos g) f (omega (arith, ints)))

small_positive : (z : ℤ) → FitsSigned w128 z → pos 0 <ℤ z → unsigned_abs z < 2 ^ 127
small_positive (pos n) f h = f.sfits
small_positive (negsuc n) f h = absurd (omega (arith, ints))

-- both quotients by a divisor that is the greatest common one
quotients : (num den : ℤ) (a b g : ℕ) → FitsSigned w128 num → FitsSigned w128 den → pos 0 <ℤ den → a ≡ unsigned_abs num → b ≡ unsigned_abs den → g ≡ gcd a b → (0 < b → 0 < g) → (0 < b → g ≤ b)
    → (quoted num g ≡ int_div num (pos g)) × (quoted den g ≡ int_div den (pos g)) × (g ≡ gcd (unsigned_abs num) (unsigned_abs den))
quotients num den a b g f k h e is value above below =
    let some : 0 < b = rw is (size_of_positive den h) in
    let small : g < 2 ^ 127 = omega (arith, below some, is, small_positive den k h) in
    (quotient num g f (above some) small, quotient den g k (above some) small, value ∙ ap (λ n. gcd n b) e ∙ ap (λ n. gcd (unsigned_abs num) n) is)

pub invariant_of-result : goal.invariant_of-result
invariant_of-result c =
    let num = to_z-of_z w128 c.args.num c.ranges.num in
    let den = to_z-of_z w128 c.args.den c.ranges.den in
    let g = c.gcd-shared.ensures in
    let q = quotients c.args.num c.args.den _ _ c.gcd-shared.result c.ranges.num c.ranges.den c.requires.den (rw num at c.unsigned_abs.ensures.value) (rw den at c.unsigned_abs-2.ensures.value) g.value g.above g.below in
    rw (q.0, q.1) (reduced_is_kept c.args.num c.args.den c.gcd-shared.result q.2 c.requires.den (size_of_small _ c.requires.num) (small_positive c.args.den c.ranges.den c.requires.den))

pub returns : goal.returns
returns c =
    let num = to_z-of_z w128 c.args.num c.ranges.num in
    let den = to_z-of_z w128 c.args.den c.ranges.den in
    let g = c.gcd-shared.ensures in
    let q = quotients c.args.num c.args.den _ _ c.gcd-shared.result c.ranges.num c.ranges.den c.requires.den (rw num at c.unsigned_abs.ensures.value) (rw den at c.unsigned_abs-2.ensures.value) g.value g.above g.below in
    rw (q.0, q.1) (reduced_parts c.args.num c.args.den c.gcd-shared.result q.2)
