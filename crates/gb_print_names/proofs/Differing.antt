-- Names that binders give: with other numbers of binders around they are other names.
use Rattle.std.proofs.Common.{◌≡◌, ◌≢◌, ℕ, zero, suc, ◌^◌, ◌<◌, Bool, true, false, if◌then◌else◌, List, [], ◌∷◌, ◌+◌, ◌++◌, drop, get_or, length, codes, refl, ap, sym, ◌∙◌, arith}
use Rattle.std.proofs.Math.Dec.{eqb-suc-zero}
use Rattle.std.proofs.lemmas.List.{append-nil, append_assoc}
use Rattle.std.specs.Fmt.{decimal}
use Rattle.std.specs.Str.Parse.{AllDigits}
use Rattle.std.proofs.lemmas.Fmt.{decimal_is_IsNumeral, decimal_injective, decimal_nonempty}
use Rattle.std.proofs.lemmas.Str.Parse.{digit_from_value}
use Rattle.gb_goal.specs.Scope.{declarations_in}
use Rattle.gb_print_names.specs.BoundNames.{Place, primed, numbered, is_taken, bound_name}

abbrev primes : ℕ → List ℕ
primes zero = []
primes (suc n) = 39 ∷ primes n

chosen : (n : ℕ) (t : List ℕ → Bool) (x : List ℕ) → ((y : List ℕ) → (j : ℕ) × (primed n t y ≡ y ++ primes j))
    → (b : Bool) → (j : ℕ) × ((if b then primed n t (x ++ codes "'") else x) ≡ x ++ primes j)
chosen n t x more false = (0, sym (append-nil x))
chosen n t x more true = let m = more (x ++ codes "'") in (suc m.0, m.1 ∙ append_assoc x (codes "'") (primes m.0))

-- what is primed is a name with primes behind it
with_primes : (n : ℕ) (t : List ℕ → Bool) (x : List ℕ) → (j : ℕ) × (primed n t x ≡ x ++ primes j)
with_primes zero t x = (0, sym (append-nil x))
with_primes (suc n) t x = chosen n t x (with_primes n t) (t x)

-- what stands behind the letter
abbrev digits_of : ℕ → List ℕ
digits_of zero = []
digits_of (suc n) = decimal (suc n)

numbered_is : (l n : ℕ) → numbered (l ∷ []) n ≡ l ∷ digits_of n
numbered_is l zero = refl
numbered_is l (suc n) = ap (λ b. if b then l ∷ [] else l ∷ decimal (suc n)) (eqb-suc-zero n)

are_digits : (n : ℕ) → n < 2 ^ 64 → AllDigits 10 (digits_of n)
are_digits zero h = tt
are_digits (suc n) h = (decimal_is_IsNumeral (suc n) h).0.1

digits_tell : (m n : ℕ) → m < 2 ^ 64 → n < 2 ^ 64 → digits_of m ≡ digits_of n → m ≡ n
digits_tell zero zero p q e = refl
digits_tell zero (suc n) p q e = absurd (omega (arith, decimal_nonempty (suc n) q, ap length e))
digits_tell (suc m) zero p q e = absurd (omega (arith, decimal_nonempty (suc m) p, ap length e))
digits_tell (suc m) (suc n) p q e = decimal_injective (suc m) (suc n) p q e

-- digits end where primes begin
same_digits : (d e : List ℕ) (j k : ℕ) → AllDigits 10 d → AllDigits 10 e → d ++ primes j ≡ e ++ primes k → d ≡ e
same_digits [] [] j k p q h = refl
same_digits [] (c ∷ e) zero k p q h = absurd (omega (arith, ap length h))
same_digits [] (c ∷ e) (suc j) k p q h = absurd (omega (arith, digit_from_value c q.0, ap (λ xs. get_or xs 0 0) h))
same_digits (c ∷ d) [] j zero p q h = absurd (omega (arith, ap length h))
same_digits (c ∷ d) [] j (suc k) p q h = absurd (omega (arith, digit_from_value c p.0, ap (λ xs. get_or xs 0 0) h))
same_digits (c ∷ d) (b ∷ e) j k p q h =
    ap (λ a. a ∷ d) (ap (λ xs. get_or xs 0 0) h) ∙ ap (λ xs. b ∷ xs) (same_digits d e j k p.1 q.1 (ap (drop 1) h))

pub names_differ : (l k : ℕ) (p q : Place) → length p.bound < 2 ^ 64 → length q.bound < 2 ^ 64 → length p.bound ≢ length q.bound
    → bound_name (l ∷ []) p ≢ bound_name (k ∷ []) q
names_differ l k p q small short other same =
    let m = length p.bound in
    let n = length q.bound in
    let a = with_primes (length p.taken + declarations_in p.declared) (is_taken p) (numbered (l ∷ []) m) in
    let b = with_primes (length q.taken + declarations_in q.declared) (is_taken q) (numbered (k ∷ []) n) in
    let e = sym (ap (λ x. x ++ primes a.0) (numbered_is l m)) ∙ sym a.1 ∙ same ∙ b.1 ∙ ap (λ x. x ++ primes b.0) (numbered_is k n) in
    other (digits_tell m n small short (same_digits (digits_of m) (digits_of n) a.0 b.0 (are_digits m small) (are_digits n short) (ap (drop 1) e)))
