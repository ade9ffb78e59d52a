-- The longest symbol at the front of a text, by the text's length.
use Rattle.std.proofs.Common.{Bool, true, false, if◌then◌else◌, ◌≡◌, ℕ, ◌≤◌, List, [], ◌∷◌, length, get_or, refl, arith}
use Rattle.gb_lex.specs.Symbol.{is_single, is_pair, is_triple, single_size, pair_size, triple_size, symbol_size}

pub symbol_size-none : (t : List ℕ) → length t ≡ 0 → symbol_size t ≡ 0
unfolding symbol_size
symbol_size-none [] h = refl
symbol_size-none (a ∷ r) h = absurd (omega (arith, h))

pub symbol_size-one : (t : List ℕ) → length t ≡ 1 → symbol_size t ≡ single_size (get_or t 0 0)
unfolding symbol_size
symbol_size-one [] h = absurd (omega (arith, h))
symbol_size-one (a ∷ []) h = refl
symbol_size-one (a ∷ b ∷ r) h = absurd (omega (arith, h))

pub symbol_size-two : (t : List ℕ) → length t ≡ 2 → symbol_size t ≡ pair_size (get_or t 0 0) (get_or t 1 0)
unfolding symbol_size
symbol_size-two [] h = absurd (omega (arith, h))
symbol_size-two (a ∷ []) h = absurd (omega (arith, h))
symbol_size-two (a ∷ b ∷ []) h = refl
symbol_size-two (a ∷ b ∷ c ∷ r) h = absurd (omega (arith, h))

pub symbol_size-three : (t : List ℕ) → 3 ≤ length t
    → symbol_size t ≡ triple_size (get_or t 0 0) (get_or t 1 0) (get_or t 2 0)
unfolding symbol_size
symbol_size-three [] h = absurd (omega (arith, h))
symbol_size-three (a ∷ []) h = absurd (omega (arith, h))
symbol_size-three (a ∷ b ∷ []) h = absurd (omega (arith, h))
symbol_size-three (a ∷ b ∷ c ∷ r) h = refl

pub ruleset by_length = (symbol_size-none, symbol_size-one, symbol_size-two, symbol_size-three)

if-le : (b : Bool) (m n k : ℕ) → m ≤ k → n ≤ k → (if b then m else n) ≤ k
if-le true m n k hm hn = hm
if-le false m n k hm hn = hn

single_size-le : (a k : ℕ) → 1 ≤ k → single_size a ≤ k
single_size-le a k h = if-le (is_single a) 1 0 k h (omega arith)

pair_size-le : (a b k : ℕ) → 2 ≤ k → pair_size a b ≤ k
pair_size-le a b k h = if-le (is_pair a b) 2 (single_size a) k h (single_size-le a k (omega arith))

-- a symbol stands within its text
pub symbol_size-le : (text : List ℕ) → symbol_size text ≤ length text
unfolding symbol_size
symbol_size-le [] = omega arith
symbol_size-le (a ∷ []) = single_size-le a (length (a ∷ [])) (omega arith)
symbol_size-le (a ∷ b ∷ []) = pair_size-le a b (length (a ∷ b ∷ [])) (omega arith)
symbol_size-le (a ∷ b ∷ c ∷ rest) =
    if-le (is_triple a b c) 3 (pair_size a b) (length (a ∷ b ∷ c ∷ rest)) (omega arith)
    (pair_size-le a b (length (a ∷ b ∷ c ∷ rest)) (omega arith))
