-- How long the scripts are that are made from a number.
use Rattle.std.proofs.Common.{ℕ, zero, suc, ◌+◌, ◌*◌, ◌%◌, ◌^◌, ◌<◌, ◌≤◌, List, [], ◌∷◌, length, arith, length-append}
use Rattle.std.specs.Prelude.{codes, ⊤}
use Rattle.std.specs.List.{concat}
use Rattle.std.specs.Fmt.{decimal}
use Rattle.std.proofs.lemmas.Fmt.{length-decimal-le}
use Rattle.gb_app.specs.Generated.{module_pieces, module_line, moved_pieces, moved, lemma_pieces, lemma_line, proof_pieces, proof_line, part_of, script_of}

-- each piece fits its size
abbrev Fit : List ℕ → List (List ℕ) → Type 0
Fit ms [] = ⊤
Fit [] (x ∷ xs) = (length x ≤ 0) × Fit [] xs
Fit (m ∷ ms) (x ∷ xs) = (length x ≤ m) × Fit ms xs

abbrev total : List ℕ → ℕ
total [] = 0
total (m ∷ ms) = m + total ms

fit_size : (ms : List ℕ) (xs : List (List ℕ)) → Fit ms xs → length (concat xs) ≤ total ms
fit_size [] [] f = omega arith
fit_size (m ∷ ms) [] f = omega arith
fit_size [] (x ∷ xs) f = omega (arith, length-append x (concat xs), f.0, fit_size [] xs f.1)
fit_size (m ∷ ms) (x ∷ xs) f = omega (arith, length-append x (concat xs), f.0, fit_size ms xs f.1)

same : (n : ℕ) → n ≤ n
same n = omega arith

digits : (i : ℕ) → i < 1000 → length (decimal i) ≤ 3
digits i less = length-decimal-le 3 i (omega arith) less (omega (arith, less))

module_line-size : (letter returned : List ℕ) (i : ℕ) → i < 200 → length letter ≤ 1 → length returned ≤ 8 → length (module_line letter i returned) ≤ 200
unfolding module_pieces
module_line-size letter returned i less one eight =
    let number : length (decimal i) ≤ 3 = digits i (omega (arith, less)) in
    let bits : length (decimal (i % 8 + 1)) ≤ 3 = digits (i % 8 + 1) (omega arith) in
    let whole = fit_size (7 ∷ 1 ∷ 3 ∷ 21 ∷ 3 ∷ 18 ∷ 3 ∷ 21 ∷ 3 ∷ 10 ∷ 8 ∷ 7 ∷ []) (module_pieces letter i returned) (same 7, (one, (number, (same 21, (bits, (same 18, (bits, (same 21, (bits, (same 10, (eight, (same 7, tt)))))))))))) in
    omega (arith, whole)

moved-size : (i : ℕ) → length (moved i) ≤ 8
unfolding moved_pieces
moved-size i = fit_size (5 ∷ 3 ∷ []) (moved_pieces i) (same 5, (digits (i % 2) (omega arith), tt))

lemma_line-size : (i : ℕ) → i < 200 → length (lemma_line i) ≤ 100
unfolding lemma_pieces
lemma_line-size i less =
    let number : length (decimal i) ≤ 3 = digits i (omega (arith, less)) in
    let whole = fit_size (7 ∷ 3 ∷ 11 ∷ 3 ∷ 6 ∷ 3 ∷ 23 ∷ []) (lemma_pieces i) (same 7, (number, (same 11, (number, (same 6, (number, (same 23, tt))))))) in
    omega (arith, whole)

proof_line-size : (i : ℕ) → length (proof_line i) ≤ 100
unfolding proof_pieces
proof_line-size i =
    let whole = fit_size (32 ∷ 3 ∷ 21 ∷ []) (proof_pieces i) (same 32, (digits (i % 2) (omega arith), (same 21, tt))) in
    omega (arith, whole)

part_of-size : (i : ℕ) → i < 200 → length (part_of i) ≤ 600
unfolding part_of
part_of-size i less =
    fit_size (200 ∷ 200 ∷ 100 ∷ 100 ∷ []) (module_line (codes "M") i (codes "x") ∷ module_line (codes "N") i (moved i) ∷ lemma_line i ∷ proof_line i ∷ []) (
      module_line-size (codes "M") (codes "x") i less (same 1) (omega arith),
      (
        module_line-size (codes "N") (moved i) i less (same 1) (moved-size i),
        (lemma_line-size i less, (proof_line-size i, tt)),
      ),
    )

script_of-within : (n : ℕ) → n ≤ 200 → length (script_of n) ≤ 600 * n
script_of-within zero less = same 0
script_of-within (suc n) less =
    omega (arith, length-append (script_of n) (part_of n), script_of-within n (omega (arith, less)), part_of-size n (omega (arith, less)))

pub script_of-size : (n : ℕ) → n ≤ 200 → length (script_of n) < 2 ^ 31
script_of-size n less = omega (arith, script_of-within n less, less)
