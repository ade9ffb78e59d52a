-- Numbers in at least two digits.
use Rattle.std.proofs.Common.{◌≡◌, ℕ, ◌+◌, ◌-◌, ◌/◌, ◌%◌, ◌^◌, ◌<◌, ◌≤◌, List, [], ◌∷◌, ◌++◌, length, arith, Bool, true, false, length-append, refl, append_assoc, ◌∙◌}
use Rattle.std.specs.Fmt.{decimal, padded_integral, char_count, format_spec}
use Rattle.std.proofs.lemmas.Result.{IfOk-weaker}
use Rattle.gb_core.specs.declared.place.Place.{Place}
use Rattle.std.specs.Prelude.{nat_lt, if◌then◌else◌, codes, Result, IfOk}
use Rattle.std.proofs.lemmas.List.{append-nil}
use Rattle.std.proofs.lemmas.Fmt.{decimal_digit, decimal_step, decimal_nonempty}
use Rattle.std.proofs.lemmas.Bool.Decides.{nat_tests}
use Rattle.gb_app.specs.Report.{two_digits, refused_line}

long-decimal : (n : ℕ) → 10 ≤ n → n < 2 ^ 64 → 2 ≤ length (decimal n)
long-decimal n large small = rw (decimal_step n large small)
    (omega (arith, length-append (decimal (n / 10)) ((48 + n % 10) ∷ []), decimal_nonempty (n / 10) (omega arith)))

one_digit : (n : ℕ) → n < 10 → padded_integral (format_spec 32 0 4 2 (2 ^ 64 - 1)) false [] (decimal n) ≡ 48 ∷ decimal n
unfolding padded_integral char_count
one_digit n one = rw (decimal_digit n one)

more_digits : (numeral : List ℕ) → 2 ≤ length numeral → padded_integral (format_spec 32 0 4 2 (2 ^ 64 - 1)) false [] numeral ≡ numeral
unfolding padded_integral char_count
more_digits numeral long = let none : 2 - length numeral ≡ 0 = omega arith in rw none (append-nil numeral)

by_test : (n : ℕ) (b : Bool) → nat_lt n 10 ≡ b → n < 2 ^ 64 → padded_integral (format_spec 32 0 4 2 (2 ^ 64 - 1)) false [] (decimal n) ≡ (if b then 48 ∷ decimal n else decimal n)
by_test n true t small = one_digit n (grind (arith, nat_tests))
by_test n false t small = more_digits (decimal n) (long-decimal n (grind (arith, nat_tests)) small)

pub two_digits-padded : (n : ℕ) → n < 2 ^ 64 → padded_integral (format_spec 32 0 4 2 (2 ^ 64 - 1)) false [] (decimal n) ≡ two_digits n
two_digits-padded n small = by_test n (nat_lt n 10) refl small

-- the line of a refusal with this number, as it is laid out
abbrev pub laid_out : List ℕ → Place → List ℕ → List ℕ
laid_out number place file =
    codes "refused E" ++ (number ++ (codes " " ++ (file ++ (codes " " ++ (decimal place.line ++ (codes " "
    ++ (decimal place.col ++ codes "\n")))))))

pub refused_line-laid_out : {S E : Type 0} (bytes : S → List ℕ) (number : List ℕ) (code : ℕ) (place : Place) (file : List ℕ) (r : Result S E) → number ≡ two_digits code → IfOk r (λ s. bytes s ≡ laid_out number place file) → IfOk r (λ s. bytes s ≡ refused_line file code place)
refused_line-laid_out bytes number code place file r same text =
    let whole : laid_out number place file ≡ refused_line file code place = rw same (simp append_assoc) in
    IfOk-weaker r _ _ (λ s h. h ∙ whole) text
