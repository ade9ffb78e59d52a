-- One position at most is the first of its kind.
use Rattle.std.specs.Prelude.{◌≡◌, ℕ, ◌<◌, ℤ, List}
use Rattle.std.proofs.Common.{inl, inr, arith, sym, subst, ◌∙◌}
use Rattle.std.proofs.lemmas.Bool.{cases_order, false≢true}
use Rattle.gb_script.specs.declared.table.Step.{Step}
use Rattle.gb_script.specs.declared.action.Rule.{Rule}
use Rattle.gb_script.specs.declared.text.Text.{Text}
use Rattle.gb_limits.specs.LeftOut.{IsFirstLeftOut}
use Rattle.gb_limits.specs.Limits.{IsFirstTooDeep, IsFirstLong}
use Rattle.gb_limits.specs.Numbers.{IsOverflow, digits_at, IsFirstOverflow}
use Rattle.gb_limits.proofs.Digits.{one_overflow}

one_first : (i j : ℕ) → (i < j → ⊥) → (j < i → ⊥) → i ≡ j
one_first i j before behind = elim (cases_order i j) [ inl e ↦ e | inr (inl h) ↦ absurd (before h) | inr (inr h) ↦ absurd (behind h) ]

pub one_left_out : (t : Text) (i j : ℕ) → IsFirstLeftOut t i → IsFirstLeftOut t j → i ≡ j
one_left_out t i j x y = one_first i j (λ h. false≢true (sym (y.first i h) ∙ x.here)) (λ h. false≢true (sym (x.first j h) ∙ y.here))

pub one_too_deep : (t : Text) (steps : List (Step Rule)) (fault i j : ℕ) → IsFirstTooDeep t steps fault i → IsFirstTooDeep t steps fault j → i ≡ j
one_too_deep t steps fault i j x y =
    one_first i j
    (λ h. let few = y.first i h in let many = x.here in absurd (omega arith))
    (λ h. let few = x.first j h in let many = y.here in absurd (omega arith))

pub one_long : (t : Text) (steps : List (Step Rule)) (i j : ℕ) → IsFirstLong t steps i → IsFirstLong t steps j → i ≡ j
one_long t steps i j x y = one_first i j (λ h. false≢true (sym (y.first i h) ∙ x.here)) (λ h. false≢true (sym (x.first j h) ∙ y.here))

pub one_first_overflow : (t : Text) (i j : ℕ) (a b c d : ℤ) → IsFirstOverflow t i a b → IsFirstOverflow t j c d → (i ≡ j) × (a ≡ c) × (b ≡ d)
one_first_overflow t i j a b c d x y =
    let same =
    one_first i j
    (λ h. let small = y.first i h in let large = x.here in absurd (omega arith))
    (λ h. let small = x.first j h in let large = y.here in absurd (omega arith)) in
    let operands = one_overflow (digits_at t j) a b c d (subst (λ (k : ℕ). IsOverflow (digits_at t k) a b) same x.operands) y.operands in
    (same, operands.0, operands.1)
