-- A text is refused for one reason at most, at one place.
use Rattle.std.specs.Prelude.{◌≡◌, ℕ, ℤ, List, length}
use Rattle.std.proofs.Common.{ap, sym, subst, ◌∙◌, inl, inr, arith}
use Rattle.std.proofs.lemmas.Bool.{false≢true}
use Rattle.gb_core.specs.declared.place.Place.{Place}
use Rattle.gb_core.specs.declared.refusal.Why.{Why}
use Rattle.gb_core.specs.declared.refusal.Why.TheVariants.{Overflow}
use Rattle.gb_script.specs.declared.table.Step.{Step}
use Rattle.gb_script.specs.Parsing.{FirstFault, StepsBefore}
use Rattle.gb_script.specs.declared.action.Rule.{Rule}
use Rattle.gb_language.specs.Language.{language, IsPart}
use Rattle.gb_script.specs.declared.text.Text.{Text}
use Rattle.gb_limits.specs.LeftOut.{IsFirstLeftOut, NoneLeftOut}
use Rattle.gb_limits.specs.Lexeme.{kinds_of}
use Rattle.gb_script.specs.Text.{place_at}
use Rattle.gb_limits.specs.Limits.{IsFirstTooDeep, NoneTooDeep, IsFirstLong, NoneLong}
use Rattle.gb_limits.specs.Numbers.{IsFirstOverflow, NoneOverflow}
use Rattle.gb_limits.specs.Places.{IsDepthPlace, IsChainPlace, IsOverflowPlace}
use Rattle.gb_read_script.specs.Reading.{IsText, StopsAt, IsLeftOutPlace, IsStop, IsExcess, IsLimit, IsFault, IsRefusal, IsWithin, IsAllowed}

-- one reason and one place
abbrev pub Same : Why → Place → Why → Place → Type 0
Same v p w q = (v ≡ w) × (p ≡ q)

pub one_place : (t : Text) (i j : ℕ) (p q : Place) → i ≡ j → p ≡ place_at t i → q ≡ place_at t j → p ≡ q
one_place t i j p q e f g = f ∙ (ap (place_at t) e ∙ sym g)

not_too_deep : (t : Text) (steps : List (Step Rule)) (fault : ℕ) (p : Place) → NoneTooDeep t steps fault → IsDepthPlace t steps fault p → ⊥
not_too_deep t steps fault p none d = let few = none d.0 d.1.within in let many = d.1.here in omega arith

pub not_long : (t : Text) (steps : List (Step Rule)) (p : Place) → NoneLong t steps → IsChainPlace t steps p → ⊥
not_long t steps p none c = false≢true (sym (none c.0 c.1.within) ∙ c.1.here)

pub not_overflowing : (t : Text) (w : Why) (p : Place) → NoneOverflow t → IsOverflowPlace t w p → ⊥
not_overflowing t w p none o = let small = none o.0 o.3.within in let large = o.3.here in omega arith

pub not_left_out : (t : Text) (p : Place) → NoneLeftOut t → IsLeftOutPlace t p → ⊥
not_left_out t p none l = false≢true (sym (none l.0 l.1.within) ∙ l.1.here)

-- where the first number out of range is unique
module _ (one_overflow : (t : Text) (i j : ℕ) (a b c d : ℤ) → IsFirstOverflow t i a b → IsFirstOverflow t j c d → (i ≡ j) × (a ≡ c) × (b ≡ d)) where
  pub one_overflow_place : (t : Text) (v w : Why) (p q : Place) → IsOverflowPlace t v p → IsOverflowPlace t w q → Same v p w q
  one_overflow_place t v w p q x y =
      let same = one_overflow t x.0 y.0 x.1 x.2 y.1 y.2 x.3 y.3 in
      let operands = ap (λ (left : ℤ). Overflow left x.2) same.1 ∙ ap (λ (right : ℤ). Overflow y.1 right) same.2 in
      (x.4 ∙ (operands ∙ sym y.4), one_place t x.0 y.0 p q same.0 x.5 y.5)

-- where first places are unique
module _
    (one_left_out : (t : Text) (i j : ℕ) → IsFirstLeftOut t i → IsFirstLeftOut t j → i ≡ j)
    (one_too_deep : (t : Text) (steps : List (Step Rule)) (fault i j : ℕ) → IsFirstTooDeep t steps fault i → IsFirstTooDeep t steps fault j → i ≡ j)
    (one_long : (t : Text) (steps : List (Step Rule)) (i j : ℕ) → IsFirstLong t steps i → IsFirstLong t steps j → i ≡ j)
    (one_overflow : (t : Text) (i j : ℕ) (a b c d : ℤ) → IsFirstOverflow t i a b → IsFirstOverflow t j c d → (i ≡ j) × (a ≡ c) × (b ≡ d)) where
  one_depth_place : (t : Text) (steps : List (Step Rule)) (fault : ℕ) (p q : Place) → IsDepthPlace t steps fault p → IsDepthPlace t steps fault q → p ≡ q
  one_depth_place t steps fault p q x y = one_place t x.0 y.0 p q (one_too_deep t steps fault x.0 y.0 x.1 y.1) x.2 y.2

  one_stop : (t : Text) (at : ℕ) (steps : List (Step Rule)) (v w : Why) (p q : Place) → IsStop t at steps v p → IsStop t at steps w q → Same v p w q
  one_stop t at steps v w p q (inl x) (inl y) = (x.0 ∙ sym y.0, one_depth_place t steps at p q x.1 y.1)
  one_stop t at steps v w p q (inl x) (inr y) = absurd (not_too_deep t steps at p y.1 x.1)
  one_stop t at steps v w p q (inr x) (inl y) = absurd (not_too_deep t steps at q x.1 y.1)
  one_stop t at steps v w p q (inr x) (inr y) = (x.0 ∙ sym y.0, x.2 ∙ sym y.2)

  one_excess : (t : Text) (steps : List (Step Rule)) (v w : Why) (p q : Place) → IsExcess t steps v p → IsExcess t steps w q → Same v p w q
  one_excess t steps v w p q (inl x) (inl y) = (x.0 ∙ sym y.0, one_place t x.1.0 y.1.0 p q (one_long t steps x.1.0 y.1.0 x.1.1 y.1.1) x.1.2 y.1.2)
  one_excess t steps v w p q (inl x) (inr y) = absurd (not_long t steps p y.0 x.1)
  one_excess t steps v w p q (inr x) (inl y) = absurd (not_long t steps q x.0 y.1)
  one_excess t steps v w p q (inr x) (inr y) = one_overflow_place one_overflow t v w p q x.1 y.1

  one_limit : (t : Text) (steps : List (Step Rule)) (v w : Why) (p q : Place) → IsLimit t steps v p → IsLimit t steps w q → Same v p w q
  one_limit t steps v w p q (inl x) (inl y) = (x.0 ∙ sym y.0, one_depth_place t steps (length t.lexemes) p q x.1 y.1)
  one_limit t steps v w p q (inl x) (inr y) = absurd (not_too_deep t steps (length t.lexemes) p y.0 x.1)
  one_limit t steps v w p q (inr x) (inl y) = absurd (not_too_deep t steps (length t.lexemes) q x.0 y.1)
  one_limit t steps v w p q (inr x) (inr y) = one_excess t steps v w p q x.1 y.1

  -- where first faults, the steps before them and those of whole texts are unique
  module _
      (one_fault : (part : ℕ) (t : Text) (a b : ℕ) → FirstFault language part (kinds_of t) a → FirstFault language part (kinds_of t) b → a ≡ b)
      (one_front : (part : ℕ) (t : Text) (at : ℕ) (a b : List (Step Rule)) → FirstFault language part (kinds_of t) at
      → StepsBefore language part (kinds_of t) at a → StepsBefore language part (kinds_of t) at b → a ≡ b)
      (one_text : (part : ℕ) → IsPart part → (t : Text) (a b : List (Step Rule)) → IsText part t a → IsText part t b → a ≡ b) where
    -- the stop of one text by other steps that read it up to a token
    stop_as : (part : ℕ) (t : Text) (a b : ℕ) (s u : List (Step Rule)) (w : Why) (q : Place) → StopsAt part t a s → StopsAt part t b u → IsStop t b u w q → IsStop t a s w q
    stop_as part t a b s u w q x y stop =
        let here : b ≡ a = one_fault part t b a y.0 x.0 in
        let front = subst (λ (n : ℕ). StepsBefore language part (kinds_of t) n u) here y.1 in
        subst (λ (r : List (Step Rule)). IsStop t a r w q) (one_front part t a u s x.0 front x.1) (subst (λ (n : ℕ). IsStop t n u w q) here stop)

    limit_as : (part : ℕ) → IsPart part → (t : Text) (s u : List (Step Rule)) (w : Why) (q : Place) → IsText part t s → IsText part t u → IsLimit t u w q → IsLimit t s w q
    limit_as part ready t s u w q x y limit = subst (λ (r : List (Step Rule)). IsLimit t r w q) (one_text part ready t u s y x) limit

    one_reason : (part : ℕ) → IsPart part → (t : Text) (v w : Why) (p q : Place) → IsFault part t v p → IsFault part t w q → Same v p w q
    one_reason part ready t v w p q (inl x) (inl y) = one_stop t x.0 x.1 v w p q x.3 (stop_as part t x.0 y.0 x.1 y.1 w q x.2 y.2 y.3)
    one_reason part ready t v w p q (inl x) (inr y) = absurd (x.2.0.no_text y.0 y.1)
    one_reason part ready t v w p q (inr x) (inl y) = absurd (y.2.0.no_text x.0 x.1)
    one_reason part ready t v w p q (inr x) (inr y) = one_limit t x.0 v w p q x.2 (limit_as part ready t x.0 y.0 w q x.1 y.1 y.2)

    pub one_refusal : (part : ℕ) (t : Text) (v w : Why) (p q : Place) → IsPart part → IsRefusal part t v p → IsRefusal part t w q → Same v p w q
    one_refusal part t v w p q ready (inl x) (inl y) = (x.0 ∙ sym y.0, one_place t x.1.0 y.1.0 p q (one_left_out t x.1.0 y.1.0 x.1.1 y.1.1) x.1.2 y.1.2)
    one_refusal part t v w p q ready (inl x) (inr y) = absurd (not_left_out t p y.0 x.1)
    one_refusal part t v w p q ready (inr x) (inl y) = absurd (not_left_out t q x.0 y.1)
    one_refusal part t v w p q ready (inr x) (inr y) = one_reason part ready t v w p q x.1 y.1

    -- what is read within the limits isn't refused
    no_limit : (part : ℕ) (t : Text) (w : Why) (p : Place) (a : IsWithin part t) → IsLimit t a.steps w p → ⊥
    no_limit part t w p a (inl x) = not_too_deep t a.steps (length t.lexemes) p a.deep x.1
    no_limit part t w p a (inr (deep, inl x)) = not_long t a.steps p a.long x.1
    no_limit part t w p a (inr (deep, inr x)) = not_overflowing t w p a.numbers x.1

    no_fault : (part : ℕ) → IsPart part → (t : Text) (w : Why) (p : Place) → IsWithin part t → IsFault part t w p → ⊥
    no_fault part ready t w p a (inl x) = x.2.0.no_text a.steps a.text
    no_fault part ready t w p a (inr x) = no_limit part t w p a (limit_as part ready t a.steps x.0 w p a.text x.1 x.2)

    pub no_refusal : (part : ℕ) (t : Text) (w : Why) (p : Place) → IsPart part → IsAllowed part t → IsRefusal part t w p → ⊥
    no_refusal part t w p ready a (inl x) = not_left_out t p a.0 x.1
    no_refusal part t w p ready a (inr x) = no_fault part ready t w p a.1 x.1
