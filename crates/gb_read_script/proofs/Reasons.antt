-- The text of a goal is refused for one reason at most, at one place.
use Rattle.std.specs.Prelude.{◌≡◌, ℕ, ℤ, List, [], ◌∷◌, Option, Some, None, min, max, take}
use Rattle.std.specs.List.{All}
use Rattle.std.proofs.Common.{ap, sym, subst, ◌∙◌, inl, inr, arith}
use Rattle.std.proofs.lemmas.List.Elements.{All-head, All-tail}
use Rattle.gb_core.specs.declared.place.Place.{Place}
use Rattle.gb_core.specs.declared.refusal.Refused.TheVariants.{Script}
use Rattle.gb_core.specs.declared.refusal.Why.{Why}
use Rattle.gb_core.specs.declared.refusal.Why.TheVariants.{Character}
use Rattle.gb_script.specs.declared.table.Step.{Step}
use Rattle.gb_lex.specs.Lex.{fault_of}
use Rattle.gb_lex.specs.PlaceAfter.{place_after}
use Rattle.gb_script.specs.declared.action.Rule.{Rule}
use Rattle.gb_script.specs.declared.text.Text.{Text}
use Rattle.gb_limits.specs.LeftOut.{IsFirstLeftOut, NoneLeftOut}
use Rattle.gb_limits.specs.Limits.{IsFirstLong}
use Rattle.gb_limits.specs.Numbers.{IsFirstOverflow, NoneOverflow}
use Rattle.gb_read_script.specs.declared.goal_lines.LineSort.{LineSort}
use Rattle.gb_read_script.specs.declared.goal_lines.LineSort.TheVariants.{Binder, Hypothesis, Conclusion}
use Rattle.gb_read_script.specs.declared.goal_lines.ReadLine.{ReadLine}
use Rattle.gb_read_script.specs.declared.goal_lines.ReadGoal.{ReadGoal}
use Rattle.gb_read_script.specs.Line.{line_texts}
use Rattle.gb_read_script.specs.GoalLines.{IsLineText, Stops, IsLineFault, IsEndingFault, IsFaultBehind, IsSyntaxPlace, IsGoal, dashes}
use Rattle.gb_read_script.specs.Goal.{beginning, goal_text, all_lines, IsShort, IsLongPlace, IsExcess, IsTokenRefusal, IsLineRefusal, IsGoalRefusal, IsWithin, IsGoalAllowed}
use Rattle.gb_read_script.proofs.GoalUnique.{EndsEntries, same_entries, one_goal}
use Rattle.gb_read_script.proofs.Unique.{Same, one_place, one_overflow_place, not_long, not_overflowing, not_left_out}

-- Lines.

fault_ends : (rest : List Text) (end place : Place) → IsFaultBehind rest end place → EndsEntries rest
fault_ends [] end place h = tt
fault_ends (l ∷ ls) end place (inl h) = (h.1.2.no_text, h.1.3.no_text)
fault_ends (l ∷ ls) end place (inr h) = h.0.2

module _
    (one_text : (sort : LineSort) (t : Text) (a b : List (Step Rule)) → IsLineText sort t a → IsLineText sort t b → a ≡ b)
    (one_stop : (sort : LineSort) (t : Text) (a b : ℕ) → Stops sort t a → Stops sort t b → a ≡ b) where
  one_line_fault : (t : Text) (a b : ℕ) → IsLineFault t a → IsLineFault t b → a ≡ b
  one_line_fault t a b x y =
      let binder : x.0 ≡ y.0 = one_stop Binder t x.0 y.0 x.2 y.2 in
      let hypothesis : x.1 ≡ y.1 = one_stop Hypothesis t x.1 y.1 x.3 y.3 in
      x.5 ∙ (ap (λ (n : ℕ). max (max n x.1) (min (dashes t) 3)) binder ∙ (ap (λ (n : ℕ). max (max y.0 n) (min (dashes t) 3)) hypothesis ∙ sym y.5))

  one_ending : (ls : List Text) (end p q : Place) → IsEndingFault ls end p → IsEndingFault ls end q → p ≡ q
  one_ending [] end p q x y = x ∙ sym y
  one_ending (l ∷ ls) end p q (inl x) (inl y) = one_place l x.0 y.0 p q (one_stop Conclusion l x.0 y.0 x.1 y.1) x.2 y.2
  one_ending (l ∷ ls) end p q (inl x) (inr y) = absurd (x.1.no_text y.0.0 y.0.1)
  one_ending (l ∷ ls) end p q (inr x) (inl y) = absurd (y.1.no_text x.0.0 x.0.1)
  one_ending (l ∷ ls) end p q (inr x) (inr y) = x.2 ∙ sym y.2

  one_behind : (ls : List Text) (end p q : Place) → IsFaultBehind ls end p → IsFaultBehind ls end q → p ≡ q
  one_behind [] end p q x y = x ∙ sym y
  one_behind (l ∷ ls) end p q (inl x) (inl y) = one_place l x.0 y.0 p q (one_line_fault l x.0 y.0 x.1 y.1) x.2 y.2
  one_behind (l ∷ ls) end p q (inl x) (inr y) = absurd (x.1.4 y.0)
  one_behind (l ∷ ls) end p q (inr x) (inl y) = absurd (y.1.4 x.0)
  one_behind (l ∷ ls) end p q (inr x) (inr y) = one_ending ls end p q x.1 y.1

  one_syntax_place : (lines : List Text) (end p q : Place) → IsSyntaxPlace lines end p → IsSyntaxPlace lines end q → p ≡ q
  one_syntax_place lines end p q x y =
      let same =
      same_entries one_text x.entries y.entries x.rest y.rest (sym x.whole ∙ y.whole) x.each y.each
      (fault_ends x.rest end p x.fault) (fault_ends y.rest end q y.fault) in
      one_behind y.rest end p q (subst (λ (ls : List Text). IsFaultBehind ls end p) same.1 x.fault) y.fault

  -- a goal has no fault
  no_fault_behind : (ruler : Text) (l : ReadLine) (end p : Place) → (IsFaultBehind (ruler ∷ l.text ∷ []) end p)
      → (((at : ℕ) → IsLineFault ruler at → ⊥) × IsLineText Conclusion l.text l.steps) → ⊥
  no_fault_behind ruler l end p (inl x) good = good.0 x.0 x.1
  no_fault_behind ruler l end p (inr (r, inl x)) good = x.1.no_text l.steps good.1
  no_fault_behind ruler l end p (inr (r, inr x)) good = let more = x.1 in absurd (omega arith)

  no_syntax_place : (lines : List Text) (g : ReadGoal) (end p : Place) → IsGoal lines g → IsSyntaxPlace lines end p → ⊥
  no_syntax_place lines g end p x y =
      let same =
      same_entries one_text g.context y.entries (x.0.ruler ∷ g.conclusion.text ∷ []) y.rest (sym x.0.whole ∙ y.whole) x.0.each y.each
      x.0.dashes.2 (fault_ends y.rest end p y.fault) in
      no_fault_behind x.0.ruler g.conclusion end p (subst (λ (ls : List Text). IsFaultBehind ls end p) (sym same.1) y.fault)
      ((λ at fault. fault.4 x.0.dashes), subst (λ (s : LineSort). IsLineText s g.conclusion.text g.conclusion.steps) x.1.0 x.1.1)

-- Limits.

no_long_place : (ls : List ReadLine) (p : Place) → All IsShort ls → IsLongPlace ls p → ⊥
no_long_place [] p short x = x
no_long_place (l ∷ ls) p short (inl x) = not_long l.text l.steps p (All-head IsShort l ls short) x
no_long_place (l ∷ ls) p short (inr x) = no_long_place ls p (All-tail IsShort l ls short) x.1

module _
    (one_long : (t : Text) (steps : List (Step Rule)) (i j : ℕ) → IsFirstLong t steps i → IsFirstLong t steps j → i ≡ j)
    (one_overflow : (t : Text) (i j : ℕ) (a b c d : ℤ) → IsFirstOverflow t i a b → IsFirstOverflow t j c d → (i ≡ j) × (a ≡ c) × (b ≡ d)) where
  one_long_place : (ls : List ReadLine) (p q : Place) → IsLongPlace ls p → IsLongPlace ls q → p ≡ q
  one_long_place [] p q x y = absurd x
  one_long_place (l ∷ ls) p q (inl x) (inl y) = one_place l.text x.0 y.0 p q (one_long l.text l.steps x.0 y.0 x.1 y.1) x.2 y.2
  one_long_place (l ∷ ls) p q (inl x) (inr y) = absurd (not_long l.text l.steps p y.0 x)
  one_long_place (l ∷ ls) p q (inr x) (inl y) = absurd (not_long l.text l.steps q x.0 y)
  one_long_place (l ∷ ls) p q (inr x) (inr y) = one_long_place ls p q x.1 y.1

  one_excess : (t : Text) (ls : List ReadLine) (v w : Why) (p q : Place) → IsExcess t ls v p → IsExcess t ls w q → Same v p w q
  one_excess t ls v w p q (inl x) (inl y) = (x.0 ∙ sym y.0, one_long_place ls p q x.1 y.1)
  one_excess t ls v w p q (inl x) (inr y) = absurd (no_long_place ls p y.0 x.1)
  one_excess t ls v w p q (inr x) (inl y) = absurd (no_long_place ls q x.0 y.1)
  one_excess t ls v w p q (inr x) (inr y) = one_overflow_place one_overflow t v w p q x.1 y.1

no_excess : (t : Text) (ls : List ReadLine) (w : Why) (p : Place) → All IsShort ls → NoneOverflow t → IsExcess t ls w p → ⊥
no_excess t ls w p short numbers (inl x) = no_long_place ls p short x.1
no_excess t ls w p short numbers (inr x) = not_overflowing t w p numbers x.1

-- Goals.

one_character : (o : Option ℕ) (f : ℕ → Place) (a b : ℕ) (v w : Why) (p q : Place) → o ≡ Some a → o ≡ Some b
    → Script v p ≡ Script Character (f a) → Script w q ≡ Script Character (f b) → Same v p w q
one_character o f a b v w p q x y e h = (cc, cc)

some_apart : (o : Option ℕ) (a : ℕ) → o ≡ Some a → o ≡ None → ⊥
some_apart o a x y = cc

-- where steps, first faults and first places are unique
module _
    (one_text : (sort : LineSort) (t : Text) (a b : List (Step Rule)) → IsLineText sort t a → IsLineText sort t b → a ≡ b)
    (one_stop : (sort : LineSort) (t : Text) (a b : ℕ) → Stops sort t a → Stops sort t b → a ≡ b)
    (one_left_out : (t : Text) (i j : ℕ) → IsFirstLeftOut t i → IsFirstLeftOut t j → i ≡ j)
    (one_long : (t : Text) (steps : List (Step Rule)) (i j : ℕ) → IsFirstLong t steps i → IsFirstLong t steps j → i ≡ j)
    (one_overflow : (t : Text) (i j : ℕ) (a b c d : ℤ) → IsFirstOverflow t i a b → IsFirstOverflow t j c d → (i ≡ j) × (a ≡ c) × (b ≡ d)) where
  one_token_reason : (bytes : List ℕ) (v w : Why) (p q : Place) → IsTokenRefusal bytes v p → IsTokenRefusal bytes w q → Same v p w q
  one_token_reason bytes v w p q (inl x) (inl y) =
      one_character (fault_of bytes) (λ (n : ℕ). place_after beginning (take n bytes)) x.0 y.0 v w p q x.1 y.1 x.2 y.2
  one_token_reason bytes v w p q (inl x) (inr y) = absurd (some_apart (fault_of bytes) x.0 x.1 y.0)
  one_token_reason bytes v w p q (inr x) (inl y) = absurd (some_apart (fault_of bytes) y.0 y.1 x.0)
  one_token_reason bytes v w p q (inr x) (inr y) =
      (x.1 ∙ sym y.1, one_place (goal_text bytes) x.2.0 y.2.0 p q (one_left_out (goal_text bytes) x.2.0 y.2.0 x.2.1 y.2.1) x.2.2 y.2.2)

  token_apart : (bytes : List ℕ) (w : Why) (p : Place) → fault_of bytes ≡ None → NoneLeftOut (goal_text bytes) → IsTokenRefusal bytes w p → ⊥
  token_apart bytes w p faultless none (inl x) = some_apart (fault_of bytes) x.0 x.1 faultless
  token_apart bytes w p faultless none (inr x) = not_left_out (goal_text bytes) p none x.2

  one_line_reason : (t : Text) (v w : Why) (p q : Place) → IsLineRefusal t v p → IsLineRefusal t w q → Same v p w q
  one_line_reason t v w p q (inl x) (inl y) = (x.0 ∙ sym y.0, one_syntax_place one_text one_stop (line_texts t) t.end p q x.1 y.1)
  one_line_reason t v w p q (inl x) (inr y) = absurd (no_syntax_place one_text one_stop (line_texts t) y.0 t.end p y.1 x.1)
  one_line_reason t v w p q (inr x) (inl y) = absurd (no_syntax_place one_text one_stop (line_texts t) x.0 t.end q x.1 y.1)
  one_line_reason t v w p q (inr x) (inr y) =
      let same = one_goal one_text (line_texts t) x.0 y.0 x.1 y.1 in
      one_excess one_long one_overflow t (all_lines y.0) v w p q (subst (λ (g : ReadGoal). IsExcess t (all_lines g) v p) same x.2) y.2

  pub one_refusal : (bytes : List ℕ) (v w : Why) (p q : Place) → IsGoalRefusal bytes v p → IsGoalRefusal bytes w q → Same v p w q
  one_refusal bytes v w p q (inl x) (inl y) = one_token_reason bytes v w p q x y
  one_refusal bytes v w p q (inl x) (inr y) = absurd (token_apart bytes v p y.0 y.1 x)
  one_refusal bytes v w p q (inr x) (inl y) = absurd (token_apart bytes w q x.0 x.1 y)
  one_refusal bytes v w p q (inr x) (inr y) = one_line_reason (goal_text bytes) v w p q x.2 y.2

  no_line_refusal : (t : Text) (g : ReadGoal) (w : Why) (p : Place) → IsWithin t g → IsLineRefusal t w p → ⊥
  no_line_refusal t g w p a (inl x) = no_syntax_place one_text one_stop (line_texts t) g t.end p a.lines x.1
  no_line_refusal t g w p a (inr x) =
      let same = one_goal one_text (line_texts t) x.0 g x.1 a.lines in
      no_excess t (all_lines g) w p a.short a.numbers (subst (λ (h : ReadGoal). IsExcess t (all_lines h) w p) same x.2)

  pub no_refusal : (bytes : List ℕ) (w : Why) (p : Place) → IsGoalAllowed bytes → IsGoalRefusal bytes w p → ⊥
  no_refusal bytes w p a (inl x) = token_apart bytes w p a.faultless a.left_out x
  no_refusal bytes w p a (inr x) = no_line_refusal (goal_text bytes) a.goal w p a.within x.2
