-- The summands that a second sum has besides, one place further.
use Rattle.std.proofs.Common.{◌≡◌, ℕ, ◌+◌, ◌<◌, ◌≤◌, List, [], ◌∷◌, ◌++◌, length, get_or, drop, refl, sym, ap, subst, ◌∙◌, append_assoc, append-nil}
use Rattle.std.proofs.lemmas.List.{drop_all, drop_more}
use Rattle.gb_core.specs.declared.refusal.Refused.{Refused}
use Rattle.gb_core.specs.declared.refusal.Refused.TheVariants.{NoMemory, ReadFault, Script}
use Rattle.gb_dist.specs.Fractions.{Fraction}
use Rattle.gb_goal.specs.Answers.{Answer, ◌>>=◌, Fails}
use Rattle.gb_goal.specs.Answers.Answer.{given, refused}
use Rattle.gb_closing.specs.declared.numbers.Sign.{Sign}
use Rattle.gb_closing.specs.declared.summands.Summand.{Summand}
use Rattle.gb_closing.specs.Numbers.{operated, zero}
use Rattle.gb_closing.specs.Summands.{behind, besides, with_coefficient}

passes : {A B : Type 0} (a : Answer A) (k : A → Answer B) (e : Refused) → Fails a e → Fails (a >>= k) e
passes a k NoMemory h = tt
passes a k ReadFault h = h
passes a k (Script w p) h = ap (λ z. z >>= k) h

moved : (xs : List Summand) (z : Summand) (a : Answer (List Summand)) → behind xs (a >>= λ zs. given (z ∷ zs)) ≡ behind (xs ++ z ∷ []) a
moved xs z (given ys) = ap given (sym (append_assoc xs (z ∷ []) ys))
moved xs z (refused w p) = refl

module _ (sign : Sign) (first second out : List Summand) (i : ℕ) (invariant : behind out (besides sign (drop i second)) ≡ behind first (besides sign second)) where
  module _ (y : Summand) (more : i < length second) (is : y ≡ get_or second i y) where
    here : behind first (besides sign second) ≡ behind out (besides sign (y ∷ drop (i + 1) second))
    here = sym invariant ∙ ap (λ l. behind out (besides sign l)) (drop_more second i y more ∙ ap (λ z. z ∷ drop (i + 1) second) (sym is))

    pub besides_on : (out' : List Summand) (number : Fraction) (made : Summand) → operated sign zero y.coefficient ≡ given number →
        made ≡ record { term = y.term; coefficient = number } → out' ≡ out ++ made ∷ [] → behind out' (besides sign (drop (i + 1) second)) ≡ behind first (besides sign second)
    besides_on out' number made n m o =
        ap (λ l. behind l (besides sign (drop (i + 1) second))) (o ∙ ap (λ z. out ++ z ∷ []) m)
        ∙ sym (moved out (record { term = y.term; coefficient = number }) (besides sign (drop (i + 1) second)))
        ∙ ap (λ a. behind out (with_coefficient y.term a >>= λ z. besides sign (drop (i + 1) second) >>= λ zs. given (z ∷ zs))) (sym n)
        ∙ sym here

    pub besides_fails : (e : Refused) → Fails (operated sign zero y.coefficient) e → Fails (behind first (besides sign second)) e
    besides_fails e h =
        subst (λ a. Fails a e) (sym here)
        (passes (besides sign (y ∷ drop (i + 1) second)) (λ ys. given (out ++ ys)) e
        (passes (with_coefficient y.term (operated sign zero y.coefficient)) (λ z. besides sign (drop (i + 1) second) >>= λ zs. given (z ∷ zs)) e
        (passes (operated sign zero y.coefficient) (λ c. given (record { term = y.term; coefficient = c })) e h)))

  pub besides_all : length second ≤ i → behind first (besides sign second) ≡ given out
  besides_all end = sym invariant ∙ ap (λ l. behind out (besides sign l)) (drop_all i second end) ∙ ap given (append-nil out)
