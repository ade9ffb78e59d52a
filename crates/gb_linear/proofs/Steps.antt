-- Loops that answer, one place further.
use Rattle.std.proofs.Common.{◌≡◌, ℕ, ◌+◌, ◌<◌, ◌≤◌, Bool, not, ◌||◌, if◌then◌else◌, List, [], ◌∷◌, ◌++◌, length, get_or, drop, Option, Some, None, Result, refl, sym, ap, subst, ◌∙◌, append_assoc, append-nil}
use Rattle.std.proofs.lemmas.List.{drop_all, drop_more}
use Rattle.std.specs.List.{slice_get}
use Rattle.gb_core.specs.declared.refusal.Refused.{Refused}
use Rattle.gb_dist.specs.Fractions.{Fraction}
use Rattle.gb_goal.specs.Answers.{Answer, ◌>>=◌, Answers, Fails}
use Rattle.gb_goal.specs.Answers.Answer.{given, refused}
use Rattle.gb_goal.specs.declared.sequent.Hyp.{Hyp}
use Rattle.gb_steps.specs.declared.step.Multiple.{Multiple}
use Rattle.gb_closing.specs.declared.numbers.Sign.{Sign}
use Rattle.gb_closing.specs.declared.numbers.Sign.TheVariants.{Plus}
use Rattle.gb_closing.specs.declared.summands.Summand.{Summand}
use Rattle.gb_closing.specs.Numbers.{operated}
use Rattle.gb_closing.specs.Summands.{behind, besides, with_coefficient}
use Rattle.gb_linear.specs.declared.numbers.Stands.{Stands}
use Rattle.gb_linear.specs.declared.forms.LinearForm.{LinearForm}
use Rattle.gb_linear.specs.declared.apply.Assumption.{Assumption}
use Rattle.gb_linear.specs.declared.apply.Comparison.{Comparison}
use Rattle.gb_linear.specs.Numbers.{multiplied}
use Rattle.gb_linear.specs.Forms.{coefficient, combined, each_scaled, merged, without}
use Rattle.gb_linear.specs.Closing.{added, all_assumed, assumed, compared, hypothesis, if_usable, in_front, with_all}
use Rattle.gb_linear.proofs.Gathered.{joined}
use Rattle.gb_linear.proofs.Passed.{answers_as, passes}

module _ {A : Type 0} where
  pub at_start : (xs : List A) (a : Answer (List A)) → xs ≡ [] → behind xs a ≡ a
  at_start xs a e = ap (λ l. behind l a) e ∙ nothing a
    where
      nothing : (a : Answer (List A)) → behind [] a ≡ a
      nothing (given ys) = refl
      nothing (refused w p) = refl

  moved : (xs : List A) (z : A) (a : Answer (List A)) → behind xs (a >>= λ zs. given (z ∷ zs)) ≡ behind (xs ++ z ∷ []) a
  moved xs z (given ys) = ap given (sym (append_assoc xs (z ∷ []) ys))
  moved xs z (refused w p) = refl

  module _ (xs : List A) (i : ℕ) (x : A) (more : i < length xs) (is : x ≡ get_or xs i x) where
    rest : drop i xs ≡ x ∷ drop (i + 1) xs
    rest = drop_more xs i x more ∙ ap (λ z. z ∷ drop (i + 1) xs) (sym is)

module _ (sign : Sign) (first second left out : List Summand) (i : ℕ) (invariant : behind out (merged sign (drop i first) left) ≡ merged sign first second) where
  module _ (x : Summand) (other : Fraction) (more : i < length first) (is : x ≡ get_or first i x) (has : other ≡ coefficient left x.term) where
    merged_here : merged sign first second ≡ behind out (merged sign (x ∷ drop (i + 1) first) left)
    merged_here = sym invariant ∙ ap (λ l. behind out (merged sign l left)) (rest first i x more is)

    pub merged_on : (left' out' : List Summand) (number : Fraction) (made : Summand) → left' ≡ without left x.term → operated sign x.coefficient other ≡ given number →
        made ≡ record { term = x.term; coefficient = number } → out' ≡ out ++ made ∷ [] → behind out' (merged sign (drop (i + 1) first) left') ≡ merged sign first second
    merged_on left' out' number made l n m o =
        (λ j. behind (o j) (merged sign (drop (i + 1) first) (l j)))
        ∙ ap (λ z. behind (out ++ z ∷ []) (merged sign (drop (i + 1) first) (without left x.term))) m
        ∙ sym (moved out (record { term = x.term; coefficient = number }) (merged sign (drop (i + 1) first) (without left x.term)))
        ∙ ap (λ a. behind out (with_coefficient x.term a >>= λ z. merged sign (drop (i + 1) first) (without left x.term) >>= λ zs. given (z ∷ zs)))
        (sym n ∙ ap (operated sign x.coefficient) has)
        ∙ sym merged_here

    pub merged_fails : (e : Refused) → Fails (operated sign x.coefficient other) e → Fails (merged sign first second) e
    merged_fails e h =
        subst (λ a. Fails a e) (sym merged_here)
        (passes (merged sign (x ∷ drop (i + 1) first) left) (λ ys. given (out ++ ys)) e
        (passes (with_coefficient x.term (operated sign x.coefficient (coefficient left x.term))) (λ z. merged sign (drop (i + 1) first) (without left x.term) >>= λ zs. given (z ∷ zs)) e
        (passes (operated sign x.coefficient (coefficient left x.term)) (λ c. given (record { term = x.term; coefficient = c })) e
        (subst (λ c. Fails (operated sign x.coefficient c) e) has h))))

  pub merged_answers : (ys : List Summand) (r : Result (List Summand) Refused) → length first ≤ i → ys ≡ left → Answers (behind out (besides sign ys)) r → Answers (merged sign first second) r
  merged_answers ys r end is h =
      answers_as (merged sign first second) (behind out (besides sign ys)) r
      (sym invariant ∙ ap (λ l. behind out (merged sign l left)) (drop_all i first end) ∙ ap (λ l. behind out (besides sign l)) (sym is)) h

module _ (on : Stands) (k : Fraction) (list out : List Summand) (i : ℕ) (invariant : behind out (each_scaled on k (drop i list)) ≡ each_scaled on k list) where
  module _ (x : Summand) (more : i < length list) (is : x ≡ get_or list i x) where
    scaled_here : each_scaled on k list ≡ behind out (each_scaled on k (x ∷ drop (i + 1) list))
    scaled_here = sym invariant ∙ ap (λ l. behind out (each_scaled on k l)) (rest list i x more is)

    pub scaled_on : (out' : List Summand) (number : Fraction) (made : Summand) → multiplied on k x.coefficient ≡ given number →
        made ≡ record { term = x.term; coefficient = number } → out' ≡ out ++ made ∷ [] → behind out' (each_scaled on k (drop (i + 1) list)) ≡ each_scaled on k list
    scaled_on out' number made n m o =
        ap (λ l. behind l (each_scaled on k (drop (i + 1) list))) (o ∙ ap (λ z. out ++ z ∷ []) m)
        ∙ sym (moved out (record { term = x.term; coefficient = number }) (each_scaled on k (drop (i + 1) list)))
        ∙ ap (λ a. behind out (with_coefficient x.term a >>= λ z. each_scaled on k (drop (i + 1) list) >>= λ zs. given (z ∷ zs))) (sym n)
        ∙ sym scaled_here

    pub scaled_fails : (e : Refused) → Fails (multiplied on k x.coefficient) e → Fails (each_scaled on k list) e
    scaled_fails e h =
        subst (λ a. Fails a e) (sym scaled_here)
        (passes (each_scaled on k (x ∷ drop (i + 1) list)) (λ ys. given (out ++ ys)) e
        (passes (with_coefficient x.term (multiplied on k x.coefficient)) (λ z. each_scaled on k (drop (i + 1) list) >>= λ zs. given (z ∷ zs)) e
        (passes (multiplied on k x.coefficient) (λ c. given (record { term = x.term; coefficient = c })) e h)))

  pub scaled_all : length list ≤ i → each_scaled on k list ≡ given out
  scaled_all end = sym invariant ∙ ap (λ l. behind out (each_scaled on k l)) (drop_all i list end) ∙ ap given (append-nil out)

module _ (form sum : LinearForm) (list : List Assumption) (i : ℕ) (invariant : with_all sum (drop i list) ≡ with_all form list) where
  module _ (x : Assumption) (more : i < length list) (is : x ≡ get_or list i x) where
    with_all_here : with_all form list ≡ with_all sum (x ∷ drop (i + 1) list)
    with_all_here = sym invariant ∙ ap (with_all sum) (rest list i x more is)

    pub with_all_on : (a b : LinearForm) → added x ≡ given a → combined Plus sum a ≡ given b → with_all b (drop (i + 1) list) ≡ with_all form list
    with_all_on a b h k =
        sym (ap (λ z. z >>= λ s. with_all s (drop (i + 1) list)) k)
        ∙ sym (ap (λ z. z >>= λ x. combined Plus sum x >>= λ s. with_all s (drop (i + 1) list)) h)
        ∙ sym with_all_here

    pub added_fails : (e : Refused) → Fails (added x) e → Fails (with_all form list) e
    added_fails e h =
        subst (λ a. Fails a e) (sym with_all_here)
        (passes (added x) (λ x. combined Plus sum x >>= λ s. with_all s (drop (i + 1) list)) e h)

    pub combined_fails : (a : LinearForm) (e : Refused) → added x ≡ given a → Fails (combined Plus sum a) e → Fails (with_all form list) e
    combined_fails a e h k =
        subst (λ a. Fails a e) (sym (with_all_here ∙ ap (λ z. z >>= λ x. combined Plus sum x >>= λ s. with_all s (drop (i + 1) list)) h))
        (passes (combined Plus sum a) (λ s. with_all s (drop (i + 1) list)) e k)

  pub with_all_is : length list ≤ i → with_all form list ≡ given sum
  with_all_is end = sym invariant ∙ ap (with_all sum) (drop_all i list end)

module _ (equal : Bool) (hyps : List Hyp) (list : List Multiple) (out : List Assumption) (i : ℕ)
    (invariant : all_assumed equal hyps list ≡ joined out (all_assumed equal hyps (drop i list))) where
  pub all_at_end : length list ≤ i → all_assumed equal hyps list ≡ Some out
  all_at_end end = invariant ∙ ap (λ l. joined out (all_assumed equal hyps l)) (drop_all i list end) ∙ ap Some (append-nil out)

  module _ (x : Multiple) (more : i < length list) (is : x ≡ get_or list i x) where
    all_here : all_assumed equal hyps list ≡ joined out (in_front (assumed equal hyps x) (all_assumed equal hyps (drop (i + 1) list)))
    all_here = invariant ∙ ap (λ l. joined out (all_assumed equal hyps l)) (rest list i x more is)

    pub all_none : None ≡ assumed equal hyps x → all_assumed equal hyps list ≡ None
    all_none h = all_here ∙ ap (λ o. joined out (in_front o (all_assumed equal hyps (drop (i + 1) list)))) (sym h)

    in_turn : (a : Assumption) (o : Option (List Assumption)) → joined out (in_front (Some a) o) ≡ joined (out ++ a ∷ []) o
    in_turn a None = refl
    in_turn a (Some xs) = ap Some (sym (append_assoc out (a ∷ []) xs))

    pub all_on : (a : Assumption) (out' : List Assumption) → Some a ≡ assumed equal hyps x → out' ≡ out ++ a ∷ [] →
        all_assumed equal hyps list ≡ joined out' (all_assumed equal hyps (drop (i + 1) list))
    all_on a out' h o =
        all_here ∙ ap (λ o. joined out (in_front o (all_assumed equal hyps (drop (i + 1) list)))) (sym h)
        ∙ in_turn a (all_assumed equal hyps (drop (i + 1) list))
        ∙ ap (λ l. joined l (all_assumed equal hyps (drop (i + 1) list))) (sym o)

pub all_at_start : (xs : List Assumption) (a : Option (List Assumption)) → xs ≡ [] → a ≡ joined xs a
all_at_start xs a e = nothing a ∙ ap (λ l. joined l a) (sym e)
  where
    nothing : (a : Option (List Assumption)) → a ≡ joined [] a
    nothing None = refl
    nothing (Some ys) = refl

-- the hypothesis of a multiple
module _ (equal : Bool) (hyps : List Hyp) (m : Multiple) where
  pub no_hypothesis : None ≡ slice_get hyps m.hyp → None ≡ assumed equal hyps m
  no_hypothesis e = ap (λ h. if_usable equal m.factor (hypothesis h)) e

  pub no_comparison : (h : Hyp) → Some h ≡ slice_get hyps m.hyp → None ≡ compared h.form → None ≡ assumed equal hyps m
  no_comparison h e f = ap (if_usable equal m.factor) f ∙ ap (λ h. if_usable equal m.factor (hypothesis h)) e

  pub when_usable : (h : Hyp) (says : Comparison) (b : Bool) → Some h ≡ slice_get hyps m.hyp → Some says ≡ compared h.form → b ≡ (not equal || says.equal) →
      (if b then Some (record { factor = m.factor; says = says }) else None) ≡ assumed equal hyps m
  when_usable h says b e f u =
      ap (λ b. if b then Some (record { factor = m.factor; says = says }) else None) u
      ∙ ap (if_usable equal m.factor) f ∙ ap (λ h. if_usable equal m.factor (hypothesis h)) e
