-- What a law of events puts in the place of a probability means the same.
use Rattle.std.proofs.Common.{◌≡◌, ℕ, zero, ◌+◌, Bool, true, false, not, ◌&&◌, ◌||◌, pos, List, [], ◌∷◌, map, Some, refl, ap, sym, ◌∙◌, subst}
use Rattle.std.proofs.lemmas.Bool.{false≢true}
use Rattle.std.proofs.Math.Path.{fun_ext}
use Rattle.gb_core.specs.declared.ty.Ty.{Ty}
use Rattle.gb_core.specs.declared.ty.Ty.TheVariants as ty
use Rattle.gb_core.specs.declared.value.Value.{Value}
use Rattle.gb_core.specs.declared.value.Value.TheVariants.{Num}
use Rattle.gb_dist.specs.WeightedList.{WeightedList, total, weight}
use Rattle.gb_dist.proofs.Weights.{weight-false, weight-not, weight-or, weight-parts}
use Rattle.gb_terms.specs.declared.module.ProcRef.{ProcRef}
use Rattle.gb_terms.specs.declared.op.Op.TheVariants as op
use Rattle.gb_terms.specs.declared.op.Side.{Side}
use Rattle.gb_terms.specs.declared.term.Term.{Term, out-Term}
use Rattle.gb_terms.specs.declared.term.Head.{Head}
use Rattle.gb_terms.specs.declared.term.Head.TheVariants as head
use Rattle.gb_terms.specs.Make.{node, applied, truth_literal}
use Rattle.gb_goal.specs.Goal.Code.{procedure}
use Rattle.gb_goal.specs.Scope.{Declarations}
use Rattle.gb_steps.specs.declared.step.EventLaw.{EventLaw}
use Rattle.gb_meaning.specs.Fractions.{Fraction}
use Rattle.gb_meaning.specs.Fractions as fractions
use Rattle.gb_meaning.specs.Judgments.{Judge, den, outcome_denominator, outcomes_of, speaking}
use Rattle.gb_meaning.specs.Meanings.{truth, value_in}
use Rattle.gb_meaning.specs.Memory.{Memory}
use Rattle.gb_meaning.specs.Operators.{difference_at, sum_at}
use Rattle.gb_meaning.specs.Setting.{Meaning, Setting}
use Rattle.gb_meaning.specs.Setting.Meaning.{fraction}
use Rattle.gb_meaning.specs.State.{State, at, memory_of}
use Rattle.gb_meaning.specs.Terms.{val}
use Rattle.gb_meaning.proofs.Nodes.{each_is_node, val_node}
use Rattle.gb_meaning.proofs.Truths.{true_and, true_not, true_or, truth_of}
use Rattle.gb_laws.proofs.Probabilities.{probability_node}
use Rattle.gb_typing.specs.Context.{Context}
use Rattle.gb_typing.specs.Forms.{and_form, not_form}
use Rattle.gb_typing.specs.Rules.{outermost}
use Rattle.gb_typing.specs.Typing.{IsTyped}
use Rattle.gb_full.specs.Loss.{Loss, nowhere, sampled, called, code_loss}
use Rattle.gb_prog.specs.Compared.{zero as nought, one}
use Rattle.gb_prog.proofs.Comparing.{number_is}
use Rattle.gb_smt_laws.specs.Alike.{Alike}
use Rattle.gb_smt_laws.proofs.Alike.{of_fractions}
use Rattle.gb_smt_laws.proofs.Fractions.{Same}
use Rattle.gb_rewrite.specs.Events.{chance, plus, minus, is_false_at, is_false, either, whole_by, divided, by_law, IsTypedLaw}
use Rattle.gb_rewrite.proofs.Kept.{IsInside}
use Rattle.gb_rewrite.proofs.Spoken.{each_law, events}
use Rattle.gb_rewrite.proofs.Weighed.{of_either, left_of_one, left_of_all, of_nothing, of_parts}

-- settings in which procedures that lose no weight have the whole weight
abbrev pub HasWhole : Declarations → Setting → Type 0
HasWhole ds g = (p : ProcRef) → code_loss ds (procedure p) ≡ nowhere → (vs : List Value) (m : Memory) →
    total (outcomes_of g (g.procedure p) vs m) ≡ outcome_denominator g (g.procedure p)

alike_fractions : (x y : Meaning) (a b : Fraction) → x ≡ fraction a → y ≡ fraction b → Same a b → Alike x y
alike_fractions x y a b e f h = subst (λ z. Alike z y) (sym e) (subst (Alike (fraction a)) (sym f) (of_fractions a b h))

module _ (g : Setting) (j : Judge) (q : State) where
  abbrev V : Term → Meaning
  V t = val g (speaking g j) t q

  plus_is : (a b : Term) (x y : Fraction) → V a ≡ fraction x → V b ≡ fraction y → V (plus a b) ≡ fraction (fractions.plus x y)
  plus_is a b x y e f = val_node g (speaking g j) (head.Builtin op.Plus) (a ∷ b ∷ []) ty.Real q ∙ (λ i. sum_at ty.Real (e i) (f i))

  minus_is : (a b : Term) (x y : Fraction) → V a ≡ fraction x → V b ≡ fraction y → V (minus a b) ≡ fraction (fractions.minus x y)
  minus_is a b x y e f = val_node g (speaking g j) (head.Builtin op.Minus) (a ∷ b ∷ []) ty.Real q ∙ (λ i. difference_at ty.Real (e i) (f i))

  always : den g j (truth_literal true) q ≡ true
  always = ap truth (val_node g (speaking g j) (head.Lit (Num 1)) [] ty.Bool q) ∙ truth_of true

  never_node : (h : Head) (ts : List Term) (u : Ty) → is_false_at h ≡ true → den g j (node h ts u) q ≡ false
  never_node (head.Lit (Num zero)) ts u e = ap truth (val_node g (speaking g j) (head.Lit (Num zero)) ts u q) ∙ truth_of false
  never_node h ts u e = absurd (false≢true e)

  never : (e : Term) → is_false e ≡ true → den g j e q ≡ false
  never e h = ap (λ t. den g j t q) (each_is_node e) ∙ never_node (out-Term e).head (out-Term e).args (out-Term e).ty h

module _ (g : Setting) (j : Judge) (q : State) (p : ProcRef) (r : Side) (bs : List Term) where
  -- outcomes, and what they weigh together
  abbrev L : WeightedList Memory
  L = outcomes_of g (g.procedure p) (map (λ t. value_in (val g (speaking g j) t q)) bs) (memory_of q r)

  abbrev k : ℕ
  k = outcome_denominator g (g.procedure p)

  abbrev is_in : Term → Memory → Bool
  is_in e m = den g j e (at q m)

  abbrev W : Term → ℕ
  W e = weight L (is_in e)

  abbrev X : Term → Meaning
  X t = val g (speaking g j) t q

  chance_is : (e : Term) → X (chance p r bs e) ≡ fraction (pos (W e), k)
  chance_is e = probability_node g j p r bs e q

  weighs : (e : Term) (f : Memory → Bool) → ((m : Memory) → is_in e m ≡ f m) → W e ≡ weight L f
  weighs e f h = ap (weight L) (fun_ext h)

  conjunction_weighs : (e f : Term) → W (and_form e f) ≡ weight L (λ m. is_in e m && is_in f m)
  conjunction_weighs e f = weighs (and_form e f) (λ m. is_in e m && is_in f m) (λ m. true_and g j e f (at q m))

  or_alike : (e : Term) (z : Term × Term) → e ≡ applied op.Or (z.0 ∷ z.1 ∷ []) ty.Bool → Alike (X (either p r bs z)) (X (chance p r bs e))
  or_alike e z is =
      let a = z.0 in
      let b = z.1 in
      let sum : W e ≡ weight L (λ m. is_in a m || is_in b m) = weighs e (λ m. is_in a m || is_in b m) (λ m. ap (λ t. den g j t (at q m)) is ∙ true_or g j a b (at q m)) in
      let both : W e + W (and_form a b) ≡ W a + W b = (let c = conjunction_weighs a b in λ i. sum i + c i) ∙ weight-or L (is_in a) (is_in b) in
      alike_fractions (X (either p r bs z)) (X (chance p r bs e)) (fractions.minus (fractions.plus (pos (W a), k) (pos (W b), k)) (pos (W (and_form a b)), k)) (pos (W e), k)
      (minus_is g j q (plus (chance p r bs a) (chance p r bs b)) (chance p r bs (and_form a b)) (fractions.plus (pos (W a), k) (pos (W b), k)) (pos (W (and_form a b)), k)
      (plus_is g j q (chance p r bs a) (chance p r bs b) (pos (W a), k) (pos (W b), k) (chance_is a) (chance_is b)) (chance_is (and_form a b)))
      (chance_is e) (of_either (W a) (W b) (W (and_form a b)) (W e) k both)

  false_alike : (e : Term) → is_false e ≡ true → Alike (X nought) (X (chance p r bs e))
  false_alike e h =
      alike_fractions (X nought) (X (chance p r bs e)) (pos 0, 1) (pos (W e), k) (number_is g j q (pos 0)) (chance_is e)
      (of_nothing (W e) k (weighs e (λ m. false) (λ m. never g j (at q m) e h) ∙ weight-false L))

  split_alike : (e f : Term) → Alike (X (divided p r bs e f)) (X (chance p r bs e))
  split_alike e f =
      let yes : W (and_form e f) ≡ weight L (λ m. is_in e m && is_in f m) = conjunction_weighs e f in
      let no : W (and_form e (not_form f)) ≡ weight L (λ m. is_in e m && not (is_in f m)) =
      weighs (and_form e (not_form f)) (λ m. is_in e m && not (is_in f m)) (λ m. true_and g j e (not_form f) (at q m) ∙ ap (λ b. is_in e m && b) (true_not g j f (at q m))) in
      alike_fractions (X (divided p r bs e f)) (X (chance p r bs e)) (fractions.plus (pos (W (and_form e f)), k) (pos (W (and_form e (not_form f))), k)) (pos (W e), k)
      (plus_is g j q (chance p r bs (and_form e f)) (chance p r bs (and_form e (not_form f))) (pos (W (and_form e f)), k) (pos (W (and_form e (not_form f))), k) (chance_is (and_form e f)) (chance_is (and_form e (not_form f))))
      (chance_is e) (of_parts (W (and_form e f)) (W (and_form e (not_form f))) (W e) k ((λ i. yes i + no i) ∙ sym (weight-parts L (is_in e) (is_in f))))

  module _ (ds : Declarations) (whole : HasWhole ds g) where
    -- what is left where the event isn't
    left : (e f : Term) → e ≡ applied op.Not (f ∷ []) ty.Bool → W f + W e ≡ total L
    left e f is =
        ap (λ n. W f + n) (weighs e (λ m. not (is_in f m)) (λ m. ap (λ t. den g j t (at q m)) is ∙ true_not g j f (at q m)))
        ∙ weight-not L (is_in f)

    of_all : (e f : Term) → e ≡ applied op.Not (f ∷ []) ty.Bool → Alike (X (minus (chance p r bs (truth_literal true)) (chance p r bs f))) (X (chance p r bs e))
    of_all e f is =
        let all = truth_literal true in
        alike_fractions (X (minus (chance p r bs all) (chance p r bs f))) (X (chance p r bs e)) (fractions.minus (pos (W all), k) (pos (W f), k)) (pos (W e), k)
        (minus_is g j q (chance p r bs all) (chance p r bs f) (pos (W all), k) (pos (W f), k) (chance_is all) (chance_is f)) (chance_is e)
        (left_of_all (W all) (W f) (W e) k (left e f is ∙ sym (weighs all (λ m. true) (λ m. always g j (at q m)))))

    of_one : (e f : Term) → e ≡ applied op.Not (f ∷ []) ty.Bool → total L ≡ k → Alike (X (minus one (chance p r bs f))) (X (chance p r bs e))
    of_one e f is t =
        alike_fractions (X (minus one (chance p r bs f))) (X (chance p r bs e)) (fractions.minus (pos 1, 1) (pos (W f), k)) (pos (W e), k)
        (minus_is g j q one (chance p r bs f) (pos 1, 1) (pos (W f), k) (number_is g j q (pos 1)) (chance_is f)) (chance_is e)
        (left_of_one (W f) (W e) k (left e f is ∙ t))

    by_loss : (e f : Term) → e ≡ applied op.Not (f ∷ []) ty.Bool → (z : Loss) → code_loss ds (procedure p) ≡ z → Alike (X (minus (whole_by z p r bs) (chance p r bs f))) (X (chance p r bs e))
    by_loss e f is nowhere n = of_one e f is (whole p n (map (λ t. value_in (val g (speaking g j) t q)) bs) (memory_of q r))
    by_loss e f is (sampled x) n = of_all e f is
    by_loss e f is called n = of_all e f is

    pub law_alike : (o d : Context) → IsInside o d → (e : Term) → IsTyped d (chance p r bs e) → (l : EventLaw) → IsTypedLaw (outermost o) l → (x : Term) → by_law ds l p r bs e ≡ Some x →
        Alike (X x) (X (chance p r bs e))
    law_alike o d i e w l v x h =
        each_law ds o d i p r bs e w (λ y. Alike (X y) (X (chance p r bs e)))
        (λ z y. or_alike e z y.is)
        (λ f y. by_loss e f y.is (code_loss ds (procedure p)) refl)
        (λ y. false_alike e y)
        (λ f y. split_alike e f)
        l v x h
