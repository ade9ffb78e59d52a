-- Laws of events keep names.
use Rattle.std.proofs.Common.{◌≡◌, Bool, true, false, if◌then◌else◌, List, [], ◌∷◌, ◌++◌, Option, Some, None, refl, subst}
use Rattle.std.proofs.lemmas.Option.{same_Some, none-some}
use Rattle.std.specs.Option.{option_map}
use Rattle.gb_core.specs.declared.ty.Ty.{Ty}
use Rattle.gb_core.specs.declared.ty.Ty.TheVariants as ty
use Rattle.gb_terms.specs.declared.module.ProcRef.{ProcRef}
use Rattle.gb_terms.specs.declared.op.Op.TheVariants as op
use Rattle.gb_terms.specs.declared.op.Side.{Side}
use Rattle.gb_terms.specs.declared.term.Head.{Head}
use Rattle.gb_terms.specs.declared.term.Head.TheVariants as head
use Rattle.gb_terms.specs.declared.term.Term.{Term, Term', Row_of-Term, end_of-Term, more_of-Term, end_of-Head, more_of-Head, out-Term}
use Rattle.gb_terms.specs.Make.{node, truth_literal}
use Rattle.gb_meaning.specs.Commands.{terms_in}
use Rattle.gb_laws.proofs.Trees.{out_is}
use Rattle.gb_goal.specs.Goal.{goal_at, goal_of}
use Rattle.gb_goal.specs.Goal.Code.{procedure}
use Rattle.gb_goal.specs.Scope.{Declarations}
use Rattle.gb_steps.specs.declared.step.EventLaw.{EventLaw}
use Rattle.gb_steps.specs.declared.step.EventLaw.TheVariants as law
use Rattle.gb_steps.specs.Chances.{last, before_last}
use Rattle.gb_steps.specs.First.{is_quotient, or_else}
use Rattle.gb_mods.specs.Called.{same_procedure}
use Rattle.gb_prog.specs.Compared.{zero as nought}
use Rattle.gb_typing.specs.Forms.{and_form, not_form}
use Rattle.gb_full.specs.Loss.{Loss, nowhere, code_loss}
use Rattle.gb_rewrite.specs.Events.{chance, plus, minus, either_at, either_of, negation_at, negation_of, is_false, either, whole_by, negated, divided, by_law, law_at, by_first, parts_by_first}
use Rattle.gb_print_names.specs.declared.bound_names.Enumeration.{Enumeration}
use Rattle.gb_print.specs.Written.{IsWrittenProcedure}
use Rattle.gb_shown.specs.Named.{IsNamedHead, IsNamed, IsNamedGoal}
use Rattle.gb_shown.specs.Rules.{IsNamedLaw}
use Rattle.gb_shown.proofs.SpeltTrees.{AllNamed, node_named, parts_named, terms_named}
use Rattle.gb_shown.proofs.SpeltForms.{and_named, not_named, number_named, truth_named}
use Rattle.gb_shown.proofs.Probabilities.{last_named, before_named}
use Rattle.gb_shown.proofs.Rows.{goal_named, goal_of_node}
use mathlib.Core.Former.{Count}

-- what comes first of two things that there may be
first_some : {A : Type 0} (P : A → Type 0) (o u : Option A) → ((x : A) → o ≡ Some x → P x) → ((x : A) → u ≡ Some x → P x) → (x : A) → or_else o u ≡ Some x → P x
first_some P None u f g x e = g x e
first_some P (Some y) u f g x e = f x e

mapped_some : {A B : Type 0} (P : B → Type 0) (f : A → B) (o : Option A) → ((x : A) → o ≡ Some x → P (f x)) → (y : B) → option_map f o ≡ Some y → P y
mapped_some P f None h y e = absurd (none-some y e)
mapped_some P f (Some x) h y e = subst P (same_Some (f x) y e) (h x refl)

-- forms in the place of others, in which names are names where they are in those
data Moved (es : List Enumeration) : List Term → List Term → Type 0 where
  none : Moved es [] []
  more : {t u : Term} {ts us : List Term} → (IsNamed es t → IsNamed es u) → Moved es ts us → Moved es (t ∷ ts) (u ∷ us)

module _ (es : List Enumeration) where
  all_moved : {ts us : List Term} → Moved es ts us → AllNamed es ts → AllNamed es us
  all_moved none x = tt
  all_moved (more k m) x = (k x.0, all_moved m x.1)

  same_moved : (ts : List Term) → Moved es ts ts
  same_moved [] = none
  same_moved (t ∷ ts) = more (λ x. x) (same_moved ts)

  -- a judgment of other forms, or another form in place of a form
  at_moved : (f g : Term) → (IsNamed es f → IsNamed es g) → (h : Head) {ts us : List Term} → Moved es ts us → IsNamedGoal es (goal_at f h ts) → IsNamedGoal es (goal_at g h us)
  at_moved f g w (head.Hoare c) (more k (more l none)) x = (x.0, k x.1, l x.2)
  at_moved f g w (head.Hoare c) none x = w x
  at_moved f g w (head.Hoare c) (more k none) x = w x
  at_moved f g w (head.Hoare c) (more k (more l (more m n))) x = w x
  at_moved f g w (head.Phoare c r) (more k (more l (more m none))) x = (x.0, k x.1, l x.2, m x.3)
  at_moved f g w (head.Phoare c r) none x = w x
  at_moved f g w (head.Phoare c r) (more k none) x = w x
  at_moved f g w (head.Phoare c r) (more k (more l none)) x = w x
  at_moved f g w (head.Phoare c r) (more k (more l (more m (more n o)))) x = w x
  at_moved f g w (head.Equiv c d) (more k (more l none)) x = (x.0, x.1, k x.2, l x.3)
  at_moved f g w (head.Equiv c d) none x = w x
  at_moved f g w (head.Equiv c d) (more k none) x = w x
  at_moved f g w (head.Equiv c d) (more k (more l (more m n))) x = w x
  at_moved f g w _ m x = w x

  -- Sums and differences of probabilities.

  plus_named : (a b : Term) → IsNamed es a → IsNamed es b → IsNamed es (plus a b)
  plus_named a b x y = node_named es (head.Builtin op.Plus) (a ∷ b ∷ []) ty.Real tt tt (x, (y, tt))

  minus_named : (a b : Term) → IsNamed es a → IsNamed es b → IsNamed es (minus a b)
  minus_named a b x y = node_named es (head.Builtin op.Minus) (a ∷ b ∷ []) ty.Real tt tt (x, (y, tt))

  all_append : (ts us : List Term) → AllNamed es ts → AllNamed es us → AllNamed es (ts ++ us)
  all_append [] us x y = y
  all_append (t ∷ ts) us x y = (x.0, all_append ts us x.1 y)

  -- Events.

  abbrev BothNamed : Term × Term → Type 0
  BothNamed z = IsNamed es z.0 × IsNamed es z.1

  either_at_named : (h : Head) (ts : List Term) → AllNamed es ts → (z : Term × Term) → either_at h ts ≡ Some z → BothNamed z
  either_at_named (head.Builtin op.Or) (e ∷ f ∷ []) x z q = subst BothNamed (same_Some (e, f) z q) (x.0, x.1.0)
  either_at_named h ts x z q = absurd (none-some z q)

  sides_named : (e : Term) → IsNamed es e → (z : Term × Term) → either_of e ≡ Some z → BothNamed z
  sides_named e x z q = let k = parts_named es e x in either_at_named (out-Term e).head (out-Term e).args k.2 z q

  negation_at_named : (h : Head) (ts : List Term) → AllNamed es ts → (f : Term) → negation_at h ts ≡ Some f → IsNamed es f
  negation_at_named (head.Builtin op.Not) (e ∷ []) x f q = subst (IsNamed es) (same_Some e f q) x.0
  negation_at_named h ts x f q = absurd (none-some f q)

  within_named : (e : Term) → IsNamed es e → (f : Term) → negation_of e ≡ Some f → IsNamed es f
  within_named e x f q = let k = parts_named es e x in negation_at_named (out-Term e).head (out-Term e).args k.2 f q

  -- What a law puts in the place of a probability.

  module _ (p : ProcRef) (r : Side) (bs : List Term) (w : IsWrittenProcedure [] p) (k : AllNamed es bs) where
    chance_named : (e : Term) → IsNamed es e → IsNamed es (chance p r bs e)
    chance_named e x = node_named es (head.Pr p r) (bs ++ e ∷ []) ty.Real w tt (all_append bs (e ∷ []) k (x, tt))

    either_named : (z : Term × Term) → BothNamed z → IsNamed es (either p r bs z)
    either_named (e, f) x =
        minus_named _ _ (plus_named _ _ (chance_named e x.0) (chance_named f x.1)) (chance_named (and_form e f) (and_named es e f x.0 x.1))

    whole_named : (l : Loss) → IsNamed es (whole_by l p r bs)
    whole_named nowhere = number_named es 1 refl
    whole_named _ = chance_named (truth_literal true) (truth_named es)

    divided_named : (e f : Term) → IsNamed es e → IsNamed es f → IsNamed es (divided p r bs e f)
    divided_named e f x y =
        plus_named _ _ (chance_named (and_form e f) (and_named es e f x y)) (chance_named (and_form e (not_form f)) (and_named es e (not_form f) x (not_named es f y)))

    module _ (ds : Declarations) where
      negated_named : (e : Term) → IsNamed es e → IsNamed es (negated ds p r bs e)
      negated_named e x = minus_named _ _ (whole_named (code_loss ds (procedure p))) (chance_named e x)

      law_named : (l : EventLaw) → IsNamedLaw es l → (e : Term) → IsNamed es e → (x : Term) → by_law ds l p r bs e ≡ Some x → IsNamed es x
      law_named law.Or n e v x q = mapped_some (IsNamed es) (either p r bs) (either_of e) (λ z i. either_named z (sides_named e v z i)) x q
      law_named law.Not n e v x q = mapped_some (IsNamed es) (negated ds p r bs) (negation_of e) (λ f i. negated_named f (within_named e v f i)) x q
      law_named law.False n e v x q = by_test (is_false e) q
        where
          by_test : (b : Bool) → (if b then Some nought else None) ≡ Some x → IsNamed es x
          by_test true q = subst (IsNamed es) (same_Some nought x q) (number_named es 0 refl)
          by_test false q = absurd (none-some x q)
      law_named (law.Split s f) n e v x q = by_test (same_procedure s p) q
        where
          by_test : (b : Bool) → (if b then Some (divided p r bs e f) else None) ≡ Some x → IsNamed es x
          by_test true q = subst (IsNamed es) (same_Some (divided p r bs e f) x q) (divided_named e f v n)
          by_test false q = absurd (none-some x q)

  -- The first probability of which a law speaks.

  module _ (ds : Declarations) (l : EventLaw) (n : IsNamedLaw es l) where
    at_named : (h : Head) (ts : List Term) (t : Ty) → IsNamedHead es h t → AllNamed es ts → (x : Term) → law_at ds l h ts ≡ Some x → IsNamed es x
    at_named (head.Pr p r) (t ∷ ts) u w k x q = law_named p r (before_last t ts) w (before_named es t ts k.0 k.1) ds l n (last t ts) (last_named es t ts k.0 k.1) x q
    at_named (head.Pr p r) [] u w k x q = absurd (none-some x q)
    at_named _ ts u w k x q = absurd (none-some x q)

    here_moved : {k : Count} (t : Term) (ts : Row_of-Term k) → ((u : Term) → by_first ds l t ≡ Some u → IsNamed es t → IsNamed es u) →
        (us : List Term) → option_map (λ u. u ∷ terms_in ts) (by_first ds l t) ≡ Some us → Moved es (t ∷ terms_in ts) us
    here_moved t ts f us q = mapped_some (Moved es (t ∷ terms_in ts)) (λ u. u ∷ terms_in ts) (by_first ds l t) (λ u i. more (f u i) (same_moved (terms_in ts))) us q

    mutual
      first_named : (t : Term) → IsNamed es t → (u : Term) → by_first ds l t ≡ Some u → IsNamed es u
      first_named (Term' p (more_of-Head h end_of-Head) k ts ty) x u q =
          first_some (IsNamed es) (law_at ds l h (terms_in ts)) (option_map (λ us. node h us ty) (parts_by_first ds l (is_quotient h) ts))
          (at_named h (terms_in ts) ty x.0 (terms_named es ts x.2))
          (mapped_some (IsNamed es) (λ us. node h us ty) (parts_by_first ds l (is_quotient h) ts) (λ us i. node_named es h us ty x.0 x.1 (all_moved (parts_moved (is_quotient h) ts us i) (terms_named es ts x.2))))
          u q

      parts_moved : {k : Count} (d : Bool) (ts : Row_of-Term k) (us : List Term) → parts_by_first ds l d ts ≡ Some us → Moved es (terms_in ts) us
      parts_moved d end_of-Term us q = absurd (none-some us q)
      parts_moved true (more_of-Term t ts) us q = here_moved t ts (λ u i x. first_named t x u i) us q
      parts_moved false (more_of-Term t ts) us q =
          first_some (Moved es (t ∷ terms_in ts)) (option_map (λ u. u ∷ terms_in ts) (by_first ds l t)) (option_map (λ vs. t ∷ vs) (parts_by_first ds l false ts))
          (here_moved t ts (λ u i x. first_named t x u i))
          (mapped_some (Moved es (t ∷ terms_in ts)) (λ vs. t ∷ vs) (parts_by_first ds l false ts) (λ vs i. more (λ x. x) (parts_moved false ts vs i)))
          us q

    -- a form that is a probability is no judgment
    plain : (f : Term) (h : Head) (ts : List Term) → IsNamedGoal es (goal_at f h ts) → (x : Term) → law_at ds l h ts ≡ Some x → IsNamed es f
    plain f (head.Pr p r) ts k x q = k
    plain f _ ts k x q = absurd (none-some x q)

    abbrev Good : Term → Type 0
    Good y = IsNamedGoal es (goal_of y)

    pub first_goal : (f : Term) → IsNamedGoal es (goal_of f) → (g : Term) → by_first ds l f ≡ Some g → IsNamedGoal es (goal_of g)
    first_goal (Term' p (more_of-Head h end_of-Head) k ts ty) w g q =
        first_some Good (law_at ds l h (terms_in ts)) (option_map (λ us. node h us ty) (parts_by_first ds l (is_quotient h) ts))
        (λ y i. let x = plain f h (terms_in ts) here y i in goal_named es y (at_named h (terms_in ts) ty x.0 (terms_named es ts x.2) y i))
        (mapped_some Good (λ us. node h us ty) (parts_by_first ds l (is_quotient h) ts) behind)
        g q
      where
        f : Term
        f = Term' p (more_of-Head h end_of-Head) k ts ty

        here : IsNamedGoal es (goal_at f h (terms_in ts))
        here = subst (λ z. IsNamedGoal es (goal_at f z.head z.args)) (out_is h k ts ty) w

        behind : (us : List Term) → parts_by_first ds l (is_quotient h) ts ≡ Some us → Good (node h us ty)
        behind us i =
            let m = parts_moved (is_quotient h) ts us i in
            goal_of_node es h us ty (at_moved f (node h us ty) (λ x. node_named es h us ty x.0 x.1 (all_moved m (terms_named es ts x.2))) h m here)
