-- A form says another one under its premises.
use Rattle.std.proofs.Common.{◌≡◌, inl, inr, List, [], ◌∷◌, ◌++◌, map, append-nil, true, Option, Some, None, refl, ap, sym, ◌∙◌, subst}
use Rattle.std.proofs.lemmas.List.{append_assoc}
use Rattle.std.specs.List.{AllByRecursion}
use Rattle.std.specs.Prelude.{Result, Ok, Err}
use Rattle.gb_core.specs.declared.place.Place.{Place}
use Rattle.gb_core.specs.declared.refusal.Why.TheVariants.{Shape}
use Rattle.gb_core.specs.declared.refusal.Refused.{Refused}
use Rattle.gb_core.specs.declared.refusal.Refused.TheVariants.{NoMemory, ReadFault, Script}
use Rattle.gb_core.specs.declared.ty.Ty.{Ty}
use Rattle.gb_terms.specs.declared.op.Op.TheVariants.{Implies}
use Rattle.gb_terms.specs.declared.term.Term.{Term, Term', Row_of-Term, end_of-Term, more_of-Term, end_of-Head, more_of-Head, out-Term}
use Rattle.gb_terms.specs.declared.term.Head.{Head}
use Rattle.gb_terms.specs.declared.term.Head.TheVariants as head
use Rattle.gb_terms.specs.Make.{node}
use Rattle.gb_goal.specs.Answers.{Answer}
use Rattle.gb_goal.specs.Answers.Answer.{given, refused}
use Rattle.gb_goal.specs.declared.sequent.Sequent.{Sequent}
use Rattle.gb_meaning.specs.Commands.{terms_in}
use Rattle.gb_meaning.specs.Setting.{Setting}
use Rattle.gb_meaning.specs.State.{State}
use Rattle.gb_meaning.specs.Judgments.{Judge, den}
use Rattle.gb_meaning.proofs.Nodes.{each_is_node}
use Rattle.gb_laws.proofs.Trees.{out_is}
use Rattle.gb_meaning.proofs.SameTerms.{same_terms}
use Rattle.gb_typing.specs.Context.{Context}
use Rattle.gb_typing.specs.Typing.{IsForm}
use Rattle.gb_typing.proofs.Made.{parts_typed}
use Rattle.gb_typing.specs.Forms.{implies_form}
use Rattle.gb_typing.proofs.Forms.{implies_use}
use Rattle.gb_amb.specs.Parts.{concluding}
use Rattle.gb_amb.specs.Steps.{Returns}
use Rattle.gb_amb.specs.Uses.{implication_at, implication_of, ArePremises, IsByPremises}
use mathlib.Core.Former.{Count}

abbrev first_or : {A B : Type 0} → A → Option (A × B) → A
first_or a None = a
first_or a (Some p) = p.0

abbrev second_or : {A B : Type 0} → B → Option (A × B) → B
second_or b None = b
second_or b (Some p) = p.1

some_pair : {A B : Type 0} (a c : A) (b d : B) → ◌≡◌ {A = Option (A × B)} (Some (a, b)) (Some (c, d)) → (a ≡ c) × (b ≡ d)
some_pair a c b d e = (ap (first_or a) e, ap (second_or b) e)

no_pair : {A B X : Type 0} (a : A) (b : B) → ◌≡◌ {A = Option (A × B)} None (Some (a, b)) → X
no_pair a b e = cc

-- an implication is a node
implication_is : (f a b : Term) → implication_of f ≡ Some (a, b) → f ≡ node (head.Builtin Implies) (a ∷ b ∷ []) (out-Term f).ty
implication_is f a b e = each_is_node f ∙ by_layer (out-Term f).head (out-Term f).args (out-Term f).ty e
  where
    by_layer : (h : Head) (ts : List Term) (t : Ty) → implication_at h ts ≡ Some (a, b) → node h ts t ≡ node (head.Builtin Implies) (a ∷ b ∷ []) t
    by_layer (head.Builtin Implies) (x ∷ y ∷ []) t e =
        let k = some_pair x a y b e in
        let one = k.0 in
        let two = k.1 in
        λ i. node (head.Builtin Implies) (one i ∷ two i ∷ []) t
    by_layer h ts t e = no_pair a b e

-- Its premises, if it has any, are there to be found, and are the same however they are found.

pub premises_same : (hs ks : List Term) (f c : Term) → ArePremises hs f c → ArePremises ks f c → hs ≡ ks
premises_same [] [] f c p q = refl
premises_same [] (k ∷ ks) f c p q = absurd (q.0 p)
premises_same (h ∷ hs) [] f c p q = absurd (p.0 q)
premises_same (h ∷ hs) (k ∷ ks) f c p q =
    let e = some_pair h k p.1 q.1 (sym p.2 ∙ q.2) in
    let first = e.0 in
    let rest = premises_same hs ks q.1 c (subst (λ g. ArePremises hs g c) e.1 p.3) q.3 in
    λ i. first i ∷ rest i

abbrev Found : Term → Term → Type 0
Found f c = (hs : List Term) × ArePremises hs f c

-- a form that is neither the other one nor an implication
nothing_found : (f c : Term) → (f ≡ c → ⊥) → implication_of f ≡ None → Found f c → ⊥
nothing_found f c n e ([], p) = n p
nothing_found f c n e (h ∷ hs, p) = no_pair h p.1 (sym e ∙ p.2)

found_under : (f c a g : Term) → (f ≡ c → ⊥) → implication_of f ≡ Some (a, g) → Dec (Found g c) → Dec (Found f c)
found_under f c a g n e (yes (hs, p)) = yes (a ∷ hs, (n, g, e, p))
found_under f c a g n e (no m) = no none
  where
    none : Found f c → ⊥
    none ([], p) = n p
    none (h ∷ hs, p) = m (hs, subst (λ x. ArePremises hs x c) (some_pair h a p.1 g (sym p.2 ∙ e)).1 p.3)

by_parts : (f c : Term) → AllByRecursion (λ g. Dec (Found g c)) (out-Term f).args → Dec (Found f c)
by_parts f c ws = by_test (same_terms f c)
  where
    by_shape : (f ≡ c → ⊥) → (h : Head) (ts : List Term) → implication_of f ≡ implication_at h ts → AllByRecursion (λ g. Dec (Found g c)) ts → Dec (Found f c)
    by_shape n (head.Builtin Implies) (a ∷ g ∷ []) e ws = found_under f c a g n e ws.1.0
    by_shape n h ts e ws = no (nothing_found f c n e)

    by_test : Dec (f ≡ c) → Dec (Found f c)
    by_test (yes e) = yes ([], e)
    by_test (no n) = by_shape n (out-Term f).head (out-Term f).args refl ws

mutual
  pub premises_found : (f c : Term) → Dec (Found f c)
  premises_found (Term' p (more_of-Head h end_of-Head) n ts t) c =
      by_parts _ c (subst (AllByRecursion (λ g. Dec (Found g c))) (sym (ap (λ x. x.args) (out_is h n ts t))) (rows_found ts c))

  rows_found : {n : Count} (ts : Row_of-Term n) (c : Term) → AllByRecursion (λ g. Dec (Found g c)) (terms_in ts)
  rows_found end_of-Term c = tt
  rows_found (more_of-Term g ts) c = (premises_found g c, rows_found ts c)

-- Where a form and its premises are true, so is what it says.
module _ (d : Context) where
  pub premises_typed : (hs : List Term) (f c : Term) → ArePremises hs f c → IsForm d f → AllByRecursion (IsForm d) hs × IsForm d c
  premises_typed [] f c p w = (tt, subst (IsForm d) p w)
  premises_typed (h ∷ hs) f c p w =
      let v = subst (IsForm d) (implication_is f h p.1 p.2) w in
      let k = parts_typed d (head.Builtin Implies) (h ∷ p.1 ∷ []) (out-Term f).ty v.typed in
      let rest = premises_typed hs p.1 c p.3 (record { typed = k.3.1; truth = k.0.1.0 }) in
      ((record { typed = k.3.0; truth = k.0.0 }, rest.0), rest.1)

  pub premises_used : (g : Setting) (j : Judge) (s : State) (hs : List Term) (f c : Term) → ArePremises hs f c → IsForm d f → den g j f s ≡ true → AllByRecursion (λ h. den g j h s ≡ true) hs → den g j c s ≡ true
  premises_used g j s [] f c p w t h = subst (λ x. den g j x s ≡ true) p t
  premises_used g j s (x ∷ hs) f c p w t h =
      let e = implication_is f x p.1 p.2 in
      let v = subst (IsForm d) e w in
      let k = parts_typed d (head.Builtin Implies) (x ∷ p.1 ∷ []) (out-Term f).ty v.typed in
      let whole : den g j (implies_form x p.1) s ≡ true = subst (λ r. den g j (node (head.Builtin Implies) (x ∷ p.1 ∷ []) r) s ≡ true) k.0.1.1.0 (subst (λ z. den g j z s ≡ true) e t) in
      premises_used g j s hs p.1 c p.3 (record { typed = k.3.1; truth = k.0.1.0 }) (implies_use g j x p.1 s whole h.0) h.1

-- Answers by premises.

pub some_by_premises : (before : List Sequent) (f : Term) (place : Place) (q : Sequent) → (r : Answer (List Sequent)) × IsByPremises before f place q r
some_by_premises before f place q = step (premises_found f q.conclusion)
  where
    step : Dec (Found f q.conclusion) → (r : Answer (List Sequent)) × IsByPremises before f place q r
    step (yes (hs, p)) = (given (before ++ map (concluding q) hs), inl (hs, p, refl))
    step (no n) = (refused Shape place, inr ((λ hs p. n (hs, p)), refl))

pub one_by_premises : (before : List Sequent) (f : Term) (place : Place) (q : Sequent) (x y : Answer (List Sequent)) → IsByPremises before f place q x → IsByPremises before f place q y → x ≡ y
one_by_premises before f place q x y (inl (hs, p, e)) (inl (ks, r, k)) = e ∙ ap (λ z. given (before ++ map (concluding q) z)) (premises_same hs ks f q.conclusion p r) ∙ sym k
one_by_premises before f place q x y (inl (hs, p, e)) (inr (n, k)) = absurd (n hs p)
one_by_premises before f place q x y (inr (n, e)) (inl (ks, r, k)) = absurd (n ks r)
one_by_premises before f place q x y (inr (n, e)) (inr (m, k)) = e ∙ sym k

-- A form that is the conclusion has no premises.
pub by_conclusion : (before : List Sequent) (f : Term) (place : Place) (q : Sequent) → f ≡ q.conclusion → IsByPremises before f place q (given before)
by_conclusion before f place q e = inl ([], e, ap given (sym (append-nil before)))

-- An implication that isn't the conclusion has one premise more than what it says under it.
pub by_implication : (before : List Sequent) (f a g : Term) (place : Place) (q : Sequent) → (f ≡ q.conclusion → ⊥) → implication_of f ≡ Some (a, g) → (r : Answer (List Sequent)) →
    IsByPremises (before ++ concluding q a ∷ []) g place q r → IsByPremises before f place q r
by_implication before f a g place q n e r (inl (hs, p, k)) = inl (a ∷ hs, (n, g, e, p), k ∙ ap given (append_assoc before (concluding q a ∷ []) (map (concluding q) hs)))
by_implication before f a g place q n e r (inr (m, k)) = inr (none, k)
  where
    none : (hs : List Term) → ArePremises hs f q.conclusion → ⊥
    none [] p = n p
    none (h ∷ hs) p = m hs (subst (λ x. ArePremises hs x q.conclusion) (some_pair h a p.1 g (sym p.2 ∙ e)).1 p.3)

-- the same of what code returns
pub returned_under : (before : List Sequent) (f a g : Term) (place : Place) (q : Sequent) → (f ≡ q.conclusion → ⊥) → implication_of f ≡ Some (a, g) → (x : Result (List Sequent) Refused) →
    Returns (IsByPremises (before ++ concluding q a ∷ []) g place q) x → Returns (IsByPremises before f place q) x
returned_under before f a g place q n e (Ok qs) h = by_implication before f a g place q n e (given qs) h
returned_under before f a g place q n e (Err NoMemory) h = tt
returned_under before f a g place q n e (Err ReadFault) h = absurd h
returned_under before f a g place q n e (Err (Script why at)) h = by_implication before f a g place q n e (refused why at) h

-- What is neither the conclusion nor an implication gives nothing.
pub by_nothing : (before : List Sequent) (f : Term) (place : Place) (q : Sequent) → (f ≡ q.conclusion → ⊥) → implication_of f ≡ None → IsByPremises before f place q (refused Shape place)
by_nothing before f place q n e = inr ((λ hs p. nothing_found f q.conclusion n e (hs, p)), refl)

pub returned_by_nothing : (before : List Sequent) (f : Term) (place : Place) (q : Sequent) → (f ≡ q.conclusion → ⊥) → implication_of f ≡ None → (r : Refused) → r ≡ Script Shape place →
    Returns (IsByPremises before f place q) (Err r)
returned_by_nothing before f place q n e r is = subst (λ r. Returns (IsByPremises before f place q) (Err r)) (sym is) (by_nothing before f place q n e)
