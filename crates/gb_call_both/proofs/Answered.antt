-- `call` by what is known has one answer at each goal.
use Rattle.std.proofs.Common.{◌≡◌, inl, inr, ℤ, pos, int_eq, Bool, true, false, List, Option, Some, None, refl, ap, sym, ◌∙◌}
use Rattle.std.specs.Option.{option_map}
use Rattle.std.proofs.lemmas.Bool.{false≢true}
use Rattle.std.proofs.lemmas.Bool.Decides.{Decides-int_eq}
use Rattle.std.proofs.lemmas.Option.{same_Some}
use Rattle.gb_core.specs.declared.place.Place.{Place}
use Rattle.gb_core.specs.declared.refusal.Why.TheVariants.{Shape}
use Rattle.gb_terms.specs.declared.module.ProcRef.{ProcRef}
use Rattle.gb_terms.specs.declared.op.Rel.{Rel}
use Rattle.gb_terms.specs.declared.op.Rel.TheVariants.{Equal}
use Rattle.gb_terms.specs.declared.term.Term.{Term}
use Rattle.gb_steps.specs.declared.step.Acts.{Acts}
use Rattle.gb_steps.specs.declared.step.Acts.TheVariants as on
use Rattle.gb_meaning.proofs.SameTerms.{procs, rels, same_terms}
use Rattle.gb_goal.specs.Answers.{Answer}
use Rattle.gb_goal.specs.Answers.Answer.{refused}
use Rattle.gb_goal.specs.Goal.{Goal, goal_of}
use Rattle.gb_goal.specs.Goal.Code.{body, procedure}
use Rattle.gb_goal.specs.Goal.Goal.{hoare, phoare, equiv, ambient}
use Rattle.gb_goal.specs.Rows.{stepped}
use Rattle.gb_goal.specs.Scope.{Declarations}
use Rattle.gb_goal.specs.declared.sequent.Sequent.{Sequent}
use Rattle.gb_prog.specs.Compared.{literal}
use Rattle.gb_call.specs.LastCall.{LastCall, last_call}
use Rattle.gb_call_both.specs.Known.{IsAnswer, IsOfCalls, IsOfEquiv, IsOfHoare, IsOfPhoare, IsSure, behind_first, by_conditions}

both : {A B : Type 0} → Dec A → Dec B → Dec (A × B)
both (yes a) (yes b) = yes (a, b)
both (yes a) (no n) = no (λ h. n h.1)
both (no n) d = no (λ h. n h.0)

three : {A B C : Type 0} → Dec A → Dec B → Dec C → Dec (A × B × C)
three (yes a) (yes b) (yes c) = yes (a, b, c)
three (yes a) (yes b) (no n) = no (λ h. n h.2)
three (yes a) (no n) d = no (λ h. n h.1)
three (no n) d e = no (λ h. n h.0)

calls : (f : ProcRef) (o : Option LastCall) → Dec (option_map (λ (k : LastCall). k.procedure) o ≡ Some f)
calls f None = no (λ e. cc)
calls f (Some k) = by_procedure (procs k.procedure f)
  where
    by_procedure : Dec (k.procedure ≡ f) → Dec (Some k.procedure ≡ Some f)
    by_procedure (yes e) = yes (λ i. Some (e i))
    by_procedure (no n) = no (λ e. n (same_Some k.procedure f e))

hoare_or_not : (a : Acts) (f : ProcRef) (G : Goal) → Dec (IsOfHoare a f G)
hoare_or_not on.All f (hoare (body is) p q) = calls f (last_call is)
hoare_or_not on.All f (hoare (procedure g) p q) = no (λ o. o)
hoare_or_not on.All f (phoare c r p q b) = no (λ o. o)
hoare_or_not on.All f (equiv c d p q) = no (λ o. o)
hoare_or_not on.All f (ambient g) = no (λ o. o)
hoare_or_not on.Left f (equiv (body is) (body js) p q) = calls f (last_call is)
hoare_or_not on.Left f (equiv (body is) (procedure g) p q) = no (λ o. o)
hoare_or_not on.Left f (equiv (procedure g) d p q) = no (λ o. o)
hoare_or_not on.Left f (hoare c p q) = no (λ o. o)
hoare_or_not on.Left f (phoare c r p q b) = no (λ o. o)
hoare_or_not on.Left f (ambient g) = no (λ o. o)
hoare_or_not on.Right f (equiv (body is) (body js) p q) = calls f (last_call js)
hoare_or_not on.Right f (equiv (body is) (procedure g) p q) = no (λ o. o)
hoare_or_not on.Right f (equiv (procedure g) d p q) = no (λ o. o)
hoare_or_not on.Right f (hoare c p q) = no (λ o. o)
hoare_or_not on.Right f (phoare c r p q b) = no (λ o. o)
hoare_or_not on.Right f (ambient g) = no (λ o. o)

-- a number that may be known is 1, or isn't
one_or_not : (n : Option ℤ) → Dec (n ≡ Some (pos 1))
one_or_not None = no (λ e. cc)
one_or_not (Some n) = by_test (int_eq n (pos 1)) refl
  where
    by_test : (t : Bool) → int_eq n (pos 1) ≡ t → Dec (Some n ≡ Some (pos 1))
    by_test true e = yes (ap Some ((Decides-int_eq n (pos 1)).0 e))
    by_test false e = no (λ i. false≢true (sym e ∙ (Decides-int_eq n (pos 1)).1 (same_Some n (pos 1) i)))

sure_or_not : (r : Rel) (b : Term) → Dec (IsSure r b)
sure_or_not r b = both (rels r Equal) (one_or_not (literal b))

phoare_or_not : (a : Acts) (f : ProcRef) (r : Rel) (b : Term) (G : Goal) → Dec (IsOfPhoare a f r b G)
phoare_or_not on.All f r b (phoare (body is) l p q d) = three (calls f (last_call is)) (rels r l) (same_terms b d)
phoare_or_not on.All f r b (phoare (procedure g) l p q d) = no (λ o. o)
phoare_or_not on.All f r b (hoare c p q) = no (λ o. o)
phoare_or_not on.All f r b (equiv c d p q) = no (λ o. o)
phoare_or_not on.All f r b (ambient g) = no (λ o. o)
phoare_or_not on.Left f r b (equiv (body is) (body js) p q) = both (calls f (last_call is)) (sure_or_not r b)
phoare_or_not on.Left f r b (equiv (body is) (procedure g) p q) = no (λ o. o)
phoare_or_not on.Left f r b (equiv (procedure g) d p q) = no (λ o. o)
phoare_or_not on.Left f r b (hoare c p q) = no (λ o. o)
phoare_or_not on.Left f r b (phoare c l p q d) = no (λ o. o)
phoare_or_not on.Left f r b (ambient g) = no (λ o. o)
phoare_or_not on.Right f r b (equiv (body is) (body js) p q) = both (calls f (last_call js)) (sure_or_not r b)
phoare_or_not on.Right f r b (equiv (body is) (procedure g) p q) = no (λ o. o)
phoare_or_not on.Right f r b (equiv (procedure g) d p q) = no (λ o. o)
phoare_or_not on.Right f r b (hoare c p q) = no (λ o. o)
phoare_or_not on.Right f r b (phoare c l p q d) = no (λ o. o)
phoare_or_not on.Right f r b (ambient g) = no (λ o. o)

equiv_or_not : (a : Acts) (f h : ProcRef) (G : Goal) → Dec (IsOfEquiv a f h G)
equiv_or_not on.All f h (equiv (body is) (body js) p q) = both (calls f (last_call is)) (calls h (last_call js))
equiv_or_not on.All f h (equiv (body is) (procedure g) p q) = no (λ o. o)
equiv_or_not on.All f h (equiv (procedure g) d p q) = no (λ o. o)
equiv_or_not on.All f h (hoare c p q) = no (λ o. o)
equiv_or_not on.All f h (phoare c r p q b) = no (λ o. o)
equiv_or_not on.All f h (ambient g) = no (λ o. o)
equiv_or_not on.Left f h G = no (λ o. o)
equiv_or_not on.Right f h G = no (λ o. o)

called_or_not : (a : Acts) (K G : Goal) → Dec (IsOfCalls a K G)
called_or_not a (hoare (procedure f) p q) G = hoare_or_not a f G
called_or_not a (hoare (body is) p q) G = no (λ o. o)
called_or_not a (phoare (procedure f) r p q b) G = phoare_or_not a f r b G
called_or_not a (phoare (body is) r p q b) G = no (λ o. o)
called_or_not a (equiv (procedure f) (procedure h) p q) G = equiv_or_not a f h G
called_or_not a (equiv (procedure f) (body is) p q) G = no (λ o. o)
called_or_not a (equiv (body is) d p q) G = no (λ o. o)
called_or_not a (ambient f) G = no (λ o. o)

module _ (ds : Declarations) (a : Acts) (f : Term) (place : Place) (q : Sequent) where
  pub some_answer : (x : Answer (List Sequent)) × IsAnswer ds a f place q x
  some_answer = by_test (called_or_not a (goal_of f) (goal_of q.conclusion))
    where
      by_test : Dec (IsOfCalls a (goal_of f) (goal_of q.conclusion)) → (x : Answer (List Sequent)) × IsAnswer ds a f place q x
      by_test (yes o) = (behind_first (stepped (by_conditions ds a (goal_of f)) place q), inl (o, refl))
      by_test (no n) = (refused Shape place, inr (n, refl))

  pub one_answer : (x y : Answer (List Sequent)) → IsAnswer ds a f place q x → IsAnswer ds a f place q y → x ≡ y
  one_answer x y (inl h) (inl k) = h.1 ∙ sym k.1
  one_answer x y (inl h) (inr k) = absurd (k.0 h.0)
  one_answer x y (inr h) (inl k) = absurd (h.0 k.0)
  one_answer x y (inr h) (inr k) = h.1 ∙ sym k.1
