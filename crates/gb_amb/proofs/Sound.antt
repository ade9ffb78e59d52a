-- Steps on conclusions are sound, and each has one answer.
use Rattle.std.proofs.Common.{◌≡◌, inl, inr, ℕ, Some, Bool, true, false, if◌then◌else◌, List, [], ◌∷◌, map, refl, ap, sym, ◌∙◌, subst}
use Rattle.gb_core.specs.declared.place.Place.{Place}
use Rattle.gb_core.specs.declared.refusal.Why.TheVariants.{Shape}
use Rattle.gb_terms.specs.declared.op.Op.TheVariants as op
use Rattle.gb_terms.specs.declared.term.Term.{Term, out-Term}
use Rattle.gb_terms.specs.declared.term.Head.{Head}
use Rattle.gb_terms.specs.declared.term.Head.TheVariants as head
use Rattle.gb_terms.specs.Make.{node}
use Rattle.gb_meaning.proofs.Nodes.{term_is_node}
use Rattle.gb_walk.specs.declared.change.Change.TheVariants.{OfBound}
use Rattle.gb_walk.specs.Change.{term_changed}
use Rattle.gb_typing.proofs.Conclusions.{formula_form}
use Rattle.gb_typing.specs.Sequents.{with_modules}
use Rattle.gb_amb.specs.Introduced.{introduced, introduced_at, with_memory, with_premise, with_variable}
use Rattle.gb_amb.proofs.Introducing.{memory_leads, value_leads}
use Rattle.gb_amb.proofs.Premises.{Follows}
use Rattle.gb_amb.proofs.Remembered.{memory_follows}
use Rattle.gb_amb.proofs.Witnessed.{witness_follows}
use Rattle.gb_goal.specs.Answers.{Answer}
use Rattle.gb_goal.specs.Answers.Answer.{given, refused}
use Rattle.gb_goal.specs.declared.sequent.Sequent.{Sequent}
use Rattle.gb_steps.specs.declared.step.AmbientRule.{AmbientRule}
use Rattle.gb_steps.specs.declared.step.AmbientRule.TheVariants.{Split, Left, Right, Assumption, Case, Have, Introduce, IntroduceMemory, Discard, Unpack, Branch, Witness, WitnessMemory, Trivial, Done}
use Rattle.gb_core.specs.declared.ty.Ty.{Ty}
use Rattle.gb_meaning.specs.Written.{type_of}
use Rattle.gb_meaning.specs.Declared.{Declarations}
use Rattle.gb_meaning.specs.Truth.{has_module}
use Rattle.gb_typing.specs.Typing.{IsTyped, IsForm}
use Rattle.gb_typing.specs.Sequents.{IsTypedSequent}
use Rattle.gb_typing.specs.Scopes.{context_of, IsTypedScope}
use Rattle.gb_typing.proofs.Given.{refused_at, same_given}
use Rattle.gb_goal.specs.Goal.{judges_bodies}
use Rattle.gb_amb.specs.Parts.{concluding, by_parts}
use Rattle.gb_amb.specs.Closed.{IsAmong, IsClosed}
use Rattle.gb_amb.specs.Witness.{at_memory, memory_witnessed, memory_witnessed_at, witnessed, witnessed_at}
use Rattle.gb_amb.specs.Steps.{assuming, Decides, by_cases, IsAnswer, IsMemoryWitness, IsTypedStep, IsWitness, LeadTo}
use Rattle.gb_amb.proofs.Around.{here}
use Rattle.gb_amb.proofs.Cases.{conclusion_formula}
use Rattle.gb_amb.proofs.Closing.{among, closed, closed_leads}
use Rattle.gb_amb.proofs.Leading.{nothing_left, by_assumption, of_cases, by_its_parts, by_cut, premise_taken, unless, node_is, here_small, of_following}

module _ (ds : Declarations) (scope : IsTypedScope ds) (q : Sequent) (t : IsTypedSequent (context_of ds) q) where
  by_head : (r : AmbientRule) (place : Place) (h : Head) (ts : List Term) → (out-Term q.conclusion).head ≡ h → (out-Term q.conclusion).args ≡ ts → (qs : List Sequent) →
      given qs ≡ introduced_at r place q h ts → LeadTo ds q qs
  by_head (Introduce x) place (head.All u) (f ∷ []) hs xs qs e =
      unless ds scope q t place (with_variable q x u f) qs e
      (λ n. value_leads ds scope q t n x u f (out-Term q.conclusion).ty (node_is ds scope q t (head.All u) (f ∷ []) hs xs) (ap judges_bodies hs))
  by_head (Introduce x) place (head.Builtin op.Implies) (a ∷ f ∷ []) hs xs qs e =
      subst (LeadTo ds q) (sym (same_given qs (with_premise q x a f ∷ []) e)) (premise_taken ds scope q t x a f hs xs)
  by_head (IntroduceMemory x) place head.AllMemory (f ∷ []) hs xs qs e =
      unless ds scope q t place (with_memory q x f) qs e
      (λ n. memory_leads ds scope q t n x f (out-Term q.conclusion).ty (node_is ds scope q t head.AllMemory (f ∷ []) hs xs) (ap judges_bodies hs))
  by_head r place h ts hs xs qs e = refused_at Shape place qs (sym e)

  -- A term for what is said to exist.
  witness_leads : (x : Term) (u : Ty) (f : Term) → (out-Term q.conclusion).head ≡ head.Some u → (out-Term q.conclusion).args ≡ f ∷ [] → IsTyped (here ds scope q t) x × (type_of x ≡ u) →
      LeadTo ds q (concluding q (term_changed f (OfBound 0 x ∷ [])) ∷ [])
  witness_leads x u f hs xs w =
      let c = here ds scope q t in
      let r = (out-Term q.conclusion).ty in
      let is = node_is ds scope q t (head.Some u) (f ∷ []) hs xs in
      let front = ap has_module (is ∙ sym (term_is_node (head.Some u) (f ∷ []) r)) in
      let whole = subst (IsForm c) is (formula_form c q.conclusion (conclusion_formula c q.conclusion t.conclusion (ap judges_bodies hs)) front) in
      of_following ds scope q t (node (head.Some u) (f ∷ []) r) (term_changed f (OfBound 0 x ∷ []) ∷ []) is
      (subst (λ d. IsTyped d x → IsForm d (node (head.Some u) (f ∷ []) r) → Follows ds d (node (head.Some u) (f ∷ []) r) (term_changed f (OfBound 0 x ∷ []) ∷ []))
      (sym (here_small ds scope q t))
      (λ y z. witness_follows (with_modules (context_of ds) q.modules) (map (λ x. x.ty) q.logical) (map (λ l. Some l) t.frames) x y u w.1 ds f r z) w.0 whole)

  by_witness : (x : Term) (place : Place) (h : Head) (ts : List Term) → (out-Term q.conclusion).head ≡ h → (out-Term q.conclusion).args ≡ ts → IsWitness (here ds scope q t) x h →
      (qs : List Sequent) → given qs ≡ witnessed_at x place q h ts → LeadTo ds q qs
  by_witness x place (head.Some u) (f ∷ []) hs xs w qs e = subst (LeadTo ds q) (sym (same_given qs _ e)) (witness_leads x u f hs xs w)
  by_witness x place h ts hs xs w qs e = refused_at Shape place qs (sym e)

  -- A memory of the context for one that is said to exist.
  memory_leads_to : (i : ℕ) (f : Term) → (out-Term q.conclusion).head ≡ head.SomeMemory → (out-Term q.conclusion).args ≡ f ∷ [] → IsForm (here ds scope q t) (at_memory f i) →
      LeadTo ds q (concluding q (at_memory f i) ∷ [])
  memory_leads_to i f hs xs w =
      let c = here ds scope q t in
      let r = (out-Term q.conclusion).ty in
      let is = node_is ds scope q t head.SomeMemory (f ∷ []) hs xs in
      let front = ap has_module (is ∙ sym (term_is_node head.SomeMemory (f ∷ []) r)) in
      let whole = subst (IsForm c) is (formula_form c q.conclusion (conclusion_formula c q.conclusion t.conclusion (ap judges_bodies hs)) front) in
      of_following ds scope q t (node head.SomeMemory (f ∷ []) r) (at_memory f i ∷ []) is
      (subst (λ d. IsForm d (at_memory f i) → IsForm d (node head.SomeMemory (f ∷ []) r) → Follows ds d (node head.SomeMemory (f ∷ []) r) (at_memory f i ∷ []))
      (sym (here_small ds scope q t))
      (λ y z. memory_follows (with_modules (context_of ds) q.modules) (map (λ x. x.ty) q.logical) (map (λ l. Some l) t.frames) i ds f r z y) w whole)

  by_memory : (i : ℕ) (place : Place) (h : Head) (ts : List Term) → (out-Term q.conclusion).head ≡ h → (out-Term q.conclusion).args ≡ ts → IsMemoryWitness (here ds scope q t) i h ts →
      (qs : List Sequent) → given qs ≡ memory_witnessed_at i place q h ts → LeadTo ds q qs
  by_memory i place head.SomeMemory (f ∷ []) hs xs w qs e = subst (LeadTo ds q) (sym (same_given qs _ e)) (memory_leads_to i f hs xs w)
  by_memory i place h ts hs xs w qs e = refused_at Shape place qs (sym e)

  -- a goal that stays
  left : LeadTo ds q (q ∷ [])
  left = record { typed = (t, tt); leads = λ h. h.0 }

  pub steps_sound : (r : AmbientRule) → IsTypedStep (here ds scope q t) q.conclusion r → (place : Place) (qs : List Sequent) → IsAnswer r place q (given qs) → LeadTo ds q qs
  steps_sound Assumption w place qs (inl (m, e)) = nothing_left ds scope q t qs (same_given [] qs (sym e)) (by_assumption ds scope q t m)
  steps_sound Assumption w place qs (inr (m, e)) = refused_at Shape place qs (sym e)
  steps_sound (Case f) w place qs e = of_cases ds scope q t f w place qs e
  steps_sound (Have name f) w place qs e = subst (LeadTo ds q) (sym (same_given qs _ e)) (by_cut ds scope q t name f w)
  steps_sound (Introduce x) w place qs e = by_head (Introduce x) place _ _ refl refl qs e
  steps_sound (IntroduceMemory x) w place qs e = by_head (IntroduceMemory x) place _ _ refl refl qs e
  steps_sound (Witness x) w place qs e = by_witness x place _ _ refl refl w qs e
  steps_sound (WitnessMemory i) w place qs e = by_memory i place _ _ refl refl w qs e
  steps_sound Trivial w place qs (inl (m, e)) = nothing_left ds scope q t qs (same_given [] qs (sym e)) (closed_leads ds scope q t m)
  steps_sound Trivial w place qs (inr (m, e)) = subst (LeadTo ds q) (same_given (q ∷ []) qs (sym e)) left
  steps_sound Done w place qs (inl (m, e)) = nothing_left ds scope q t qs (same_given [] qs (sym e)) (closed_leads ds scope q t m)
  steps_sound Done w place qs (inr (m, e)) = refused_at Shape place qs (sym e)
  steps_sound Split w place qs e = by_its_parts ds scope q t Split place qs e
  steps_sound Left w place qs e = by_its_parts ds scope q t Left place qs e
  steps_sound Right w place qs e = by_its_parts ds scope q t Right place qs e
  steps_sound Discard w place qs e = by_its_parts ds scope q t Discard place qs e
  steps_sound Unpack w place qs e = by_its_parts ds scope q t Unpack place qs e
  steps_sound Branch w place qs e = by_its_parts ds scope q t Branch place qs e

-- Answers.

decided : (P : Type 0) → Dec P → (x y : Answer (List Sequent)) → (r : Answer (List Sequent)) × Decides P x y r
decided P (yes p) x y = (x, inl (p, refl))
decided P (no n) x y = (y, inr (n, refl))

one_decided : (P : Type 0) (x y r t : Answer (List Sequent)) → Decides P x y r → Decides P x y t → r ≡ t
one_decided P x y r t (inl (p, e)) (inl (u, k)) = e ∙ sym k
one_decided P x y r t (inl (p, e)) (inr (u, k)) = absurd (u p)
one_decided P x y r t (inr (p, e)) (inl (u, k)) = absurd (p u)
one_decided P x y r t (inr (p, e)) (inr (u, k)) = e ∙ sym k

pub some_answer : (r : AmbientRule) (place : Place) (q : Sequent) → (x : Answer (List Sequent)) × IsAnswer r place q x
some_answer Assumption place q = decided (IsAmong q.hyps q.conclusion) (among q.hyps q.conclusion) (given []) (refused Shape place)
some_answer (Case f) place q = (by_cases f place q, refl)
some_answer (Have name f) place q = (given (concluding q f ∷ assuming q name f ∷ []), refl)
some_answer (Witness e) place q = (witnessed e place q, refl)
some_answer (WitnessMemory i) place q = (memory_witnessed i place q, refl)
some_answer Trivial place q = decided (IsClosed q) (closed q) (given []) (given (q ∷ []))
some_answer Done place q = decided (IsClosed q) (closed q) (given []) (refused Shape place)
some_answer Split place q = (by_parts Split place q, refl)
some_answer Left place q = (by_parts Left place q, refl)
some_answer Right place q = (by_parts Right place q, refl)
some_answer Discard place q = (by_parts Discard place q, refl)
some_answer Unpack place q = (by_parts Unpack place q, refl)
some_answer Branch place q = (by_parts Branch place q, refl)
some_answer (Introduce x) place q = (introduced (Introduce x) place q, refl)
some_answer (IntroduceMemory x) place q = (introduced (IntroduceMemory x) place q, refl)

pub one_answer : (r : AmbientRule) (place : Place) (q : Sequent) (x y : Answer (List Sequent)) → IsAnswer r place q x → IsAnswer r place q y → x ≡ y
one_answer Assumption place q x y h k = one_decided (IsAmong q.hyps q.conclusion) (given []) (refused Shape place) x y h k
one_answer (Case f) place q x y h k = h ∙ sym k
one_answer (Have name f) place q x y h k = h ∙ sym k
one_answer (Witness e) place q x y h k = h ∙ sym k
one_answer (WitnessMemory i) place q x y h k = h ∙ sym k
one_answer Trivial place q x y h k = one_decided (IsClosed q) (given []) (given (q ∷ [])) x y h k
one_answer Done place q x y h k = one_decided (IsClosed q) (given []) (refused Shape place) x y h k
one_answer Split place q x y h k = h ∙ sym k
one_answer Left place q x y h k = h ∙ sym k
one_answer Right place q x y h k = h ∙ sym k
one_answer Discard place q x y h k = h ∙ sym k
one_answer Unpack place q x y h k = h ∙ sym k
one_answer Branch place q x y h k = h ∙ sym k
one_answer (Introduce n) place q x y h k = h ∙ sym k
one_answer (IntroduceMemory n) place q x y h k = h ∙ sym k
