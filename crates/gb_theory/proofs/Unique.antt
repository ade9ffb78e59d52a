-- A script comes to one thing at most.
use Rattle.std.specs.Prelude.{◌≡◌, ℕ, zero, suc, List, [], ◌∷◌, take, drop, Option, Some, None}
use Rattle.std.proofs.Common.{refl, ap, sym, subst, ◌∙◌, inl, inr}
use Rattle.gb_core.specs.declared.place.Place.{Place}
use Rattle.gb_core.specs.declared.refusal.Refused.{Refused}
use Rattle.gb_core.specs.declared.refusal.Refused.TheVariants.{Script}
use Rattle.gb_core.specs.declared.refusal.Why.{Why}
use Rattle.gb_core.specs.declared.refusal.Why.TheVariants.{Character}
use Rattle.gb_goal.specs.Scope.{Declarations}
use Rattle.gb_goal.specs.declared.sequent.Sequent.{Sequent}
use Rattle.gb_steps.specs.declared.step.AmbientRule.{AmbientRule}
use Rattle.gb_steps.specs.declared.step.UseRule.{UseRule}
use Rattle.gb_steps.specs.declared.step.Step.{Step}
use Rattle.gb_steps.specs.declared.step.RelationalRule.{RelationalRule}
use Rattle.gb_steps.specs.declared.step.RelationalRule.TheVariants as on_both
use Rattle.gb_steps.specs.declared.step.Rule.{Rule}
use Rattle.gb_steps.specs.declared.step.Rule.TheVariants as rule
use Rattle.gb_lex.specs.Lex.{tokens_of, fault_of, IsCharacterFault, cut_of}
use Rattle.gb_lex.specs.declared.token.Cut.{Cut}
use Rattle.gb_lex.specs.declared.token.Cut.TheVariants as cut
use Rattle.gb_lex.specs.PlaceAfter.{place_after}
use Rattle.gb_script.specs.declared.head.Head.{Head}
use Rattle.gb_script.specs.declared.head.Head.TheVariants as head
use Rattle.gb_script.specs.declared.text.Text.{Text}
use Rattle.gb_script.specs.declared.tree.Node.{Node}
use Rattle.gb_script.specs.Tree.{head_of, parts_of, place_of}
use Rattle.gb_language.specs.declared.rows.TheConstants.{COMMAND}
use Rattle.gb_language.specs.Language.{IsPart}
use Rattle.gb_limits.specs.Lexeme.{text_at}
use Rattle.gb_read_script.specs.Reading.{SpellsCommand, IsRefusal, IsAllowed}
use Rattle.gb_goal.specs.Answers.{Answer, ◌>>=◌, placed_at}
use Rattle.gb_goal.specs.Answers.Answer.{given, refused}
use Rattle.gb_elab_mod.specs.Steps.{step_given}
use Rattle.gb_smt.specs.declared.leaves.Leaf.{Leaf}
use Rattle.gb_smt.specs.Leaves.{leaves_of}
use Rattle.gb_smt.specs.Apply.{IsAnswerOf}
use Rattle.gb_amb.specs.Steps.{IsAnswer}
use Rattle.gb_amb.specs.Uses as uses
use Rattle.gb_call_both.proofs.Answered as known_calls
use Rattle.gb_sim.proofs.Answered as same_statements
use Rattle.gb_theory.specs.Built.{Session, OpenProof, fresh_session, seen_in}
use Rattle.gb_theory.specs.Commands.{After, closed_unless, Applied, OnBoth, allowed, RuleAnswers, AreRules, continued, WorksOn, InProof, Proves, ComesToOf, ComesTo}
use Rattle.gb_theory.specs.Combinators.{Stepping, works}
use Rattle.std.proofs.Math.Path.{fun_ext}
use Rattle.gb_theory.specs.Outcome.{IsReadAs, IsEnd, Ends, RunsTo, Goes, RunsIn, start, IsOutcome}

-- answers that go on from one answer are one where what follows is one
after_same : {X Y : Type 0} (x : Answer X) (P Q : X → Answer Y → Type 0) → ((a : X) (r s : Answer Y) → P a r → Q a s → r ≡ s)
    → (r s : Answer Y) → After x P r → After x Q s → r ≡ s
after_same (given a) P Q one r s h k = one a r s h k
after_same (refused why place) P Q one r s h k = h ∙ sym k

in_proof_same : (o : Option OpenProof) (place : Place) (P : OpenProof → Answer Session → Type 0)
    → ((p : OpenProof) (r s : Answer Session) → P p r → P p s → r ≡ s) → (r s : Answer Session) → InProof o place P r → InProof o place P s → r ≡ s
in_proof_same None place P one r s h k = h ∙ sym k
in_proof_same (Some p) place P one r s h k = one p r s h k

-- where what `smt` finds is one
module _
    (one_answer : (ds : Declarations) (leaves : List Leaf) (a b : Option Why) → IsAnswerOf ds leaves a → IsAnswerOf ds leaves b → a ≡ b)
    (one_step_answer : (r : AmbientRule) (place : Place) (q : Sequent) (x y : Answer (List Sequent)) → IsAnswer r place q x → IsAnswer r place q y → x ≡ y)
    (one_use_answer : (r : UseRule) (place : Place) (q : Sequent) (x y : Answer (List Sequent)) → uses.IsAnswer r place q x → uses.IsAnswer r place q y → x ≡ y) where
  one_on_both : (ds : Declarations) (r : RelationalRule) (place : Place) (q : Sequent) (x y : Answer (List Sequent)) → OnBoth ds r place q x → OnBoth ds r place q y → x ≡ y
  one_on_both ds on_both.Sim place q x y h k = same_statements.one_answer ds place q x y h k
  one_on_both ds (on_both.Rnd fs) place q x y h k = h ∙ sym k
  one_on_both ds on_both.Symmetry place q x y h k = h ∙ sym k
  one_on_both ds (on_both.Drawn a) place q x y h k = h ∙ sym k
  one_on_both ds (on_both.Transitivity t) place q x y h k = h ∙ sym k

  one_applied : (ds : Declarations) (r : Rule) (place : Place) (q : Sequent) (x y : Answer (List Sequent)) → Applied ds r place q x → Applied ds r place q y → x ≡ y
  one_applied ds (rule.Smt known) place q x y h k =
      h.2 ∙ (ap (λ (found : Option Why). closed_unless found place) (one_answer ds (leaves_of known q) h.0 k.0 h.1 k.1) ∙ sym k.2)
  one_applied ds (rule.OnBodies r) place q x y h k = h ∙ sym k
  one_applied ds (rule.Relational r) place q x y h k = one_on_both ds r place q x y h k
  one_applied ds (rule.Chance r) place q x y h k = h ∙ sym k
  one_applied ds (rule.Probability r) place q x y h k = h ∙ sym k
  one_applied ds (rule.Call s) place q x y h k = h ∙ sym k
  one_applied ds (rule.Abstract r) place q x y h k = h ∙ sym k
  one_applied ds (rule.CallKnown a f) place q x y h k = known_calls.one_answer ds a f place q x y h k
  one_applied ds (rule.While i) place q x y h k = h ∙ sym k
  one_applied ds (rule.Transform a t) place q x y h k = h ∙ sym k
  one_applied ds (rule.Ambient r) place q x y h k = one_step_answer r place q x y h k
  one_applied ds (rule.Linear ms) place q x y h k = h ∙ sym k
  one_applied ds (rule.Use r) place q x y h k = one_use_answer r place q x y h k
  one_applied ds (rule.Rewrite r) place q x y h k = h ∙ sym k

  -- the answer of a typed rule, within the limits of a goal
  abbrev Ruled : Declarations → Sequent → Step → Answer (List Sequent) → Type 0
  Ruled ds q step x = (y : Answer (List Sequent)) × Applied ds step.rule step.place q y × (x ≡ (y >>= allowed step.place))

  pub one_rule : (ds : Declarations) (t : Node) (q : Sequent) (x y : Answer (List Sequent)) → RuleAnswers ds t q x → RuleAnswers ds t q y → x ≡ y
  one_rule ds t q x y h k =
      after_same (step_given ds q t) (Ruled ds q) (Ruled ds q)
      (λ step a b u v. u.2 ∙ (ap (λ (z : Answer (List Sequent)). z >>= allowed step.place) (one_applied ds step.rule step.place q u.0 v.0 u.1 v.1) ∙ sym v.2)) x y h k

  one_way : (ds : Declarations) (f g : Node → Stepping) → AreRules ds f → AreRules ds g → f ≡ g
  one_way ds f g h k = fun_ext (λ t. fun_ext (λ q. one_rule ds t q (f t q) (g t q) (h t q) (k t q)))

  one_on : (qs : List Sequent) (s : Session) (p : OpenProof) (tree : Node) (place : Place) (r t : Answer Session) → WorksOn qs s p tree place r → WorksOn qs s p tree place t → r ≡ t
  one_on [] s p tree place r t h k = h ∙ sym k
  one_on (q ∷ rest) s p tree place r t h k =
      h.2 ∙ (ap (λ (f : Node → Stepping). works (seen_in s.scope p.claim) f tree (q ∷ []) >>= continued s p rest place) (one_way (seen_in s.scope p.claim) h.0 k.0 h.1 k.1) ∙ sym k.2)

  one_proved : (s : Session) (tree : Node) (place : Place) (r t : Answer Session) → Proves s tree place r → Proves s tree place t → r ≡ t
  one_proved s tree place r t h k = in_proof_same s.proof place _ (λ p x y. one_on p.goals s p tree place x y) r t h k

  one_of : (s : Session) (c : Node) (h : Head) (parts : List Node) (r t : Answer Session) → ComesToOf s c h parts r → ComesToOf s c h parts t → r ≡ t
  one_of s c head.Require (import ∷ names ∷ []) r t h k = h ∙ sym k
  one_of s c head.Module parts r t h k = h ∙ sym k
  one_of s c head.AscribedModule parts r t h k = h ∙ sym k
  one_of s c head.Lemma (name ∷ parts) r t h k = h ∙ sym k
  one_of s c head.Termination (path ∷ []) r t h k = h ∙ sym k
  one_of s c head.Proof parts r t h k = in_proof_same s.proof (place_of c) _ (λ p x y a b. a ∙ sym b) r t h k
  one_of s c head.Qed parts r t h k = in_proof_same s.proof (place_of c) _ (λ p x y a b. a ∙ sym b) r t h k
  one_of s c head.Tactic (step ∷ more) r t h k = one_proved s c (place_of step) r t h k
  one_of s c _ _ r t h k = h ∙ sym k

  one_command : (s : Session) (c : Node) (r t : Answer Session) → ComesTo s c r → ComesTo s c t → r ≡ t
  one_command s c r t h k =
      h.2 ∙ (ap (λ (x : Answer Session). placed_at (place_of c) x) (one_of s c (head_of c) (parts_of c) h.0 k.0 h.1 k.1) ∙ sym k.2)

no_and_some : (o : Option ℕ) (n : ℕ) → o ≡ None → o ≡ Some n → ⊥
no_and_some o n e f = let x : None ≡ Some n = sym e ∙ f in absurd (cc)

no_fault : (piece : List ℕ) (at : Place) (e : Refused) → fault_of piece ≡ None → IsCharacterFault piece at e → ⊥
no_fault piece at e none fault = no_and_some (fault_of piece) fault.0 none fault.1

one_offset : (o : Option ℕ) (m n : ℕ) → o ≡ Some m → o ≡ Some n → m ≡ n
one_offset o m n e f = let x : Some m ≡ Some n = sym e ∙ f in cc

-- a piece that is refused
abbrev no_command : Why → Place → Answer Node
no_command why place = refused why place

one_script : (v w : Why) (p q : Place) → Script v p ≡ Script w q → no_command v p ≡ refused w q
one_script v w p q e = let a : v ≡ w = cc in let b : p ≡ q = cc in cc

one_fault : (piece : List ℕ) (at : Place) (v w : Why) (p q : Place) → IsCharacterFault piece at (Script v p) → IsCharacterFault piece at (Script w q) → no_command v p ≡ refused w q
one_fault piece at v w p q x y =
    let e = one_offset (fault_of piece) x.0 y.0 x.1 y.1 in
    one_script v w p q (x.2 ∙ (ap (λ (n : ℕ). Script Character (place_after at (take n piece))) e ∙ sym y.2))

one_pair : (v w : Why) (p q : Place) → (v ≡ w) × (p ≡ q) → no_command v p ≡ refused w q
one_pair v w p q e = ap (λ (x : Why). refused x p) e.0 ∙ ap (λ (x : Place). refused w x) e.1

-- where what texts spell and why they are refused is one
module _
    (one_answer : (ds : Declarations) (leaves : List Leaf) (a b : Option Why) → IsAnswerOf ds leaves a → IsAnswerOf ds leaves b → a ≡ b)
    (one_step_answer : (r : AmbientRule) (place : Place) (q : Sequent) (x y : Answer (List Sequent)) → IsAnswer r place q x → IsAnswer r place q y → x ≡ y)
    (one_use_answer : (r : UseRule) (place : Place) (q : Sequent) (x y : Answer (List Sequent)) → uses.IsAnswer r place q x → uses.IsAnswer r place q y → x ≡ y)
    (one_spelled : (t : Text) (c d : Node) → SpellsCommand t c → SpellsCommand t d → c ≡ d)
    (one_refusal : (part : ℕ) (t : Text) (v w : Why) (p q : Place) → IsPart part → IsRefusal part t v p → IsRefusal part t w q → (v ≡ w) × (p ≡ q))
    (no_refusal : (part : ℕ) (t : Text) (w : Why) (p : Place) → IsPart part → IsAllowed part t → IsRefusal part t w p → ⊥) where
  read_and_refused : (piece : List ℕ) (at : Place) (c : Node) (why : Why) (place : Place) → IsReadAs piece at (given c) → IsReadAs piece at (refused why place) → ⊥
  read_and_refused piece at c why place h (inl fault) = no_fault piece at (Script why place) h.0 fault
  read_and_refused piece at c why place h (inr k) = no_refusal COMMAND (text_at piece at (tokens_of piece)) why place (inl refl) h.2 k.1

  one_refused : (piece : List ℕ) (at : Place) (v w : Why) (p q : Place) → IsReadAs piece at (refused v p) → IsReadAs piece at (refused w q) → no_command v p ≡ refused w q
  one_refused piece at v w p q (inl x) (inl y) = one_fault piece at v w p q x y
  one_refused piece at v w p q (inl x) (inr y) = absurd (no_fault piece at (Script v p) y.0 x)
  one_refused piece at v w p q (inr x) (inl y) = absurd (no_fault piece at (Script w q) x.0 y)
  one_refused piece at v w p q (inr x) (inr y) = one_pair v w p q (one_refusal COMMAND (text_at piece at (tokens_of piece)) v w p q (inl refl) x.1 y.1)

  one_read : (piece : List ℕ) (at : Place) (x y : Answer Node) → IsReadAs piece at x → IsReadAs piece at y → x ≡ y
  one_read piece at (given c) (given d) h k = ap (λ (x : Node). given x) (one_spelled (text_at piece at (tokens_of piece)) c d h.1 k.1)
  one_read piece at (given c) (refused why place) h k = absurd (read_and_refused piece at c why place h k)
  one_read piece at (refused why place) (given c) h k = absurd (read_and_refused piece at c why place k h)
  one_read piece at (refused v p) (refused w q) h k = one_refused piece at v w p q h k

  -- predicates on what the rest of a text comes to
  abbrev Rest : Type 1
  Rest = Session → Place → List ℕ → Answer Session → Type 0

  abbrev AreOne : Rest → Rest → Type 0
  AreOne P Q = (s : Session) (at : Place) (rest : List ℕ) (r t : Answer Session) → P s at rest r → Q s at rest t → r ≡ t

  one_turn : (c : Cut) (P Q : Rest) → AreOne P Q → (s : Session) (at : Place) (rest : List ℕ) (r t : Answer Session) → Goes c P s at rest r → Goes c Q s at rest t → r ≡ t
  one_turn (cut.Command to) P Q one s at rest r t h k =
      let read : k.0 ≡ h.0 = one_read (take to rest) at k.0 h.0 k.1 h.1 in
      let came : RunsTo s h.0 k.2.0 = subst (λ (x : Answer Node). RunsTo s x k.2.0) read k.2.1 in
      let next : k.2.0 ≡ h.2.0 = after_same h.0 (ComesTo s) (ComesTo s) (one_command one_answer one_step_answer one_use_answer s) k.2.0 h.2.0 came h.2.1 in
      after_same h.2.0 (λ (n : Session). P n (place_after at (take to rest)) (drop to rest)) (λ (n : Session). Q n (place_after at (take to rest)) (drop to rest))
      (λ n x y. one n (place_after at (take to rest)) (drop to rest) x y) r t h.2.2
      (subst (λ (y : Answer Session). After y (λ (n : Session). Q n (place_after at (take to rest)) (drop to rest)) t) next k.2.2)
  one_turn cut.End P Q one s at rest r t h k = absurd h
  one_turn cut.Rest P Q one s at rest r t h k = absurd h

  one_end : (s : Session) (o : Option OpenProof) (place : Place) (r t : Answer Session) → IsEnd s o place r → IsEnd s o place t → r ≡ t
  one_end s None place r t h k = h ∙ sym k
  one_end s (Some p) place r t h k = h ∙ sym k

  one_ended : (c : Cut) (s : Session) (at : Place) (rest : List ℕ) (r t : Answer Session) → Ends c s at rest r → Ends c s at rest t → r ≡ t
  one_ended (cut.Command to) s at rest r t h k = absurd h
  one_ended cut.End s at rest r t h k = one_end s s.proof (place_after at rest) r t h k
  one_ended cut.Rest s at rest r t h k = h ∙ sym k

  ends_or_goes : (c : Cut) (P : Rest) (s : Session) (at : Place) (rest : List ℕ) (r t : Answer Session) → Ends c s at rest r → Goes c P s at rest t → ⊥
  ends_or_goes (cut.Command to) P s at rest r t h k = h
  ends_or_goes cut.End P s at rest r t h k = k
  ends_or_goes cut.Rest P s at rest r t h k = k

  one_run : (n m : ℕ) → AreOne (RunsIn n) (RunsIn m)
  one_run zero zero s at rest r t h k = one_ended (cut_of rest 0) s at rest r t h k
  one_run zero (suc m) s at rest r t h k = absurd (ends_or_goes (cut_of rest 0) (RunsIn m) s at rest r t h k)
  one_run (suc n) zero s at rest r t h k = absurd (ends_or_goes (cut_of rest 0) (RunsIn n) s at rest t r k h)
  one_run (suc n) (suc m) s at rest r t h k = one_turn (cut_of rest 0) (RunsIn n) (RunsIn m) (one_run n m) s at rest r t h k

  pub one_outcome : (text : List ℕ) (r s : Answer Session) → IsOutcome text r → IsOutcome text s → r ≡ s
  one_outcome text r s h k = one_run h.0 k.0 fresh_session start text r s h.1 k.1
