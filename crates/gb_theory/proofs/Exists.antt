-- Each script comes to something.
use Rattle.std.specs.Prelude.{◌≡◌, ◌⊎◌, ℕ, zero, suc, ◌<◌, ◌≤◌, List, [], ◌∷◌, length, take, drop, Option, Some, None}
use Rattle.std.proofs.Common.{refl, sym, subst, inl, inr, ⊎_elim, arith, length-drop}
use Rattle.gb_core.specs.declared.place.Place.{Place}
use Rattle.gb_core.specs.declared.refusal.Refused.TheVariants.{Script}
use Rattle.gb_core.specs.declared.refusal.Why.{Why}
use Rattle.gb_core.specs.declared.refusal.Why.TheVariants.{Character, NoGoal, Unclosed}
use Rattle.gb_goal.specs.Scope.{Declarations}
use Rattle.gb_goal.specs.declared.sequent.Sequent.{Sequent}
use Rattle.gb_steps.specs.declared.step.AmbientRule.{AmbientRule}
use Rattle.gb_steps.specs.declared.step.UseRule.{UseRule}
use Rattle.gb_steps.specs.declared.step.RelationalRule.{RelationalRule}
use Rattle.gb_steps.specs.declared.step.RelationalRule.TheVariants as on_both
use Rattle.gb_steps.specs.declared.step.Rule.{Rule}
use Rattle.gb_steps.specs.declared.step.Rule.TheVariants as rule
use Rattle.gb_lex.specs.Lex.{tokens_of, fault_of, IsCharacterFault, cut_of}
use Rattle.gb_lex.specs.declared.token.Cut.{Cut}
use Rattle.gb_lex.specs.declared.token.Cut.TheVariants as cut
use Rattle.gb_lex.specs.PlaceAfter.{place_after}
use Rattle.gb_script.specs.declared.head.Head.{Head}
use Rattle.gb_script.specs.declared.head.Head.TheVariants as head
use Rattle.gb_script.specs.declared.text.Text.{Text}
use Rattle.gb_script.specs.declared.tree.Node.{Node}
use Rattle.gb_script.specs.Tree.{head_of, text_of, parts_of, place_of}
use Rattle.gb_language.specs.declared.rows.TheConstants.{COMMAND}
use Rattle.gb_language.specs.Language.{IsPart}
use Rattle.gb_limits.specs.Lexeme.{text_at}
use Rattle.gb_read_script.specs.Reading.{SpellsTree, IsRefusal, IsAllowed}
use Rattle.gb_goal.specs.Answers.{Answer, ◌>>=◌, not_built, placed_at}
use Rattle.gb_goal.specs.Answers.Answer.{given, refused}
use Rattle.gb_elab_mod.specs.Steps.{step_given}
use Rattle.gb_goal.specs.Rows.{stepped}
use Rattle.gb_smt.specs.declared.leaves.Leaf.{Leaf}
use Rattle.gb_smt.specs.Leaves.{leaves_of}
use Rattle.gb_smt.specs.Apply.{IsAnswerOf}
use Rattle.gb_amb.specs.Steps.{IsAnswer}
use Rattle.gb_linear.specs.Closing.{linear_answer}
use Rattle.gb_amb.specs.Uses as uses
use Rattle.gb_call_both.proofs.Answered as known_calls
use Rattle.gb_sim.proofs.Answered as same_statements
use Rattle.gb_rewrite.specs.Rewriting.{rewrite_answer}
use Rattle.gb_theory.specs.Built.{Session, OpenProof, fresh_session, seen_in}
use Rattle.gb_theory.specs.Commands.{After, requires_files, assumes, brings, declares, opens, opens_loops, begun, ended, closed_unless, row_of, Applied, allowed, entered, OnBoth, RuleAnswers, AreRules, continued, WorksOn, InProof, Proves, ComesToOf, ComesTo, transformed}
use Rattle.gb_theory.specs.Combinators.{Stepping, works}
use Rattle.gb_theory.specs.Outcome.{IsReadAs, IsEnd, Ends, Goes, RunsIn, start, IsOutcome}

-- Some answer is such.
abbrev Some_of : {X : Type 0} → (Answer X → Type 0) → Type 0
Some_of {X} P = (r : Answer X) × P r

after : {X Y : Type 0} (x : Answer X) (P : X → Answer Y → Type 0) → ((a : X) → Some_of (P a)) → Some_of (After x P)
after (given a) P some = some a
after (refused why place) P some = (refused why place, refl)

in_proof : (o : Option OpenProof) (place : Place) (P : OpenProof → Answer Session → Type 0) → ((p : OpenProof) → Some_of (P p)) → Some_of (InProof o place P)
in_proof None place P some = (refused NoGoal place, refl)
in_proof (Some p) place P some = some p

-- where `smt` finds something of all leaves
module _
    (an_answer : (ds : Declarations) (leaves : List Leaf) → (a : Option Why) × IsAnswerOf ds leaves a)
    (some_answer : (r : AmbientRule) (place : Place) (q : Sequent) → (x : Answer (List Sequent)) × IsAnswer r place q x)
    (some_use_answer : (r : UseRule) (place : Place) (q : Sequent) → (x : Answer (List Sequent)) × uses.IsAnswer r place q x) where
  on_both_applied : (ds : Declarations) (r : RelationalRule) (place : Place) (q : Sequent) → Some_of (OnBoth ds r place q)
  on_both_applied ds on_both.Sim place q = same_statements.some_answer ds place q
  on_both_applied ds (on_both.Rnd fs) place q = (stepped (row_of ds (rule.Relational (on_both.Rnd fs))) place q, refl)
  on_both_applied ds on_both.Symmetry place q = (stepped (row_of ds (rule.Relational on_both.Symmetry)) place q, refl)
  on_both_applied ds (on_both.Drawn a) place q = (stepped (row_of ds (rule.Relational (on_both.Drawn a))) place q, refl)
  on_both_applied ds (on_both.Transitivity t) place q = (stepped (row_of ds (rule.Relational (on_both.Transitivity t))) place q, refl)

  applied : (ds : Declarations) (r : Rule) (place : Place) (q : Sequent) → Some_of (Applied ds r place q)
  applied ds (rule.Smt known) place q = let found = an_answer ds (leaves_of known q) in (closed_unless found.0 place, (found.0, found.1, refl))
  applied ds (rule.OnBodies r) place q = (entered ds r place q, refl)
  applied ds (rule.Relational r) place q = on_both_applied ds r place q
  applied ds (rule.Chance r) place q = (stepped (row_of ds (rule.Chance r)) place q, refl)
  applied ds (rule.Probability r) place q = (stepped (row_of ds (rule.Probability r)) place q, refl)
  applied ds (rule.Call s) place q = (stepped (row_of ds (rule.Call s)) place q, refl)
  applied ds (rule.Abstract r) place q = (stepped (row_of ds (rule.Abstract r)) place q, refl)
  applied ds (rule.CallKnown a f) place q = known_calls.some_answer ds a f place q
  applied ds (rule.While i) place q = (stepped (row_of ds (rule.While i)) place q, refl)
  applied ds (rule.Transform a k) place q = (transformed ds a k place q, refl)
  applied ds (rule.Ambient r) place q = some_answer r place q
  applied ds (rule.Linear ms) place q = (linear_answer ms place q, refl)
  applied ds (rule.Use r) place q = some_use_answer r place q
  applied ds (rule.Rewrite r) place q = (rewrite_answer ds r place q, refl)

  rule_answers : (ds : Declarations) (t : Node) (q : Sequent) → Some_of (RuleAnswers ds t q)
  rule_answers ds t q =
      after (step_given ds q t) (λ step x. (y : Answer (List Sequent)) × Applied ds step.rule step.place q y × (x ≡ (y >>= allowed step.place)))
      (λ step. let y = applied ds step.rule step.place q in (y.0 >>= allowed step.place, (y.0, y.1, refl)))

  abbrev rules : Declarations → Node → Stepping
  rules ds t q = (rule_answers ds t q).0

  pub all_rules : (ds : Declarations) → (f : Node → Stepping) × AreRules ds f
  all_rules ds = (rules ds, λ t q. (rule_answers ds t q).1)

  worked_on : (qs : List Sequent) (s : Session) (p : OpenProof) (tree : Node) (place : Place) → Some_of (WorksOn qs s p tree place)
  worked_on [] s p tree place = (refused NoGoal place, refl)
  worked_on (q ∷ rest) s p tree place =
      let ds : Declarations = seen_in s.scope p.claim in
      (works ds (rules ds) tree (q ∷ []) >>= continued s p rest place, (rules ds, (λ t q. (rule_answers ds t q).1), refl))

  proved : (s : Session) (tree : Node) (place : Place) → Some_of (Proves s tree place)
  proved s tree place = in_proof s.proof place (λ p. WorksOn p.goals s p tree place) (λ p. worked_on p.goals s p tree place)

  come_of : (s : Session) (c : Node) (h : Head) (parts : List Node) → Some_of (ComesToOf s c h parts)
  come_of s c head.Require (import ∷ names ∷ []) = (requires_files s (parts_of names) (place_of c), refl)
  come_of s c head.TypeDeclaration parts = (brings s c (place_of c), refl)
  come_of s c head.OperatorDeclaration parts = (brings s c (place_of c), refl)
  come_of s c head.ModuleType parts = (brings s c (place_of c), refl)
  come_of s c head.Axiom parts = (assumes s (place_of c), refl)
  come_of s c head.Module parts = (declares s c (place_of c), refl)
  come_of s c head.AscribedModule parts = (declares s c (place_of c), refl)
  come_of s c head.Lemma (name ∷ parts) = (opens s c (text_of name) (place_of c), refl)
  come_of s c head.Termination (path ∷ []) = (opens_loops s path (place_of c), refl)
  come_of s c head.Proof parts = in_proof s.proof (place_of c) (λ p x. x ≡ begun s p (place_of c)) (λ p. (begun s p (place_of c), refl))
  come_of s c head.Qed parts = in_proof s.proof (place_of c) (λ p x. x ≡ ended p.goals s p (place_of c)) (λ p. (ended p.goals s p (place_of c), refl))
  come_of s c head.Tactic (step ∷ more) = proved s c (place_of step)
  come_of s c head.Local parts = (refused NoGoal (place_of c), refl)
  come_of s c head.Declare parts = (refused NoGoal (place_of c), refl)
  come_of s c head.EndSection parts = (refused NoGoal (place_of c), refl)
  come_of s c head.EndTheory parts = (refused NoGoal (place_of c), refl)
  come_of s c _ _ = (not_built (place_of c), refl)

  pub command : (s : Session) (c : Node) → Some_of (ComesTo s c)
  command s c =
      let x = come_of s c (head_of c) (parts_of c) in
      (placed_at (place_of c) x.0, (x.0, x.1, refl))

  -- where each text is read or refused, and commands that are cut off have bytes
  module _
      (fault_place : (text : List ℕ) (at : Place) → (fault_of text ≡ None) ⊎ ((place : Place) × IsCharacterFault text at (Script Character place)))
      (read_or_refused : (part : ℕ) (t : Text) → IsPart part → ((x : Node) × SpellsTree part t x × IsAllowed part t) ⊎ ((why : Why) × (place : Place) × IsRefusal part t why place))
      (command_bytes : (text : List ℕ) (from to : ℕ) → cut_of text from ≡ cut.Command to → (from < to) × (to ≤ length text)) where
    read_text : (piece : List ℕ) (at : Place) → fault_of piece ≡ None → Some_of (IsReadAs piece at)
    read_text piece at faultless =
        let t : Text = text_at piece at (tokens_of piece) in
        ⊎_elim (λ (x : (c : Node) × SpellsTree COMMAND t c × IsAllowed COMMAND t). (given x.0, (faultless, x.1, x.2)))
        (λ (x : (why : Why) × (place : Place) × IsRefusal COMMAND t why place). (refused x.0 x.1, inr (faultless, x.2)))
        (read_or_refused COMMAND t (inl refl))

    pub read : (piece : List ℕ) (at : Place) → Some_of (IsReadAs piece at)
    read piece at =
        ⊎_elim (λ (faultless : fault_of piece ≡ None). read_text piece at faultless)
        (λ (x : (place : Place) × IsCharacterFault piece at (Script Character place)). (refused Character x.0, inl x.1))
        (fault_place piece at)

    end : (s : Session) (o : Option OpenProof) (place : Place) → Some_of (IsEnd s o place)
    end s None place = (given s, refl)
    end s (Some p) place = (refused Unclosed place, refl)

    -- The rest of a text comes to something, in some number of commands.
    abbrev Comes : Session → Place → List ℕ → Type 0
    Comes s at rest = (r : Answer Session) × (n : ℕ) × RunsIn n s at rest r

    abbrev Follows : Answer Session → Place → List ℕ → Type 0
    Follows y at rest = (r : Answer Session) × (n : ℕ) × After y (λ (next : Session). RunsIn n next at rest) r

    follow : (y : Answer Session) (at : Place) (rest : List ℕ) → ((next : Session) → Comes next at rest) → Follows y at rest
    follow (given next) at rest go = go next
    follow (refused why place) at rest go = (refused why place, zero, refl)

    -- where a command of so many bytes is cut off
    run_command : (to : ℕ) (s : Session) (at : Place) (rest : List ℕ) → cut_of rest 0 ≡ cut.Command to
        → ((next : Session) → Comes next (place_after at (take to rest)) (drop to rest)) → Comes s at rest
    run_command to s at rest e go =
        let x = read (take to rest) at in
        let y = after x.0 (ComesTo s) (command s) in
        let z = follow y.0 (place_after at (take to rest)) (drop to rest) go in
        (z.0, suc z.1, subst (λ (c : Cut). Goes c (RunsIn z.1) s at rest z.0) (sym e) (x.0, x.1, (y.0, y.1, z.2)))

    by_cut : (c : Cut) (s : Session) (at : Place) (rest : List ℕ) → cut_of rest 0 ≡ c
        → ((to : ℕ) → cut_of rest 0 ≡ cut.Command to → (next : Session) → Comes next (place_after at (take to rest)) (drop to rest)) → Comes s at rest
    by_cut (cut.Command to) s at rest e go = run_command to s at rest e (go to e)
    by_cut cut.End s at rest e go =
        let x = end s s.proof (place_after at rest) in
        (x.0, zero, subst (λ (c : Cut). Ends c s at rest x.0) (sym e) x.1)
    by_cut cut.Rest s at rest e go =
        (refused Unclosed (place_after at rest), zero, subst (λ (c : Cut). Ends c s at rest (refused Unclosed (place_after at rest))) (sym e) refl)

    runs : (size : ℕ) (s : Session) (at : Place) (rest : List ℕ) → length rest < size → Comes s at rest
    runs zero s at rest less = absurd (omega arith)
    runs (suc size) s at rest less =
        by_cut (cut_of rest 0) s at rest refl
        (λ to e next.
        let some = command_bytes rest 0 to e in
        runs size next (place_after at (take to rest)) (drop to rest) (omega (arith, less, some.0, some.1, length-drop to rest)))

    pub outcome : (text : List ℕ) → (r : Answer Session) × IsOutcome text r
    outcome text =
        let x = runs (suc (length text)) fresh_session start text (omega arith) in
        (x.0, (x.1, x.2))
