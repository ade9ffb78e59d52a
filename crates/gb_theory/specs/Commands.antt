-- What each command comes to: the next session, or its first refusal.
use Rattle.std.specs.Prelude.{◌≡◌, ◌||◌, ℕ, Bool, true, List, [], ◌∷◌, ◌++◌, length, Option, Some, None, if◌then◌else◌, codes, bytes_eq}
use Rattle.gb_core.specs.declared.place.Place.{Place}
use Rattle.gb_core.specs.declared.refusal.Why.{Why}
use Rattle.gb_core.specs.declared.refusal.Why.TheVariants.{LeftOut, NoGoal, OpenGoals, Shape, TooMany, UnprovedLoop}
use Rattle.gb_goal.specs.Goal.{Goal, goal_of}
use Rattle.gb_goal.specs.Scope.{Declarations, declarations_in, path_of}
use Rattle.gb_goal.specs.declared.scope.ProcName.{ProcName}
use Rattle.gb_goal.specs.declared.sequent.Sequent.{Sequent}
use Rattle.gb_steps.specs.declared.step.Acts.{Acts}
use Rattle.gb_steps.specs.declared.step.Acts.TheVariants as acts
use Rattle.gb_steps.specs.declared.step.BodyRule.{BodyRule}
use Rattle.gb_steps.specs.declared.step.BodyRule.TheVariants as on_bodies
use Rattle.gb_steps.specs.declared.step.RelationalRule.{RelationalRule}
use Rattle.gb_steps.specs.declared.step.RelationalRule.TheVariants as on_both
use Rattle.gb_steps.specs.declared.step.Rule.{Rule}
use Rattle.gb_steps.specs.declared.step.Rule.TheVariants as rule
use Rattle.gb_steps.specs.declared.step.Transformation.{Transformation}
use Rattle.gb_steps.specs.declared.step.Transformation.TheVariants as transformation
use Rattle.gb_script.specs.declared.head.Head.{Head}
use Rattle.gb_script.specs.declared.head.Head.TheVariants as head
use Rattle.gb_script.specs.declared.tree.Node.{Node}
use Rattle.gb_script.specs.Tree.{head_of, text_of, parts_of, place_of}
use Rattle.gb_goal.specs.Answers.{Answer, ◌>>=◌, not_built, placed_at}
use Rattle.gb_goal.specs.Answers.Answer.{given, refused}
use Rattle.gb_elab_prog.specs.Entries.{entries_given}
use Rattle.gb_elab_prog.specs.Modules.{module_given}
use Rattle.gb_elab_mod.specs.Lemmas.{statement_given, binders_in}
use Rattle.gb_elab_mod.specs.Steps.{step_given}
use Rattle.gb_goal.specs.Rows.{Row, refusing, stepped}
use Rattle.gb_bodies.specs.Rows as bodies
use Rattle.gb_ended.specs.Loops.{unproved_in}
use Rattle.gb_loops.specs.While.{while_row}
use Rattle.gb_equiv.specs.Rows as equiv
use Rattle.gb_pr.specs.ChanceRows as chances
use Rattle.gb_pr.specs.Rows as probabilities
use Rattle.gb_call_both.specs.Rows as calls
use Rattle.gb_adv.specs.Rows.{abstract_row}
use Rattle.gb_call_both.specs.Known as known_calls
use Rattle.gb_trans.specs.Beside.{beside_answer}
use Rattle.gb_inline.specs.Rows as transformations
use Rattle.gb_sim.specs.Sim as same_statements
use Rattle.gb_smt.specs.Leaves.{leaves_of}
use Rattle.gb_smt.specs.Apply.{IsAnswerOf}
use Rattle.gb_amb.specs.Steps as conclusions
use Rattle.gb_linear.specs.Closing.{linear_answer}
use Rattle.gb_amb.specs.Uses as uses
use Rattle.gb_rewrite.specs.Rewriting.{rewrite_answer}
use Rattle.gb_theory.specs.Limits.{declaration_limit, each_limit, all_limit}
use Rattle.gb_theory.specs.Combinators.{Stepping, works}
use Rattle.gb_state.specs.declared.state.Claim.TheVariants as claim
use Rattle.gb_theory.specs.Built.{Session, OpenProof, with_entries, with_module, with_lemma, with_goals, with_proved, seen_in}
use Rattle.gb_loops.specs.Operand.{operand}
use Rattle.gb_loops.specs.Variants.{goals_of}

-- an answer that goes on from this one; a refusal stands
abbrev pub After : {X Y : Type 0} → Answer X → (X → Answer Y → Type 0) → Answer Y → Type 0
After (given x) P r = P x r
After (refused why place) P r = r ≡ refused why place

-- no limit is passed
abbrev pub within : Option ℕ → Place → Answer (Unit {0})
within None place = given tt
within (Some limit) place = refused (TooMany limit) place

-- goals that pass no limit of their own
abbrev pub allowed : Place → List Sequent → Answer (List Sequent)
allowed place qs = do
  _ ← within (each_limit qs) place
  given qs

-- declarations stand outside proofs
abbrev pub outside : Option OpenProof → Place → Answer (Unit {0})
outside None place = given tt
outside (Some p) place = refused NoGoal place

-- a file of the standard library whose operators are in scope anyhow
abbrev pub is_built_in : List ℕ → Bool
is_built_in x =
    bytes_eq x (codes "AllCore") || bytes_eq x (codes "Distr") || bytes_eq x (codes "FMap") || bytes_eq x (codes "Bool")
    || bytes_eq x (codes "Int") || bytes_eq x (codes "Real") || bytes_eq x (codes "DBool")

-- the files that are required: those of the standard library bring nothing, and others aren't built yet
abbrev pub brought : List Node → Answer (Unit {0})
brought [] = given tt
brought (x ∷ xs) = if is_built_in (text_of x) then brought xs else not_built (place_of x)

-- files are required
abbrev pub requires_files : Session → List Node → Place → Answer Session
requires_files s names place = do
  _ ← outside s.proof place
  _ ← brought names
  given s

-- An axiom stands in abstract theories alone, of which none can be opened yet.
abbrev pub assumes : Session → Place → Answer Session
assumes s place = outside s.proof place >>= λ _. refused LeftOut place

-- a type, with its constants, an operator or a module type is declared
abbrev pub brings : Session → Node → Place → Answer Session
brings s t place = do
  _ ← outside s.proof place
  added ← entries_given s.scope t
  _ ← within (declaration_limit (declarations_in s.scope)) place
  given (with_entries s added)

-- a module is declared
abbrev pub declares : Session → Node → Place → Answer Session
declares s t place = do
  _ ← outside s.proof place
  m ← module_given s.scope t
  _ ← within (declaration_limit (declarations_in s.scope)) place
  given (with_module s m)

-- a lemma of this name opens its proof
abbrev pub opens : Session → Node → List ℕ → Place → Answer Session
opens s t name place = do
  _ ← outside s.proof place
  q ← statement_given s.scope t
  _ ← within (declaration_limit (declarations_in s.scope)) place
  _ ← within (each_limit (q ∷ [])) place
  given (with_lemma s name q (binders_in t))

-- goals that pass no limit, each and together
abbrev pub all_allowed : Place → List Sequent → Answer (List Sequent)
all_allowed place qs = do
  rs ← allowed place qs
  _ ← within (all_limit rs) place
  given rs

-- the proof that the loops of a procedure end: two goals for each loop, inner loops first
abbrev pub loops_opened : Declarations → Node → Place → Answer OpenProof
loops_opened ds t place = do
  f ← operand ds t
  qs ← all_allowed place (goals_of f.1.body.list)
  given (record { claim = claim.Loops f.0; goals = qs; fresh = true })

-- `termination` opens it
abbrev pub opens_loops : Session → Node → Place → Answer Session
opens_loops s t place = do
  _ ← outside s.proof place
  p ← loops_opened s.scope t place
  given (record s { proof = Some p })

-- `proof` follows what opened it at once
abbrev pub begun : Session → OpenProof → Place → Answer Session
begun s p place = if p.fresh then given (with_goals s p p.goals) else refused NoGoal place

-- `qed` stands where no goal is left
abbrev pub ended : List Sequent → Session → OpenProof → Place → Answer Session
ended [] s p place = given (with_proved s p.claim)
ended (q ∷ qs) s p place = refused (OpenGoals (length (q ∷ qs))) place

-- `smt` closes the goal, or refuses it
abbrev pub closed_unless : Option Why → Place → Answer (List Sequent)
closed_unless None place = given []
closed_unless (Some why) place = refused why place

-- the row of a rule, by the family that it is of
abbrev pub row_of : Declarations → Rule → Row
row_of ds (rule.OnBodies r) = bodies.rule_row ds (rule.OnBodies r)
row_of ds (rule.While v) = while_row ds v.acts v.kept
row_of ds (rule.Relational r) = equiv.rule_row ds (rule.Relational r)
row_of ds (rule.Chance r) = chances.rule_row ds (rule.Chance r)
row_of ds (rule.Probability r) = probabilities.rule_row ds (rule.Probability r)
row_of ds (rule.Call s) = calls.rule_row ds (rule.Call s)
row_of ds (rule.Abstract r) = abstract_row ds r
row_of ds (rule.Transform a t) = transformations.rule_row ds (rule.Transform a t)
row_of ds _ = λ G. refusing Shape

-- A procedure with a loop of its own that isn't proved is refused.
abbrev pub unless_unproved : Option ProcName → Place → Answer (Unit {0})
unless_unproved None place = given tt
unless_unproved (Some p) place = refused (UnprovedLoop (path_of p)) place

-- `proc` puts bodies in the places of procedures whose own loops are proved alone.
abbrev pub entering : Declarations → BodyRule → Place → Goal → Answer (Unit {0})
entering ds on_bodies.Proc place G = unless_unproved (unproved_in ds G) place
entering ds r place G = given tt

-- what a rule on programs gives
abbrev pub entered : Declarations → BodyRule → Place → Sequent → Answer (List Sequent)
entered ds r place q = do
  _ ← entering ds r place (goal_of q.conclusion)
  stepped (bodies.rule_row ds (rule.OnBodies r)) place q

-- what a rule on equivalences gives; the rule on the same statements on both sides has one answer
abbrev pub OnBoth : Declarations → RelationalRule → Place → Sequent → Answer (List Sequent) → Type 0
OnBoth ds on_both.Sim place q x = same_statements.IsAnswer ds place q x
OnBoth ds r place q x = x ≡ stepped (row_of ds (rule.Relational r)) place q

-- what a rule on a guard gives: on one of two programs it has a goal in a wider context
abbrev pub on_guard : Declarations → Acts → ℕ → Bool → Place → Sequent → Answer (List Sequent)
on_guard ds acts.All n t place q = stepped (row_of ds (rule.Transform acts.All (transformation.Decided n t))) place q
on_guard ds a n t place q = beside_answer ds n t a place q

-- what a rule that puts other statements into a program gives
abbrev pub transformed : Declarations → Acts → Transformation → Place → Sequent → Answer (List Sequent)
transformed ds a (transformation.Decided n t) place q = on_guard ds a n t place q
transformed ds a k place q = stepped (row_of ds (rule.Transform a k)) place q

-- What a rule gives for a goal: its subgoals, or why it refuses the goal. What `smt` finds has one answer, and so has a step on a
-- conclusion, or one that uses a form.
abbrev pub Applied : Declarations → Rule → Place → Sequent → Answer (List Sequent) → Type 0
Applied ds (rule.Smt known) place q x = (found : Option Why) × IsAnswerOf ds (leaves_of known q) found × (x ≡ closed_unless found place)
Applied ds (rule.Ambient r) place q x = conclusions.IsAnswer r place q x
Applied ds (rule.Linear ms) place q x = x ≡ linear_answer ms place q
Applied ds (rule.Use r) place q x = uses.IsAnswer r place q x
Applied ds (rule.CallKnown a f) place q x = known_calls.IsAnswer ds a f place q x
Applied ds (rule.Rewrite r) place q x = x ≡ rewrite_answer ds r place q
Applied ds (rule.OnBodies r) place q x = x ≡ entered ds r place q
Applied ds (rule.Relational r) place q x = OnBoth ds r place q x
Applied ds (rule.Transform a k) place q x = x ≡ transformed ds a k place q
Applied ds r place q x = x ≡ stepped (row_of ds r) place q

-- What a rule of a text answers at a goal, with its arguments typed there: its subgoals, each within the limits of a goal.
abbrev pub RuleAnswers : Declarations → Node → Sequent → Answer (List Sequent) → Type 0
RuleAnswers ds t q r =
    After (step_given ds q t) (λ step x. (y : Answer (List Sequent)) × Applied ds step.rule step.place q y × (x ≡ (y >>= allowed step.place))) r

-- each rule answers so
abbrev pub AreRules : Declarations → (Node → Stepping) → Type 0
AreRules ds f = (t : Node) (q : Sequent) → RuleAnswers ds t q (f t q)

-- what is left of the first goal stands in front of the other goals
abbrev pub continued : Session → OpenProof → List Sequent → Place → List Sequent → Answer Session
continued s p rest place qs = do
  _ ← within (all_limit (qs ++ rest)) place
  given (with_goals s p (qs ++ rest))

-- a tactic works on the first goal
abbrev pub WorksOn : List Sequent → Session → OpenProof → Node → Place → Answer Session → Type 0
WorksOn [] s p t place r = r ≡ refused NoGoal place
WorksOn (q ∷ rest) s p t place r =
    (f : Node → Stepping) × AreRules (seen_in s.scope p.claim) f × (r ≡ (works (seen_in s.scope p.claim) f t (q ∷ []) >>= continued s p rest place))

-- an open proof is asked for
abbrev pub InProof : Option OpenProof → Place → (OpenProof → Answer Session → Type 0) → Answer Session → Type 0
InProof None place P r = r ≡ refused NoGoal place
InProof (Some p) place P r = P p r

-- a tactic is run in the open proof
abbrev pub Proves : Session → Node → Place → Answer Session → Type 0
Proves s t place r = InProof s.proof place (λ p. WorksOn p.goals s p t place) r

-- What a command of this head and these parts comes to. No section and no theory can be opened yet, so none is where `local`,
-- `declare` and `end` ask for one. The last clause takes what isn't built, under which nodes of another
-- shape fall too: the reader makes none, as each tree of the language is well-sorted.
abbrev pub ComesToOf : Session → Node → Head → List Node → Answer Session → Type 0
ComesToOf s c head.Require (import ∷ names ∷ []) r = r ≡ requires_files s (parts_of names) (place_of c)
ComesToOf s c head.TypeDeclaration parts r = r ≡ brings s c (place_of c)
ComesToOf s c head.OperatorDeclaration parts r = r ≡ brings s c (place_of c)
ComesToOf s c head.ModuleType parts r = r ≡ brings s c (place_of c)
ComesToOf s c head.Axiom parts r = r ≡ assumes s (place_of c)
ComesToOf s c head.Module parts r = r ≡ declares s c (place_of c)
ComesToOf s c head.AscribedModule parts r = r ≡ declares s c (place_of c)
ComesToOf s c head.Lemma (name ∷ parts) r = r ≡ opens s c (text_of name) (place_of c)
ComesToOf s c head.Termination (path ∷ []) r = r ≡ opens_loops s path (place_of c)
ComesToOf s c head.Proof parts r = InProof s.proof (place_of c) (λ p x. x ≡ begun s p (place_of c)) r
ComesToOf s c head.Qed parts r = InProof s.proof (place_of c) (λ p x. x ≡ ended p.goals s p (place_of c)) r
ComesToOf s c head.Tactic (step ∷ more) r = Proves s c (place_of step) r
ComesToOf s c head.Local parts r = r ≡ refused NoGoal (place_of c)
ComesToOf s c head.Declare parts r = r ≡ refused NoGoal (place_of c)
ComesToOf s c head.EndSection parts r = r ≡ refused NoGoal (place_of c)
ComesToOf s c head.EndTheory parts r = r ≡ refused NoGoal (place_of c)
ComesToOf s c _ _ r = r ≡ not_built (place_of c)

-- what a command comes to: the next session, or its first refusal
abbrev pub ComesTo : Session → Node → Answer Session → Type 0
ComesTo s c r = (x : Answer Session) × ComesToOf s c (head_of c) (parts_of c) x × (r ≡ placed_at (place_of c) x)
