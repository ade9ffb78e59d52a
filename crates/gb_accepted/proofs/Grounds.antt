-- What the crates below promise: of typing, of rules and of models.
use Rattle.std.specs.Prelude.{◌≡◌, ◌↔◌, ℕ, Bool, true, false, List, [], ◌∷◌, ◌++◌, None}
use Rattle.std.specs.List.{All, AllByRecursion}
use Rattle.gb_core.specs.declared.ty.Ty.TheVariants as ty
use Rattle.gb_core.specs.declared.place.Place.{Place}
use Rattle.gb_core.specs.declared.refusal.Why.TheVariants.{Shape}
use Rattle.gb_terms.specs.declared.decl.Module.{Module}
use Rattle.gb_terms.specs.declared.decl.TypedName.{TypedName}
use Rattle.gb_terms.specs.declared.module.Bind.{Bind}
use Rattle.gb_terms.specs.declared.module.ProcRef.{ProcRef}
use Rattle.gb_terms.specs.declared.term.Term.{Term}
use Rattle.gb_script.specs.declared.tree.Node.{Node}
use Rattle.gb_goal.specs.Answers.Answer.{given}
use Rattle.gb_goal.specs.Binders.{binder_entries, with_declared_modules}
use Rattle.gb_goal.specs.Goal.{Goal, goal_of}
use Rattle.gb_goal.specs.Goal.Goal.{ambient}
use Rattle.gb_goal.specs.Rows.{Row, refusing, answered}
use Rattle.gb_goal.specs.Scope as scope
use Rattle.gb_goal.specs.Scope.{ClaimNothing}
use Rattle.gb_goal.specs.declared.scope.Binder.{Binder}
use Rattle.gb_goal.specs.declared.scope.Entry.TheVariants as entry
use Rattle.gb_goal.specs.declared.sequent.Sequent.{Sequent}
use Rattle.gb_steps.specs.declared.step.Acts.{Acts}
use Rattle.gb_steps.specs.declared.step.AbstractRule.{AbstractRule}
use Rattle.gb_steps.specs.declared.step.AmbientRule.{AmbientRule}
use Rattle.gb_steps.specs.declared.step.Rule.{Rule}
use Rattle.gb_steps.specs.declared.step.EventLaw.TheVariants as event_law
use Rattle.gb_steps.specs.declared.step.Rule.TheVariants.{Abstract, Ambient, Rewrite, Use}
use Rattle.gb_steps.specs.declared.step.Multiple.{Multiple}
use Rattle.gb_steps.specs.declared.step.RewriteRule.{RewriteRule}
use Rattle.gb_steps.specs.declared.step.RewriteRule.TheVariants as rewrite_rule
use Rattle.gb_steps.specs.declared.step.UseRule.{UseRule}
use Rattle.gb_steps.specs.Told.{told}
use Rattle.gb_steps.specs.declared.step.Step.{Step}
use Rattle.gb_meaning.specs.Names.{Name}
use Rattle.gb_meaning.specs.Setting.{Setting}
use Rattle.gb_meaning.specs.Written.{type_of}
use Rattle.gb_meaning.specs.Declared.{Declarations, concrete_module, declared}
use Rattle.gb_typing.specs.Naming.{NoName}
use Rattle.gb_meaning.specs.Holds.{Holds, InEachSetting, IsSound}
use Rattle.gb_meaning.specs.Truth.{has_module}
use Rattle.gb_typing.specs.Context.{Context, with_own}
use Rattle.gb_typing.specs.Context as context
use Rattle.gb_typing.specs.Typing.{IsForm, after}
use Rattle.gb_typing.specs.Typing.{IsTyped as IsTypedTerm}
use Rattle.gb_typing.specs.Sequents.{IsConclusion, of_sequent, IsTypedSequent}
use Rattle.gb_typing.specs.Scopes.{context_of, is_declared, IsTypedScope}
use Rattle.gb_typing.specs.Goals.{IsGoalOver, IsTypedGoal}
use Rattle.gb_typing.specs.Rules.{no_arguments, outermost, IsSettingOver, IsSoundIn, IsSoundRuleIn}
use Rattle.gb_bodies.specs.Rows as bodies
use Rattle.gb_ended.specs.Loops.{unproved_in}
use Rattle.gb_loops.specs.While.{IsTypedInvariant, while_row}
use Rattle.gb_prog.specs.Ends.{Entered, IsSoundLoopRule, IsSoundOnLoops, KeepsEnds, LoopsEnd, ProceduresEnd, SequentEnds}
use Rattle.gb_equiv.specs.Rows as equiv
use Rattle.gb_equiv.specs.Rows.{IsTypedRule}
use Rattle.gb_pr.specs.ChanceRows as chance_rows
use Rattle.gb_pr.specs.Rows as probability_rows
use Rattle.gb_call_both.specs.Rows as call_rows
use Rattle.gb_adv.specs.Rows as abstract_rows
use Rattle.gb_call_both.specs.Known as of_known
use Rattle.gb_inline.specs.Proved.{IsSoundOnProved, IsSoundProvedRule, ProvedEnd}
use Rattle.gb_trans.specs.Beside.{beside_answer}
use Rattle.gb_inline.specs.Rows as transformation_rows
use Rattle.gb_sim.specs.Sim as of_same
use Rattle.gb_amb.specs.Steps.{IsAnswer, IsTypedStep, LeadTo}
use Rattle.gb_linear.specs.Closing.{linear_answer}
use Rattle.gb_amb.specs.Lemmas.{IsKnown}
use Rattle.gb_amb.specs.Uses as uses
use Rattle.gb_rewrite.specs.Rewriting.{IsUsable, rewrite_answer}
use Rattle.gb_arguments.specs.Instance.{AreModulesOf}
use Rattle.gb_arguments.specs.Facts.{IsFact}
use Rattle.gb_elab_laws.specs.Procedures.{AreStated, IsOfProcedures}
use Rattle.gb_arguments.specs.Unblank.{AreUnblank}
use Rattle.gb_lex.specs.Lex.{tokens_of}
use Rattle.gb_limits.specs.Lexeme.{text_at}
use Rattle.gb_print.specs.Blank.{IsUnblank, begins_blank}
use Rattle.gb_read_script.specs.Reading.{SpellsTree}
use Rattle.gb_script.specs.Each.{Each}
use Rattle.gb_elab_laws.specs.Speaking.{DeclarationSpeaks, GoalSpeaks, IsFirmScope, IsWithoutModules, ScopeSpeaks}
use Rattle.gb_instances.specs.Instance.{GivenModule, instance_of}
use Rattle.gb_smt.specs.Leaves.{leaves_of}
use Rattle.gb_smt.specs.Apply.{IsClosed}
use Rattle.gb_elab_prog.specs.Entries.{entries_given}
use Rattle.gb_elab_mod.specs.Lemmas.{lemma_name, statement_given}
use Rattle.gb_elab_prog.specs.Modules.{module_given}
use Rattle.gb_elab_mod.specs.Steps.{step_given}
use Rattle.gb_elab_laws.specs.Promised.{HasModel, equivalence, stated, AreCoupledInEachModel}

-- typed declarations of a scope, a typed goal over them, and its context
abbrev pub IsTyped : scope.Declarations → Type 0
IsTyped ds = IsTypedScope (declared ds)

abbrev pub IsTypedGoalOf : scope.Declarations → Sequent → Type 0
IsTypedGoalOf ds q = IsTypedSequent (context_of (declared ds)) q

abbrev pub around : (ds : scope.Declarations) (q : Sequent) → IsTypedGoalOf ds q → Context
around ds q t = of_sequent (context_of (declared ds)) q t.frames

-- the declarations that the steps of a proof see: behind the others those of the abstract modules that its lemma binds
abbrev pub seen : scope.Declarations → List Bind → scope.Declarations
seen ds bs = ds ++ binder_entries bs

-- a typed goal without modules, the loops of whose bodies end
pub record IsGoalThatEnds (ds : scope.Declarations) (q : Sequent) : Type 0 where
  pub typed : IsTypedGoalOf ds q
  pub alone : q.modules ≡ []
  pub ends : SequentEnds (declared ds) q

-- What is declared stays typed.
pub record OfTyping : Type 0 where
  pub entries_added : (ds : scope.Declarations) → IsTyped ds → (t : Node) (added : scope.Declarations) → entries_given ds t ≡ given added → IsTyped (ds ++ added)
  pub others : (ds : scope.Declarations) (t : Node) (added : scope.Declarations) → entries_given ds t ≡ given added → ClaimNothing added
  pub entries_firm : (ds : scope.Declarations) → IsTyped ds → (t : Node) (added : scope.Declarations) → entries_given ds t ≡ given added → IsFirmScope added
  pub entries_speak : (ds : scope.Declarations) → IsTyped ds → (t : Node) (added : scope.Declarations) → entries_given ds t ≡ given added → ScopeSpeaks NoName (declared added)
  pub module_speaks : (ds : scope.Declarations) → IsTyped ds → (t : Node) (m : Module) → module_given ds t ≡ given m → DeclarationSpeaks NoName (concrete_module m)
  pub procedures : (ds : scope.Declarations) → IsTyped ds → IsFirmScope ds → (t : Node) (q : Sequent) → statement_given ds t ≡ given q → IsOfProcedures q
  pub module_added : (ds : scope.Declarations) → IsTyped ds → (t : Node) (m : Module) → module_given ds t ≡ given m → IsTyped (ds ++ (m.name, entry.Module m) ∷ [])
  pub statement : (ds : scope.Declarations) → IsTyped ds → (t : Node) (q : Sequent) → statement_given ds t ≡ given q → IsTypedGoalOf ds q
  pub statement_scope : (ds : scope.Declarations) → IsTyped ds → (t : Node) (q : Sequent) → statement_given ds t ≡ given q → IsTyped (seen ds q.modules)
  pub statement_goal : (ds : scope.Declarations) → IsTyped ds → (t : Node) (q : Sequent) → statement_given ds t ≡ given q → IsTypedGoalOf (seen ds q.modules) (with_declared_modules q)
  pub free : (ds : scope.Declarations) (t : Node) (q : Sequent) → statement_given ds t ≡ given q → is_declared (declared ds) (lemma_name t) ≡ false
  pub lemma_added : (ds : scope.Declarations) → IsTyped ds → (n : Name) → is_declared (declared ds) n ≡ false → (q : Sequent) (bs : List Binder) → IsTypedGoalOf ds q →
      IsTyped (ds ++ (n, entry.Lemma q bs) ∷ [])
  pub body_rule : (ds : scope.Declarations) → IsTyped ds → (q : Sequent) (t : IsTypedGoalOf ds q) (n : Node) (s : Step) → step_given ds q n ≡ given s →
      (ls rs : List TypedName) → IsGoalOver (around ds q t) ls rs (goal_of q.conclusion) → bodies.IsTypedRule (around ds q t) s.rule ls rs (goal_of q.conclusion)
  pub hints : (ds : scope.Declarations) → IsTyped ds → AreStated ds → (q : Sequent) (t : IsTypedGoalOf ds q) → q.modules ≡ [] → (n : Node) (s : Step) → step_given ds q n ≡ given s →
      AllByRecursion (λ f. IsForm (around ds q t) f × IsKnown (declared ds) q (around ds q t) f) (told s.rule)
  pub events : (ds : scope.Declarations) → IsTyped ds → (q : Sequent) (t : IsTypedGoalOf ds q) (n : Node) (s : Step) → step_given ds q n ≡ given s →
      (p : ProcRef) (f : Term) → s.rule ≡ Rewrite (rewrite_rule.Law (event_law.Split p f)) → IsForm (with_own (around ds q t) (after (context.procedure (around ds q t) p))) f
  pub conclusion : (ds : scope.Declarations) → IsTyped ds → (q : Sequent) (t : IsTypedGoalOf ds q) (n : Node) (s : Step) → step_given ds q n ≡ given s →
      (r : AmbientRule) → s.rule ≡ Ambient r → (u : IsTypedGoalOf ds q) × IsTypedStep (around ds q u) q.conclusion r
  pub used : (ds : scope.Declarations) → IsTyped ds → AreStated ds → (q : Sequent) (t : IsTypedGoalOf ds q) → q.modules ≡ [] → (n : Node) (s : Step) → step_given ds q n ≡ given s →
      (r : UseRule) → s.rule ≡ Use r → uses.IsTypedStep (declared ds) q (around ds q t) r
  pub rule : (ds : scope.Declarations) → IsTyped ds → (q : Sequent) (t : IsTypedGoalOf ds q) (n : Node) (s : Step) → step_given ds q n ≡ given s →
      (ls rs : List TypedName) → IsGoalOver (around ds q t) ls rs (goal_of q.conclusion) → IsTypedRule (around ds q t) s.rule ls rs (goal_of q.conclusion)
  pub call_rule : (ds : scope.Declarations) → IsTyped ds → (q : Sequent) (t : IsTypedGoalOf ds q) (n : Node) (s : Step) → step_given ds q n ≡ given s →
      (ls rs : List TypedName) → IsGoalOver (around ds q t) ls rs (goal_of q.conclusion) → call_rows.IsTypedRule (around ds q t) s.rule ls rs (goal_of q.conclusion)
  pub abstract_rule : (ds : scope.Declarations) → IsTyped ds → (q : Sequent) (t : IsTypedGoalOf ds q) (n : Node) (s : Step) → step_given ds q n ≡ given s →
      (r : AbstractRule) → s.rule ≡ Abstract r → (ls rs : List TypedName) → abstract_rows.IsTypedRule (around ds q t) r ls rs (goal_of q.conclusion)
  pub probabilities_typed : (ds : scope.Declarations) → IsTyped ds → (q : Sequent) (t : IsTypedGoalOf ds q) (n : Node) (s : Step) → step_given ds q n ≡ given s →
      (ls rs : List TypedName) → IsGoalOver (around ds q t) ls rs (goal_of q.conclusion) → probability_rows.IsTypedRule (around ds q t) s.rule ls rs (goal_of q.conclusion)

-- The names that commands declare begin with no blank.
pub record OfNames : Type 0 where
  pub texts : (part : ℕ) (bytes : List ℕ) (at : Place) (x : Node) → SpellsTree part (text_at bytes at (tokens_of bytes)) x → Each IsUnblank x
  pub entries : (ds : scope.Declarations) (t : Node) (added : scope.Declarations) → Each IsUnblank t → entries_given ds t ≡ given added → AreUnblank added
  pub modules : (ds : scope.Declarations) (t : Node) (m : Module) → Each IsUnblank t → module_given ds t ≡ given m → begins_blank m.name ≡ false
  pub lemmas : (t : Node) → Each IsUnblank t → begins_blank (lemma_name t) ≡ false
  pub statements : (ds : scope.Declarations) (t : Node) (q : Sequent) → Each IsUnblank t → statement_given ds t ≡ given q → AreUnblank (binder_entries q.modules)

-- Rules are sound.
pub record OfRules : Type 0 where
  pub goal : (c : Context) (f : Term) → IsConclusion c f → has_module f ≡ false → IsTypedGoal c (goal_of f) × (type_of f ≡ ty.Bool)
  pub front : (f : Term) → has_module f ≡ true → goal_of f ≡ ambient f
  pub outer : (ds : Declarations) (q : Sequent) (fs : List (List TypedName)) → of_sequent (context_of ds) q fs ≡ outermost (of_sequent (context_of ds) q fs)
  pub lifted : (ds : Declarations) → IsTypedScope ds → (q : Sequent) (t : IsTypedSequent (context_of ds) q) → type_of q.conclusion ≡ ty.Bool →
      (ls rs : List TypedName) → IsGoalOver (of_sequent (context_of ds) q t.frames) ls rs (goal_of q.conclusion) →
      (row : Row) → IsSoundIn ds (of_sequent (context_of ds) q t.frames) row (goal_of q.conclusion) →
      (qs : List Sequent) → answered row q ≡ given qs → AllByRecursion (IsTypedSequent (context_of ds)) qs × (AllByRecursion (Holds ds) qs → Holds ds q)
  pub on_bodies : (ds : scope.Declarations) → IsTyped ds → (q : Sequent) (t : IsTypedGoalOf ds q) (r : Rule) →
      IsSoundRuleIn (declared ds) (around ds q t) (bodies.rule_row ds r) (bodies.IsTypedRule (around ds q t) r)
  pub bodies_refuse : (ds : scope.Declarations) (r : Rule) (f : Term) → bodies.rule_row ds r (ambient f) ≡ refusing Shape
  pub equiv_refuses : (ds : scope.Declarations) (r : Rule) (f : Term) → equiv.rule_row ds r (ambient f) ≡ refusing Shape
  pub relational : (ds : scope.Declarations) → IsTyped ds → (q : Sequent) (t : IsTypedGoalOf ds q) (r : Rule) →
      IsSoundRuleIn (declared ds) (around ds q t) (equiv.rule_row ds r) (IsTypedRule (around ds q t) r)
  pub chances : (ds : scope.Declarations) → IsTyped ds → (q : Sequent) (t : IsTypedGoalOf ds q) (r : Rule) →
      IsSoundRuleIn (declared ds) (around ds q t) (chance_rows.rule_row ds r) no_arguments
  pub chances_refuse : (ds : scope.Declarations) (r : Rule) (f : Term) → chance_rows.rule_row ds r (ambient f) ≡ refusing Shape
  pub probabilities : (ds : scope.Declarations) → IsTyped ds → (q : Sequent) (t : IsTypedGoalOf ds q) (r : Rule) →
      IsSoundRuleIn (declared ds) (around ds q t) (probability_rows.rule_row ds r) (probability_rows.IsTypedRule (around ds q t) r)
  pub calls : (ds : scope.Declarations) → IsTyped ds → (q : Sequent) (t : IsTypedGoalOf ds q) (r : Rule) →
      IsSoundRuleIn (declared ds) (around ds q t) (call_rows.rule_row ds r) (call_rows.IsTypedRule (around ds q t) r)
  pub calls_refuse : (ds : scope.Declarations) (r : Rule) (f : Term) → call_rows.rule_row ds r (ambient f) ≡ refusing Shape
  pub abstract_calls : (ds : scope.Declarations) → IsTyped ds → (q : Sequent) (t : IsTypedGoalOf ds q) (r : AbstractRule) →
      IsSoundRuleIn (declared ds) (around ds q t) (abstract_rows.abstract_row ds r) (abstract_rows.IsTypedRule (around ds q t) r)
  pub abstract_refuse : (ds : scope.Declarations) (r : AbstractRule) (f : Term) → abstract_rows.abstract_row ds r (ambient f) ≡ refusing Shape
  pub transformations_refuse : (ds : scope.Declarations) (r : Rule) (f : Term) → transformation_rows.rule_row ds r (ambient f) ≡ refusing Shape
  pub known_calls : (ds : scope.Declarations) → IsTyped ds → (q : Sequent) (t : IsTypedGoalOf ds q) → (a : Acts) (f : Term) → IsForm (around ds q t) f →
      Holds (declared ds) (record q { conclusion = f }) → (place : Place) (qs : List Sequent) → of_known.IsAnswer ds a f place q (given qs) →
      AllByRecursion (IsTypedSequent (context_of (declared ds))) qs × (AllByRecursion (Holds (declared ds)) qs → Holds (declared ds) q)
  pub same_statements : (ds : scope.Declarations) → IsTyped ds → (q : Sequent) (t : IsTypedGoalOf ds q) → (ls rs : List TypedName) (G : Goal) → of_same.AreSame G → IsGoalOver (around ds q t) ls rs G →
      IsSoundIn (declared ds) (around ds q t) (of_same.sim_row ds) G
  pub on_conclusions : (ds : Declarations) → IsTypedScope ds → (q : Sequent) (t : IsTypedSequent (context_of ds) q) → (r : AmbientRule) →
      IsTypedStep (of_sequent (context_of ds) q t.frames) q.conclusion r → (place : Place) (qs : List Sequent) → IsAnswer r place q (given qs) → LeadTo ds q qs
  pub on_uses : (ds : Declarations) → IsTypedScope ds → (q : Sequent) (t : IsTypedSequent (context_of ds) q) → (r : UseRule) →
      uses.IsTypedStep ds q (of_sequent (context_of ds) q t.frames) r → (place : Place) (qs : List Sequent) → uses.IsAnswer r place q (given qs) → LeadTo ds q qs
  pub on_equals : (ds : scope.Declarations) → IsTyped ds → (q : Sequent) (t : IsTypedGoalOf ds q) → (r : RewriteRule) →
      IsUsable (declared ds) q (around ds q t) r → (place : Place) (qs : List Sequent) → given qs ≡ rewrite_answer ds r place q → LeadTo (declared ds) q qs
  pub smt : (ds : scope.Declarations) → IsTyped ds → (q : Sequent) (t : IsTypedGoalOf ds q) → (known : List Term) → AllByRecursion (IsForm (around ds q t)) known →
      All (IsClosed ds) (leaves_of known q) → AllByRecursion (λ f. Holds (declared ds) (record q { conclusion = f })) known → Holds (declared ds) q
  pub instances : (ds : Declarations) → IsTypedScope ds → (q : Sequent) (t : IsTypedSequent (context_of ds) q) → (f : Term) →
      IsForm (of_sequent (context_of ds) q t.frames) f → IsKnown ds q (of_sequent (context_of ds) q t.frames) f → Holds ds (record q { conclusion = f })
  pub linear : (ds : Declarations) → IsTypedScope ds → (q : Sequent) → IsTypedSequent (context_of ds) q → (ms : List Multiple) (place : Place) (qs : List Sequent) →
      linear_answer ms place q ≡ given qs → AllByRecursion (IsTypedSequent (context_of ds)) qs × (AllByRecursion (Holds ds) qs → Holds ds q)

-- Rules lead to no other loops, and rules on loops are sound where loops end.
pub record OfLoops : Type 0 where
  pub rows : (ds : scope.Declarations) → IsTyped ds → (q : Sequent) (t : IsTypedGoalOf ds q) → (r : Rule) → InEachSetting (declared ds) q (λ g. Entered ds g r (goal_of q.conclusion)) → (row : Row) →
      ((Gs : List Goal) → row (goal_of q.conclusion) ≡ given Gs → AllByRecursion (IsTypedGoal (around ds q t)) Gs ×
      ((g : Setting) → IsSettingOver (declared ds) g → Entered ds g r (goal_of q.conclusion) → LoopsEnd g (goal_of q.conclusion) → AllByRecursion (LoopsEnd g) Gs)) →
      (qs : List Sequent) → answered row q ≡ given qs → SequentEnds (declared ds) q → AllByRecursion (SequentEnds (declared ds)) qs
  pub lifted : (ds : Declarations) → IsTypedScope ds → (q : Sequent) (t : IsTypedSequent (context_of ds) q) → type_of q.conclusion ≡ ty.Bool → (ls rs : List TypedName) →
      IsGoalOver (of_sequent (context_of ds) q t.frames) ls rs (goal_of q.conclusion) → (row : Row) →
      ((Gs : List Goal) → row (goal_of q.conclusion) ≡ given Gs → IsSoundOnLoops ds (of_sequent (context_of ds) q t.frames) Gs (goal_of q.conclusion)) →
      (qs : List Sequent) → answered row q ≡ given qs →
      AllByRecursion (IsTypedSequent (context_of ds)) qs × (SequentEnds ds q → AllByRecursion (SequentEnds ds) qs × (AllByRecursion (Holds ds) qs → Holds ds q))
  pub bodies : (ds : scope.Declarations) → IsTyped ds → (r : Rule) (G : Goal) (Gs : List Goal) → bodies.rule_row ds r G ≡ given Gs →
      (g : Setting) → IsSettingOver (declared ds) g → Entered ds g r G → LoopsEnd g G → AllByRecursion (LoopsEnd g) Gs
  pub entered : (ds : scope.Declarations) (bs : List Bind) → IsTyped (seen ds bs) → IsFirmScope ds → IsSound (declared ds) → ScopeSpeaks NoName (declared ds) → (q : Sequent) → IsTypedGoalOf (seen ds bs) q → q.modules ≡ [] →
      unproved_in (seen ds bs) (goal_of q.conclusion) ≡ None → InEachSetting (declared (seen ds bs)) q (λ g. ProceduresEnd (seen ds bs) g (goal_of q.conclusion))
  pub relational : (ds : scope.Declarations) (c : Context) (ls rs : List TypedName) (r : Rule) (G : Goal) → IsGoalOver c ls rs G → (Gs : List Goal) → equiv.rule_row ds r G ≡ given Gs → KeepsEnds (declared ds) Gs G
  pub chances : (ds : scope.Declarations) (c : Context) (ls rs : List TypedName) (r : Rule) (G : Goal) → IsGoalOver c ls rs G → (Gs : List Goal) → chance_rows.rule_row ds r G ≡ given Gs → KeepsEnds (declared ds) Gs G
  pub calls : (ds : scope.Declarations) (c : Context) (ls rs : List TypedName) (r : Rule) (G : Goal) → IsGoalOver c ls rs G → (Gs : List Goal) → call_rows.rule_row ds r G ≡ given Gs → KeepsEnds (declared ds) Gs G
  pub abstract_calls : (ds : scope.Declarations) (c : Context) (ls rs : List TypedName) (r : AbstractRule) (G : Goal) → IsGoalOver c ls rs G → (Gs : List Goal) → abstract_rows.abstract_row ds r G ≡ given Gs → KeepsEnds (declared ds) Gs G
  pub known_calls : (ds : scope.Declarations) → IsTyped ds → (q : Sequent) (t : IsTypedGoalOf ds q) (a : Acts) (f : Term) → IsForm (around ds q t) f → Holds (declared ds) (record q { conclusion = f }) →
      (place : Place) (qs : List Sequent) → of_known.IsAnswer ds a f place q (given qs) → SequentEnds (declared ds) q → AllByRecursion (SequentEnds (declared ds)) qs
  pub same_statements : (ds : scope.Declarations) (G : Goal) (Gs : List Goal) → of_same.sim_row ds G ≡ given Gs → (g : Setting) → AllByRecursion (LoopsEnd g) Gs
  pub conclusions : (ds : Declarations) (q : Sequent) (t : IsTypedSequent (context_of ds) q) (r : AmbientRule) → IsTypedStep (of_sequent (context_of ds) q t.frames) q.conclusion r →
      (place : Place) (qs : List Sequent) → IsAnswer r place q (given qs) → SequentEnds ds q → AllByRecursion (SequentEnds ds) qs
  pub uses : (ds : Declarations) (q : Sequent) (c : Context) (r : UseRule) → IsForm c (uses.used_by r) → (place : Place) (qs : List Sequent) → uses.IsAnswer r place q (given qs) →
      SequentEnds ds q → AllByRecursion (SequentEnds ds) qs
  pub equals : (ds : scope.Declarations) → IsTyped ds → (q : Sequent) (t : IsTypedGoalOf ds q) (r : RewriteRule) → IsUsable (declared ds) q (around ds q t) r →
      (place : Place) (qs : List Sequent) → given qs ≡ rewrite_answer ds r place q → SequentEnds (declared ds) q → AllByRecursion (SequentEnds (declared ds)) qs
  pub forms : (ds : Declarations) (q : Sequent) (c : Context) → IsTypedTerm c q.conclusion → SequentEnds ds q
  pub while : (ds : scope.Declarations) → IsTyped ds → (q : Sequent) (t : IsTypedGoalOf ds q) (a : Acts) (v : Term) →
      IsSoundLoopRule (declared ds) (around ds q t) (while_row ds a v) (IsTypedInvariant (around ds q t) v)
  pub transformations : (ds : scope.Declarations) → IsTyped ds → (q : Sequent) (t : IsTypedGoalOf ds q) (r : Rule) →
      IsSoundProvedRule ds (around ds q t) (transformation_rows.rule_row ds r)
  pub beside : (ds : scope.Declarations) → IsTyped ds → (q : Sequent) (t : IsTypedGoalOf ds q) → type_of q.conclusion ≡ ty.Bool → (ls rs : List TypedName) →
      IsGoalOver (around ds q t) ls rs (goal_of q.conclusion) → (n : ℕ) (u : Bool) (a : Acts) (place : Place) (qs : List Sequent) → beside_answer ds n u a place q ≡ given qs →
      AllByRecursion (IsTypedGoalOf ds) qs × (SequentEnds (declared ds) q → AllByRecursion (SequentEnds (declared ds)) qs × (AllByRecursion (Holds (declared ds)) qs → Holds (declared ds) q))
  pub proved : (ds : scope.Declarations) (bs : List Bind) → IsTyped (seen ds bs) → IsFirmScope ds → IsSound (declared ds) → ScopeSpeaks NoName (declared ds) → (q : Sequent) → IsTypedGoalOf (seen ds bs) q → q.modules ≡ [] →
      InEachSetting (declared (seen ds bs)) q (ProvedEnd (seen ds bs))
  pub with_proved : (ds : scope.Declarations) → IsTyped ds → (q : Sequent) (t : IsTypedGoalOf ds q) → type_of q.conclusion ≡ ty.Bool → (ls rs : List TypedName) →
      IsGoalOver (around ds q t) ls rs (goal_of q.conclusion) → InEachSetting (declared ds) q (ProvedEnd ds) → (row : Row) →
      ((Gs : List Goal) → row (goal_of q.conclusion) ≡ given Gs → IsSoundOnProved ds (around ds q t) Gs (goal_of q.conclusion)) →
      (qs : List Sequent) → answered row q ≡ given qs →
      AllByRecursion (IsTypedSequent (context_of (declared ds))) qs × (SequentEnds (declared ds) q → AllByRecursion (SequentEnds (declared ds)) qs × (AllByRecursion (Holds (declared ds)) qs → Holds (declared ds) q))

-- Typed scopes have models, equivalences give couplings, and what holds goes on to hold, also beside abstract modules; and what holds where
-- its modules are declared holds.
pub record OfModels : Type 0 where
  pub model : (ds : scope.Declarations) → IsTyped ds → HasModel ds
  pub coupled : (ds : scope.Declarations) → IsTyped ds → (xs : List TypedName) (ms : List Name) (bs : List Bind) (f h : ProcRef) (P Q : Term) →
      IsTypedGoalOf ds (stated xs ms bs (equivalence f h P Q)) → Holds (declared ds) (stated xs ms bs (equivalence f h P Q)) → AreCoupledInEachModel ds xs bs f h P Q
  pub stay : (ds es : scope.Declarations) → IsTyped (ds ++ es) → IsFirmScope (ds ++ es) → (q : Sequent) → IsTypedGoalOf ds q → IsWithoutModules q →
      ScopeSpeaks NoName (declared (ds ++ es)) → GoalSpeaks NoName q → Holds (declared ds) q → Holds (declared (ds ++ es)) q
  pub stay_typed : (ds es : scope.Declarations) → IsTyped (ds ++ es) → (q : Sequent) → IsTypedGoalOf ds q → IsWithoutModules q → IsTypedGoalOf (ds ++ es) q
  pub stay_seen : (ds : scope.Declarations) (bs : List Bind) → IsTyped (seen ds bs) → IsFirmScope ds → (q : Sequent) → IsTypedGoalOf ds q → IsWithoutModules q →
      ScopeSpeaks NoName (declared ds) → GoalSpeaks NoName q → Holds (declared ds) q → Holds (declared (seen ds bs)) q
  pub instances : (ds es : scope.Declarations) → IsTyped (ds ++ es) → IsFirmScope ds → ScopeSpeaks NoName (declared (ds ++ es)) → AreUnblank (ds ++ es) → (q : Sequent) → IsTypedGoalOf ds q → IsOfProcedures q → Holds (declared ds) q → (ks : List GivenModule) →
      AreModulesOf (ds ++ es) ks → (p : Place) (r : Sequent) → instance_of (ds ++ es) q ks p ≡ given r → (r.modules ≡ []) × IsFact (ds ++ es) r
  pub without_declared : (ds : scope.Declarations) (q : Sequent) → Holds (declared (seen ds q.modules)) (with_declared_modules q) → Holds (declared ds) q
  pub parts : (ds es : scope.Declarations) → ScopeSpeaks NoName (declared (ds ++ es)) ↔ (ScopeSpeaks NoName (declared ds) × ScopeSpeaks NoName (declared es))

pub record Grounds : Type 0 where
  pub typing : OfTyping
  pub names : OfNames
  pub rules : OfRules
  pub loops : OfLoops
  pub models : OfModels
