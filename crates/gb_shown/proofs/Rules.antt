-- Proof steps: what a rule is given is named.
use Rattle.std.proofs.Common.{◌≡◌, ℕ, ◌-◌, Bool, true, false, if◌then◌else◌, bytes_eq, codes, List, [], ◌∷◌, length, take, drop, Option, Some, None, refl, subst}
use Rattle.gb_core.specs.declared.place.Place.{Place}
use Rattle.gb_core.specs.declared.ty.Ty.TheVariants as ty
use Rattle.gb_terms.specs.declared.decl.TypedName.{TypedName}
use Rattle.gb_terms.specs.declared.module.ProcRef.{ProcRef}
use Rattle.gb_terms.specs.declared.op.Rel.TheVariants as rel
use Rattle.gb_terms.specs.declared.op.Side.{Side}
use Rattle.gb_terms.specs.declared.op.Side.TheVariants as side
use Rattle.gb_terms.specs.declared.term.Head.{Head}
use Rattle.gb_terms.specs.declared.term.Head.TheVariants as head
use Rattle.gb_terms.specs.declared.term.Instr.{Instr}
use Rattle.gb_terms.specs.declared.term.Term.{Term, out-Term}
use Rattle.gb_goal.specs.Answers.{Answer, ◌>>=◌, not_built}
use Rattle.gb_goal.specs.Answers.Answer.{given}
use Rattle.gb_goal.specs.Goal.{Goal, goal_at, goal_of}
use Rattle.gb_goal.specs.Goal.Code.{body}
use Rattle.gb_goal.specs.Goal.Goal.{hoare, phoare, equiv}
use Rattle.gb_goal.specs.Interfaces.{ProcedureType, procedure_type}
use Rattle.gb_goal.specs.Scope.{Declarations}
use Rattle.gb_goal.specs.declared.sequent.Sequent.{Sequent}
use Rattle.gb_script.specs.declared.head.Head.{Head as Kind}
use Rattle.gb_script.specs.declared.head.Head.TheVariants as text
use Rattle.gb_script.specs.declared.tree.Node.{Node}
use Rattle.gb_script.specs.Tree.{head_of, text_of, parts_of, place_of}
use Rattle.gb_steps.specs.declared.step.Acts.{Acts}
use Rattle.gb_steps.specs.declared.step.Acts.TheVariants as on
use Rattle.gb_steps.specs.declared.step.AmbientRule.{AmbientRule}
use Rattle.gb_steps.specs.declared.step.AmbientRule.TheVariants as conclusion
use Rattle.gb_steps.specs.declared.step.BodyRule.{BodyRule}
use Rattle.gb_steps.specs.declared.step.BodyRule.TheVariants as on_bodies
use Rattle.gb_steps.specs.declared.step.EventLaw.TheVariants as event_law
use Rattle.gb_steps.specs.declared.step.ProbabilityRule.TheVariants as probability_rule
use Rattle.gb_steps.specs.declared.step.RelationalRule.{RelationalRule}
use Rattle.gb_steps.specs.declared.step.RelationalRule.TheVariants as relational_rule
use Rattle.gb_steps.specs.declared.step.RewriteRule.TheVariants as rewrite_rule
use Rattle.gb_steps.specs.declared.step.Rule.{Rule}
use Rattle.gb_steps.specs.declared.step.Rule.TheVariants as rule
use Rattle.gb_steps.specs.declared.step.Until.{Until}
use Rattle.gb_steps.specs.declared.step.Step.{Step}
use Rattle.gb_steps.specs.Chances.{Bounded, Compared, bounded_of, chances_of}
use Rattle.gb_steps.specs.First.{first_procedure}
use Rattle.gb_meaning.specs.Declared.{declared}
use Rattle.gb_typing.specs.Context.{Context}
use Rattle.gb_typing.specs.Goals.{IsGoalOver}
use Rattle.gb_typing.specs.Scopes.{context_of}
use Rattle.gb_typing.specs.Sequents.{of_sequent, IsTypedSequent}
use Rattle.gb_typing.proofs.TypedGoals.{conclusion_goal}
use Rattle.gb_names.specs.Environment.{Environment, ambient as ambient_in, relational, unary}
use Rattle.gb_names.specs.Judgments.{Named as Reference, functor_procedure, named_procedure}
use Rattle.gb_elab.specs.Forms.{elaborated}
use Rattle.gb_elab_mod.specs.Multiples.{hypothesis_at, multiples, position}
use Rattle.gb_elab_mod.specs.OnPrograms.{functions_of, acts, calls_by, calls_until, until_of, until_on, entering_rule, kept_of, kept_on, procedures_by, on_all, plain_rule, cut_of, chance_rule, both_rule, named_rule, params_if, result_if, last_procedure, contract_of, contract_of_both, contract_on, contract_at, call_rule, related, said_around, by_phoare_rule, by_equiv_rule, by_rule, between_of, procedures_of, Contracts, contracts, between_by, between_words, between_functor, between_at, transitive_rule}
use Rattle.gb_elab_mod.specs.Steps.{conclusion_rule, formed, asked_of, value_witness, memory_witness, witness_rule, pattern, passing_rule, placed_rule, transforming_rule, event_law_rule, if_there, splitting_rule, event_rule, equals_rule, used_rule, calls_of, inlining_rule, looping_rule, have_rule, typed_rule, step_given}
use Rattle.gb_elab_mod.specs.Taken.{new_name}
use Rattle.gb_elab_mod.specs.Uses.{all_hinted, defined_operator, hypothesis, is_memory, memory_of, used}
use Rattle.gb_elab_prog.specs.Unbuilt.{absent}
use Rattle.gb_elab_laws.proofs.Given.{given_bind, given_is, not_given}
use Rattle.gb_print_names.specs.declared.bound_names.Enumeration.{Enumeration}
use Rattle.gb_print.specs.Written.{is_name_text}
use Rattle.gb_shown.specs.Named.{IsNamedHead, IsNamed, IsNamedGoal, IsNamedSequent}
use Rattle.gb_shown.specs.Rules.{AreNamedArguments, IsNamedIfAny, IsNamedRelational, IsNamedRule, IsNamedStep}
use Rattle.gb_shown.proofs.SpeltForms.{as_result}
use Rattle.gb_shown.proofs.NamedGoals.{no_front}
use Rattle.gb_shown.proofs.SpeltTrees.{parts_named}
use Rattle.gb_shown.specs.Laws.{IsNamedReference}
use Rattle.gb_shown.specs.Scopes.{IsNamedScope, IsNamedWanted}
use Rattle.gb_shown.specs.Words.{HasItsNames, IsName, IsReadTree}
use Rattle.gb_shown.proofs.Judged.{functor_is, named_is}
use Rattle.gb_shown.proofs.OfForms.{OfForms}
use Rattle.gb_shown.proofs.Settings.{ambient_named, relational_named, unary_named}
use Rattle.gb_shown.proofs.Trees.{AreRead, drop_read, node_read, parts_read}
use Rattle.gb_shown.proofs.Used.{hypothesis_is_named, used_is_named}
use Rattle.gb_shown.proofs.BodyRules.{truth_named, formed_named, params_local, results_local, of_bodies_named, functions_read, seq_named, conseq_all, case_named, kept_named, drawing_named}

-- what isn't built is not given
none_built : {A : Type 0} {B : Type 0} (p : Place) (x : A) → not_built p ≡ given x → B
none_built p x e = absurd (not_given _ _ x e)

-- one of several rules by their names
choice : {A : Type 0} (P : A → Type 0) (b : Bool) (x : A) (a : Answer A) (y : A) → P x → (a ≡ given y → P y) → (if b then given x else a) ≡ given y → P y
choice P true x a y h k e = subst P (given_is x y e) h
choice P false x a y h k e = k e

module _ (forms : OfForms) (es : List Enumeration) (ds : Declarations) (k : IsNamedScope es ds) (q : Sequent) (n : IsNamedSequent es q) where
  abbrev Named : Term → Type 0
  Named f = IsNamed es f

  abbrev Gives : Answer Rule → Type 0
  Gives a = (r : Rule) → a ≡ given r → AreNamedArguments es r

  -- Rules without forms.

  on_all_named : (a : Acts) (r : BodyRule) → IsNamedRule es r → IsNamedRule es (on_all a r)
  on_all_named on.All r h = h
  on_all_named on.Left r h = tt
  on_all_named on.Right r h = tt

  plain_named : (x : List ℕ) (a : Acts) (p : Place) (r : BodyRule) → plain_rule x a p ≡ given r → IsNamedRule es r
  plain_named x a p r e =
      choice (IsNamedRule es) (bytes_eq x (codes "skip")) (on_all a on_bodies.Skip) _ r (on_all_named a on_bodies.Skip tt)
      (λ e. choice (IsNamedRule es) (bytes_eq x (codes "if")) (on_bodies.If a) _ r tt
      (λ e. choice (IsNamedRule es) (bytes_eq x (codes "wp")) (on_bodies.Wp a) _ r tt (λ e. none_built p r e) e) e) e

  chance_named : (a : Acts) → AreNamedArguments es (chance_rule a)
  chance_named on.All = tt
  chance_named on.Left = tt
  chance_named on.Right = tt

  both_named : (r : RelationalRule) (a : Acts) → IsNamedRelational es r → AreNamedArguments es (both_rule r a)
  both_named r on.All h = h
  both_named r on.Left h = tt
  both_named r on.Right h = tt

  named_named : (x : List ℕ) (a : Acts) (p : Place) → Gives (named_rule x a p)
  named_named x a p r e =
      choice (AreNamedArguments es) (bytes_eq x (codes "hoare")) (chance_rule a) _ r (chance_named a)
      (λ e. choice (AreNamedArguments es) (bytes_eq x (codes "symmetry")) (both_rule relational_rule.Symmetry a) _ r (both_named relational_rule.Symmetry a tt)
      (λ e. choice (AreNamedArguments es) (bytes_eq x (codes "sim")) (both_rule relational_rule.Sim a) _ r (both_named relational_rule.Sim a tt)
      (λ e. of_bodies_named forms es ds k q n (plain_rule x a p) (plain_named x a p) r e) e) e) e

  conclusion_named : (x : List ℕ) (p : Place) (r : AmbientRule) → conclusion_rule x p ≡ given r → IsNamedStep es r
  conclusion_named x p r e =
      choice (IsNamedStep es) (bytes_eq x (codes "split")) conclusion.Split _ r tt
      (λ e. choice (IsNamedStep es) (bytes_eq x (codes "left")) conclusion.Left _ r tt
      (λ e. choice (IsNamedStep es) (bytes_eq x (codes "right")) conclusion.Right _ r tt
      (λ e. choice (IsNamedStep es) (bytes_eq x (codes "assumption")) conclusion.Assumption _ r tt
      (λ e. choice (IsNamedStep es) (bytes_eq x (codes "trivial")) conclusion.Trivial _ r tt
      (λ e. choice (IsNamedStep es) (bytes_eq x (codes "//")) conclusion.Trivial _ r tt
      (λ e. choice (IsNamedStep es) (bytes_eq x (codes "done")) conclusion.Done _ r tt (λ e. none_built p r e) e) e) e) e) e) e) e

  -- Patterns and transformations.

  pattern_named : (h : Kind) (x : List ℕ) (ps : List Node) → (h ≡ text.Name → is_name_text x ≡ true) → HasItsNames h ps → (p : Place) → Gives (pattern h x ps p)
  pattern_named text.Name x [] w m p r e = subst (AreNamedArguments es) (given_is _ r e) (w refl)
  pattern_named text.Name x (a ∷ ps) w m p r e = none_built p r e
  pattern_named text.Memory x (a ∷ []) w m p r e = subst (AreNamedArguments es) (given_is _ r e) m
  pattern_named text.Memory x [] w m p r e = none_built p r e
  pattern_named text.Memory x (a ∷ b ∷ ps) w m p r e = none_built p r e
  pattern_named text.Drop x [] w m p r e = subst (AreNamedArguments es) (given_is _ r e) tt
  pattern_named text.Drop x (a ∷ ps) w m p r e = none_built p r e
  pattern_named text.BothPatterns x ps w m p r e = subst (AreNamedArguments es) (given_is _ r e) tt
  pattern_named text.EitherPattern x ps w m p r e = subst (AreNamedArguments es) (given_is _ r e) tt
  pattern_named text.SmtPattern x [] w m p r e = subst (AreNamedArguments es) (given_is _ r e) tt
  pattern_named text.SmtPattern x (a ∷ ps) w m p r e = none_built p r e
  pattern_named text.TrivialPattern x [] w m p r e = subst (AreNamedArguments es) (given_is _ r e) tt
  pattern_named text.TrivialPattern x (a ∷ ps) w m p r e = none_built p r e
  pattern_named _ x ps w m p r e = none_built p r e

  passing_named : (a : Acts) (m : Node) (h : Kind) (ns : List Node) (p : Place) → Gives (passing_rule a m h ns p)
  passing_named a m text.Forward (d ∷ []) p r e = subst (AreNamedArguments es) (given_is _ r e) tt
  passing_named a m text.Forward [] p r e = none_built p r e
  passing_named a m text.Forward (d ∷ c ∷ ns) p r e = none_built p r e
  passing_named a m text.Backward (d ∷ []) p r e = subst (AreNamedArguments es) (given_is _ r e) tt
  passing_named a m text.Backward [] p r e = none_built p r e
  passing_named a m text.Backward (d ∷ c ∷ ns) p r e = none_built p r e
  passing_named a m _ ns p r e = none_built p r e

  placed_named : (x : List ℕ) (a : Acts) (i : ℕ) (p : Place) → Gives (placed_rule x a i p)
  placed_named x a i p r e =
      choice (AreNamedArguments es) (bytes_eq x (codes "rcondt")) _ _ r tt
      (λ e. choice (AreNamedArguments es) (bytes_eq x (codes "rcondf")) _ _ r tt
      (λ e. choice (AreNamedArguments es) (bytes_eq x (codes "unroll")) _ _ r tt
      (λ e. choice (AreNamedArguments es) (bytes_eq x (codes "kill")) _ _ r tt (λ e. none_built p r e) e) e) e) e

  transforming_named : (h : Kind) (x : List ℕ) (ps : List Node) → (h ≡ text.Name → is_name_text x ≡ true) → HasItsNames h ps → (p : Place) → Gives (transforming_rule h x ps p)
  transforming_named text.Swap x (b ∷ m ∷ way ∷ []) w s p r e = passing_named (acts (parts_of b)) m (head_of way) (parts_of way) p r e
  transforming_named text.Swap x [] w s p r e = none_built p r e
  transforming_named text.Swap x (a ∷ []) w s p r e = none_built p r e
  transforming_named text.Swap x (a ∷ b ∷ []) w s p r e = none_built p r e
  transforming_named text.Swap x (a ∷ b ∷ c ∷ d ∷ ps) w s p r e = none_built p r e
  transforming_named text.PositionStep x (b ∷ m ∷ []) w s p r e = placed_named x (acts (parts_of b)) (position m) p r e
  transforming_named text.PositionStep x [] w s p r e = none_built p r e
  transforming_named text.PositionStep x (a ∷ []) w s p r e = none_built p r e
  transforming_named text.PositionStep x (a ∷ b ∷ c ∷ ps) w s p r e = none_built p r e
  transforming_named h x ps w s p r e = pattern_named h x ps w s p r e

  -- Laws of events.

  law_named : (x : List ℕ) (p : Place) → Gives (event_law_rule x p)
  law_named x p r e =
      choice (AreNamedArguments es) (bytes_eq x (codes "mu_or")) (rule.Rewrite (rewrite_rule.Law event_law.Or)) _ r tt
      (λ e. choice (AreNamedArguments es) (bytes_eq x (codes "mu_not")) (rule.Rewrite (rewrite_rule.Law event_law.Not)) _ r tt
      (λ e. choice (AreNamedArguments es) (bytes_eq x (codes "mu_false")) (rule.Rewrite (rewrite_rule.Law event_law.False)) _ r tt
      (λ e. choice (AreNamedArguments es) (bytes_eq x (codes "mu_eq")) (rule.Probability (probability_rule.ByEvents rel.Equal)) _ r tt
      (λ e. choice (AreNamedArguments es) (bytes_eq x (codes "mu_sub")) (rule.Probability (probability_rule.ByEvents rel.AtMost)) _ r tt
      (λ e. choice (AreNamedArguments es) (bytes_eq x (codes "mu_ge0")) (rule.Probability (probability_rule.Within rel.AtLeast)) _ r tt
      (λ e. choice (AreNamedArguments es) (bytes_eq x (codes "mu_le1")) (rule.Probability (probability_rule.Within rel.AtMost)) _ r tt (λ e. none_built p r e) e) e) e) e) e) e) e

  -- where a procedure isn't declared, the rule has no arguments
  declared_named : (o : Option ProcedureType) (a : Answer Rule) → Gives a → Gives (if_there o a)
  declared_named (Some p) a h r e = h r e
  declared_named None a h r e = subst (AreNamedArguments es) (given_is _ r e) tt

  splitting_named : (t : Node) → IsReadTree t → (o : Option ProcRef) → Gives (splitting_rule ds q t o)
  unfolding splitting_rule
  splitting_named t l (Some f) r e = declared_named (procedure_type ds None f) (event >>= split) by_event r e
    where
      event : Answer Term
      event = elaborated t (unary ds q (result_if (procedure_type ds None f))) [] (Some ty.Bool)

      split : Term → Answer Rule
      split g = given (rule.Rewrite (rewrite_rule.Law (event_law.Split f g)))

      by_event : Gives (event >>= split)
      by_event r e = let a = given_bind event split r e in subst (AreNamedArguments es) (given_is _ r a.2) (truth_named forms es ds k q n _ (unary_named es ds k q n _ (results_local forms es ds k q n f)) t l a.0 a.1)
  splitting_named t l None r e = subst (AreNamedArguments es) (given_is _ r e) tt

  event_named : (h : Kind) (x : List ℕ) (ps : List Node) → (h ≡ text.Name → is_name_text x ≡ true) → HasItsNames h ps → AreRead ps → (p : Place) → Gives (event_rule ds q h x ps p)
  event_named text.RewriteLaw x [] w s l p r e = law_named x p r e
  event_named text.RewriteLaw x (a ∷ ps) w s l p r e = none_built p r e
  event_named text.RewriteSplit x (t ∷ []) w s l p r e = splitting_named t l.0 (first_procedure q.conclusion) r e
  event_named text.RewriteSplit x [] w s l p r e = none_built p r e
  event_named text.RewriteSplit x (a ∷ b ∷ ps) w s l p r e = none_built p r e
  event_named h x ps w s l p r e = transforming_named h x ps w s p r e

  equals_named : (h : Kind) (x : List ℕ) (ps : List Node) → (h ≡ text.Name → is_name_text x ≡ true) → HasItsNames h ps → AreRead ps → (p : Place) → Gives (equals_rule ds q h x ps p)
  equals_named text.RewriteLemma x (t ∷ []) w s l p r e = let a = given_bind (used ds q t) _ r e in subst (AreNamedArguments es) (given_is _ r a.2) (used_is_named forms es ds k q n t l.0 a.0 a.1)
  equals_named text.RewriteBack x (t ∷ []) w s l p r e = let a = given_bind (used ds q t) _ r e in subst (AreNamedArguments es) (given_is _ r a.2) (used_is_named forms es ds k q n t l.0 a.0 a.1)
  equals_named text.RewriteHypothesis x (m ∷ []) w s l p r e =
      let a = given_bind (hypothesis ds q (text_of m) (place_of m)) _ r e in subst (AreNamedArguments es) (given_is _ r a.2) (hypothesis_is_named forms es ds k q n (text_of m) (place_of m) a.0 a.1)
  equals_named text.Subst x (m ∷ []) w s l p r e = let a = given_bind (hypothesis_at ds q (text_of m) (place_of m)) _ r e in subst (AreNamedArguments es) (given_is _ r a.2) tt
  equals_named text.RewriteOperator x (m ∷ []) w s l p r e = let a = given_bind (defined_operator ds q m) _ r e in subst (AreNamedArguments es) (given_is _ r a.2) tt
  equals_named text.RewriteLemma x [] w s l p r e = none_built p r e
  equals_named text.RewriteLemma x (a ∷ b ∷ ps) w s l p r e = none_built p r e
  equals_named text.RewriteBack x [] w s l p r e = none_built p r e
  equals_named text.RewriteBack x (a ∷ b ∷ ps) w s l p r e = none_built p r e
  equals_named text.RewriteHypothesis x [] w s l p r e = none_built p r e
  equals_named text.RewriteHypothesis x (a ∷ b ∷ ps) w s l p r e = none_built p r e
  equals_named text.Subst x [] w s l p r e = none_built p r e
  equals_named text.Subst x (a ∷ b ∷ ps) w s l p r e = none_built p r e
  equals_named text.RewriteOperator x [] w s l p r e = none_built p r e
  equals_named text.RewriteOperator x (a ∷ b ∷ ps) w s l p r e = none_built p r e
  equals_named h x ps w s l p r e = event_named h x ps w s l p r e

  used_named : (h : Kind) (x : List ℕ) (ps : List Node) → (h ≡ text.Name → is_name_text x ≡ true) → HasItsNames h ps → AreRead ps → (p : Place) → Gives (used_rule ds q h x ps p)
  used_named text.ApplyLemma x (t ∷ []) w s l p r e = let a = given_bind (used ds q t) _ r e in subst (AreNamedArguments es) (given_is _ r a.2) (used_is_named forms es ds k q n t l.0 a.0 a.1)
  used_named text.ApplyLemma x [] w s l p r e = none_built p r e
  used_named text.ApplyLemma x (a ∷ b ∷ ps) w s l p r e = none_built p r e
  used_named text.HaveLemma x (m ∷ t ∷ []) w s l p r e =
      let a = given_bind (new_name ds q (text_of m) (place_of m)) _ r e in
      let b = given_bind (used ds q t) _ r a.2 in
      subst (AreNamedArguments es) (given_is _ r b.2) (s, used_is_named forms es ds k q n t l.1.0 b.0 b.1)
  used_named text.HaveLemma x [] w s l p r e = none_built p r e
  used_named text.HaveLemma x (a ∷ []) w s l p r e = none_built p r e
  used_named text.HaveLemma x (a ∷ b ∷ c ∷ ps) w s l p r e = none_built p r e
  used_named h x ps w s l p r e = equals_named h x ps w s l p r e

  inlining_named : (a : Acts) (fs : List Node) (p : Place) → Gives (inlining_rule ds q a fs p)
  inlining_named a fs p r e = let b = given_bind (calls_of ds q fs p) _ r e in subst (AreNamedArguments es) (given_is _ r b.2) tt

  have_named : (m f : Node) → IsName m → IsReadTree f → Gives (have_rule ds q m f)
  have_named m f i l r e =
      let a = given_bind (new_name ds q (text_of m) (place_of m)) _ r e in
      let b = given_bind (formed ds q f) _ r a.2 in
      subst (AreNamedArguments es) (given_is _ r b.2) (i, formed_named forms es ds k q n f l b.0 b.1)

  memory_named : (s : Side) (p : Place) (r : AmbientRule) → memory_witness q s p ≡ given r → IsNamedStep es r
  memory_named (side.Memory i) p r e = by_test _ e
    where
      by_test : (b : Bool) → (if b then not_built p else given (conclusion.WitnessMemory i)) ≡ given r → IsNamedStep es r
      by_test true e = none_built p r e
      by_test false e = subst (IsNamedStep es) (given_is _ r e) tt
  memory_named _ p r e = none_built p r e

  -- what is said to exist has a named type
  asked_named : (f : Term) (h : Head) (ts : List Term) → (out-Term f).head ≡ h → IsNamedGoal es (goal_at f h ts) → IsNamedWanted (asked_of h)
  asked_named f (head.Some u) ts i x = let p = parts_named es f x in as_result u (subst (λ (z : Head). IsNamedHead es z (out-Term f).ty) i p.0)
  asked_named f _ ts i x = tt

  witness_named : (t : Node) → IsReadTree t → (r : AmbientRule) → witness_rule ds q t ≡ given r → IsNamedStep es r
  witness_named t l r e = by_kind (is_memory (head_of t)) e
    where
      by_kind : (b : Bool) → (if b then (memory_of ds q (head_of t) (parts_of t) (place_of t) >>= λ s. memory_witness q s (place_of t)) else value_witness ds q t) ≡ given r → IsNamedStep es r
      by_kind true e = let a = given_bind (memory_of ds q (head_of t) (parts_of t) (place_of t)) _ r e in memory_named a.0 (place_of t) r a.2
      by_kind false e =
          let a = given_bind (elaborated t (ambient_in ds q) [] (asked_of (out-Term q.conclusion).head)) _ r e in
          subst (IsNamedStep es) (given_is _ r a.2)
          (forms.form es (ambient_in ds q) (ambient_named es ds k q n) [] tt (asked_of (out-Term q.conclusion).head) (asked_named q.conclusion (out-Term q.conclusion).head (out-Term q.conclusion).args refl n.conclusion) t l a.0 a.1)

  -- Contracts of procedures.

  contract_named : (a : Acts) (pre post : Node) → IsReadTree pre → IsReadTree post → (o : Option ProcRef) → Gives (contract_of ds q a pre post o)
  unfolding contract_of
  contract_named a pre post l m None r e = subst (AreNamedArguments es) (given_is _ r e) tt
  contract_named a pre post l m (Some f) r e =
      let b = given_bind (elaborated pre (unary ds q (params_if (procedure_type ds None f))) [] (Some ty.Bool)) _ r e in
      let c = given_bind (elaborated post (unary ds q (result_if (procedure_type ds None f))) [] (Some ty.Bool)) _ r b.2 in
      subst (AreNamedArguments es) (given_is _ r c.2)
      (truth_named forms es ds k q n _ (unary_named es ds k q n _ (params_local forms es ds k q n f)) pre l b.0 b.1, truth_named forms es ds k q n _ (unary_named es ds k q n _ (results_local forms es ds k q n f)) post m c.0 c.1)

  contract_both_named : (a : Acts) (pre post : Node) → IsReadTree pre → IsReadTree post → (o u : Option ProcRef) → Gives (contract_of_both ds q a pre post o u)
  unfolding contract_of_both
  contract_both_named a pre post l m (Some f) (Some g) r e =
      let b = given_bind (elaborated pre (relational ds q (params_if (procedure_type ds None f)) (params_if (procedure_type ds None g))) [] (Some ty.Bool)) _ r e in
      let c = given_bind (elaborated post (relational ds q (result_if (procedure_type ds None f)) (result_if (procedure_type ds None g))) [] (Some ty.Bool)) _ r b.2 in
      subst (AreNamedArguments es) (given_is _ r c.2)
      (truth_named forms es ds k q n _ (relational_named es ds k q n _ _ (params_local forms es ds k q n f) (params_local forms es ds k q n g)) pre l b.0 b.1, truth_named forms es ds k q n _ (relational_named es ds k q n _ _ (results_local forms es ds k q n f) (results_local forms es ds k q n g)) post m c.0 c.1)
  contract_both_named a pre post l m None u r e = subst (AreNamedArguments es) (given_is _ r e) tt
  contract_both_named a pre post l m (Some f) None r e = subst (AreNamedArguments es) (given_is _ r e) tt

  contract_on_named : (a : Acts) (pre post : Node) → IsReadTree pre → IsReadTree post → (is js : List Instr) → Gives (contract_on ds q a pre post is js)
  contract_on_named on.All pre post l m is js = contract_both_named on.All pre post l m (last_procedure is) (last_procedure js)
  contract_on_named on.Left pre post l m is js = contract_named on.Left pre post l m (last_procedure is)
  contract_on_named on.Right pre post l m is js = contract_named on.Right pre post l m (last_procedure js)

  contract_at_named : (a : Acts) (pre post : Node) → IsReadTree pre → IsReadTree post → (G : Goal) → Gives (contract_at ds q a pre post G)
  contract_at_named a pre post l m (hoare (body is) p g) r e = contract_named a pre post l m (last_procedure is) r e
  contract_at_named a pre post l m (phoare (body is) o p g b) r e = contract_named a pre post l m (last_procedure is) r e
  contract_at_named a pre post l m (equiv (body is) (body js) p g) r e = contract_on_named a pre post l m is js r e
  contract_at_named a pre post l m _ r e = subst (AreNamedArguments es) (given_is _ r e) tt

  -- What oracles keep.

  kept_form_named : (t : Node) → IsReadTree t → (G : Goal) (o : Option Term) → kept_of ds q t G ≡ given o → IsNamedIfAny es o
  unfolding kept_of
  kept_form_named t l (hoare a p g) o e =
      let b = given_bind (elaborated t (unary ds q []) [] (Some ty.Bool)) (λ (f : Term). given (Some f)) o e in
      subst (IsNamedIfAny es) {x = Some b.0} (given_is (Some b.0) o b.2) (truth_named forms es ds k q n _ (unary_named es ds k q n [] tt) t l b.0 b.1)
  kept_form_named t l (equiv a d p g) o e =
      let b = given_bind (elaborated t (relational ds q [] []) [] (Some ty.Bool)) (λ (f : Term). given (Some f)) o e in
      subst (IsNamedIfAny es) {x = Some b.0} (given_is (Some b.0) o b.2) (truth_named forms es ds k q n _ (relational_named es ds k q n [] [] tt tt) t l b.0 b.1)
  kept_form_named t l _ o e = subst (IsNamedIfAny es) {x = None} (given_is None o e) tt

  kept_on_named : (a : Acts) (t : Node) → IsReadTree t → (o : Option Term) → kept_on ds q a t ≡ given o → IsNamedIfAny es o
  kept_on_named on.All t l o e = kept_form_named t l (goal_of q.conclusion) o e
  kept_on_named on.Left t l o e = subst (IsNamedIfAny es) {x = None} (given_is None o e) tt
  kept_on_named on.Right t l o e = subst (IsNamedIfAny es) {x = None} (given_is None o e) tt

  calls_by_named : (o : Option Term) → IsNamedIfAny es o → AreNamedArguments es (calls_by o)
  calls_by_named None h = tt
  calls_by_named (Some f) h = h

  procedures_by_named : (o : Option Term) → IsNamedIfAny es o → AreNamedArguments es (procedures_by o)
  procedures_by_named None h = tt
  procedures_by_named (Some f) h = h

  -- What they keep until an event has come about.

  abbrev IsNamedUntil : Option Until → Type 0
  IsNamedUntil None = Unit {0}
  IsNamedUntil (Some u) = Named u.event × Named u.kept

  until_forms_named : (t v : Node) → IsReadTree t → IsReadTree v → (G : Goal) (o : Option Until) → until_of ds q t v G ≡ given o → IsNamedUntil o
  unfolding until_of
  until_forms_named t v l m (equiv a d p g) o e =
      let b = given_bind (elaborated t (unary ds q []) [] (Some ty.Bool)) _ o e in
      let c = given_bind (elaborated v (relational ds q [] []) [] (Some ty.Bool)) (λ (f : Term). given (Some (record { event = b.0; kept = f }))) o b.2 in
      let made : Until = record { event = b.0; kept = c.0 } in
      subst IsNamedUntil {x = Some made} (given_is (Some made) o c.2)
      (truth_named forms es ds k q n _ (unary_named es ds k q n [] tt) t l b.0 b.1, truth_named forms es ds k q n _ (relational_named es ds k q n [] [] tt tt) v m c.0 c.1)
  until_forms_named t v l m _ o e = subst IsNamedUntil {x = None} (given_is None o e) tt

  until_on_named : (a : Acts) (t v : Node) → IsReadTree t → IsReadTree v → (o : Option Until) → until_on ds q a t v ≡ given o → IsNamedUntil o
  until_on_named on.All t v l m o e = until_forms_named t v l m (goal_of q.conclusion) o e
  until_on_named on.Left t v l m o e = subst IsNamedUntil {x = None} (given_is None o e) tt
  until_on_named on.Right t v l m o e = subst IsNamedUntil {x = None} (given_is None o e) tt

  until_named : (o : Option Until) → IsNamedUntil o → AreNamedArguments es (calls_until o)
  until_named None h = tt
  until_named (Some u) h = h

  entering_named : (a : Acts) (ns : List Node) → AreRead ns → (p : Place) → Gives (entering_rule ds q a ns p)
  entering_named a [] l p r e = subst (AreNamedArguments es) (given_is _ r e) (on_all_named a on_bodies.Proc tt)
  entering_named a (t ∷ []) l p r e =
      let b = given_bind (kept_on ds q a t) (λ o. given (procedures_by o)) r e in subst (AreNamedArguments es) (given_is _ r b.2) (procedures_by_named b.0 (kept_on_named a t l.0 b.0 b.1))
  entering_named a (t ∷ u ∷ ns) l p r e = none_built p r e

  call_named : (a : Acts) (h : Kind) (ns : List Node) → AreRead ns → (p : Place) → Gives (call_rule ds q a h ns p)
  call_named a text.CallContract (pre ∷ post ∷ []) l p r e = contract_at_named a pre post l.0 l.1.0 (goal_of q.conclusion) r e
  call_named a text.CallContract [] l p r e = none_built p r e
  call_named a text.CallContract (x ∷ []) l p r e = none_built p r e
  call_named a text.CallContract (x ∷ y ∷ z ∷ ns) l p r e = none_built p r e
  call_named a text.CallInvariant (t ∷ []) l p r e =
      let b = given_bind (kept_on ds q a t) (λ o. given (calls_by o)) r e in subst (AreNamedArguments es) (given_is _ r b.2) (calls_by_named b.0 (kept_on_named a t l.0 b.0 b.1))
  call_named a text.CallInvariant [] l p r e = none_built p r e
  call_named a text.CallInvariant (t ∷ u ∷ ns) l p r e = none_built p r e
  call_named a text.CallUpto (t ∷ u ∷ []) l p r e =
      let b = given_bind (until_on ds q a t u) (λ o. given (calls_until o)) r e in subst (AreNamedArguments es) (given_is _ r b.2) (until_named b.0 (until_on_named a t u l.0 l.1.0 b.0 b.1))
  call_named a text.CallUpto [] l p r e = none_built p r e
  call_named a text.CallUpto (t ∷ []) l p r e = none_built p r e
  call_named a text.CallUpto (t ∷ u ∷ v ∷ ns) l p r e = none_built p r e
  call_named a text.CallLemma (t ∷ []) l p r e = let b = given_bind (used ds q t) _ r e in subst (AreNamedArguments es) (given_is _ r b.2) (used_is_named forms es ds k q n t l.0 b.0 b.1)
  call_named a text.CallLemma [] l p r e = none_built p r e
  call_named a text.CallLemma (x ∷ y ∷ ns) l p r e = none_built p r e
  call_named a _ ns l p r e = none_built p r e

  -- A procedure between two others.

  related_named : (pre post : Node) → IsReadTree pre → IsReadTree post → (f g : ProcRef) (x : Term × Term) → related ds q pre post f g ≡ given x → Named x.0 × Named x.1
  unfolding related
  related_named pre post l m f g x e =
      let b = given_bind (elaborated pre (relational ds q (params_if (procedure_type ds None f)) (params_if (procedure_type ds None g))) [] (Some ty.Bool)) _ x e in
      let c = given_bind (elaborated post (relational ds q (result_if (procedure_type ds None f)) (result_if (procedure_type ds None g))) [] (Some ty.Bool)) _ x b.2 in
      subst (λ (z : Term × Term). Named z.0 × Named z.1) (given_is (b.0, c.0) x c.2)
      (truth_named forms es ds k q n _ (relational_named es ds k q n _ _ (params_local forms es ds k q n f) (params_local forms es ds k q n g)) pre l b.0 b.1, truth_named forms es ds k q n _ (relational_named es ds k q n _ _ (results_local forms es ds k q n f) (results_local forms es ds k q n g)) post m c.0 c.1)

  -- Conditions of a judgment by which probabilities are compared.

  around_named : (pre post : Node) → IsReadTree pre → IsReadTree post → (f : ProcRef) (x : Term × Term) → said_around ds q pre post f ≡ given x → Named x.0 × Named x.1
  unfolding said_around
  around_named pre post l m f x e =
      let b = given_bind (elaborated pre (unary ds q (params_if (procedure_type ds None f))) [] (Some ty.Bool)) _ x e in
      let c = given_bind (elaborated post (unary ds q (result_if (procedure_type ds None f))) [] (Some ty.Bool)) _ x b.2 in
      subst (λ (z : Term × Term). Named z.0 × Named z.1) (given_is (b.0, c.0) x c.2)
      (truth_named forms es ds k q n _ (unary_named es ds k q n _ (params_local forms es ds k q n f)) pre l b.0 b.1, truth_named forms es ds k q n _ (unary_named es ds k q n _ (results_local forms es ds k q n f)) post m c.0 c.1)

  by_phoare_named : (pre post : Node) → IsReadTree pre → IsReadTree post → (o : Option Bounded) → Gives (by_phoare_rule ds q pre post o)
  by_phoare_named pre post l m (Some b) r e =
      let a = given_bind (said_around ds q pre post b.chance.procedure) _ r e in subst (AreNamedArguments es) (given_is _ r a.2) (around_named pre post l m b.chance.procedure a.0 a.1)
  by_phoare_named pre post l m None r e = subst (AreNamedArguments es) (given_is _ r e) tt

  by_equiv_named : (pre post : Node) → IsReadTree pre → IsReadTree post → (o : Option Compared) → Gives (by_equiv_rule ds q pre post o)
  by_equiv_named pre post l m (Some c) r e =
      let f = c.left.procedure in
      let g = c.right.procedure in
      let a = given_bind (related ds q pre post f g) _ r e in
      subst (AreNamedArguments es) (given_is _ r a.2) (related_named pre post l m f g a.0 a.1)
  by_equiv_named pre post l m None r e = subst (AreNamedArguments es) (given_is _ r e) tt

  by_named : (x : List ℕ) (pre post : Node) → IsReadTree pre → IsReadTree post → (p : Place) → Gives (by_rule ds q x pre post p)
  by_named x pre post l m p r e = by_name (bytes_eq x (codes "byphoare")) (bytes_eq x (codes "byequiv")) e
    where
      by_name : (b d : Bool) → (if b then by_phoare_rule ds q pre post (bounded_of q.conclusion) else if d then by_equiv_rule ds q pre post (chances_of q.conclusion) else not_built p) ≡ given r → AreNamedArguments es r
      by_name true d e = by_phoare_named pre post l m (bounded_of q.conclusion) r e
      by_name false true e = by_equiv_named pre post l m (chances_of q.conclusion) r e
      by_name false false e = none_built p r e

  between_named : (m : Reference) → IsNamedReference m → (a b c d : Node) → IsReadTree a → IsReadTree b → IsReadTree c → IsReadTree d → (f g : ProcRef) → Gives (between_of ds q m a b c d f g)
  unfolding between_of
  between_named m w a b c d l1 l2 l3 l4 f g r e =
      let x = given_bind (related ds q a b f m.0) _ r e in
      let y = given_bind (related ds q c d m.0 g) _ r x.2 in
      let u = related_named a b l1 l2 f m.0 x.0 x.1 in
      let v = related_named c d l3 l4 m.0 g y.0 y.1 in
      subst (AreNamedArguments es) (given_is _ r y.2) (record { procedure = w.written; left_pre = u.0; left_post = u.1; right_pre = v.0; right_post = v.1 })

  -- both contracts are read
  abbrev AreReadContracts : Option Contracts → Type 0
  AreReadContracts None = Unit {0}
  AreReadContracts (Some c) = (IsReadTree c.0.0 × IsReadTree c.0.1) × (IsReadTree c.1.0 × IsReadTree c.1.1)

  contracts_read : (xs ys : List Node) → AreRead xs → AreRead ys → AreReadContracts (contracts xs ys)
  contracts_read (a ∷ b ∷ []) (c ∷ d ∷ []) l m = ((l.0, l.1.0), (m.0, m.1.0))
  contracts_read [] ys l m = tt
  contracts_read (a ∷ []) ys l m = tt
  contracts_read (a ∷ b ∷ z ∷ xs) ys l m = tt
  contracts_read (a ∷ b ∷ []) [] l m = tt
  contracts_read (a ∷ b ∷ []) (c ∷ []) l m = tt
  contracts_read (a ∷ b ∷ []) (c ∷ d ∷ z ∷ ys) l m = tt

  between_by_named : (a : Answer Reference) → ((m : Reference) → a ≡ given m → IsNamedReference m) → (c : Option Contracts) → AreReadContracts c → (o : Option (ProcRef × ProcRef)) (p : Place) →
      Gives (between_by ds q a c o p)
  between_by_named a w None l o p r e = none_built p r e
  between_by_named a w (Some c) l None p r e = subst (AreNamedArguments es) (given_is _ r e) tt
  between_by_named a w (Some c) l (Some z) p r e =
      let m = given_bind a _ r e in between_named m.0 (w m.0 m.1) c.0.0 c.0.1 c.1.0 c.1.1 l.0.0 l.0.1 l.1.0 l.1.1 z.0 z.1 r m.2

  abbrev here : Environment
  here = ambient_in ds q

  words_between : (xs ns : List Node) → AreRead ns → (p : Place) → Gives (between_words ds q xs ns p)
  words_between (x ∷ xs) (a ∷ b ∷ c ∷ []) l p r e =
      between_by_named (named_procedure here [] text.ProcedurePath (x ∷ xs) (place_of x))
      (λ m i. named_is es here (ambient_named es ds k q n) [] text.ProcedurePath (x ∷ xs) (place_of x) m i)
      (contracts (a ∷ b ∷ []) (parts_of c)) (contracts_read (a ∷ b ∷ []) (parts_of c) (l.0, (l.1.0, tt)) (parts_read c l.1.1.0)) (procedures_of (goal_of q.conclusion)) p r e
  words_between [] ns l p r e = none_built p r e
  words_between (x ∷ xs) [] l p r e = none_built p r e
  words_between (x ∷ xs) (a ∷ []) l p r e = none_built p r e
  words_between (x ∷ xs) (a ∷ b ∷ []) l p r e = none_built p r e
  words_between (x ∷ xs) (a ∷ b ∷ c ∷ z ∷ ns) l p r e = none_built p r e

  functor_between : (xs ns : List Node) → AreRead ns → (p : Place) → Gives (between_functor ds q xs ns p)
  functor_between (x ∷ xs) (m ∷ ms ∷ f ∷ c ∷ d ∷ []) l p r e =
      between_by_named (functor_procedure here [] x xs (m ∷ parts_of ms) f (place_of x))
      (λ u i. functor_is es here (ambient_named es ds k q n) [] x xs (m ∷ parts_of ms) f (place_of x) u i)
      (contracts (parts_of c) (parts_of d)) (contracts_read (parts_of c) (parts_of d) (parts_read c l.1.1.1.0) (parts_read d l.1.1.1.1.0)) (procedures_of (goal_of q.conclusion)) p r e
  functor_between [] ns l p r e = none_built p r e
  functor_between (x ∷ xs) [] l p r e = none_built p r e
  functor_between (x ∷ xs) (a ∷ []) l p r e = none_built p r e
  functor_between (x ∷ xs) (a ∷ b ∷ []) l p r e = none_built p r e
  functor_between (x ∷ xs) (a ∷ b ∷ c ∷ []) l p r e = none_built p r e
  functor_between (x ∷ xs) (a ∷ b ∷ c ∷ d ∷ []) l p r e = none_built p r e
  functor_between (x ∷ xs) (a ∷ b ∷ c ∷ d ∷ f ∷ z ∷ ns) l p r e = none_built p r e

  between_at_named : (h : Kind) (ns : List Node) → AreRead ns → (p : Place) → Gives (between_at ds q h ns p)
  between_at_named text.PlainTransitivity ns l p r e = words_between (take (length ns - 3) ns) (drop (length ns - 3) ns) (drop_read (length ns - 3) ns l) p r e
  between_at_named text.FunctorTransitivity ns l p r e = functor_between (take (length ns - 5) ns) (drop (length ns - 5) ns) (drop_read (length ns - 5) ns l) p r e
  between_at_named _ ns l p r e = none_built p r e

  transitive_named : (a : Acts) (h : Kind) (ns : List Node) → AreRead ns → (p : Place) → Gives (transitive_rule ds q a h ns p)
  transitive_named on.All h ns l p r e = between_at_named h ns l p r e
  transitive_named on.Left h ns l p r e = subst (AreNamedArguments es) (given_is _ r e) tt
  transitive_named on.Right h ns l p r e = subst (AreNamedArguments es) (given_is _ r e) tt

  module _ (c : Context) (ls rs : List TypedName) (w : IsGoalOver c ls rs (goal_of q.conclusion)) where
    looping_named : (h : Kind) (x : List ℕ) (ps : List Node) → (h ≡ text.Name → is_name_text x ≡ true) → HasItsNames h ps → AreRead ps → (p : Place) → Gives (looping_rule ds q h x ps p)
    looping_named text.WhileStep x (b ∷ f ∷ []) v s l p r e = kept_named forms es ds k q n c ls rs w (acts (parts_of b)) f l.1.0 r e
    looping_named text.WhileStep x [] v s l p r e = none_built p r e
    looping_named text.WhileStep x (a ∷ []) v s l p r e = none_built p r e
    looping_named text.WhileStep x (a ∷ b ∷ d ∷ ps) v s l p r e = none_built p r e
    looping_named text.Inline x (b ∷ m ∷ []) v s l p r e = inlining_named (acts (parts_of b)) (parts_of m) p r e
    looping_named text.Inline x [] v s l p r e = none_built p r e
    looping_named text.Inline x (a ∷ []) v s l p r e = none_built p r e
    looping_named text.Inline x (a ∷ b ∷ d ∷ ps) v s l p r e = none_built p r e
    looping_named text.ByStep x (pre ∷ post ∷ []) v s l p r e = by_named x pre post l.0 l.1.0 p r e
    looping_named text.ByStep x [] v s l p r e = none_built p r e
    looping_named text.ByStep x (a ∷ []) v s l p r e = none_built p r e
    looping_named text.ByStep x (a ∷ b ∷ d ∷ ps) v s l p r e = none_built p r e
    looping_named h x ps v s l p r e = used_named h x ps v s l p r e

    typed_named : (h : Kind) (x : List ℕ) (ps : List Node) → (h ≡ text.Name → is_name_text x ≡ true) → HasItsNames h ps → AreRead ps → (p : Place) → Gives (typed_rule ds q h x ps p)
    typed_named text.Proc x (b ∷ i ∷ []) v s l p r e = entering_named (acts (parts_of b)) (parts_of i) (parts_read i l.1.0) p r e
    typed_named text.Rnd x (b ∷ fs) v s l p r e = drawing_named forms es ds k q n c ls rs (acts (parts_of b)) (functions_of fs) (functions_read fs l.1) n.conclusion w r e
    typed_named text.BodyStep x (b ∷ []) v s l p r e = named_named x (acts (parts_of b)) p r e
    typed_named text.Seq x (b ∷ m ∷ ms ∷ t ∷ bounds ∷ []) v s l p r e =
        let a = given_bind (absent (parts_of bounds) p) _ r e in
        of_bodies_named forms es ds k q n _ (seq_named forms es ds k q n c ls rs w (acts (parts_of b)) (cut_of m (parts_of ms)) t l.1.1.1.0) r a.2
    typed_named text.Conseq x (b ∷ pre ∷ post ∷ bound ∷ []) v s l p r e =
        of_bodies_named forms es ds k q n _ (conseq_all forms es ds k q n c ls rs w (acts (parts_of b)) (parts_of pre) (parts_of post) (parts_of bound) (parts_read pre l.1.0) (parts_read post l.1.1.0) (parts_read bound l.1.1.1.0)) r e
    typed_named text.CallStep x (b ∷ m ∷ []) v s l p r e = call_named (acts (parts_of b)) (head_of m) (parts_of m) (parts_read m l.1.0) p r e
    typed_named text.Transitivity x (b ∷ m ∷ []) v s l p r e = transitive_named (acts (parts_of b)) (head_of m) (parts_of m) (parts_read m l.1.0) p r e
    typed_named text.PlainStep x [] v s l p r e = let a = given_bind (conclusion_rule x p) _ r e in subst (AreNamedArguments es) (given_is _ r a.2) (conclusion_named x p a.0 a.1)
    typed_named text.CaseStep x (b ∷ f ∷ []) v s l p r e = case_named forms es ds k q n c ls rs w (acts (parts_of b)) f l.1.0 r e
    typed_named text.HaveForm x (m ∷ f ∷ []) v s l p r e = have_named m f s l.1.0 r e
    typed_named text.Witness x (t ∷ []) v s l p r e = let a = given_bind (witness_rule ds q t) _ r e in subst (AreNamedArguments es) (given_is _ r a.2) (witness_named t l.0 a.0 a.1)
    typed_named text.Smt x hints v s l p r e = let a = given_bind (all_hinted ds q hints) _ r e in subst (AreNamedArguments es) (given_is _ r a.2) tt
    typed_named text.Linear x hs v s l p r e = let a = given_bind (multiples ds q hs) _ r e in subst (AreNamedArguments es) (given_is _ r a.2) tt
    typed_named h x ps v s l p r e = looping_named h x ps v s l p r e

-- what a step is given
pub step_named : OfForms → (es : List Enumeration) (ds : Declarations) → IsNamedScope es ds → (q : Sequent) → IsTypedSequent (context_of (declared ds)) q → IsNamedSequent es q → (t : Node) → IsReadTree t →
    (s : Step) → step_given ds q t ≡ given s → AreNamedArguments es s.rule
unfolding step_given
step_named forms es ds k q typed n t l s e =
    let c = of_sequent (context_of (declared ds)) q typed.frames in
    let a = given_bind (typed_rule ds q (head_of t) (text_of t) (parts_of t) (place_of t)) _ s e in
    let goal = conclusion_goal c q.conclusion typed.conclusion (no_front es q.conclusion n.conclusion) in
    let over = goal.0 in
    let node = node_read t l in
    subst (λ (z : Step). AreNamedArguments es z.rule) (given_is _ s a.2)
    (typed_named forms es ds k q n c over.0 over.1 over.2 (head_of t) (text_of t) (parts_of t) node.name node.names (parts_read t l) (place_of t) a.0 a.1)
