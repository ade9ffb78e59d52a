-- The typing of proof steps.
use Rattle.std.specs.Prelude.{ℕ, Bool, true, false, if◌then◌else◌, List, [], ◌∷◌, Option, Some, None, bytes_eq, codes}
use Rattle.gb_core.specs.declared.place.Place.{Place}
use Rattle.gb_core.specs.declared.ty.Ty.{Ty}
use Rattle.gb_core.specs.declared.ty.Ty.TheVariants.{Bool as bool_ty}
use Rattle.gb_terms.specs.declared.op.Side.{Side}
use Rattle.gb_terms.specs.declared.op.Side.TheVariants as side
use Rattle.gb_terms.specs.declared.term.Term.{Term, out-Term}
use Rattle.gb_terms.specs.declared.term.Head.{Head}
use Rattle.gb_terms.specs.declared.term.Head.TheVariants as head
use Rattle.gb_terms.specs.declared.module.ProcRef.{ProcRef}
use Rattle.gb_goal.specs.declared.sequent.Sequent.{Sequent}
use Rattle.gb_steps.specs.declared.step.Rule.{Rule}
use Rattle.gb_steps.specs.declared.step.Rule.TheVariants as rule
use Rattle.gb_steps.specs.declared.step.AmbientRule.{AmbientRule}
use Rattle.gb_steps.specs.declared.step.AmbientRule.TheVariants as conclusion
use Rattle.gb_steps.specs.declared.step.BodyRule.TheVariants as on_bodies
use Rattle.gb_steps.specs.declared.step.Transformation.TheVariants as transformation
use Rattle.gb_steps.specs.declared.step.Acts.{Acts}
use Rattle.gb_steps.specs.declared.step.Acts.TheVariants as on
use Rattle.gb_steps.specs.declared.step.Calls.{Calls}
use Rattle.gb_steps.specs.declared.step.Calls.TheVariants as calls
use Rattle.gb_goal.specs.Goal.{goal_of}
use Rattle.gb_steps.specs.declared.step.ProbabilityRule.TheVariants as probability_rule
use Rattle.gb_steps.specs.First.{first_procedure}
use Rattle.gb_steps.specs.declared.step.Step.{Step}
use Rattle.gb_steps.specs.declared.step.RewriteRule.TheVariants as rewrite_rule
use Rattle.gb_steps.specs.declared.step.EventLaw.TheVariants as event_law
use Rattle.gb_terms.specs.declared.op.Rel.TheVariants as rel
use Rattle.gb_steps.specs.declared.step.UseRule.TheVariants as use_rule
use Rattle.gb_goal.specs.Goal.{judges_bodies}
use Rattle.gb_goal.specs.Interfaces.{ProcedureType, procedure_type}
use Rattle.gb_goal.specs.Scope.{Declarations}
use Rattle.gb_script.specs.declared.head.Head.{Head as Kind}
use Rattle.gb_script.specs.declared.head.Head.TheVariants as text
use Rattle.gb_script.specs.declared.tree.Node.{Node}
use Rattle.gb_script.specs.Tree.{head_of, text_of, parts_of, place_of}
use Rattle.gb_goal.specs.Answers.{Answer, ◌>>=◌, not_built}
use Rattle.gb_goal.specs.Answers.Answer.{given}
use Rattle.gb_names.specs.Environment.{ambient, unary}
use Rattle.gb_names.specs.Judgments.{named_procedure}
use Rattle.gb_elab.specs.Forms.{elaborated}
use Rattle.gb_elab_mod.specs.OtherLocals.{reads_other_locals}
use Rattle.gb_elab_mod.specs.Multiples.{hypothesis_at, multiples, position}
use Rattle.gb_elab_mod.specs.OnPrograms.{functions_of, acts, drawing_rule, entering_rule, cut_of, seq_rule, of_bodies_rule, named_rule, case_of_bodies, while_rule, result_if, conseq_rule, call_rule, by_rule, transitive_rule}
use Rattle.gb_elab_mod.specs.Taken.{new_name}
use Rattle.gb_elab_mod.specs.Uses.{about_named, all_hinted, defined_operator, hypothesis, used, is_memory, memory_of}
use Rattle.gb_elab_prog.specs.Unbuilt.{absent}

-- the steps on a conclusion that stand alone
abbrev pub conclusion_rule : List ℕ → Place → Answer AmbientRule
conclusion_rule x p =
    if bytes_eq x (codes "split") then given conclusion.Split
    else if bytes_eq x (codes "left") then given conclusion.Left
    else if bytes_eq x (codes "right") then given conclusion.Right
    else if bytes_eq x (codes "assumption") then given conclusion.Assumption
    else if bytes_eq x (codes "trivial") then given conclusion.Trivial
    else if bytes_eq x (codes "//") then given conclusion.Trivial
    else if bytes_eq x (codes "done") then given conclusion.Done else not_built p

-- a form that a step brings to a goal
abbrev pub formed : Declarations → Sequent → Node → Answer Term
formed ds g f = elaborated f (ambient ds g) [] (Some bool_ty)

-- the form of `case` at any other conclusion
abbrev pub case_of_conclusion : Declarations → Sequent → Node → Answer Rule
case_of_conclusion ds g f = do
  t ← formed ds g f
  given (rule.Ambient (conclusion.Case t))

abbrev pub case_rule : Declarations → Sequent → Node → Answer Rule
case_rule ds g f =
    if judges_bodies (out-Term g.conclusion).head then of_bodies_rule (case_of_bodies ds g f (goal_of g.conclusion)) else case_of_conclusion ds g f

-- the same of a step that acts on these programs; on one side it fits no goal
abbrev pub sided_case_rule : Declarations → Sequent → Acts → Node → Answer Rule
sided_case_rule ds g on.All f = case_rule ds g f
sided_case_rule ds g a f = given (rule.OnBodies on_bodies.Unfit)

-- the type of a value that is said to exist
abbrev pub asked_of : Head → Option Ty
asked_of (head.Some u) = Some u
asked_of _ = None

-- a term of this type, or of any, where nothing is said to exist
abbrev pub value_witness : Declarations → Sequent → Node → Answer AmbientRule
value_witness ds g e = do
  t ← elaborated e (ambient ds g) [] (asked_of (out-Term g.conclusion).head)
  given (conclusion.Witness t)

-- whether what a conclusion with this head and these arguments says to exist has locals that the goal reads in this memory at another type
abbrev pub asks_for_locals : Sequent → Side → Head → List Term → Bool
asks_for_locals g s head.SomeMemory (b ∷ []) = reads_other_locals true g s (about_named b s)
asks_for_locals g s h ts = false

-- a memory of the context, for one that is said to exist; where that has locals which the goal reads in this one at another type it isn't built
abbrev pub memory_witness : Sequent → Side → Place → Answer AmbientRule
memory_witness g (side.Memory i) p =
    if asks_for_locals g (side.Memory i) (out-Term g.conclusion).head (out-Term g.conclusion).args then not_built p else given (conclusion.WitnessMemory i)
memory_witness g s p = not_built p

-- a memory or a term for what is said to exist
abbrev pub witness_rule : Declarations → Sequent → Node → Answer AmbientRule
witness_rule ds g e =
    if is_memory (head_of e) then (memory_of ds g (head_of e) (parts_of e) (place_of e) >>= λ s. memory_witness g s (place_of e)) else value_witness ds g e

-- The rule of a pattern, whose own patterns are steps of their own. The last clause takes what isn't built, and trees of another
-- shape, of which the reader builds none, since each of its trees is well-sorted.
abbrev pub pattern : Kind → List ℕ → List Node → Place → Answer Rule
pattern text.Name x [] p = given (rule.Ambient (conclusion.Introduce x))
pattern text.Memory x (n ∷ []) p = given (rule.Ambient (conclusion.IntroduceMemory (text_of n)))
pattern text.Drop x [] p = given (rule.Ambient conclusion.Discard)
pattern text.BothPatterns x ps p = given (rule.Ambient conclusion.Unpack)
pattern text.EitherPattern x ps p = given (rule.Ambient conclusion.Branch)
pattern text.SmtPattern x [] p = given (rule.Smt [])
pattern text.TrivialPattern x [] p = given (rule.Ambient conclusion.Trivial)
pattern _ x ps p = not_built p

-- the statement at a place passes so many others: to the back, or to the front
abbrev pub passing : Node → Node → Bool → Acts → Rule
passing n d front a = rule.Transform a (transformation.Swap (record { at = position n; by = position d; front = front }))

abbrev pub passing_rule : Acts → Node → Kind → List Node → Place → Answer Rule
passing_rule a n text.Forward (d ∷ []) p = given (passing n d false a)
passing_rule a n text.Backward (d ∷ []) p = given (passing n d true a)
passing_rule a n k ds p = not_built p

-- a rule on the statement at a place
abbrev pub placed_rule : List ℕ → Acts → ℕ → Place → Answer Rule
placed_rule x a i p =
    if bytes_eq x (codes "rcondt") then given (rule.Transform a (transformation.Decided i true))
    else if bytes_eq x (codes "rcondf") then given (rule.Transform a (transformation.Decided i false))
    else if bytes_eq x (codes "unroll") then given (rule.Transform a (transformation.Unroll i))
    else if bytes_eq x (codes "kill") then given (rule.Transform a (transformation.Kill i)) else not_built p

-- a rule that puts other statements into a program, or a pattern
abbrev pub transforming_rule : Kind → List ℕ → List Node → Place → Answer Rule
transforming_rule text.Swap x (b ∷ n ∷ way ∷ []) p = passing_rule (acts (parts_of b)) n (head_of way) (parts_of way) p
transforming_rule text.PositionStep x (b ∷ n ∷ []) p = placed_rule x (acts (parts_of b)) (position n) p
transforming_rule k x ps p = pattern k x ps p

-- a law of events, by its name
abbrev pub event_law_rule : List ℕ → Place → Answer Rule
event_law_rule x p =
    if bytes_eq x (codes "mu_or") then given (rule.Rewrite (rewrite_rule.Law event_law.Or))
    else if bytes_eq x (codes "mu_not") then given (rule.Rewrite (rewrite_rule.Law event_law.Not))
    else if bytes_eq x (codes "mu_false") then given (rule.Rewrite (rewrite_rule.Law event_law.False))
    else if bytes_eq x (codes "mu_eq") then given (rule.Probability (probability_rule.ByEvents rel.Equal))
    else if bytes_eq x (codes "mu_sub") then given (rule.Probability (probability_rule.ByEvents rel.AtMost))
    else if bytes_eq x (codes "mu_ge0") then given (rule.Probability (probability_rule.Within rel.AtLeast))
    else if bytes_eq x (codes "mu_le1") then given (rule.Probability (probability_rule.Within rel.AtMost)) else not_built p

abbrev pub if_there : Option ProcedureType → Answer Rule → Answer Rule
if_there (Some p) a = a
if_there None a = given (rule.OnBodies on_bodies.Unfit)

-- The event by which the first probability of the conclusion is split, of which this is the procedure. Where there is none, or it isn't
-- declared, the event has no type.
unfoldable pub splitting_rule : Declarations → Sequent → Node → Option ProcRef → Answer Rule
splitting_rule ds g e (Some f) = if_there (procedure_type ds None f) (do
  t ← elaborated e (unary ds g (result_if (procedure_type ds None f))) [] (Some bool_ty)
  given (rule.Rewrite (rewrite_rule.Law (event_law.Split f t))))
splitting_rule ds g e None = given (rule.OnBodies on_bodies.Unfit)

-- a law of events, a transformation of a program, or a pattern
abbrev pub event_rule : Declarations → Sequent → Kind → List ℕ → List Node → Place → Answer Rule
event_rule ds g text.RewriteLaw x [] p = event_law_rule x p
event_rule ds g text.RewriteSplit x (e ∷ []) p = splitting_rule ds g e (first_procedure g.conclusion)
event_rule ds g k x ps p = transforming_rule k x ps p

-- a rule that puts equals for equals, a transformation of a program, or a pattern
abbrev pub equals_rule : Declarations → Sequent → Kind → List ℕ → List Node → Place → Answer Rule
equals_rule ds g text.RewriteLemma x (t ∷ []) p = do
  f ← used ds g t
  given (rule.Rewrite (rewrite_rule.Forward f))
equals_rule ds g text.RewriteBack x (t ∷ []) p = do
  f ← used ds g t
  given (rule.Rewrite (rewrite_rule.Back f))
equals_rule ds g text.RewriteHypothesis x (n ∷ []) p = do
  f ← hypothesis ds g (text_of n) (place_of n)
  given (rule.Rewrite (rewrite_rule.Forward f))
equals_rule ds g text.Subst x (n ∷ []) p = do
  i ← hypothesis_at ds g (text_of n) (place_of n)
  given (rule.Rewrite (rewrite_rule.Subst i))
equals_rule ds g text.RewriteOperator x (n ∷ []) p = do
  y ← defined_operator ds g n
  given (rule.Rewrite (rewrite_rule.Unfold y))
equals_rule ds g k x ps p = event_rule ds g k x ps p

-- a rule that uses what is known, one that puts equals for equals, a transformation of a program, or a pattern
abbrev pub used_rule : Declarations → Sequent → Kind → List ℕ → List Node → Place → Answer Rule
used_rule ds g text.ApplyLemma x (t ∷ []) p = do
  f ← used ds g t
  given (rule.Use (use_rule.Apply f))
used_rule ds g text.HaveLemma x (n ∷ t ∷ []) p = do
  _ ← new_name ds g (text_of n) (place_of n)
  f ← used ds g t
  given (rule.Use (use_rule.Have (text_of n) f))
used_rule ds g k x ps p = equals_rule ds g k x ps p

-- the calls that a step inlines: all of them, or those of the procedure that is named
abbrev pub calls_of : Declarations → Sequent → List Node → Place → Answer Calls
calls_of ds g [] p = given calls.All
calls_of ds g (f ∷ []) p = do
  m ← named_procedure (ambient ds g) [] (head_of f) (parts_of f) (place_of f)
  given (calls.Of m.0)
calls_of ds g fs p = not_built p

abbrev pub inlining_rule : Declarations → Sequent → Acts → List Node → Place → Answer Rule
inlining_rule ds g a fs p = do
  w ← calls_of ds g fs p
  given (rule.Transform a (transformation.Inline w))

-- the rule on loops, `inline`, a step from probabilities to a judgment, a rule that uses what is known, or another one
abbrev pub looping_rule : Declarations → Sequent → Kind → List ℕ → List Node → Place → Answer Rule
looping_rule ds g text.WhileStep x (b ∷ f ∷ []) p = while_rule ds g (acts (parts_of b)) f
looping_rule ds g text.Inline x (b ∷ n ∷ []) p = inlining_rule ds g (acts (parts_of b)) (parts_of n) p
looping_rule ds g text.ByStep x (pre ∷ post ∷ []) p = by_rule ds g x pre post p
looping_rule ds g k x ps p = used_rule ds g k x ps p

-- a form is shown, and then is a hypothesis under a new name
abbrev pub have_rule : Declarations → Sequent → Node → Node → Answer Rule
have_rule ds g n f = do
  _ ← new_name ds g (text_of n) (place_of n)
  t ← formed ds g f
  given (rule.Ambient (conclusion.Have (text_of n) t))

-- a rule or a pattern
abbrev pub typed_rule : Declarations → Sequent → Kind → List ℕ → List Node → Place → Answer Rule
typed_rule ds g text.Proc x (b ∷ invariant ∷ []) p = entering_rule ds g (acts (parts_of b)) (parts_of invariant) p
typed_rule ds g text.Rnd x (b ∷ fs) p = drawing_rule ds g (acts (parts_of b)) (functions_of fs)
typed_rule ds g text.BodyStep x (b ∷ []) p = named_rule x (acts (parts_of b)) p
typed_rule ds g text.Seq x (b ∷ n ∷ ns ∷ r ∷ bounds ∷ []) p = do
  _ ← absent (parts_of bounds) p
  of_bodies_rule (seq_rule ds g (acts (parts_of b)) (cut_of n (parts_of ns)) r)
typed_rule ds g text.Conseq x (b ∷ pre ∷ post ∷ bound ∷ []) p =
    of_bodies_rule (conseq_rule ds g (acts (parts_of b)) (parts_of pre) (parts_of post) (parts_of bound))
typed_rule ds g text.CallStep x (b ∷ n ∷ []) p = call_rule ds g (acts (parts_of b)) (head_of n) (parts_of n) p
typed_rule ds g text.Transitivity x (b ∷ n ∷ []) p = transitive_rule ds g (acts (parts_of b)) (head_of n) (parts_of n) p
typed_rule ds g text.PlainStep x [] p = do
  r ← conclusion_rule x p
  given (rule.Ambient r)
typed_rule ds g text.CaseStep x (b ∷ f ∷ []) p = sided_case_rule ds g (acts (parts_of b)) f
typed_rule ds g text.HaveForm x (n ∷ f ∷ []) p = have_rule ds g n f
typed_rule ds g text.Witness x (e ∷ []) p = do
  r ← witness_rule ds g e
  given (rule.Ambient r)
typed_rule ds g text.Smt x hints p = do
  fs ← all_hinted ds g hints
  given (rule.Smt fs)
typed_rule ds g text.Linear x hs p = do
  ms ← multiples ds g hs
  given (rule.Linear ms)
typed_rule ds g k x ps p = looping_rule ds g k x ps p

-- a proof step with its arguments typed
unfoldable pub step_given : Declarations → Sequent → Node → Answer Step
step_given ds g t = do
  r ← typed_rule ds g (head_of t) (text_of t) (parts_of t) (place_of t)
  given (record { rule = r; place = place_of t })
