-- What rules on programs bring to a goal: procedures of the scope, and forms of a step, in which names are names.
use Rattle.std.specs.Prelude.{◌≡◌, ℕ, true, List, [], Option, Some, None}
use Rattle.std.specs.List.{AllByRecursion, slice_get}
use Rattle.gb_core.specs.declared.ty.Ty.{Ty}
use Rattle.gb_core.specs.declared.ty.Ty.TheVariants as ty
use Rattle.gb_terms.specs.declared.decl.Module.{Module}
use Rattle.gb_terms.specs.declared.decl.Proc.{Proc}
use Rattle.gb_terms.specs.declared.decl.TypedName.{TypedName}
use Rattle.gb_terms.specs.declared.module.Bind.{Bind}
use Rattle.gb_terms.specs.declared.module.ProcRef.{ProcRef}
use Rattle.gb_terms.specs.declared.term.Term.{Term}
use Rattle.gb_goal.specs.Answers.Answer.{given}
use Rattle.gb_goal.specs.Goal.{Goal}
use Rattle.gb_goal.specs.Interfaces.{ProcedureType, procedure_type}
use Rattle.gb_goal.specs.Rows.{Row}
use Rattle.gb_goal.specs.Scope.{Declarations, abstract_of, entry_of, module_of, procedure_of}
use Rattle.gb_goal.specs.declared.scope.Entry.TheVariants as entry
use Rattle.gb_goal.specs.declared.scope.Operator.{Operator}
use Rattle.gb_mods.specs.Meant.{meant_by}
use Rattle.gb_mods.specs.declared.meant.Meant.TheVariants.{Any}
use Rattle.gb_steps.specs.declared.step.AbstractRule.{AbstractRule}
use Rattle.gb_steps.specs.declared.step.AbstractRule.TheVariants as abstract_rule
use Rattle.gb_steps.specs.declared.step.AmbientRule.{AmbientRule}
use Rattle.gb_steps.specs.declared.step.AmbientRule.TheVariants as ambient
use Rattle.gb_steps.specs.declared.step.BodyRule.{BodyRule}
use Rattle.gb_steps.specs.declared.step.BodyRule.TheVariants as on_bodies
use Rattle.gb_steps.specs.declared.step.Between.{Between}
use Rattle.gb_steps.specs.declared.step.Conditions.{Conditions}
use Rattle.gb_steps.specs.declared.step.Contract.{Contract}
use Rattle.gb_steps.specs.declared.step.EventLaw.{EventLaw}
use Rattle.gb_steps.specs.declared.step.EventLaw.TheVariants as law
use Rattle.gb_steps.specs.declared.step.ProbabilityRule.{ProbabilityRule}
use Rattle.gb_steps.specs.declared.step.ProbabilityRule.TheVariants as probability
use Rattle.gb_steps.specs.declared.step.RelationalRule.{RelationalRule}
use Rattle.gb_steps.specs.declared.step.RelationalRule.TheVariants as relational
use Rattle.gb_steps.specs.declared.step.RewriteRule.{RewriteRule}
use Rattle.gb_steps.specs.declared.step.RewriteRule.TheVariants as rewrite
use Rattle.gb_steps.specs.declared.step.Rule.{Rule}
use Rattle.gb_steps.specs.declared.step.Rule.TheVariants as rule
use Rattle.gb_steps.specs.declared.step.UseRule.{UseRule}
use Rattle.gb_steps.specs.declared.step.UseRule.TheVariants as use_rule
use Rattle.gb_typing.specs.Programs.{locals_of}
use Rattle.gb_print_names.specs.declared.bound_names.Enumeration.{Enumeration}
use Rattle.gb_print_names.specs.Names.{constants}
use Rattle.gb_print.specs.Written.{is_name_text, is_path, is_path_there, IsWrittenProcedure}
use Rattle.gb_shown.specs.Named.{IsNamedType, IsNamed, IsNamedInstr, IsNamedGoal, IsNamedVariable}

-- the first value of a type of locals has a name where values of the type have names
abbrev pub HasFirst : List Enumeration → Ty → Type 0
HasFirst es (ty.Enumeration x n) = is_path_there (slice_get (constants es x) 0) ≡ true
HasFirst es _ = Unit {0}

abbrev pub IsNamedLocal : List Enumeration → TypedName → Type 0
IsNamedLocal es v = IsNamedVariable v × HasFirst es v.ty

-- the locals of a procedure, its parameters among them, the type of its result, its body, and what it returns
pub record IsNamedProcedure (es : List Enumeration) (p : Proc) : Type 0 where
  pub locals : AllByRecursion (IsNamedLocal es) (locals_of p)
  pub result : IsNamedType p.result
  pub body : AllByRecursion (IsNamedInstr es) p.body.list
  pub value : IsNamed es p.value

-- what a procedure takes, each with a name, and what it gives
abbrev pub HasNamedTypes : ProcedureType → Type 0
HasNamedTypes t = AllByRecursion (λ (x : TypedName). (is_path x.name ≡ true) × IsNamedType x.ty) t.params × IsNamedType t.result

-- The procedures of the scope that a goal may speak of. What a declared one calls stands in place of its module's parameters; one of an
-- abstract module calls procedures that a goal may speak of, too, and its module has a name. So have the parameters of each.
pub record AreNamedProcedures (es : List Enumeration) (ds : Declarations) : Type 0 where
  pub declared : (f : ProcRef) → IsWrittenProcedure [] f → (p : Proc) → procedure_of ds f ≡ Some p → IsNamedProcedure es p
  pub asked : (f : ProcRef) → IsWrittenProcedure [] f → (a : List ℕ) (qs : List ProcRef) → meant_by ds f ≡ Any a qs → (is_path a ≡ true) × AllByRecursion (IsWrittenProcedure []) qs
  pub types : (f : ProcRef) (t : ProcedureType) → procedure_type ds None f ≡ Some t → HasNamedTypes t

-- the globals of each module of the scope, and the names of abstract ones, by which all of theirs are read together
pub record AreNamedGlobals (ds : Declarations) : Type 0 where
  pub declared : (x : List ℕ) (m : Module) → module_of ds x ≡ Some m → AllByRecursion IsNamedVariable m.globals
  pub together : (a : List ℕ) (b : Bind) → abstract_of ds a ≡ Some b → is_path a ≡ true

-- the body of each operator of the scope
abbrev pub AreNamedOperators : List Enumeration → Declarations → Type 0
AreNamedOperators es ds = (x : List ℕ) (o : Operator) → entry_of ds x ≡ Some (entry.Operator o) → IsNamed es o.body

abbrev pub IsNamedIfAny : List Enumeration → Option Term → Type 0
IsNamedIfAny es (Some t) = IsNamed es t
IsNamedIfAny es None = Unit {0}

-- the forms that a rule on programs is given
abbrev pub IsNamedRule : List Enumeration → BodyRule → Type 0
IsNamedRule es (on_bodies.Seq k f) = IsNamed es f
IsNamedRule es (on_bodies.Case f) = IsNamed es f
IsNamedRule es (on_bodies.Conseq w) = IsNamedIfAny es w.pre × IsNamedIfAny es w.post × IsNamedIfAny es w.bound
IsNamedRule es _ = Unit {0}

-- the forms and the names that a rule on conclusions is given
abbrev pub IsNamedStep : List Enumeration → AmbientRule → Type 0
IsNamedStep es (ambient.Case f) = IsNamed es f
IsNamedStep es (ambient.Have x f) = (is_name_text x ≡ true) × IsNamed es f
IsNamedStep es (ambient.Introduce x) = is_name_text x ≡ true
IsNamedStep es (ambient.IntroduceMemory x) = is_name_text x ≡ true
IsNamedStep es (ambient.Witness e) = IsNamed es e
IsNamedStep es _ = Unit {0}

-- the form that a rule uses, and the name that it gets
abbrev pub IsNamedUse : List Enumeration → UseRule → Type 0
IsNamedUse es (use_rule.Apply f) = IsNamed es f
IsNamedUse es (use_rule.Have x f) = (is_name_text x ≡ true) × IsNamed es f

-- what a called procedure is said to do
abbrev pub IsNamedContract : List Enumeration → Contract → Type 0
IsNamedContract es s = IsNamed es s.pre × IsNamed es s.post

-- what is said before and after procedures
abbrev pub AreNamedConditions : List Enumeration → Conditions → Type 0
AreNamedConditions es s = IsNamed es s.pre × IsNamed es s.post

-- what a rule on probabilities is given
abbrev pub IsNamedProbability : List Enumeration → ProbabilityRule → Type 0
IsNamedProbability es (probability.ByEquiv s) = AreNamedConditions es s
IsNamedProbability es (probability.ByPhoare s) = AreNamedConditions es s
IsNamedProbability es _ = Unit {0}

-- a procedure between two others, and what is said of it
pub record IsNamedBetween (es : List Enumeration) (t : Between) : Type 0 where
  pub procedure : IsWrittenProcedure [] t.procedure
  pub left_pre : IsNamed es t.left_pre
  pub left_post : IsNamed es t.left_post
  pub right_pre : IsNamed es t.right_pre
  pub right_post : IsNamed es t.right_post

-- what a rule on equivalences is given
abbrev pub IsNamedRelational : List Enumeration → RelationalRule → Type 0
IsNamedRelational es (relational.Rnd fs) = AllByRecursion (IsNamed es) fs
IsNamedRelational es (relational.Transitivity t) = IsNamedBetween es t
IsNamedRelational es _ = Unit {0}

-- the event by which a law divides a probability
abbrev pub IsNamedLaw : List Enumeration → EventLaw → Type 0
IsNamedLaw es (law.Split p f) = IsNamed es f
IsNamedLaw es _ = Unit {0}

-- the equation, or the event, that a rule is given
abbrev pub IsNamedRewrite : List Enumeration → RewriteRule → Type 0
IsNamedRewrite es (rewrite.Forward f) = IsNamed es f
IsNamedRewrite es (rewrite.Back f) = IsNamed es f
IsNamedRewrite es (rewrite.Law l) = IsNamedLaw es l
IsNamedRewrite es _ = Unit {0}

-- what oracles are said to keep
abbrev pub IsNamedKept : List Enumeration → AbstractRule → Type 0
IsNamedKept es (abstract_rule.Call f) = IsNamed es f
IsNamedKept es (abstract_rule.CallUntil u) = IsNamed es u.event × IsNamed es u.kept
IsNamedKept es (abstract_rule.Proc f) = IsNamed es f

-- the names and the forms that any rule is given
abbrev pub AreNamedArguments : List Enumeration → Rule → Type 0
AreNamedArguments es (rule.OnBodies r) = IsNamedRule es r
AreNamedArguments es (rule.Relational r) = IsNamedRelational es r
AreNamedArguments es (rule.Probability r) = IsNamedProbability es r
AreNamedArguments es (rule.Call s) = IsNamedContract es s
AreNamedArguments es (rule.CallKnown a f) = IsNamed es f
AreNamedArguments es (rule.Abstract r) = IsNamedKept es r
AreNamedArguments es (rule.While v) = IsNamed es v.kept
AreNamedArguments es (rule.Ambient r) = IsNamedStep es r
AreNamedArguments es (rule.Use r) = IsNamedUse es r
AreNamedArguments es (rule.Rewrite r) = IsNamedRewrite es r
AreNamedArguments es _ = Unit {0}

-- a row gives named goals of named goals
abbrev pub KeepsNames : List Enumeration → Row → Type 0
KeepsNames es row = (G : Goal) → IsNamedGoal es G → (Gs : List Goal) → row G ≡ given Gs → AllByRecursion (IsNamedGoal es) Gs
