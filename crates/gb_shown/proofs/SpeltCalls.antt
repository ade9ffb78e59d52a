-- `call` on one body keeps names.
use Rattle.std.proofs.Common.{◌≡◌, ℕ, nat_lt, Bool, true, false, if◌then◌else◌, List, [], ◌∷◌, ◌++◌, length, Option, Some, None, refl, subst}
use Rattle.std.proofs.lemmas.Option.{same_Some, none-some}
use Rattle.std.specs.Option.{option_map}
use Rattle.std.specs.List.{AllByRecursion}
use Rattle.std.specs.Prelude.{bytes_eq}
use Rattle.gb_core.specs.declared.refusal.Why.TheVariants.{Shape}
use Rattle.gb_core.specs.declared.ty.Ty.{Ty}
use Rattle.gb_core.specs.declared.var.Var.{Var}
use Rattle.gb_core.specs.declared.var.Var.TheVariants.{Global, Local, Glob}
use Rattle.gb_terms.specs.declared.decl.Module.{Module}
use Rattle.gb_terms.specs.declared.decl.Proc.{Proc}
use Rattle.gb_terms.specs.declared.decl.TypedName.{TypedName}
use Rattle.gb_terms.specs.declared.module.Bind.{Bind}
use Rattle.gb_terms.specs.declared.op.Rel.{Rel}
use Rattle.gb_terms.specs.declared.op.Rel.TheVariants.{AtLeast}
use Rattle.gb_terms.specs.declared.op.Side.{Side}
use Rattle.gb_terms.specs.declared.op.Side.TheVariants.{Own}
use Rattle.gb_terms.specs.declared.term.Term.{Term}
use Rattle.gb_terms.specs.declared.term.Head.TheVariants as head
use Rattle.gb_terms.specs.declared.term.Head.TheVariants.{Assign, Sample, Call', If', While'}
use Rattle.gb_terms.specs.declared.term.Instr.{Instr}
use Rattle.gb_meaning.specs.Written.{local_type}
use Rattle.gb_steps.specs.declared.step.Acts.{Acts}
use Rattle.gb_steps.specs.declared.step.Acts.TheVariants as on
use Rattle.gb_steps.specs.declared.step.Contract.{Contract}
use Rattle.gb_goal.specs.Answers.{Answer}
use Rattle.gb_goal.specs.Answers.Answer.{given, refused}
use Rattle.gb_goal.specs.Goal.{Goal}
use Rattle.gb_goal.specs.Goal.Code.{body, procedure}
use Rattle.gb_goal.specs.Goal.Goal.{hoare, phoare, equiv, ambient}
use Rattle.gb_goal.specs.Rows.{refusing}
use Rattle.gb_goal.specs.Scope.{Declarations, abstract_of, module_of, procedure_of}
use Rattle.gb_mods.specs.Exclusions.{exclusions}
use Rattle.gb_typing.proofs.Given.{refused_at, refused_given, same_given}
use Rattle.gb_prog.specs.AllValues.{in_memory, to_bound_values}
use Rattle.gb_prog.specs.Writes.{TypedVariable}
use Rattle.gb_prog.specs.Assigned.{taken}
use Rattle.gb_full.specs.Loss.{first_loss}
use Rattle.gb_full.specs.Lossless.{of_rest}
use Rattle.gb_mods.specs.Written.{written}
use Rattle.gb_call.specs.Call.{Callee, outcome, before_call, call_goals, in_front, by_globals, chances_by_globals, left_of, if_few, callee, callee_of, of_callee, chances_of_callee, on_programs}
use Rattle.gb_call.specs.LastCall.{LastCall, of_statement, behind, last_call}
use Rattle.gb_call.specs.Outcomes.{put_for, of_arguments, Outcome, global_values, result_bound, reads_result, bound_of, of_outcome, left_side, of_return, after_where, after_call, clash_after}
use Rattle.gb_call.specs.Written.{glob_type, type_in, global_type, typed_before, with_types}
use Rattle.gb_print_names.specs.declared.bound_names.Enumeration.{Enumeration}
use Rattle.gb_print.specs.Written.{IsWrittenProcedure}
use Rattle.gb_shown.specs.Named.{IsNamedType, IsNamed, IsNamedInstr, IsNamedGoal, IsNamedVariable}
use Rattle.gb_shown.specs.Rules.{IsNamedProcedure, AreNamedProcedures, AreNamedGlobals, IsNamedContract, KeepsNames}
use Rattle.gb_shown.proofs.SpeltTrees.{AllNamed, node_named, terms_named}
use Rattle.gb_shown.proofs.Changed.{PutNamed, changed_named}
use Rattle.gb_shown.proofs.SpeltForms.{as_result, and_named, as_likely_named, located_named, taken_named, puts_append, put_named}
use Rattle.gb_shown.proofs.Opened.{Has}
use Rattle.gb_shown.proofs.Programs.{AllOf}
use Rattle.gb_shown.proofs.SpeltStatements.{EachNamed}
use Rattle.gb_shown.proofs.AllValues.{AreOfTypes, have_in, for_all_named, bound_values_named}
use Rattle.gb_shown.proofs.Chances.{rest_keeps}
use Rattle.gb_shown.proofs.Loops.{unless_keeps}

-- The types of globals.

either_has : (b : Bool) (t : Ty) (o : Option Ty) → IsNamedType t → Has o → Has (if b then Some t else o)
either_has true t o h k = h
either_has false t o h k = k

typed_has : (vs : List TypedName) → AllByRecursion IsNamedVariable vs → (x : List ℕ) → Has (local_type vs x)
typed_has [] h x = tt
typed_has (v ∷ vs) h x = either_has (bytes_eq x v.name) v.ty (local_type vs x) h.0.1 (typed_has vs h.1 x)

module _ (ds : Declarations) (globals : AreNamedGlobals ds) where
  global_has : (v : Var) → Has (global_type ds v)
  global_has (Global m x) = of (module_of ds m) refl
    where
      of : (o : Option Module) → module_of ds m ≡ o → Has (type_in o x)
      of (Some k) e = typed_has k.globals (globals.declared m k e) x
      of None e = tt
  global_has (Local x) = tt
  global_has (Glob m) = whole (abstract_of ds m) refl
    where
      whole : (o : Option Bind) → abstract_of ds m ≡ o → Has (glob_type m o)
      whole (Some b) e = globals.together m b e
      whole None e = tt

  before_of_types : (x : Var) (o : Option Ty) (r : Option (List TypedVariable)) (W : List TypedVariable) → Has o → ((V : List TypedVariable) → r ≡ Some V → AreOfTypes V) → typed_before x o r ≡ Some W → AreOfTypes W
  before_of_types x (Some t) (Some V) W h f e = subst AreOfTypes (same_Some _ W e) (h, f V refl)
  before_of_types x (Some t) None W h f e = absurd (none-some W e)
  before_of_types x None r W h f e = absurd (none-some W e)

  pub types_named : (xs : List Var) (W : List TypedVariable) → with_types ds xs ≡ Some W → AreOfTypes W
  types_named [] W e = subst AreOfTypes (same_Some [] W e) tt
  types_named (x ∷ xs) W e = before_of_types x (global_type ds x) (with_types ds xs) W (global_has x) (λ V k. types_named xs V k) e

-- what a call is asked for
pub few_keeps : (xs : List Var) (a : Answer (List Goal)) (Gs : List Goal) → if_few xs a ≡ given Gs → a ≡ given Gs
few_keeps xs a Gs e = step (nat_lt (length xs) 9) e
  where
    step : (b : Bool) → (if b then a else refusing Shape) ≡ given Gs → a ≡ given Gs
    step true e = e
    step false e = refused_given Shape Gs e

module _ (es : List Enumeration) where
  -- Calls at the end of bodies.

  pub record NamedCall (k : LastCall) : Type 0 where
    pub before : EachNamed es k.before
    pub procedure : IsWrittenProcedure [] k.procedure
    pub arguments : AllNamed es k.arguments

  call_named : (i : Instr) → IsNamedInstr es i → (k : LastCall) → of_statement [] i ≡ Some k → NamedCall k
  call_named (Call' xs p n ts) w k e = subst NamedCall (same_Some _ k e) (record { before = tt; procedure = w.1; arguments = terms_named es ts w.2 })
  call_named (Assign xs d) w k e = absurd (none-some k e)
  call_named (Sample x d) w k e = absurd (none-some k e)
  call_named (If' d m a n b) w k e = absurd (none-some k e)
  call_named (While' d v n a) w k e = absurd (none-some k e)

  behind_named : (i : Instr) → IsNamedInstr es i → (k : LastCall) (o : Option LastCall) → ((l : LastCall) → o ≡ Some l → NamedCall l) → option_map (behind i) o ≡ Some k → NamedCall k
  behind_named i w k None f e = absurd (none-some k e)
  behind_named i w k (Some l) f e = let m = f l refl in subst NamedCall (same_Some _ k e) (record { before = (w, m.before); procedure = m.procedure; arguments = m.arguments })

  pub last_named : (is : List Instr) → EachNamed es is → (k : LastCall) → last_call is ≡ Some k → NamedCall k
  last_named [] w k e = absurd (none-some k e)
  last_named (i ∷ []) w k e = call_named i w.0 k e
  last_named (i ∷ j ∷ is) w k e = behind_named i w.0 k (last_call (j ∷ is)) (λ l h. last_named (j ∷ is) w.1 l h) e

  pub record NamedCallee (k : Callee) : Type 0 where
    pub call : NamedCall k.call
    pub declared : IsNamedProcedure es k.declared

  module _ (ds : Declarations) (procedures : AreNamedProcedures es ds) where
    declared_named : (k : LastCall) → NamedCall k → (a : Option Proc) → procedure_of ds k.procedure ≡ a → (ws : Option (List Var)) → (c : Callee) → callee k a ws ≡ Some c → NamedCallee c
    declared_named k m (Some a) h (Some ws) c e = subst NamedCallee (same_Some _ c e) (record { call = m; declared = procedures.declared k.procedure m.procedure a h })
    declared_named k m (Some a) h None c e = absurd (none-some c e)
    declared_named k m None h ws c e = absurd (none-some c e)

    callee_named : (o : Option LastCall) → ((k : LastCall) → o ≡ Some k → NamedCall k) → (c : Callee) → callee_of ds o ≡ Some c → NamedCallee c
    callee_named None f c e = absurd (none-some c e)
    callee_named (Some k) f c e = declared_named k (f k refl) (procedure_of ds k.procedure) refl (written ds k.procedure) c e

    pub last_callee : (is : List Instr) → EachNamed es is → (c : Callee) → callee_of ds (last_call is) ≡ Some c → NamedCallee c
    last_callee is w c e = callee_named (last_call is) (λ k h. last_named is w k h) c e

  -- What is said before them.

  pub puts_for : (r : Side) (xs : List TypedName) (ts : List Term) → AllNamed es ts → PutNamed es (put_for r xs ts)
  puts_for r [] ts h = tt
  puts_for r (x ∷ xs) [] h = tt
  puts_for r (x ∷ xs) (t ∷ ts) h = (located_named es r t h.0, puts_for r xs ts h.1)

  pub record NamedOutcome (o : Outcome) : Type 0 where
    pub result : IsNamedType o.result
    pub globals : AreOfTypes o.globals

  pub outcome_named : (r : Side) (k : Callee) (W : List TypedVariable) → NamedCallee k → AreOfTypes W → NamedOutcome (outcome r k W)
  outcome_named r k W m h = record { result = let d = m.declared in d.result; globals = h }

  bound_named : (b : Bool) (o : Outcome) → NamedOutcome o → AreOfTypes (bound_of b o)
  bound_named true o m = (m.result, m.globals)
  bound_named false o m = m.globals

  left_named : (b : Bool) (o : Outcome) → NamedOutcome o → PutNamed es (left_side b o)
  left_named true o m =
      put_named es o.side o.targets (taken o.targets (result_bound o)) (taken_named es o.targets (result_bound o) (node_named es (head.Bound (length (in_memory o.side o.globals))) [] o.result m.result (as_result o.result m.result) tt))
  left_named false o m = tt

  return_named : (b : Bool) (o : Outcome) (f : Term) → NamedOutcome o → IsNamed es f → IsNamed es (of_return b o f)
  return_named b o f m x = changed_named es f (left_side b o ++ global_values o) (puts_append es (left_side b o) (global_values o) (left_named b o m) (bound_values_named es (in_memory o.side o.globals) (have_in o.side o.globals m.globals))) x

  pub where_named : (r : Rel) (b : Bool) (o : Outcome) (said f : Term) → NamedOutcome o → IsNamed es said → IsNamed es f → IsNamed es (after_where r b o said f)
  where_named r b o said f m x y =
      let W = in_memory o.side (bound_of b o) in
      let have = have_in o.side (bound_of b o) (bound_named b o m) in
      for_all_named es W _ have (as_likely_named es r (of_return b o f) (of_outcome b o said) (return_named b o f m y) (changed_named es said (to_bound_values W) (bound_values_named es W have) x))

  pub before_named : (l : Rel) (r : Side) (k : Callee) (W : List TypedVariable) (s : Contract) (q : Term) → NamedCallee k → AreOfTypes W → IsNamedContract es s → IsNamed es q → IsNamed es (before_call l r k W s q)
  before_named l r k W s q m h n y =
      let c = m.call in
      and_named es (of_arguments r k.declared.params k.call.arguments s.pre) (after_call l (outcome r k W) s.post q)
      (changed_named es s.pre (put_for r k.declared.params k.call.arguments) (puts_for r k.declared.params k.call.arguments c.arguments) n.0)
      (where_named l (reads_result (outcome r k W) s.post q) (outcome r k W) s.post q (outcome_named r k W m h) n.1 y)

  -- One body.

  module _ (ds : Declarations) (globals : AreNamedGlobals ds) (s : Contract) (n : IsNamedContract es s) where
    goals_named : (k : Callee) (W : List TypedVariable) (p q : Term) → NamedCallee k → AreOfTypes W → IsNamed es p → IsNamed es q → AllOf es (call_goals k W s p q)
    goals_named k W p q m h x y = let c = m.call in ((c.procedure, n.0, n.1), ((c.before, x, before_named AtLeast Own k W s q m h n y), tt))

    globals_keep : (k : Callee) (p q : Term) (Gs : List Goal) → NamedCallee k → IsNamed es p → IsNamed es q → (o : Option (List TypedVariable)) → ((W : List TypedVariable) → o ≡ Some W → AreOfTypes W) → by_globals k s p q o ≡ given Gs → AllOf es Gs
    globals_keep k p q Gs m x y None f e = refused_given Shape Gs e
    globals_keep k p q Gs m x y (Some W) f e = subst (AllOf es) (same_given (call_goals k W s p q) Gs e) (goals_named k W p q m (f W refl) x y)

    callee_keeps : (p q : Term) (Gs : List Goal) → IsNamed es p → IsNamed es q → (o : Option Callee) → ((k : Callee) → o ≡ Some k → NamedCallee k) → of_callee ds s p q o ≡ given Gs → AllOf es Gs
    callee_keeps p q Gs x y None f e = refused_given Shape Gs e
    callee_keeps p q Gs x y (Some k) f e =
        globals_keep k p q Gs (f k refl) x y (with_types ds (left_of Own k s q)) (λ W h. types_named ds globals (left_of Own k s q) W h)
        (unless_keeps (clash_after (exclusions ds) Own k.call.targets k.written s.post q) (by_globals k s p q (with_types ds (left_of Own k s q))) Gs (few_keeps k.call.targets _ Gs e))

    front_keeps : (G : Goal) (a : Answer (List Goal)) (Gs : List Goal) → IsNamedGoal es G → ((Hs : List Goal) → a ≡ given Hs → AllOf es Hs) → in_front G a ≡ given Gs → AllOf es Gs
    front_keeps G (given Hs) Gs h f e = subst (AllOf es) (same_given (G ∷ Hs) Gs e) (h, f Hs refl)
    front_keeps G (refused w p) Gs h f e = refused_at w p Gs e

    chances_keep : (k : Callee) (r : Rel) (p q b : Term) (Gs : List Goal) → NamedCallee k → IsNamed es p → IsNamed es q → IsNamed es b → (o : Option (List TypedVariable)) → ((W : List TypedVariable) → o ≡ Some W → AreOfTypes W) →
        chances_by_globals ds k s r p q b o ≡ given Gs → AllOf es Gs
    chances_keep k r p q b Gs m x y z None f e = refused_given Shape Gs e
    chances_keep k r p q b Gs m x y z (Some W) f e =
        let c = m.call in
        front_keeps (phoare (procedure k.call.procedure) r s.pre s.post b) (of_rest (first_loss ds k.call.before) r b (hoare (body k.call.before) p (before_call r Own k W s q))) Gs (c.procedure, n.0, n.1, z)
        (λ Hs h. rest_keeps es (first_loss ds k.call.before) r b (hoare (body k.call.before) p (before_call r Own k W s q)) Hs z (c.before, x, before_named r Own k W s q m (f W refl) n y) h) e

    chance_keeps : (r : Rel) (p q b : Term) (Gs : List Goal) → IsNamed es p → IsNamed es q → IsNamed es b → (o : Option Callee) → ((k : Callee) → o ≡ Some k → NamedCallee k) → chances_of_callee ds s r p q b o ≡ given Gs → AllOf es Gs
    chance_keeps r p q b Gs x y z None f e = refused_given Shape Gs e
    chance_keeps r p q b Gs x y z (Some k) f e =
        chances_keep k r p q b Gs (f k refl) x y z (with_types ds (left_of Own k s q)) (λ W h. types_named ds globals (left_of Own k s q) W h)
        (unless_keeps (clash_after (exclusions ds) Own k.call.targets k.written s.post q) (chances_by_globals ds k s r p q b (with_types ds (left_of Own k s q))) Gs (few_keeps k.call.targets _ Gs e))

    pub one_keeps : AreNamedProcedures es ds → (a : Acts) → KeepsNames es (on_programs ds s a)
    one_keeps procedures on.All (hoare (body is) p q) h Gs e = callee_keeps p q Gs h.1 h.2 (callee_of ds (last_call is)) (λ k i. last_callee ds procedures is h.0 k i) e
    one_keeps procedures on.All (phoare (body is) r p q b) h Gs e = chance_keeps r p q b Gs h.1 h.2 h.3 (callee_of ds (last_call is)) (λ k i. last_callee ds procedures is h.0 k i) e
    one_keeps procedures on.All (hoare (procedure f) p q) h Gs e = refused_given Shape Gs e
    one_keeps procedures on.All (phoare (procedure f) r p q b) h Gs e = refused_given Shape Gs e
    one_keeps procedures on.All (equiv a b p q) h Gs e = refused_given Shape Gs e
    one_keeps procedures on.All (ambient f) h Gs e = refused_given Shape Gs e
    one_keeps procedures on.Left G h Gs e = refused_given Shape Gs e
    one_keeps procedures on.Right G h Gs e = refused_given Shape Gs e
