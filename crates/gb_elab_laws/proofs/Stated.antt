-- What the typing of statements gives is typed.
use Rattle.std.proofs.Common.{◌≡◌, ℕ, true, List, [], ◌∷◌, ◌++◌, map, drop, length, pred, take, if◌then◌else◌, Option, Some, None, refl, ap, sym, ◌∙◌, subst}
use Rattle.std.proofs.lemmas.Bool.{false≢true}
use Rattle.gb_core.specs.declared.place.Place.{Place}
use Rattle.gb_core.specs.declared.refusal.Why.TheVariants.{TypeMismatch}
use Rattle.gb_core.specs.declared.ty.Ty.{Ty, out-Ty}
use Rattle.gb_core.specs.declared.ty.Ty.TheVariants as ty
use Rattle.gb_core.specs.declared.var.Var.TheVariants.{Local, Global, Glob}
use Rattle.gb_terms.specs.declared.decl.Module.{Module}
use Rattle.gb_terms.specs.declared.decl.TypedName.{TypedName}
use Rattle.gb_terms.specs.declared.op.Op.TheVariants as op
use Rattle.gb_terms.specs.declared.op.Read.TheVariants as read_of
use Rattle.gb_terms.specs.declared.op.Side.TheVariants as side
use Rattle.gb_terms.specs.declared.term.Term.{Term}
use Rattle.gb_terms.specs.declared.term.Head.TheVariants.{Assign, Sample, If, Read, While}
use Rattle.gb_terms.specs.declared.term.Instr.{Instr}
use Rattle.gb_terms.specs.Make.{node, applied}
use Rattle.gb_goal.specs.Scope.{Declarations}
use Rattle.gb_script.specs.declared.head.Head.{Head}
use Rattle.gb_script.specs.declared.head.Head.TheVariants as head
use Rattle.gb_script.specs.declared.tree.Node.{Node}
use Rattle.gb_script.specs.Tree.{head_of, text_of, parts_of, place_of}
use Rattle.gb_meaning.specs.Operators.{outcome_type}
use Rattle.gb_meaning.specs.Written.{type_of, IsModulo}
use Rattle.gb_goal.specs.Answers.{◌>>=◌, given_or}
use Rattle.gb_goal.specs.Answers.Answer.{given, refused}
use Rattle.gb_meaning.specs.Names.{Name}
use Rattle.gb_names.specs.declared.setting.Language.TheVariants.{Program, Sampled}
use Rattle.gb_elab.specs.Forms.{elaborated}
use Rattle.gb_names.specs.Environment.{Environment, program, sampled}
use Rattle.gb_names.specs.Names.{Target, dotted, target}
use Rattle.gb_names.proofs.Nodes.{by_parts}
use Rattle.gb_operators.specs.Kinds.{entries}
use Rattle.gb_operators.specs.Literals.{place_inside}
use Rattle.gb_elab_stmt.specs.Calls.{call}
use Rattle.gb_elab_stmt.specs.Statements.{Stating, all_stated, alone, assignment, begun, branch, called_to, counts_down, entry_stored, instruction, is_modulo_layer, result_in, result_to, results_in, sampling, single, stated, stating, stored, stored_term, tuple_assignment, turning, variant, with_statings, words, written, written_to}
use Rattle.gb_elab_stmt.specs.Targets.{targets, type_of_all, variables_of}
use Rattle.gb_elab_prog.specs.Contexts.{nothing_around}
use Rattle.gb_laws.specs.Finite.{IsFinite, IsVariableType}
use Rattle.gb_typing.proofs.Variables.{variable_finite}
use Rattle.gb_meaning.specs.Naming.{AnyName}
use Rattle.gb_typing.specs.Naming.{NoName, TermNames}
use Rattle.gb_laws.specs.Programs.{Take, variable_type}
use Rattle.gb_typing.specs.Context.{Context, erased, of_program}
use Rattle.gb_typing.specs.Programs.{IsExpression, HaveVariableTypes}
use Rattle.gb_typing.proofs.Lists.{hidden_each, typed_append}
use Rattle.gb_elab_laws.specs.Fitting.{IsFitting, IsFormType, IsGiven, of_no_module}
use Rattle.gb_elab_laws.proofs.Around.{IsAround}
use Rattle.gb_elab_laws.proofs.Around as program_around
use Rattle.gb_elab_laws.proofs.Called as of_calls
use Rattle.gb_elab_laws.proofs.Forms.{elaborated_typed, given_alike, sampled_alike, speaking_fits}
use Rattle.gb_elab_laws.proofs.Given.{given_bind, given_is, if_given, none_some, not_given, out_type, some_given}
use Rattle.gb_elab_laws.proofs.Operators.{changed}
use Rattle.gb_elab_laws.proofs.Spoken.{hidden_speaks, speak_append}
use Rattle.gb_elab_laws.proofs.MoreNames.{none_named}
use Rattle.gb_elab_laws.proofs.Shapes.{drawn_form, entries_finite, finite_form, variable_form, variable_with}
use Rattle.gb_elab_laws.proofs.Tested.{map_of}
use Rattle.gb_elab_laws.proofs.Typed.{Typed, given_from, leaf, of_given}
use Rattle.gb_elab_laws.proofs.Types.{distributions_over}

-- a term that passes the test of variants has a type `int[n]`
of_layer : (t : Ty) → is_modulo_layer (out-Ty t) ≡ true → IsModulo t
unfolding out-Ty denote.Hole.Carrier.out
of_layer (ty.Mod n) e = tt
of_layer ty.Unit e = absurd (false≢true e)
of_layer ty.Bool e = absurd (false≢true e)
of_layer (ty.Bits n) e = absurd (false≢true e)
of_layer ty.Int e = absurd (false≢true e)
of_layer ty.Real e = absurd (false≢true e)
of_layer (ty.Enumeration x n) e = absurd (false≢true e)
of_layer (ty.Tuple' n ts) e = absurd (false≢true e)
of_layer (ty.Opt' p x) e = absurd (false≢true e)
of_layer (ty.Map' p k q x) e = absurd (false≢true e)
of_layer (ty.Distr' p x) e = absurd (false≢true e)
of_layer (ty.Abstract x) e = absurd (false≢true e)
of_layer (ty.Glob x) e = absurd (false≢true e)

modulo : (v : Term) → counts_down v ≡ true → IsModulo (type_of v)
modulo v e = of_layer (type_of v) (subst (λ t. is_modulo_layer (out-Ty t) ≡ true) (out_type v) e)

module _ (ds : Declarations) (c : Context) (m : Module) (around : IsAround ds c m) (vs : List TypedName) (typed : HaveVariableTypes vs) where
  abbrev here : Environment
  here = program ds m nothing_around vs

  abbrev inner : Context
  inner = of_program c vs

  abbrev IsTarget : Target → Type 0
  IsTarget = program_around.IsTarget ds c m around vs typed

  abbrev AreTargets : List Target → Type 0
  AreTargets = program_around.AreTargets ds c m around vs typed

  fits : IsFitting of_no_module inner here []
  fits = program_around.fits ds c m around vs typed

  expression : (w : Option Ty) (e : Term) → IsGiven of_no_module inner Program w e → IsExpression c vs e
  expression = program_around.expression ds c m around vs typed

  abbrev IsMade : Instr → Type 0
  IsMade = program_around.IsMade ds c m around vs typed

  abbrev AreMade : List Instr → Type 0
  AreMade = program_around.AreMade ds c m around vs typed

  target_typed : (x : Name) (p : Place) (v : Target) → target here x p ≡ given v → IsTarget v
  target_typed = program_around.target_typed ds c m around vs typed

  targets_typed : (ws us : List Target) (ts : List Node) → AreTargets ws → targets here ws ts ≡ given us → AreTargets us
  targets_typed = program_around.targets_typed ds c m around vs typed

  all_finite : (ws : List Target) → AreTargets ws → IsFinite (type_of_all ws)
  all_finite = program_around.all_finite ds c m around vs typed

  all_variable : (ws : List Target) → AreTargets ws → IsVariableType (type_of_all ws)
  all_variable = program_around.all_variable ds c m around vs typed

  all_take : (ws : List Target) (t : Ty) → AreTargets ws → t ≡ type_of_all ws → Take (erased c) vs (variables_of ws) t
  all_take = program_around.all_take ds c m around vs typed

  call_typed : (ws : List Target) → AreTargets ws → (k : Head) (x : Node) (xs : List Node) (p : Place) (i : Instr) → call here ws k x xs p ≡ given i → IsMade i
  call_typed = of_calls.call_typed ds c m around vs typed

  sampling_typed : (x : Name) (ds : List Node) (p : Place) (i : Instr) → sampling here x ds p ≡ given i → IsMade i
  unfolding sampling
  sampling_typed x (d ∷ []) p i h =
      let v = given_bind (target here x p) _ i h in
      let from = given_bind (elaborated d (sampled here) [] (Some (ty.Distr v.0.1))) (λ (e : Term). given (Sample v.0.0 e)) i v.2 in
      let t = target_typed x p v.0 v.1 in
      let same = sampled_alike of_no_module Program in
      let g =
      given_alike of_no_module inner Sampled Program same (Some (ty.Distr v.0.1)) from.0
      (elaborated_typed d inner (sampled here) [] (speaking_fits of_no_module inner here [] Sampled same fits) (Some (ty.Distr v.0.1)) (drawn_form of_no_module v.0.1 (variable_with of_no_module v.0.1 t.1)) from.0 from.1) in
      let k = distributions_over v.0.1 (type_of from.0) (variable_finite v.0.1 t.1) g.wanted in
      let made : variable_type (erased c) vs v.0.0 ≡ Some (outcome_type (type_of from.0)) = t.0 ∙ ap Some (sym k.1) in
      subst (IsMade) {x = Sample v.0.0 from.0} (given_is (Sample v.0.0 from.0) i from.2) ((expression (Some (ty.Distr v.0.1)) from.0 g, k.0, made), none_named from.0 g.apart)
  sampling_typed x [] p i h = absurd (not_given _ _ i h)
  sampling_typed x (d ∷ e ∷ es) p i h = absurd (not_given _ _ i h)

  assignment_typed : (x : Name) (es : List Node) (p : Place) (i : Instr) → assignment here x es p ≡ given i → IsMade i
  unfolding assignment
  assignment_typed x (e ∷ []) p i h =
      let v = given_bind (target here x p) _ i h in
      let u = given_bind (elaborated e here [] (Some v.0.1)) (λ (u : Term). given (Assign (v.0.0 ∷ []) u)) i v.2 in
      let t = target_typed x p v.0 v.1 in
      let g = elaborated_typed e inner here [] fits (Some v.0.1) (variable_form of_no_module v.0.1 t.1) u.0 u.1 in
      let made : variable_type (erased c) vs v.0.0 ≡ Some (type_of u.0) = t.0 ∙ ap Some (sym g.wanted) in
      let finite : IsFinite (type_of u.0) = subst IsFinite (sym g.wanted) (variable_finite v.0.1 t.1) in
      subst (IsMade) {x = Assign (v.0.0 ∷ []) u.0} (given_is (Assign (v.0.0 ∷ []) u.0) i u.2)
      ((record { expression = expression (Some v.0.1) u.0 g; finite = finite }, made), none_named u.0 g.apart)
  assignment_typed x [] p i h = absurd (not_given _ _ i h)
  assignment_typed x (d ∷ e ∷ es) p i h = absurd (not_given _ _ i h)

  tuple_typed : (ts es : List Node) (p : Place) (i : Instr) → tuple_assignment here ts es p ≡ given i → IsMade i
  unfolding tuple_assignment
  tuple_typed ts (e ∷ []) p i h =
      let ws = given_bind (targets here [] ts) _ i h in
      let u = given_bind (elaborated e here [] (Some (type_of_all ws.0))) (λ (u : Term). given (Assign (variables_of ws.0) u)) i ws.2 in
      let k = targets_typed [] ws.0 ts tt ws.1 in
      let g = elaborated_typed e inner here [] fits (Some (type_of_all ws.0)) (variable_form of_no_module (type_of_all ws.0) (all_variable ws.0 k)) u.0 u.1 in
      let finite : IsFinite (type_of u.0) = subst IsFinite (sym g.wanted) (all_finite ws.0 k) in
      subst (IsMade) {x = Assign (variables_of ws.0) u.0} (given_is (Assign (variables_of ws.0) u.0) i u.2)
      ((record { expression = expression (Some (type_of_all ws.0)) u.0 g; finite = finite }, all_take ws.0 (type_of u.0) k g.wanted), none_named u.0 g.apart)
  tuple_typed ts [] p i h = absurd (not_given _ _ i h)
  tuple_typed ts (d ∷ e ∷ es) p i h = absurd (not_given _ _ i h)

  -- calls whose results variables take
  result_typed : (ws : List Target) → AreTargets ws → (k : Head) (xs : List Node) (p : Place) (i : Instr) → result_to here ws k xs p ≡ given i → IsMade i
  result_typed ws w k (x ∷ xs) p i h = call_typed ws w k x xs p i h
  result_typed ws w k [] p i h = absurd (not_given _ _ i h)

  called_typed : (ws : List Target) → AreTargets ws → (ks : List Node) (p : Place) (i : Instr) → called_to here ws ks p ≡ given i → IsMade i
  called_typed ws w (k ∷ []) p i h = result_typed ws w (head_of k) (parts_of k) (place_of k) i h
  called_typed ws w [] p i h = absurd (not_given _ _ i h)
  called_typed ws w (k ∷ l ∷ ks) p i h = absurd (not_given _ _ i h)

  result_in_typed : (x : Name) (ks : List Node) (p : Place) (i : Instr) → result_in here x ks p ≡ given i → IsMade i
  unfolding result_in
  result_in_typed x ks p i h =
      let v = given_bind (target here x p) (λ (v : Target). called_to here (v ∷ []) ks p) i h in called_typed (v.0 ∷ []) (target_typed x p v.0 v.1, tt) ks p i v.2

  results_in_typed : (ts ks : List Node) (p : Place) (i : Instr) → results_in here ts ks p ≡ given i → IsMade i
  unfolding results_in
  results_in_typed ts ks p i h =
      let ws = given_bind (targets here [] ts) (λ (ws : List Target). called_to here ws ks p) i h in called_typed ws.0 (targets_typed [] ws.0 ts tt ws.1) ks p i ws.2

  written_typed : (ts : List Node) (k : Head) (es : List Node) (p : Place) (i : Instr) → written_to here ts k es p ≡ given i → IsMade i
  written_typed ts head.Assign es p i h = tuple_typed ts es p i h
  written_typed ts head.AssignCall ks p i h = results_in_typed ts ks p i h
  written_typed ts _ es p i h = absurd (not_given _ _ i h)

  -- a variable is read in the own memory
  read_typed : (v : Target) → IsTarget v → Typed of_no_module inner Program v.1 (node (Read (read_of.Program v.0 side.Own)) [] v.1)
  read_typed (Local x, t) h = leaf inner Program (Read (read_of.Program (Local x) side.Own)) t (variable_form of_no_module t h.1) (tt, variable_finite t h.1) h.0 tt (λ e. (tt, e))
  read_typed (Global m x, t) h = leaf inner Program (Read (read_of.Program (Global m x) side.Own)) t (variable_form of_no_module t h.1) (tt, variable_finite t h.1, h.0) (tt, h.0) tt (λ e. (tt, e))
  read_typed (Glob a, t) h = none_some t h.0

  entry_typed : (v : Target) → IsTarget v → (t : Ty × Ty) → v.1 ≡ ty.Map t.0 t.1 → (k e : Node) (i : Instr) → entry_stored here v t k e ≡ given i → IsMade i
  unfolding entry_stored
  entry_typed v o t is k e i h =
      let a = given_bind (elaborated k here [] (Some t.0)) _ i h in
      let b = given_bind (elaborated e here [] (Some t.1)) (λ (b : Term). given (Assign (v.0 ∷ []) (stored_term v a.0 b))) i a.2 in
      let parts = entries_finite of_no_module t.0 t.1 (subst (IsFormType of_no_module) is (variable_form of_no_module v.1 o.1)) in
      let y = elaborated_typed k inner here [] fits (Some t.0) (finite_form of_no_module t.0 parts.0) a.0 a.1 in
      let z = elaborated_typed e inner here [] fits (Some t.1) (finite_form of_no_module t.1 parts.1) b.0 b.1 in
      let made : Typed of_no_module inner Program v.1 (stored_term v a.0 b.0) =
      subst (λ u. Typed of_no_module inner Program u (applied op.Set (node (Read (read_of.Program v.0 side.Own)) [] v.1 ∷ a.0 ∷ b.0 ∷ []) u)) (sym is)
      (changed inner Program t.0 t.1 _ a.0 b.0 (subst (λ u. Typed of_no_module inner Program u (node (Read (read_of.Program v.0 side.Own)) [] v.1)) is (read_typed v o)) (of_given inner Program t.0 a.0 y) (of_given inner Program t.1 b.0 z)) in
      let g = given_from inner Program (Some v.1) v.1 (stored_term v a.0 b.0) made refl in
      let finite : IsFinite (type_of (stored_term v a.0 b.0)) = subst IsFinite (sym g.wanted) (variable_finite v.1 o.1) in
      subst (IsMade) {x = Assign (v.0 ∷ []) (stored_term v a.0 b.0)} (given_is (Assign (v.0 ∷ []) (stored_term v a.0 b.0)) i b.2)
      ((record { expression = expression (Some v.1) (stored_term v a.0 b.0) g; finite = finite }, o.0 ∙ ap Some (sym g.wanted)), none_named (stored_term v a.0 b.0) g.apart)

  stored_typed : (x : Name) (ts : List Node) (p : Place) (i : Instr) → stored here x ts p ≡ given i → IsMade i
  unfolding stored
  stored_typed x (k ∷ e ∷ []) p i h =
      let v = given_bind (target here x p) _ i h in
      let t = given_bind (given_or (entries v.0.1) TypeMismatch p) (λ (t : Ty × Ty). entry_stored here v.0 t k e) i v.2 in
      let is : v.0.1 ≡ ty.Map t.0.0 t.0.1 = map_of v.0.1 t.0 (some_given (entries v.0.1) TypeMismatch p t.0 t.1) in
      entry_typed v.0 (target_typed x p v.0 v.1) t.0 is k e i t.2
  stored_typed x [] p i h = absurd (not_given _ _ i h)
  stored_typed x (k ∷ []) p i h = absurd (not_given _ _ i h)
  stored_typed x (k ∷ e ∷ d ∷ ds) p i h = absurd (not_given _ _ i h)

  instruction_typed : (k : Head) (x : Node) (xs : List Node) (p : Place) (i : Instr) → instruction here k x xs p ≡ given i → IsMade i
  instruction_typed head.Sample x xs p i h = sampling_typed (dotted (text_of x) (words xs)) (written xs) p i h
  instruction_typed head.Assign x xs p i h = assignment_typed (dotted (text_of x) (words xs)) (written xs) p i h
  instruction_typed head.Store x xs p i h = stored_typed (dotted (text_of x) (take (pred (pred (length xs))) xs)) (drop (pred (pred (length xs))) xs) p i h
  instruction_typed head.AssignCall x xs p i h = result_in_typed (dotted (text_of x) (words xs)) (written xs) p i h
  instruction_typed head.Call x xs p i h = call_typed [] tt head.Call x xs p i h
  instruction_typed head.FunctorCall x xs p i h = call_typed [] tt head.FunctorCall x xs p i h
  instruction_typed head.TupleStatement ts (w ∷ []) p i h = written_typed (parts_of ts) (head_of w) (parts_of w) p i h
  instruction_typed _ x xs p i h = absurd (not_given _ _ i h)

  both_made : (is js : List Instr) → AreMade is → AreMade js → AreMade (is ++ js)
  both_made is js h k = (typed_append c vs is js h.0 k.0, speak_append NoName is js h.1 k.1)

  -- what gives typed statements
  abbrev Gives : Stating → Type 0
  Gives f = (is : List Instr) → f here ≡ given is → AreMade is

  abbrev Known : Type 0
  Known = (n : Node) × Gives (stated n)

  abbrev parts : List Known → List (Node × Stating)
  parts ks = map (λ k. (k.0, stated k.0)) ks

  alone_typed : (k : Head) (x : Node) (xs : List Node) (p : Place) (is : List Instr) → alone (instruction here k x xs p) ≡ given is → AreMade is
  alone_typed k x xs p is h =
      let i = given_bind (instruction here k x xs p) (λ i. given (i ∷ [])) is h in
      let w = instruction_typed k x xs p i.0 i.1 in
      subst (AreMade) {x = i.0 ∷ []} (given_is (i.0 ∷ []) is i.2) ((w.0, tt), (w.1, tt))

  single_typed : (k : Head) (xs : List Node) (p : Place) (is : List Instr) → single here k xs p ≡ given is → AreMade is
  single_typed k (x ∷ xs) p is h = alone_typed k x xs p is h
  single_typed k [] p is h = absurd (not_given _ _ is h)

  branch_typed : (e : Node) (a b : Stating) → Gives a → Gives b → (is : List Instr) → branch here e a b ≡ given is → AreMade is
  branch_typed e a b f g is h =
      let t = given_bind (elaborated e here [] (Some ty.Bool)) _ is h in
      let y = given_bind (a here) _ is t.2 in
      let n = given_bind (b here) (λ js. given (If t.0 (record { list = y.0 }) (record { list = js }) ∷ [])) is y.2 in
      let k = elaborated_typed e inner here [] fits (Some ty.Bool) tt t.0 t.1 in
      subst (AreMade) (given_is (If t.0 (record { list = y.0 }) (record { list = n.0 }) ∷ []) is n.2)
      (let l = f y.0 y.1 in
      let r = g n.0 n.1 in
      ((((expression (Some ty.Bool) t.0 k, k.wanted), hidden_each c vs y.0 l.0, hidden_each c vs n.0 r.0), tt), ((none_named t.0 k.apart, hidden_speaks NoName y.0 l.1, hidden_speaks NoName n.0 r.1), tt)))

  list_typed : (ks : List Known) (is : List Instr) → all_stated (parts ks) here ≡ given is → AreMade is
  list_typed [] is h = subst (AreMade) (given_is [] is h) (tt, tt)
  list_typed (k ∷ ks) is h =
      let i = given_bind (stated k.0 here) (λ i. all_stated (parts ks) here >>= λ js. given (i ++ js)) is h in
      let js = given_bind (all_stated (parts ks) here) (λ js. given (i.0 ++ js)) is i.2 in
      subst (AreMade) (given_is (i.0 ++ js.0) is js.2) (both_made i.0 js.0 (k.1 i.0 i.1) (list_typed ks js.0 js.1))

  -- the variant of a loop is an expression of a type `int[n]`
  abbrev IsVariant : Term → Type 0
  IsVariant v = (IsExpression c vs v × IsModulo (type_of v)) × TermNames NoName AnyName v

  variant_typed : (ss : List Node) (p : Place) (v : Term) → variant here ss p ≡ given v → IsVariant v
  unfolding variant
  variant_typed (s ∷ ss) p v h =
      let k = given_bind (elaborated s here [] None) (λ k. if counts_down k then given k else refused TypeMismatch (place_inside s)) v h in
      let u = if_given (counts_down k.0) k.0 TypeMismatch (place_inside s) v k.2 in
      let g = elaborated_typed s inner here [] fits None tt k.0 k.1 in
      subst IsVariant u.1 ((expression None k.0 g, modulo k.0 u.0), none_named k.0 g.apart)
  variant_typed [] p v h = absurd (not_given _ _ v h)

  -- a loop, of which the statements behind the variant are typed
  turning_typed : (e l : Node) (b : Stating) → Gives b → (is : List Instr) → turning here e l b ≡ given is → AreMade is
  turning_typed e l b f is h =
      let t = given_bind (elaborated e here [] (Some ty.Bool)) _ is h in
      let v = given_bind (variant here (parts_of l) (place_of l)) _ is t.2 in
      let y = given_bind (b here) (λ js. given (While t.0 v.0 (record { list = js }) ∷ [])) is v.2 in
      let k = elaborated_typed e inner here [] fits (Some ty.Bool) tt t.0 t.1 in
      let n = variant_typed (parts_of l) (place_of l) v.0 v.1 in
      let r = f y.0 y.1 in
      subst (AreMade) (given_is (While t.0 v.0 (record { list = y.0 }) ∷ []) is y.2)
      ((((expression (Some ty.Bool) t.0 k, k.wanted), n.0, hidden_each c vs y.0 r.0), tt), ((none_named t.0 k.apart, n.1, hidden_speaks NoName y.0 r.1), tt))

  begun_typed : (x t : Node) (ss : Stating) → Gives ss → (is : List Instr) → begun here x t ss ≡ given is → AreMade is
  begun_typed x t ss f is h =
      let i = given_bind (alone (instruction here (head_of t) x (parts_of t) (place_of x))) _ is h in
      let js = given_bind (ss here) (λ js. given (i.0 ++ js)) is i.2 in
      subst (AreMade) (given_is (i.0 ++ js.0) is js.2) (both_made i.0 js.0 (alone_typed (head_of t) x (parts_of t) (place_of x) i.0 i.1) (f js.0 js.1))

  of_parts : (k : Head) (x : List ℕ) (ks : List Known) (p : Place) → Gives (stating k (parts ks) p)
  of_parts head.If x (e ∷ a ∷ b ∷ []) p is h = branch_typed e.0 (stated a.0) (stated b.0) a.1 b.1 is h
  of_parts head.If x _ p is h = absurd (not_given _ _ is h)
  of_parts head.While x (e ∷ l ∷ []) p is h = turning_typed e.0 l.0 (stated l.0) l.1 is h
  of_parts head.While x _ p is h = absurd (not_given _ _ is h)
  of_parts head.Loop x (v ∷ ks) p is h = list_typed ks is h
  of_parts head.NamedLoop x (v ∷ y ∷ t ∷ ks) p is h = begun_typed y.0 t.0 (all_stated (parts ks)) (list_typed ks) is h
  of_parts head.List x ks p is h = list_typed ks is h
  of_parts k x ks p is h = single_typed k (map (λ s. s.0) (parts ks)) p is h

  statement_typed : (t : Node) → Gives (stated t)
  unfolding stated
  statement_typed = by_parts (λ h x ps p. stating h ps p) Gives of_parts

  -- statements of a text
  pub statements_typed : (ss : List Node) (is : List Instr) → all_stated (with_statings ss) here ≡ given is → AreMade is
  statements_typed [] is h = subst (AreMade) (given_is [] is h) (tt, tt)
  statements_typed (s ∷ ss) is h =
      let i = given_bind (stated s here) (λ i. all_stated (with_statings ss) here >>= λ js. given (i ++ js)) is h in
      let js = given_bind (all_stated (with_statings ss) here) (λ js. given (i.0 ++ js)) is i.2 in
      subst (AreMade) (given_is (i.0 ++ js.0) is js.2) (both_made i.0 js.0 (statement_typed s i.0 i.1) (statements_typed ss js.0 js.1))
