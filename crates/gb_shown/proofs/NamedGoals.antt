-- A typed goal in which names are names can be written in the language.
use Rattle.std.proofs.Common.{◌≡◌, ◌&&◌, Bool, true, false, List, [], ◌∷◌, map, Option, Some, None, refl, ap, sym, subst}
use Rattle.std.proofs.lemmas.Bool.{false≢true}
use Rattle.std.specs.List.{AllByRecursion, list_all}
use Rattle.gb_core.specs.declared.ty.Ty.{Ty}
use Rattle.gb_core.specs.declared.ty.Ty.TheVariants as ty
use Rattle.gb_core.specs.declared.var.Var.{Var}
use Rattle.gb_terms.specs.declared.decl.TypedName.{TypedName}
use Rattle.gb_terms.specs.declared.module.Bind.{Bind}
use Rattle.gb_terms.specs.declared.op.Op.TheVariants.{Implies}
use Rattle.gb_terms.specs.declared.term.Term.{Term, Term', Row_of-Term, end_of-Term, more_of-Term, end_of-Head, more_of-Head, out-Term, items-the_row-Term}
use Rattle.gb_terms.specs.declared.term.Head.{Head}
use Rattle.gb_terms.specs.declared.term.Head.TheVariants as head
use Rattle.gb_terms.specs.declared.term.Head.TheVariants.{Proc, Assign, Sample, Call', If', While'}
use Rattle.gb_terms.specs.declared.term.Head.TheViews.{rolls-struct-Cmd, roll-Cmd}
use Rattle.gb_terms.specs.declared.term.Instr.{Instr, Row_of-Instr, end_of-Instr, more_of-Instr}
use Rattle.gb_terms.specs.declared.term.Cmd.{Cmd, items-the_row-Instr}
use Rattle.gb_terms.specs.Make.{node}
use Rattle.gb_meaning.specs.Commands.{terms_in}
use Rattle.gb_meaning.specs.Names.{Name}
use Rattle.gb_laws.proofs.Trees.{terms_row, out_is}
use Rattle.gb_goal.specs.Goal.{Goal, subject_of, form_of, goal_at, goal_of}
use Rattle.gb_goal.specs.Goal.Code.{body, procedure}
use Rattle.gb_goal.specs.Goal.Goal.{hoare, phoare, equiv, ambient}
use Rattle.gb_goal.specs.Scope as scope
use Rattle.gb_goal.specs.declared.sequent.Hyp.{Hyp}
use Rattle.gb_goal.specs.declared.sequent.Sequent.{Sequent}
use Rattle.gb_meaning.specs.Declared.{Declarations}
use Rattle.gb_meaning.specs.Truth.{has_module, last_has_module}
use Rattle.gb_typing.specs.Context.{Context, procedure as procedure_at, of_program}
use Rattle.gb_typing.specs.Modules.{ProcedureType}
use Rattle.gb_typing.specs.Goals.{IsGoalOver}
use Rattle.gb_typing.specs.Programs.{IsExpression, AreArguments, IsCall, IsStatement, AreStatements, EachStatement}
use Rattle.gb_typing.specs.Sequents.{IsConclusion, of_sequent, AreHypotheses, IsTypedSequent}
use Rattle.gb_typing.specs.Scopes.{context_of}
use Rattle.gb_typing.proofs.Shapes.{goal_form, node_out}
use Rattle.gb_typing.proofs.TypedGoals.{conclusion_goal}
use Rattle.gb_print_names.specs.declared.bound_names.Enumeration.{Enumeration}
use Rattle.gb_print_names.specs.BoundNames.{Place}
use Rattle.gb_print_names.specs.Names.{module_name}
use Rattle.gb_print_names.specs.Occurring.{inside}
use Rattle.gb_print.specs.GoalText.{place_of_goal}
use Rattle.gb_print.specs.Written.{is_name_text, is_path, is_limit_here, is_bind_here, IsWrittenType}
use Rattle.gb_print.specs.Goals.{AreWrittenVariables, no_variables, one_variable, AreWrittenMemories, no_memories, one_memory, AreWrittenBinds, no_binds, one_bind}
use Rattle.gb_shown.specs.Spelt.{IsSpeltHead, IsSpelt, AreSpelt, EachSpelt, IsSpeltInstr, AreSpeltInstrs, AreSpeltBodies, IsSpeltConclusion, AreSpeltHyps, IsSpeltGoal}
use Rattle.gb_shown.specs.Spelt as s
use Rattle.gb_shown.specs.Named.{IsNamed, AreNamed, IsNamedInstr, AreNamedInstrs, IsNamedGoal, IsNamedVariable, IsNamedHyp, IsNamedBind, IsNamedSequent}
use Rattle.gb_shown.proofs.SpeltTypes.{type_written}
use Rattle.gb_shown.proofs.Spelling.{Fits, inside_fits, procedure_here, target_here, targets_here, all_targets_here, of_parts, form_spelt}
use Rattle.gb_shown.proofs.SpeltStatements.{call_is, if_is, while_is, EachNamed}
use Rattle.sqlite_items.specs.formers.items.Items.{the_former}
use mathlib.Core.Former.{Count, arity, this}

module _ (es : List Enumeration) (at : Place) (f : Fits es at) where
  -- Programs.

  module _ (c : Context) (ls : List TypedName) where
    expression_spelt : (e : Term) → IsExpression c ls e → IsNamed es e → IsSpelt 1 at e
    expression_spelt e w x = form_spelt es f (of_program c ls) e w.typed x

    arguments_spelt : {n : Count} (ts : Row_of-Term n) (ps : List TypedName) → AreArguments c ls (terms_in ts) ps → AreNamed es ts → EachSpelt 1 at (terms_in ts)
    arguments_spelt end_of-Term ps w x = s.no_form
    arguments_spelt (more_of-Term t ts) [] w x = absurd w
    arguments_spelt (more_of-Term t ts) (p ∷ ps) w x = let v = w.0.0 in s.more_form (expression_spelt t v.expression x.0) (arguments_spelt ts ps w.1 x.1)

    call_spelt : {n : Count} (xs : List Var) (o : Option ProcedureType) (ts : Row_of-Term n) → IsCall c ls xs o (terms_in ts) → AreNamed es ts → EachSpelt 1 at (items-the_row-Term _ ts)
    call_spelt xs None ts w x = absurd w
    call_spelt xs (Some p) ts w x = subst (EachSpelt 1 at) (terms_row ts) (arguments_spelt ts p.params w.0 x)

    mutual
      instr_spelt : (i : Instr) → IsStatement c ls i → IsNamedInstr es i → IsSpeltInstr 1 at i
      instr_spelt (Assign xs e) w x = let v = w.0 in s.assign (targets_here at.bound f.bound xs x.0) (expression_spelt e v.expression x.1)
      instr_spelt (Sample y d) w x = s.sample (target_here at.bound f.bound y x.0) (expression_spelt d w.0 x.1)
      instr_spelt (Call' xs p n ts) w x =
          subst (IsSpeltInstr 1 at) (call_is xs p n ts) (s.call (all_targets_here at.bound f.bound xs x.0) (procedure_here at.bound f.bound p x.1) (call_spelt xs (procedure_at c p) ts w x.2))
      instr_spelt (If' e m a n b) w x = subst (IsSpeltInstr 1 at) (if_is e m a n b) (s.branch (expression_spelt e w.0.0 x.0) (row_spelt a w.1 x.1) (row_spelt b w.2 x.2))
      instr_spelt (While' e v n a) w x = subst (IsSpeltInstr 1 at) (while_is e v n a) (s.repeat (expression_spelt e w.0.0 x.0) (expression_spelt v w.1.0 x.1) (row_spelt a w.2 x.2))

      row_spelt : {n : Count} (is : Row_of-Instr n) → AreStatements c ls is → AreNamedInstrs es is → AreSpeltInstrs 1 at (items-the_row-Instr _ is)
      row_spelt end_of-Instr w x = s.no_instr
      row_spelt (more_of-Instr i is) w x = s.more_instr (instr_spelt i w.0 x.0) (row_spelt is w.1 x.1)

    list_spelt : (is : List Instr) → EachStatement c ls is → EachNamed es is → AreSpeltInstrs 1 at is
    list_spelt [] w x = s.no_instr
    list_spelt (i ∷ is) w x = s.more_instr (instr_spelt i w.0 x.0) (list_spelt is w.1 x.1)

    body_spelt : (is : List Instr) → EachStatement c ls is → EachNamed es is → AreSpeltInstrs 1 at (let k : Cmd = roll-Cmd (record { list = is }) in k.list)
    body_spelt is w x = subst (λ (k : Cmd). AreSpeltInstrs 1 at k.list) (sym (rolls-struct-Cmd (record { list = is }))) (list_spelt is w x)

-- Conclusions.

module _ (es : List Enumeration) (at : Place) (f : Fits es at) where
  type_here : (h : Head) (ts : List Term) → IsWrittenType 1 at.bound (let l = out-Term (node h ts ty.Bool) in l.ty)
  type_here h ts = subst (λ l. IsWrittenType 1 at.bound l.ty) (sym (node_out h ts ty.Bool)) (type_written at.bound f.bound ty.Bool tt)

  -- a judgment of bodies, and one of procedures
  of_bodies : (h : Head) (ts : List Term) → AreSpeltBodies (inside h ts at) h → AreSpelt 1 (inside h ts at) h ts → IsSpeltConclusion at (node h ts ty.Bool)
  of_bodies h ts x y =
      s.judgment (subst (λ l. AreSpeltBodies (inside l.head l.args at) l.head) (sym (node_out h ts ty.Bool)) x) (λ o i. type_here h ts)
      (subst (λ l. AreSpelt 1 (inside l.head l.args at) l.head l.args) (sym (node_out h ts ty.Bool)) y)

  of_procedures : (h : Head) (ts : List Term) → IsSpeltHead 1 (inside h ts at) h ts ty.Bool → AreSpelt 1 (inside h ts at) h ts → IsSpeltConclusion at (node h ts ty.Bool)
  of_procedures h ts x y =
      s.form (of_parts es at (node h ts ty.Bool) (record { head = h; args = ts; ty = ty.Bool }) (sym (node_out h ts ty.Bool)) (x, (λ o i. type_written at.bound f.bound ty.Bool tt), y))

  within : (h : Head) (ts : List Term) → Fits es (inside h ts at)
  within h ts = inside_fits es h ts f

  goal_spelt : (c : Context) (ls rs : List TypedName) (G : Goal) → IsGoalOver c ls rs G → IsNamedGoal es G → IsSpeltConclusion at (form_of G)
  goal_spelt c ls rs (hoare (body is) p q) w x =
      let h = head.Hoare (subject_of (body is)) in
      let here = within h (p ∷ q ∷ []) in
      let b = w.0 in
      of_bodies h (p ∷ q ∷ []) (s.one_body (body_spelt es (inside h (p ∷ q ∷ []) at) here c ls is b.statements x.0)) (s.more (form_spelt es here _ p w.1.typed x.1) (s.last (form_spelt es here _ q w.2.typed x.2)))
  goal_spelt c ls rs (hoare (procedure a) p q) w x =
      let h = head.Hoare (Proc a) in
      let here = within h (p ∷ q ∷ []) in
      let there = inside h (p ∷ q ∷ []) at in
      of_procedures h (p ∷ q ∷ []) (s.one_procedure (procedure_here there.bound here.bound a x.0)) (s.more (form_spelt es here _ p w.1.typed x.1) (s.last (form_spelt es here _ q w.2.typed x.2)))
  goal_spelt c ls rs (phoare (body is) r p q b) w x =
      let h = head.Phoare (subject_of (body is)) r in
      let here = within h (p ∷ q ∷ b ∷ []) in
      let k = w.0 in
      of_bodies h (p ∷ q ∷ b ∷ []) (s.bounded_body (body_spelt es (inside h (p ∷ q ∷ b ∷ []) at) here c ls is k.statements x.0))
      (s.more (form_spelt es here _ p w.1.typed x.1) (s.more (form_spelt es here _ q w.2.typed x.2) (s.last (form_spelt es here _ b w.3 x.3))))
  goal_spelt c ls rs (phoare (procedure a) r p q b) w x =
      let h = head.Phoare (Proc a) r in
      let here = within h (p ∷ q ∷ b ∷ []) in
      let there = inside h (p ∷ q ∷ b ∷ []) at in
      of_procedures h (p ∷ q ∷ b ∷ []) (s.with_bound (procedure_here there.bound here.bound a x.0))
      (s.more (form_spelt es here _ p w.1.typed x.1) (s.more (form_spelt es here _ q w.2.typed x.2) (s.last (form_spelt es here _ b w.3 x.3))))
  goal_spelt c ls rs (equiv (body is) (body js) p q) w x =
      let h = head.Equiv (subject_of (body is)) (subject_of (body js)) in
      let here = within h (p ∷ q ∷ []) in
      let there = inside h (p ∷ q ∷ []) at in
      let b = w.1 in
      let d = w.2 in
      of_bodies h (p ∷ q ∷ []) (s.two_bodies (body_spelt es there here c ls is b.statements x.0) (body_spelt es there here c rs js d.statements x.1))
      (s.more (form_spelt es here _ p w.3.typed x.2) (s.last (form_spelt es here _ q w.4.typed x.3)))
  goal_spelt c ls rs (equiv (procedure a) (procedure b) p q) w x =
      let h = head.Equiv (Proc a) (Proc b) in
      let here = within h (p ∷ q ∷ []) in
      let there = inside h (p ∷ q ∷ []) at in
      of_procedures h (p ∷ q ∷ []) (s.two_procedures (procedure_here there.bound here.bound a x.0) (procedure_here there.bound here.bound b x.1))
      (s.more (form_spelt es here _ p w.3.typed x.2) (s.last (form_spelt es here _ q w.4.typed x.3)))
  goal_spelt c ls rs (equiv (body is) (procedure b) p q) w x = absurd w.0
  goal_spelt c ls rs (equiv (procedure a) (body js) p q) w x = absurd w.0
  goal_spelt c ls rs (ambient g) w x = s.form (form_spelt es f c g w.typed x)

module _ (es : List Enumeration) where
  -- no quantifier over modules stands in front
  mutual
    no_module : (t : Term) → IsNamed es t → has_module t ≡ false
    no_module (Term' p (more_of-Head (head.AllModule b) end_of-Head) n ts t) x = absurd x.0
    no_module (Term' p (more_of-Head (head.All u) end_of-Head) n ts t) x = no_last ts x.2
    no_module (Term' p (more_of-Head head.AllMemory end_of-Head) n ts t) x = no_last ts x.2
    no_module (Term' p (more_of-Head (head.Builtin Implies) end_of-Head) n ts t) x = no_last ts x.2
    no_module _ x = refl

    no_last : {n : Count} (ts : Row_of-Term n) → AreNamed es ts → last_has_module ts ≡ false
    no_last end_of-Term x = refl
    no_last (more_of-Term t end_of-Term) x = no_module t x.0
    no_last (more_of-Term t (more_of-Term u ts)) x = no_last (more_of-Term u ts) x.1

  front_at : (h : Head) (n : List (Unit {0})) (ts : Row_of-Term (arity (the_former (this {0})) n)) (t : Ty) → IsNamedGoal es (goal_at (Term' tt (more_of-Head h end_of-Head) n ts t) h (terms_in ts)) →
      has_module (Term' tt (more_of-Head h end_of-Head) n ts t) ≡ false
  front_at (head.AllModule b) n ts t x = absurd x.0
  front_at (head.All u) n ts t x = no_last ts x.2
  front_at head.AllMemory n ts t x = no_last ts x.2
  front_at (head.Builtin Implies) n ts t x = no_last ts x.2
  front_at _ n ts t x = refl

  pub no_front : (g : Term) → IsNamedGoal es (goal_of g) → has_module g ≡ false
  no_front (Term' tt (more_of-Head h end_of-Head) n ts t) x =
      front_at h n ts t (subst (λ l. IsNamedGoal es (goal_at (Term' tt (more_of-Head h end_of-Head) n ts t) l.head l.args)) (out_is h n ts t) x)

  conclusion_spelt : (at : Place) → Fits es at → (c : Context) (g : Term) → IsConclusion c g → IsNamedGoal es (goal_of g) → IsSpeltConclusion at g
  conclusion_spelt at f c g w x =
      let k = conclusion_goal c g w (no_front g x) in
      let typed = k.0 in
      subst (IsSpeltConclusion at) (goal_form g k.1) (goal_spelt es at f c typed.0 typed.1 (goal_of g) typed.2 x)

  hyps_spelt : (at : Place) → Fits es at → (c : Context) (hs : List Hyp) → AreHypotheses c hs → AllByRecursion (IsNamedHyp es) hs → AreSpeltHyps at hs
  hyps_spelt at f c [] w x = s.no_hyps
  hyps_spelt at f c (h ∷ hs) w x = s.one_hyp x.0.0 (form_spelt es f c h.form w.0.typed x.0.1) (hyps_spelt at f c hs w.1 x.1)

variables_written : (at : Place) → at.bound ≡ [] → (vs : List TypedName) → AllByRecursion IsNamedVariable vs → AreWrittenVariables at vs
variables_written at e [] x = no_variables
variables_written at e (v ∷ vs) x = one_variable x.0.0 (subst (λ ks. IsWrittenType 1 ks v.ty) (sym e) (type_written [] tt v.ty x.0.1)) (variables_written at e vs x.1)

memories_written : (ms : List Name) → AllByRecursion (λ m. is_name_text m ≡ true) ms → AreWrittenMemories ms
memories_written [] x = no_memories
memories_written (m ∷ ms) x = one_memory x.0 (memories_written ms x.1)

hold_both : (a b : Bool) → a ≡ true → b ≡ true → (a && b) ≡ true
hold_both true b h k = k
hold_both false b h k = absurd (false≢true h)

excluded_written : (ms : List Name) → AllByRecursion (λ m. is_path m ≡ true) ms → list_all is_path (map (module_name []) ms) ≡ true
excluded_written [] x = refl
excluded_written (m ∷ ms) x = hold_both (is_path m) _ x.0 (excluded_written ms x.1)

bind_written : (b : Bind) → IsNamedBind b → is_bind_here [] b ≡ true
bind_written b n =
    let excluded = excluded_written b.minus n.minus in
    let unbounded = ap (λ ls. list_all (is_limit_here []) ls) n.bounds in
    hold_both (is_path b.ty && list_all is_path (map (module_name []) b.minus)) (list_all (is_limit_here []) b.bounds)
    (hold_both (is_path b.ty) (list_all is_path (map (module_name []) b.minus)) n.ty excluded) unbounded

binds_written : (at : Place) → at.bound ≡ [] → (bs : List Bind) → AllByRecursion IsNamedBind bs → AreWrittenBinds at bs
binds_written at e [] x = no_binds
binds_written at e (b ∷ bs) x = let n = x.0 in one_bind n.name (subst (λ ks. is_bind_here ks b ≡ true) (sym e) (bind_written b n)) (binds_written at e bs x.1)

-- Goals.

pub sequent_spelt : (ds : Declarations) (ss : scope.Declarations) (es : List Enumeration) (q : Sequent) → IsTypedSequent (context_of ds) q → IsNamedSequent es q → IsSpeltGoal (place_of_goal ss es q) q
sequent_spelt ds ss es q w x =
    let at = place_of_goal ss es q in
    let fits : Fits es at = record { enumerations = refl; bound = tt } in
    let c = of_sequent (context_of ds) q w.frames in
    record {
      variables = variables_written at refl q.logical x.variables;
      memories = memories_written q.memories x.memories;
      modules = binds_written at refl q.modules x.modules;
      hyps = hyps_spelt es at fits c q.hyps w.hyps x.hyps;
      conclusion = conclusion_spelt es at fits c q.conclusion w.conclusion x.conclusion;
    }
