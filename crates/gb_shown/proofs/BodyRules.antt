-- What is said of typed bodies, and what else a rule on programs is given, is named.
use Rattle.std.proofs.Common.{◌≡◌, ℕ, zero, suc, ◌-◌, Bool, true, false, if◌then◌else◌, codes, List, [], ◌∷◌, length, Option, Some, None, refl, ap, sym, ◌∙◌, subst}
use Rattle.std.specs.List.{slice_get}
use Rattle.std.specs.Option.{option_map_or, option_zip}
use Rattle.gb_core.specs.declared.ty.Ty.{Ty, out-Ty}
use Rattle.gb_core.specs.declared.ty.Ty.TheOpen as ty_layer
use Rattle.gb_core.specs.declared.ty.Ty.TheVariants as ty
use Rattle.gb_terms.specs.declared.decl.TypedName.{TypedName}
use Rattle.gb_terms.specs.declared.module.ProcRef.{ProcRef}
use Rattle.gb_terms.specs.declared.op.Side.{Side}
use Rattle.gb_terms.specs.declared.op.Side.TheVariants as side
use Rattle.gb_terms.specs.declared.term.Cmd.{Cmd}
use Rattle.gb_terms.specs.declared.term.Head.{Head}
use Rattle.gb_terms.specs.declared.term.Head.TheVariants as head
use Rattle.gb_terms.specs.declared.term.Head.TheOpen as layer
use Rattle.gb_terms.specs.declared.term.Head.TheVariants.{Assign, Sample, Call', If', While'}
use Rattle.gb_terms.specs.declared.term.Head.TheViews.{the_lemmas}
use Rattle.gb_terms.specs.declared.term.Subject.{Subject, out-Subject}
use Rattle.gb_terms.specs.declared.term.Instr.{Instr}
use Rattle.gb_terms.specs.declared.term.Term.{Term, out-Term}
use Rattle.gb_goal.specs.Answers.{Answer, ◌>>=◌}
use Rattle.gb_goal.specs.Answers.Answer.{given}
use Rattle.gb_goal.specs.Goal.{Code, Goal, code_at, goal_at, goal_of, judges_bodies}
use Rattle.gb_goal.specs.Goal.Code.{body, procedure}
use Rattle.gb_goal.specs.Goal.Goal.{hoare, phoare, equiv, ambient}
use Rattle.gb_goal.specs.Interfaces.{ProcedureType, procedure_type}
use Rattle.gb_goal.specs.Scope.{Declarations}
use Rattle.gb_goal.specs.declared.sequent.Sequent.{Sequent}
use Rattle.gb_script.specs.declared.tree.Node.{Node}
use Rattle.gb_script.specs.Tree.{head_of, parts_of}
use Rattle.gb_steps.specs.declared.step.Acts.{Acts}
use Rattle.gb_steps.specs.declared.step.Acts.TheVariants as on
use Rattle.gb_steps.specs.declared.step.BodyRule.{BodyRule}
use Rattle.gb_steps.specs.declared.step.Cut.{Cut}
use Rattle.gb_steps.specs.declared.step.Cut.TheVariants as cut
use Rattle.gb_steps.specs.declared.step.Rule.{Rule}
use Rattle.gb_steps.specs.declared.step.Rule.TheVariants as rule
use Rattle.gb_typing.specs.Context.{Context}
use Rattle.gb_typing.specs.Goals.{IsCode, IsGoalOver}
use Rattle.gb_typing.specs.Programs.{EachStatement}
use Rattle.gb_limits.specs.Lexeme.{spells}
use Rattle.gb_limits.specs.LeftOut.{is_word_of}
use Rattle.gb_names.specs.Environment.{Environment, ambient as ambient_in, of_function, relational, unary}
use Rattle.gb_names.specs.Judgments.{result_of}
use Rattle.gb_elab.specs.Forms.{elaborated, function}
use Rattle.gb_elab_mod.specs.Occurring.{occurring}
use Rattle.gb_elab_mod.specs.OnPrograms.{of_subjects, of_head, outcomes, sampled, last_sampled, functions, there_and_back, one_type, couplings, judges_chance, coupling_rule, functions_of, is_apply, drawing_rule, cut_rule, seq_rule, of_bodies_rule, said_of_bodies, case_by, case_of_bodies, kept_by, while_rule, params_if, result_if, locals_before, locals_after, term_if, said_anew, conseq_of, conseq_rule}
use Rattle.gb_elab_mod.specs.Steps.{formed, case_of_conclusion, sided_case_rule}
use Rattle.gb_elab_laws.proofs.Given.{given_bind, given_is, none_some, same_some}
use Rattle.gb_print_names.specs.declared.bound_names.Enumeration.{Enumeration}
use Rattle.gb_print.specs.Written.{is_path}
use Rattle.gb_shown.specs.Named.{IsNamedType, IsNamedSubject, IsNamedHead, IsNamed, IsNamedInstr, IsNamedCode, IsNamedGoal, IsNamedSequent}
use Rattle.gb_shown.specs.Rules.{AreNamedArguments, IsNamedIfAny, IsNamedRule}
use Rattle.gb_shown.proofs.SpeltStatements.{EachNamed}
use Rattle.gb_shown.proofs.SpeltTrees.{AllNamed, parts_named}
use Rattle.gb_shown.specs.Scopes.{IsNamedProcedureType, IsNamedScope, IsNamedSetting, IsNamedWanted}
use Rattle.gb_shown.specs.Words.{IsReadTree}
use Rattle.gb_shown.proofs.Interfaces.{type_known}
use Rattle.gb_shown.proofs.OfForms.{OfForms}
use Rattle.gb_shown.proofs.Occurring.{AreLocals, occurring_named, outcome_typed}
use Rattle.gb_shown.proofs.Settings.{ambient_named, as_locals, function_named, relational_named, unary_named}
use Rattle.gb_shown.proofs.Trees.{AreRead, parts_read}

abbrev SubjectLayer : Type 0
SubjectLayer = layer.Subject-F Head Instr Subject Cmd Term

out_proc : (p : ProcRef) → out-Subject (head.Proc p) ≡ layer.Proc p
out_proc p = simp the_lemmas refl

res_is_path : is_path (codes "res") ≡ true
unfolding spells is_word_of
res_is_path = refl

-- the functions between samplings
pub functions_read : (fs : List Node) → AreRead fs → AreRead (functions_of fs)
functions_read [] l = tt
functions_read (f ∷ []) l = step (is_apply (head_of f))
  where
    step : (b : Bool) → AreRead (if b then parts_of f else f ∷ [])
    step true = parts_read f l.0
    step false = l
functions_read (f ∷ g ∷ fs) l = l

module _ (forms : OfForms) (es : List Enumeration) (ds : Declarations) (k : IsNamedScope es ds) (q : Sequent) (n : IsNamedSequent es q) where
  abbrev Named : Term → Type 0
  Named f = IsNamed es f

  abbrev Gives : Answer Rule → Type 0
  Gives a = (r : Rule) → a ≡ given r → AreNamedArguments es r

  -- a form that is a truth
  pub truth_named : (at : Environment) → IsNamedSetting es at → (t : Node) → IsReadTree t → (f : Term) → elaborated t at [] (Some ty.Bool) ≡ given f → Named f
  truth_named at s t r f e = forms.form es at s [] tt (Some ty.Bool) tt t r f e

  around : IsNamedSetting es (ambient_in ds q)
  around = ambient_named es ds k q n

  pub formed_named : (t : Node) → IsReadTree t → (f : Term) → formed ds q t ≡ given f → Named f
  formed_named t r f e = truth_named (ambient_in ds q) around t r f e

  -- The locals of called procedures.

  result_local : (t : ProcedureType) → IsNamedProcedureType t → AreLocals (result_of t)
  result_local t h = ((res_is_path, h.result), tt)

  pub params_local : (f : ProcRef) → AreLocals (params_if (procedure_type ds None f))
  params_local f = step (procedure_type ds None f) refl
    where
      step : (o : Option ProcedureType) → procedure_type ds None f ≡ o → AreLocals (params_if o)
      step None i = tt
      step (Some t) i = let n = type_known es ds k f t i in as_locals t.params n.params

  pub results_local : (f : ProcRef) → AreLocals (result_if (procedure_type ds None f))
  results_local f = step (procedure_type ds None f) refl
    where
      step : (o : Option ProcedureType) → procedure_type ds None f ≡ o → AreLocals (result_if o)
      step None i = tt
      step (Some t) i = result_local t (type_known es ds k f t i)

  -- Rules on programs.

  pub of_bodies_named : (a : Answer BodyRule) → ((r : BodyRule) → a ≡ given r → IsNamedRule es r) → Gives (of_bodies_rule a)
  of_bodies_named a h r e = let b = given_bind a _ r e in subst (AreNamedArguments es) (given_is (rule.OnBodies b.0) r b.2) (h b.0 b.1)

  -- What is said of typed bodies.

  module _ (c : Context) (ls rs : List TypedName) where
    occurring_in : (s : Side) (p g : Term) (is : List Instr) (vs : List TypedName) → Named p → Named g → EachNamed es is → EachStatement c vs is → AreLocals (occurring ds (p ∷ g ∷ []) s is)
    occurring_in s p g is vs x y z w = occurring_named es ds (type_known es ds k) c vs s p g is x y z w

    cut_named : (m : Cut) (t : Node) → IsReadTree t → (G : Goal) → IsNamedGoal es G → IsGoalOver c ls rs G → (r : BodyRule) → cut_rule ds q m t G ≡ given r → IsNamedRule es r
    unfolding cut_rule
    cut_named (cut.One i) t l (hoare (body is) p g) x w r e =
        let b = given_bind (elaborated t (unary ds q (occurring ds (p ∷ g ∷ []) side.Own is)) [] (Some ty.Bool)) _ r e in
        let typed = w.0 in
        subst (IsNamedRule es) (given_is _ r b.2) (truth_named _ (unary_named es ds k q n _ (occurring_in side.Own p g is ls x.1 x.2 x.0 typed.statements)) t l b.0 b.1)
    cut_named (cut.Two i j) t l (equiv (body is) (body js) p g) x w r e =
        let b = given_bind (elaborated t (relational ds q (occurring ds (p ∷ g ∷ []) side.Left is) (occurring ds (p ∷ g ∷ []) side.Right js)) [] (Some ty.Bool)) _ r e in
        let left = w.1 in
        let right = w.2 in
        subst (IsNamedRule es) (given_is _ r b.2)
        (truth_named _ (relational_named es ds k q n _ _ (occurring_in side.Left p g is ls x.2 x.3 x.0 left.statements) (occurring_in side.Right p g js rs x.2 x.3 x.1 right.statements)) t l b.0 b.1)
    cut_named _ t l _ x w r e = subst (IsNamedRule es) (given_is _ r e) tt

    said_named : (t : Node) → IsReadTree t → (G : Goal) → IsNamedGoal es G → IsGoalOver c ls rs G → (o : Option Term) → said_of_bodies ds q t G ≡ given o → IsNamedIfAny es o
    unfolding said_of_bodies
    said_named t l (hoare (body is) p g) x w o e =
        let b = given_bind (elaborated t (unary ds q (occurring ds (p ∷ g ∷ []) side.Own is)) [] (Some ty.Bool)) _ o e in
        let typed = w.0 in
        subst (IsNamedIfAny es) (given_is (Some b.0) o b.2) (truth_named _ (unary_named es ds k q n _ (occurring_in side.Own p g is ls x.1 x.2 x.0 typed.statements)) t l b.0 b.1)
    said_named t l (phoare (body is) i p g d) x w o e =
        let b = given_bind (elaborated t (unary ds q (occurring ds (p ∷ g ∷ []) side.Own is)) [] (Some ty.Bool)) _ o e in
        let typed = w.0 in
        subst (IsNamedIfAny es) (given_is (Some b.0) o b.2) (truth_named _ (unary_named es ds k q n _ (occurring_in side.Own p g is ls x.1 x.2 x.0 typed.statements)) t l b.0 b.1)
    said_named t l (equiv (body is) (body js) p g) x w o e =
        let b = given_bind (elaborated t (relational ds q (occurring ds (p ∷ g ∷ []) side.Left is) (occurring ds (p ∷ g ∷ []) side.Right js)) [] (Some ty.Bool)) _ o e in
        let left = w.1 in
        let right = w.2 in
        subst (IsNamedIfAny es) (given_is (Some b.0) o b.2)
        (truth_named _ (relational_named es ds k q n _ _ (occurring_in side.Left p g is ls x.2 x.3 x.0 left.statements) (occurring_in side.Right p g js rs x.2 x.3 x.1 right.statements)) t l b.0 b.1)
    said_named t l _ x w o e = subst (IsNamedIfAny es) (given_is None o e) tt

    case_by_named : (o : Option Term) → IsNamedIfAny es o → IsNamedRule es (case_by o)
    case_by_named (Some f) h = h
    case_by_named None h = tt

    kept_by_named : (a : Acts) (o : Option Term) → IsNamedIfAny es o → AreNamedArguments es (kept_by a o)
    kept_by_named a (Some f) h = h
    kept_by_named a None h = tt

    before_named : (p g : Term) (s : Side) (a : Code) (vs : List TypedName) → Named p → Named g → IsNamedCode es a → IsCode c vs a → AreLocals (locals_before ds p g s a)
    before_named p g s (body is) vs x y z w = occurring_in s p g is vs x y z w.statements
    before_named p g s (procedure f) vs x y z w = params_local f

    after_named : (p g : Term) (s : Side) (a : Code) (vs : List TypedName) → Named p → Named g → IsNamedCode es a → IsCode c vs a → AreLocals (locals_after ds p g s a)
    after_named p g s (body is) vs x y z w = occurring_in s p g is vs x y z w.statements
    after_named p g s (procedure f) vs x y z w = results_local f

    if_any_named : (at : Environment) → IsNamedSetting es at → (u : Ty) → IsNamedWanted (Some u) → (ts : List Node) → AreRead ts → (o : Option Term) → term_if at u ts ≡ given o → IsNamedIfAny es o
    if_any_named at s u w [] l o e = subst (IsNamedIfAny es) (given_is None o e) tt
    if_any_named at s u w (t ∷ ts) l o e = let b = given_bind (elaborated t at [] (Some u)) _ o e in subst (IsNamedIfAny es) (given_is (Some b.0) o b.2) (forms.form es at s [] tt (Some u) w t l.0 b.0 b.1)

    anew_named : (before after : Environment) → IsNamedSetting es before → IsNamedSetting es after → (pre post bound : List Node) → AreRead pre → AreRead post → AreRead bound → (r : BodyRule) →
        said_anew before after (ambient_in ds q) pre post bound ≡ given r → IsNamedRule es r
    anew_named before after s u pre post bound l1 l2 l3 r e =
        let f = given_bind (term_if before ty.Bool pre) _ r e in
        let h = given_bind (term_if after ty.Bool post) _ r f.2 in
        let b = given_bind (term_if (ambient_in ds q) ty.Real bound) _ r h.2 in
        subst (IsNamedRule es) (given_is _ r b.2)
        (if_any_named before s ty.Bool tt pre l1 f.0 f.1, if_any_named after u ty.Bool tt post l2 h.0 h.1, if_any_named (ambient_in ds q) around ty.Real tt bound l3 b.0 b.1)

    conseq_named : (G : Goal) → IsNamedGoal es G → IsGoalOver c ls rs G → (pre post bound : List Node) → AreRead pre → AreRead post → AreRead bound → (r : BodyRule) → conseq_of ds q G pre post bound ≡ given r → IsNamedRule es r
    unfolding conseq_of
    conseq_named (hoare a p g) x w pre post bound l1 l2 l3 r e =
        anew_named _ _ (unary_named es ds k q n _ (before_named p g side.Own a ls x.1 x.2 x.0 w.0)) (unary_named es ds k q n _ (after_named p g side.Own a ls x.1 x.2 x.0 w.0)) pre post bound l1 l2 l3 r e
    conseq_named (phoare a i p g d) x w pre post bound l1 l2 l3 r e =
        anew_named _ _ (unary_named es ds k q n _ (before_named p g side.Own a ls x.1 x.2 x.0 w.0)) (unary_named es ds k q n _ (after_named p g side.Own a ls x.1 x.2 x.0 w.0)) pre post bound l1 l2 l3 r e
    conseq_named (equiv a b p g) x w pre post bound l1 l2 l3 r e =
        anew_named _ _ (relational_named es ds k q n _ _ (before_named p g side.Left a ls x.2 x.3 x.0 w.1) (before_named p g side.Right b rs x.2 x.3 x.1 w.2))
        (relational_named es ds k q n _ _ (after_named p g side.Left a ls x.2 x.3 x.0 w.1) (after_named p g side.Right b rs x.2 x.3 x.1 w.2)) pre post bound l1 l2 l3 r e
    conseq_named (ambient f) x w pre post bound l1 l2 l3 r e = subst (IsNamedRule es) (given_is _ r e) tt

    -- Functions between samplings.

    functions_named : (at : Environment) → IsNamedSetting es at → (fs : List Node) → AreRead fs → (u v : Ty) → IsNamedType u → IsNamedType v → (us : List Term) → functions at fs u v ≡ given us → AllNamed es us
    functions_named at s [] l u v x y us e = subst (AllNamed es) (given_is [] us e) tt
    functions_named at s (f ∷ fs) l u v x y us e =
        let a = given_bind (function f at u v) _ us e in
        let b = given_bind (functions at fs u v) _ us a.2 in
        subst (AllNamed es) (given_is (a.0 ∷ b.0) us b.2) (forms.function es at s u v x y f l.0 a.0 a.1, functions_named at s fs l.1 u v x y b.0 b.1)

    there_named : (at : Environment) → IsNamedSetting es at → (fs : List Node) → AreRead fs → (u v : Ty) → IsNamedType u → IsNamedType v → (us : List Term) → there_and_back at fs u v ≡ given us → AllNamed es us
    unfolding there_and_back
    there_named at s [] l u v x y us e = subst (AllNamed es) (given_is [] us e) tt
    there_named at s (f ∷ fs) l u v x y us e =
        let a = given_bind (function f at u v) _ us e in
        let b = given_bind (functions at fs v u) _ us a.2 in
        subst (AllNamed es) (given_is (a.0 ∷ b.0) us b.2) (forms.function es at s u v x y f l.0 a.0 a.1, functions_named at s fs l.1 v u y x b.0 b.1)

    drawn_type : (o : Option Instr) → ((i : Instr) → o ≡ Some i → IsNamedInstr es i) → (u : Ty) → sampled o ≡ Some u → IsNamedType u
    drawn_type (Some (Sample x d)) h u e = by_layer (out-Ty (out-Term d).ty) refl e
      where
        by_layer : (l : ty_layer.Ty-F Ty) → out-Ty (out-Term d).ty ≡ l → outcomes l ≡ Some u → IsNamedType u
        by_layer (ty_layer.Distr v) i j = let m = h (Sample x d) refl in let p = parts_named es d m.1 in subst IsNamedType (same_some v u j) (outcome_typed (out-Term d).ty v p.1 i)
        by_layer _ i j = none_some u j
    drawn_type None h u e = none_some u e
    drawn_type (Some (Assign xs d)) h u e = none_some u e
    drawn_type (Some (Call' xs p m ts)) h u e = none_some u e
    drawn_type (Some (If' d m a i b)) h u e = none_some u e
    drawn_type (Some (While' d v m a)) h u e = none_some u e

    at_place : (is : List Instr) → EachNamed es is → (i : ℕ) (x : Instr) → slice_get is i ≡ Some x → IsNamedInstr es x
    at_place [] h i x e = none_some x e
    at_place (y ∷ ys) h zero x e = subst (IsNamedInstr es) (same_some y x e) h.0
    at_place (y ∷ ys) h (suc i) x e = at_place ys h.1 i x e

    last_type : (d : Cmd) → EachNamed es d.list → (u : Ty) → last_sampled d ≡ Some u → IsNamedType u
    last_type d h u e = drawn_type (slice_get d.list (length d.list - 1)) (λ i j. at_place d.list h (length d.list - 1) i j) u e

    abbrev between_types : List Term → List Node → Cmd × Cmd → Ty × Ty → Answer (List Term)
    between_types ts fs d u =
        one_type fs u.0 u.1 >>= λ _. there_and_back (of_function ds q (occurring ds ts side.Left d.0.list) (occurring ds ts side.Right d.1.list)) fs u.0 u.1

    abbrev at_ends : List Term → List Node → Cmd × Cmd → Answer (List Term)
    at_ends ts fs d = option_map_or (between_types ts fs d) (option_zip (last_sampled d.0) (last_sampled d.1)) (given [])

    ends_named : (p g : Term) (fs : List Node) → AreRead fs → (d b : Cmd) → Named p → Named g → EachNamed es d.list → EachNamed es b.list → EachStatement c ls d.list → EachStatement c rs b.list →
        (us : List Term) → at_ends (p ∷ g ∷ []) fs (d, b) ≡ given us → AllNamed es us
    ends_named p g fs l d b x y z w v1 v2 us e = by_types (last_sampled d) (last_sampled b) refl refl e
      where
        by_types : (o m : Option Ty) → last_sampled d ≡ o → last_sampled b ≡ m → option_map_or (between_types (p ∷ g ∷ []) fs (d, b)) (option_zip o m) (given []) ≡ given us → AllNamed es us
        by_types (Some u) (Some v) i j e =
            let a = given_bind (one_type fs u v) _ us e in
            there_named _ (function_named es ds k q n _ _ (occurring_in side.Left p g d.list ls x y z v1) (occurring_in side.Right p g b.list rs x y w v2)) fs l u v (last_type d z u i) (last_type b w v j) us a.2
        by_types (Some u) None i j e = subst (AllNamed es) (given_is [] us e) tt
        by_types None m i j e = subst (AllNamed es) (given_is [] us e) tt

    subjects_named : (fs : List Node) → AreRead fs → (x y : SubjectLayer) (p g : Term) → IsNamedGoal es (equiv (code_at x) (code_at y) p g) → IsGoalOver c ls rs (equiv (code_at x) (code_at y) p g) →
        (us : List Term) → option_map_or (at_ends (p ∷ g ∷ []) fs) (of_subjects x y) (given []) ≡ given us → AllNamed es us
    subjects_named fs l (layer.Body d) (layer.Body b) p g h w us e =
        let left = w.1 in
        let right = w.2 in
        ends_named p g fs l d b h.2 h.3 h.0 h.1 left.statements right.statements us e
    subjects_named fs l (layer.Body d) (layer.Proc b) p g h w us e = subst (AllNamed es) (given_is [] us e) tt
    subjects_named fs l (layer.Proc d) y p g h w us e = subst (AllNamed es) (given_is [] us e) tt

    -- a judgment that is a form speaks of procedures
    unbodied : (ts : List Term) (fs : List Node) (s u : Subject) → IsNamedSubject s → (us : List Term) → option_map_or (at_ends ts fs) (of_subjects (out-Subject s) (out-Subject u)) (given []) ≡ given us → AllNamed es us
    unbodied ts fs (head.Proc p) u h us e = subst (AllNamed es) (given_is [] us (sym (ap (λ z. option_map_or (at_ends ts fs) (of_subjects z (out-Subject u)) (given [])) (out_proc p)) ∙ e)) tt
    unbodied ts fs (head.Body' m is) u h us e = absurd h

    as_form : (f : Term) (s u : Subject) → (out-Term f).head ≡ head.Equiv s u → Named f → IsNamedSubject s
    as_form f s u i h = let p = parts_named es f h in let x = subst (λ (z : Head). IsNamedHead es z (out-Term f).ty) i p.0 in x.0

    heads_named : (fs : List Node) → AreRead fs → (f : Term) (h : Head) (ts : List Term) → (out-Term f).head ≡ h → IsNamedGoal es (goal_at f h ts) → IsGoalOver c ls rs (goal_at f h ts) →
        (us : List Term) → option_map_or (at_ends ts fs) (of_head h) (given []) ≡ given us → AllNamed es us
    heads_named fs l f (head.Equiv s u) (p ∷ g ∷ []) i x w us e = subjects_named fs l (out-Subject s) (out-Subject u) p g x w us e
    heads_named fs l f (head.Equiv s u) [] i x w us e = unbodied [] fs s u (as_form f s u i x) us e
    heads_named fs l f (head.Equiv s u) (p ∷ []) i x w us e = unbodied (p ∷ []) fs s u (as_form f s u i x) us e
    heads_named fs l f (head.Equiv s u) (p ∷ g ∷ b ∷ ts) i x w us e = unbodied (p ∷ g ∷ b ∷ ts) fs s u (as_form f s u i x) us e
    heads_named fs l f _ ts i x w us e = subst (AllNamed es) (given_is [] us e) tt

    couplings_named : (fs : List Node) → AreRead fs → IsNamedGoal es (goal_of q.conclusion) → IsGoalOver c ls rs (goal_of q.conclusion) → (us : List Term) → couplings ds q fs ≡ given us → AllNamed es us
    unfolding couplings
    couplings_named fs l x w us e = heads_named fs l q.conclusion (out-Term q.conclusion).head (out-Term q.conclusion).args refl x w us e

    coupling_named : (b : Bool) (fs : List Node) (us : List Term) → AllNamed es us → AreNamedArguments es (coupling_rule b fs us)
    coupling_named true [] us h = tt
    coupling_named false [] us h = h
    coupling_named true (f ∷ fs) [] h = tt
    coupling_named false (f ∷ fs) [] h = tt
    coupling_named true (f ∷ fs) (u ∷ us) h = h
    coupling_named false (f ∷ fs) (u ∷ us) h = h

    pub drawing_named : (a : Acts) (fs : List Node) → AreRead fs → IsNamedGoal es (goal_of q.conclusion) → IsGoalOver c ls rs (goal_of q.conclusion) → Gives (drawing_rule ds q a fs)
    unfolding drawing_rule
    drawing_named on.All fs l x w r e =
        let a = given_bind (couplings ds q fs) _ r e in subst (AreNamedArguments es) (given_is _ r a.2) (coupling_named (judges_chance (out-Term q.conclusion).head) fs a.0 (couplings_named fs l x w a.0 a.1))
    drawing_named on.Left [] l x w r e = subst (AreNamedArguments es) (given_is _ r e) tt
    drawing_named on.Right [] l x w r e = subst (AreNamedArguments es) (given_is _ r e) tt
    drawing_named on.Left (f ∷ fs) l x w r e = subst (AreNamedArguments es) (given_is _ r e) tt
    drawing_named on.Right (f ∷ fs) l x w r e = subst (AreNamedArguments es) (given_is _ r e) tt

  pub seq_named : (c : Context) (ls rs : List TypedName) → IsGoalOver c ls rs (goal_of q.conclusion) → (a : Acts) (m : Cut) (t : Node) → IsReadTree t → (r : BodyRule) → seq_rule ds q a m t ≡ given r → IsNamedRule es r
  seq_named c ls rs w on.All m t l r e = cut_named c ls rs m t l (goal_of q.conclusion) n.conclusion w r e
  seq_named c ls rs w on.Left m t l r e = subst (IsNamedRule es) (given_is _ r e) tt
  seq_named c ls rs w on.Right m t l r e = subst (IsNamedRule es) (given_is _ r e) tt

  pub conseq_all : (c : Context) (ls rs : List TypedName) → IsGoalOver c ls rs (goal_of q.conclusion) → (a : Acts) (pre post bound : List Node) → AreRead pre → AreRead post → AreRead bound → (r : BodyRule) → conseq_rule ds q a pre post bound ≡ given r → IsNamedRule es r
  conseq_all c ls rs w on.All pre post bound l1 l2 l3 r e = conseq_named c ls rs (goal_of q.conclusion) n.conclusion w pre post bound l1 l2 l3 r e
  conseq_all c ls rs w on.Left pre post bound l1 l2 l3 r e = subst (IsNamedRule es) (given_is _ r e) tt
  conseq_all c ls rs w on.Right pre post bound l1 l2 l3 r e = subst (IsNamedRule es) (given_is _ r e) tt

  pub case_named : (c : Context) (ls rs : List TypedName) → IsGoalOver c ls rs (goal_of q.conclusion) → (a : Acts) (f : Node) → IsReadTree f → Gives (sided_case_rule ds q a f)
  case_named c ls rs w on.All f l r e = by_test (judges_bodies (out-Term q.conclusion).head) e
    where
      of_bodies_case : (b : BodyRule) → case_of_bodies ds q f (goal_of q.conclusion) ≡ given b → IsNamedRule es b
      of_bodies_case b e = let o = given_bind (said_of_bodies ds q f (goal_of q.conclusion)) _ b e in subst (IsNamedRule es) (given_is _ b o.2) (case_by_named c ls rs o.0 (said_named c ls rs f l (goal_of q.conclusion) n.conclusion w o.0 o.1))

      by_test : (b : Bool) → (if b then of_bodies_rule (case_of_bodies ds q f (goal_of q.conclusion)) else case_of_conclusion ds q f) ≡ given r → AreNamedArguments es r
      by_test true e = of_bodies_named (case_of_bodies ds q f (goal_of q.conclusion)) of_bodies_case r e
      by_test false e = let a = given_bind (formed ds q f) _ r e in subst (AreNamedArguments es) (given_is _ r a.2) (formed_named f l a.0 a.1)
  case_named c ls rs w on.Left f l r e = subst (AreNamedArguments es) (given_is _ r e) tt
  case_named c ls rs w on.Right f l r e = subst (AreNamedArguments es) (given_is _ r e) tt

  pub kept_named : (c : Context) (ls rs : List TypedName) → IsGoalOver c ls rs (goal_of q.conclusion) → (a : Acts) (f : Node) → IsReadTree f → Gives (while_rule ds q a f)
  kept_named c ls rs w a f l r e =
      let o = given_bind (said_of_bodies ds q f (goal_of q.conclusion)) _ r e in
      subst (AreNamedArguments es) (given_is _ r o.2) (kept_by_named c ls rs a o.0 (said_named c ls rs f l (goal_of q.conclusion) n.conclusion w o.0 o.1))
