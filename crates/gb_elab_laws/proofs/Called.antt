-- What the typing of calls gives is typed.
use Rattle.std.proofs.Common.{◌≡◌, ◌≤◌, ◌-◌, nat_lt, List, [], ◌∷◌, drop, length, Some, refl, ap, sym, ◌∙◌, subst, arith}
use Rattle.std.proofs.lemmas.Bool.{ltb-false}
use Rattle.gb_core.specs.declared.place.Place.{Place}
use Rattle.gb_core.specs.declared.refusal.Why.TheVariants.{TypeMismatch}
use Rattle.gb_core.specs.declared.ty.Ty.{Ty}
use Rattle.gb_core.specs.SameTypes.{ty_eq}
use Rattle.gb_core.proofs.SameTypes.{ty_eq-Decides}
use Rattle.gb_terms.specs.declared.decl.Module.{Module}
use Rattle.gb_terms.specs.declared.decl.TypedName.{TypedName}
use Rattle.gb_terms.specs.declared.term.Term.{Term, Row_of-Term, end_of-Term, more_of-Term, items-the_row-Term, items_hidden-the_row-Term-0}
use Rattle.gb_terms.specs.declared.term.Head.TheVariants.{Call}
use Rattle.gb_terms.specs.declared.term.Head.TheBlock as B
use Rattle.gb_terms.specs.declared.term.Instr.{Instr}
use Rattle.gb_goal.specs.Answers.Answer.{given}
use Rattle.gb_goal.specs.Scope.{Declarations}
use Rattle.gb_script.specs.declared.head.Head.{Head}
use Rattle.gb_script.specs.declared.tree.Node.{Node}
use Rattle.gb_meaning.specs.Commands.{terms_in}
use Rattle.gb_names.specs.Environment.{Environment, program}
use Rattle.gb_names.specs.Judgments.{Named, procedure_called}
use Rattle.gb_names.specs.Names.{Target}
use Rattle.gb_elab.specs.Forms.{elaborated}
use Rattle.gb_elab_prog.specs.Contexts.{nothing_around}
use Rattle.gb_elab_stmt.specs.Calls.{arguments, call, call_of, enough, in_last, takes}
use Rattle.gb_elab_stmt.specs.Targets.{type_of_all, variables_of}
use Rattle.gb_meaning.specs.Written.{type_of}
use Rattle.gb_laws.specs.Finite.{IsFinite}
use Rattle.gb_typing.proofs.Variables.{variable_finite}
use Rattle.gb_meaning.specs.Naming.{AnyName}
use Rattle.gb_typing.specs.Naming.{NoName, EachTermNames}
use Rattle.gb_laws.specs.Programs.{Take}
use Rattle.gb_typing.specs.Context.{Context, erased, of_program, procedure}
use Rattle.gb_typing.specs.Programs.{AreArguments, IsCall, HaveVariableTypes}
use Rattle.gb_elab_laws.specs.Fitting.{IsTypeOf, of_no_module}
use Rattle.gb_elab_laws.proofs.Around.{IsAround}
use Rattle.gb_elab_laws.proofs.Around as program_around
use Rattle.gb_elab_laws.proofs.Forms.{elaborated_typed}
use Rattle.gb_elab_laws.proofs.Given.{given_bind, given_is, if_given, if_refused}
use Rattle.gb_elab_laws.proofs.Judged.{callee_is}
use Rattle.gb_elab_laws.proofs.MoreNames.{none_named}
use Rattle.gb_elab_laws.proofs.Shapes.{variable_form}
use Rattle.gb_elab_laws.proofs.Spoken.{hidden_named}
use mathlib.Core.Former.{Count}

module _ (ds : Declarations) (c : Context) (m : Module) (around : IsAround ds c m) (vs : List TypedName) (typed : HaveVariableTypes vs) where
  abbrev here : Environment
  here = program ds m nothing_around vs

  -- a procedure that is there, of which the parameters are values
  abbrev IsThere : Named → Type 0
  IsThere n = IsTypeOf (procedure c n.0) n.1

  abbrev IsMade : Instr → Type 0
  IsMade = program_around.IsMade ds c m around vs typed

  -- arguments of the types of these parameters, which speak of no module's globals together
  abbrev ArePassed : List Term → List TypedName → Type 0
  ArePassed us qs = AreArguments c vs us qs × EachTermNames NoName AnyName us

  -- arguments of the types of parameters, of which there are no more
  arguments_typed : (qs : List TypedName) (es : List Node) (us : List Term) → HaveVariableTypes qs → length qs ≤ length es → arguments here qs es ≡ given us → ArePassed us qs
  unfolding arguments
  arguments_typed [] [] us f n h = subst (λ us. ArePassed us []) (given_is [] us h) (tt, tt)
  arguments_typed (q ∷ qs) [] us f n h = absurd (omega (arith, n))
  arguments_typed [] (e ∷ es) us f n h = cc
  arguments_typed (q ∷ qs) (e ∷ es) us f n h =
      let u = given_bind (elaborated e here [] (Some q.ty)) _ us h in
      let ws = given_bind (arguments here qs es) (λ (ws : List Term). given (u.0 ∷ ws)) us u.2 in
      let fit = program_around.fits ds c m around vs typed in
      let g = elaborated_typed e (of_program c vs) here [] fit (Some q.ty) (variable_form of_no_module q.ty f.0) u.0 u.1 in
      let k = arguments_typed qs es ws.0 f.1 (omega (arith, n)) ws.1 in
      let finite : IsFinite (type_of u.0) = subst IsFinite (sym g.wanted) (variable_finite q.ty f.0) in
      subst (λ us. ArePassed us (q ∷ qs)) (given_is (u.0 ∷ ws.0) us ws.2)
      (((record { expression = program_around.expression ds c m around vs typed (Some q.ty) u.0 g; finite = finite }, g.wanted), k.0), (none_named u.0 g.apart, k.1))

  -- what is written takes the result
  results_taken : (ws : List Target) → program_around.AreTargets ds c m around vs typed ws → (t : Ty) (p : Place) (x : _) → takes ws t p ≡ given x → Take (erased c) vs (variables_of ws) t
  results_taken [] w t p x h = tt
  results_taken (v ∷ ws) w t p x h =
      let k = if_given (ty_eq t (type_of_all (v ∷ ws))) tt TypeMismatch p x h in
      program_around.all_take ds c m around vs typed (v ∷ ws) t w ((ty_eq-Decides t (type_of_all (v ∷ ws))).0 k.0)

  row_terms : {n : Count} (r : Row_of-Term n) → terms_in r ≡ items-the_row-Term _ r
  row_terms end_of-Term = refl
  row_terms (more_of-Term t r) = ap (λ us. t ∷ us) (row_terms r)

  statement_is : (ws : List Target) (n : Named) (us : List Term) → IsThere n → ArePassed us n.1.params → Take (erased c) vs (variables_of ws) n.1.result → IsMade (Call (variables_of ws) n.0 us)
  statement_is ws n us t k w = (
    subst (λ (es : List Term). IsCall c vs (variables_of ws) (procedure c n.0) es) (sym (row_terms (B.hidden-the_row-Term-0 us) ∙ items_hidden-the_row-Term-0 us))
        (subst (λ o. IsCall c vs (variables_of ws) o us) (sym t.there) (k.0, w)),
    hidden_named NoName us k.1,
  )

  of_procedure : (ws : List Target) → program_around.AreTargets ds c m around vs typed ws → (n : Named) → IsThere n → (es : List Node) (p : Place) (i : Instr) → call_of here ws n es p ≡ given i → IsMade i
  unfolding call_of
  of_procedure ws w n there es p i h =
      let o = given_bind (enough n.1.params es p) _ i h in
      let t = given_bind (takes ws n.1.result p) _ i o.2 in
      let us = given_bind (arguments here n.1.params es) (λ (us : List Term). given (Call (variables_of ws) n.0 us)) i t.2 in
      let many = if_refused (nat_lt (length es) (length n.1.params)) TypeMismatch p (given tt) o.0 o.1 in
      subst (IsMade) (given_is (Call (variables_of ws) n.0 us.0) i us.2)
      (statement_is ws n us.0 there (arguments_typed n.1.params es us.0 there.params (ltb-false (length es) (length n.1.params) many.0) us.1) (results_taken ws w n.1.result p t.0 t.1))

  pub call_typed : (ws : List Target) → program_around.AreTargets ds c m around vs typed ws → (k : Head) (x : Node) (xs : List Node) (p : Place) (i : Instr) → call here ws k x xs p ≡ given i → IsMade i
  call_typed ws w k x xs p i h =
      let es = in_last (drop (length xs - 1) xs) in
      let n = given_bind (procedure_called here [] k x xs p) (λ (n : Named). call_of here ws n es p) i h in
      of_procedure ws w n.0 (around.procedures n.0.0 n.0.1 (callee_is here [] k x xs p n.0 n.1)) es p i n.2
