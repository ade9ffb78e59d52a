-- What stands around the statements of a procedure, and the variables that they write.
use Rattle.std.proofs.Common.{◌≡◌, List, [], ◌∷◌, ◌++◌, map, Option, Some, None, refl, ap, sym, ◌∙◌, subst}
use Rattle.std.specs.List.{AllByRecursion}
use Rattle.std.specs.Option.{option_map_or}
use Rattle.gb_core.specs.declared.place.Place.{Place}
use Rattle.gb_core.specs.declared.ty.Ty.{Ty}
use Rattle.gb_core.specs.declared.var.Var.TheVariants.{Local, Global}
use Rattle.gb_terms.specs.declared.decl.Module.{Module}
use Rattle.gb_terms.specs.declared.decl.TypedName.{TypedName}
use Rattle.gb_terms.specs.declared.module.ProcRef.{ProcRef}
use Rattle.gb_terms.specs.declared.term.Term.{Term}
use Rattle.gb_terms.specs.declared.term.Instr.{Instr}
use Rattle.gb_goal.specs.Answers.Answer.{given, refused}
use Rattle.gb_goal.specs.Interfaces.{ProcedureType, procedure_type}
use Rattle.gb_goal.specs.Scope.{Declarations, module_of}
use Rattle.gb_script.specs.declared.tree.Node.{Node}
use Rattle.gb_script.specs.Tree.{place_of}
use Rattle.gb_meaning.specs.Names.{Name}
use Rattle.gb_meaning.specs.Written.{local_type}
use Rattle.gb_names.specs.declared.setting.Language.TheVariants.{Program}
use Rattle.gb_names.specs.Environment.{Environment, program}
use Rattle.gb_names.specs.Names.{ModuleVariable, Target, first_named, global_at, global_target, no_variable, target}
use Rattle.gb_elab_stmt.specs.Targets.{next_target, once, roomy, spelled_by, targets, type_of_all, variables_of}
use Rattle.gb_elab_prog.specs.Contexts.{nothing_around}
use Rattle.gb_laws.specs.Finite.{IsFinite, IsVariableType}
use Rattle.gb_typing.proofs.Variables.{variable_finite}
use Rattle.gb_laws.specs.Operators.{parts_in}
use Rattle.gb_laws.specs.Programs.{HaveTypes, Take, variable_type}
use Rattle.gb_typing.specs.Context.{Context, erased, of_program, procedure}
use Rattle.gb_typing.specs.Naming.{NoName}
use Rattle.gb_elab_laws.specs.Speaking.{StatementSpeaks, BodySpeaks}
use Rattle.gb_typing.specs.Programs.{IsExpression, IsStatement, EachStatement, HaveVariableTypes}
use Rattle.gb_elab_laws.specs.Fitting.{AreDeclared, HasGlobals, IsFitting, IsGiven, IsTypeOf, of_no_module}
use Rattle.gb_elab_laws.proofs.Given.{given_bind, given_is}
use Rattle.gb_elab_laws.proofs.Quantified.{variables_with}
use Rattle.gb_elab_laws.proofs.Found.{found}
use Rattle.gb_elab_laws.proofs.Fits.{program_fits}
use Rattle.gb_elab_laws.proofs.Leaves.{global_stands}
use Rattle.gb_elab_laws.proofs.Shapes.{parts_are, without_globs}
use Rattle.gb_elab_laws.proofs.Types.{tuple_typed}

-- A module is typed so far among declarations, whose globals stand in a context, and so do its own, and the procedures that are known
-- inside of it: those of declared modules, its own ones, and those of its parameters.
pub record IsAround (ds : Declarations) (c : Context) (m : Module) : Type 0 where
  pub names : AreDeclared c.operator ds
  pub others : (n : Name) (k : Module) → module_of ds n ≡ Some k → HasGlobals c.global n k
  pub own : HasGlobals c.global m.name m
  pub procedures : (f : ProcRef) (a : ProcedureType) → procedure_type ds (Some m) f ≡ Some a → IsTypeOf (procedure c f) a

module _ (ds : Declarations) (c : Context) (m : Module) (around : IsAround ds c m) (vs : List TypedName) (typed : HaveVariableTypes vs) where
  abbrev pub here : Environment
  here = program ds m nothing_around vs

  abbrev pub inner : Context
  inner = of_program c vs

  pub fits : IsFitting of_no_module inner here []
  fits = program_fits c ds m vs around.names around.others around.own typed

  -- a typed statement that speaks of no module's globals together, and several
  abbrev pub IsMade : Instr → Type 0
  IsMade i = IsStatement c vs i × StatementSpeaks NoName i

  abbrev pub AreMade : List Instr → Type 0
  AreMade is = EachStatement c vs is × BodySpeaks NoName is

  -- what is typed in a program is an expression
  pub expression : (w : _) (e : Term) → IsGiven of_no_module inner Program w e → IsExpression c vs e
  expression w e g = record { typed = g.typed; plain = g.plain refl }

  -- what a statement writes is a variable of its type
  abbrev pub IsTarget : Target → Type 0
  IsTarget v = (variable_type (erased c) vs v.0 ≡ Some v.1) × IsVariableType v.1

  pub target_typed : (x : Name) (p : Place) (v : Target) → target here x p ≡ given v → IsTarget v
  target_typed x p v h = local (first_named vs x) refl h
    where
      global : (o : Option ModuleVariable) → global_at here [] x ≡ o → option_map_or global_target o (refused (no_variable here [] x) p) ≡ given v → IsTarget v
      global (Some g) e k = subst IsTarget (given_is (Global g.0 g.1.name, g.1.ty) v k) (global_stands inner here [] fits refl [] x g e)
      global None e k = cc

      local : (o : Option TypedName) → first_named vs x ≡ o →
          option_map_or (λ l. given (Local l.name, l.ty)) o (option_map_or global_target (global_at here [] x) (refused (no_variable here [] x) p)) ≡ given v → IsTarget v
      local (Some l) e k =
          let f = found vs x l e in
          subst IsTarget {x = (Local l.name, l.ty)} (given_is (Local l.name, l.ty) v k) (ap (local_type vs) f.name ∙ f.frame, without_globs l.ty (f.finite_with of_no_module (variables_with of_no_module vs typed)))
      local None e k = global (global_at here [] x) refl k

  -- several variables
  abbrev pub AreTargets : List Target → Type 0
  AreTargets [] = Unit {0}
  AreTargets (v ∷ ws) = IsTarget v × AreTargets ws

  targets_both : (ws us : List Target) → AreTargets ws → AreTargets us → AreTargets (ws ++ us)
  targets_both [] us h k = k
  targets_both (w ∷ ws) us h k = (h.0, targets_both ws us h.1 k)

  next_typed : (ws : List Target) (t : Node) (v : Target) → next_target here ws t ≡ given v → IsTarget v
  next_typed ws t v h =
      let r = given_bind (roomy ws t) _ v h in
      let u = given_bind (target here (spelled_by t) (place_of t)) _ v r.2 in
      let o = given_bind (once ws u.0.0 t) (λ _. given u.0) v u.2 in
      subst IsTarget (given_is u.0 v o.2) (target_typed (spelled_by t) (place_of t) u.0 u.1)

  pub targets_typed : (ws us : List Target) (ts : List Node) → AreTargets ws → targets here ws ts ≡ given us → AreTargets us
  unfolding targets
  targets_typed ws us [] k h = subst AreTargets (given_is ws us h) k
  targets_typed ws us (t ∷ ts) k h =
      let v = given_bind (next_target here ws t) (λ v. targets here (ws ++ v ∷ []) ts) us h in
      targets_typed (ws ++ v.0 ∷ []) us ts (targets_both ws (v.0 ∷ []) k (next_typed ws t v.0 v.1, tt)) v.2

  abbrev pub types : List Target → List Ty
  types ws = map (λ (v : Target). v.1) ws

  pub have_types : (ws : List Target) → AreTargets ws → HaveTypes (erased c) vs (variables_of ws) (types ws)
  have_types [] h = tt
  have_types (w ∷ ws) h = (h.0.0, have_types ws h.1)

  each_variable : (ws : List Target) → AreTargets ws → AllByRecursion IsVariableType (types ws)
  each_variable [] h = tt
  each_variable (w ∷ ws) h = (h.0.1, each_variable ws h.1)

  -- what they take together is a value, and they take it
  pub all_variable : (ws : List Target) → AreTargets ws → IsVariableType (type_of_all ws)
  all_variable (w ∷ []) h = h.0.1
  all_variable [] h = tuple_typed [] tt
  all_variable (w ∷ v ∷ ws) h = tuple_typed (types (w ∷ v ∷ ws)) (each_variable (w ∷ v ∷ ws) h)

  pub all_finite : (ws : List Target) → AreTargets ws → IsFinite (type_of_all ws)
  all_finite ws h = variable_finite (type_of_all ws) (all_variable ws h)

  pub all_take : (ws : List Target) (t : Ty) → AreTargets ws → t ≡ type_of_all ws → Take (erased c) vs (variables_of ws) t
  all_take [] t h e = tt
  all_take (w ∷ []) t h e = h.0.0 ∙ ap Some (sym e)
  all_take (w ∷ v ∷ ws) t h e =
      subst (HaveTypes (erased c) vs (variables_of (w ∷ v ∷ ws))) (sym (ap parts_in e ∙ parts_are (types (w ∷ v ∷ ws)))) (have_types (w ∷ v ∷ ws) h)
