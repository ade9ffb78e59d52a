-- What the typing of procedures gives is typed.
use Rattle.std.proofs.Common.{◌≡◌, Bool, true, false, not, ◌||◌, if◌then◌else◌, List, [], ◌∷◌, ◌++◌, Some, None, bytes_eq, refl, ap, sym, ◌∙◌, subst}
use Rattle.std.specs.List.{list_any}
use Rattle.gb_core.specs.declared.place.Place.{Place}
use Rattle.gb_core.specs.declared.refusal.Why.TheVariants.{DoubleName, TypeMismatch}
use Rattle.gb_core.specs.declared.ty.Ty.{Ty}
use Rattle.gb_core.specs.declared.ty.Ty.TheVariants as ty
use Rattle.gb_core.specs.SameTypes.{ty_eq}
use Rattle.gb_core.proofs.SameTypes.{ty_eq-Decides}
use Rattle.gb_terms.specs.declared.decl.Module.{Module}
use Rattle.gb_terms.specs.declared.decl.Proc.{Proc}
use Rattle.gb_terms.specs.declared.decl.TypedName.{TypedName}
use Rattle.gb_terms.specs.declared.term.Term.{Term}
use Rattle.gb_goal.specs.Scope.{Declarations}
use Rattle.gb_goal.specs.Answers.{◌>>=◌}
use Rattle.gb_script.specs.declared.head.Head.{Head}
use Rattle.gb_script.specs.declared.head.Head.TheVariants as head
use Rattle.gb_script.specs.declared.tree.Node.{Node}
use Rattle.gb_script.specs.Tree.{head_of, text_of, parts_of, place_of}
use Rattle.gb_laws.specs.Finite.{IsVariableType}
use Rattle.gb_meaning.specs.Names.{Name}
use Rattle.gb_goal.specs.Answers.Answer.{given, refused}
use Rattle.gb_names.specs.declared.setting.Language.TheVariants.{Program}
use Rattle.gb_names.specs.Environment.{Environment, program}
use Rattle.gb_names.specs.Names.{unit}
use Rattle.gb_names.specs.Types as spelled_as
use Rattle.gb_elab_prog.specs.Contexts.{nothing_around}
use Rattle.gb_elab_stmt.specs.Statements.{all_stated, with_statings}
use Rattle.gb_elab_prog.specs.Procedures.{is_member, untaken, result_type, lacks_value, value, undeclared, formal, formals, declared, variables, locals, with_result, result_of, procedure_by}
use Rattle.gb_typing.specs.Context.{Context, of_program}
use Rattle.gb_typing.specs.Programs.{HaveVariableTypes, IsProcedure, type_of_procedure}
use Rattle.gb_typing.specs.Scopes.{procedure_types}
use Rattle.gb_meaning.specs.Modules.{found as named}
use Rattle.gb_elab_laws.specs.Fitting.{AreTypes, IsGiven, of_no_module}
use Rattle.gb_elab_laws.proofs.Given.{given_bind, given_is, if_refused, not_given}
use Rattle.gb_elab_laws.proofs.Types.{spelled_typed}
use Rattle.gb_typing.proofs.Globals.{name_test, or_false}
use Rattle.gb_elab_laws.proofs.Typed.{given_from}
use Rattle.gb_elab_laws.proofs.Leaves.{unit_typed}
use Rattle.gb_elab_laws.proofs.MoreNames.{none_named}
use Rattle.gb_elab_laws.proofs.Shapes.{variable_form}
use Rattle.gb_meaning.specs.Naming.{AnyName}
use Rattle.gb_typing.specs.Naming.{NoName, TermNames}
use Rattle.gb_elab_laws.specs.Speaking.{BodySpeaks}
use Rattle.gb_elab_laws.proofs.Forms.{elaborated_typed}
use Rattle.gb_elab_laws.proofs.Around.{IsAround, fits, expression}
use Rattle.gb_elab_laws.proofs.Stated.{statements_typed}

pub have_both : (ls ms : List TypedName) → HaveVariableTypes ls → HaveVariableTypes ms → HaveVariableTypes (ls ++ ms)
have_both [] ms h k = k
have_both (l ∷ ls) ms h k = (h.0, have_both ls ms h.1 k)

module _ (ds : Declarations) (names : AreTypes ds) where
  pub result_typed : (ts : List Node) (u : Ty) → result_type ds ts ≡ given u → IsVariableType u
  result_typed [] u h = subst IsVariableType (given_is ty.Unit u h) tt
  result_typed (t ∷ ts) u h = spelled_typed ds names t u h

  -- the result of a procedure has a type of variables, and a value is returned where it is to be
  result_is : (x : Node) (ts vs : List Node) (u : Ty) → result_of ds x ts vs ≡ given u → IsVariableType u × (lacks_value vs u ≡ false)
  result_is x ts vs u h =
      let t = given_bind (result_type ds ts) (λ t. if lacks_value vs t then refused TypeMismatch (place_of x) else given t) u h in
      let k = if_refused (lacks_value vs t.0) TypeMismatch (place_of x) (given t.0) u t.2 in
      subst (λ z. IsVariableType z × (lacks_value vs z ≡ false)) (given_is t.0 u k.1) (result_typed ts t.0 t.1, k.0)

  formal_typed : (vs : List TypedName) (k : Head) (xs : List Node) (p : Place) (ws : List TypedName) → HaveVariableTypes vs → formal ds vs k xs p ≡ given ws → HaveVariableTypes ws
  formal_typed vs head.Formal (x ∷ t ∷ []) p ws h e =
      let o = given_bind (undeclared vs x) _ ws e in
      let u = given_bind (spelled_as.type_of ds t) (λ u. given (vs ++ record { name = text_of x; ty = u } ∷ [])) ws o.2 in
      subst HaveVariableTypes (given_is (vs ++ record { name = text_of x; ty = u.0 } ∷ []) ws u.2) (have_both vs (record { name = text_of x; ty = u.0 } ∷ []) h (spelled_typed ds names t u.0 u.1, tt))
  formal_typed vs _ _ p ws h e = absurd (not_given _ _ ws e)

  -- the parameters of a procedure have types of variables
  pub formals_typed : (vs : List TypedName) (fs : List Node) (ws : List TypedName) → HaveVariableTypes vs → formals ds vs fs ≡ given ws → HaveVariableTypes ws
  formals_typed vs [] ws h e = subst HaveVariableTypes (given_is vs ws e) h
  formals_typed vs (f ∷ fs) ws h e =
      let us = given_bind (formal ds vs (head_of f) (parts_of f) (place_of f)) (λ us. formals ds us fs) ws e in
      formals_typed us.0 fs ws (formal_typed vs (head_of f) (parts_of f) (place_of f) us.0 h us.1) us.2

module _ (ds : Declarations) (names : AreTypes ds) (ps : List TypedName) where
  declared_typed : (vs : List TypedName) (xs : List Node) (t : Ty) (ws : List TypedName) → HaveVariableTypes vs → IsVariableType t → declared ps vs xs t ≡ given ws → HaveVariableTypes ws
  declared_typed vs [] t ws h v e = subst HaveVariableTypes (given_is vs ws e) h
  declared_typed vs (x ∷ xs) t ws h v e =
      let next = vs ++ record { name = text_of x; ty = t } ∷ [] in
      let o = given_bind (undeclared ps x) (λ _. undeclared vs x >>= λ _. declared ps next xs t) ws e in
      declared_typed next xs t ws (have_both vs (record { name = text_of x; ty = t } ∷ []) h (v, tt)) v
      (given_bind (undeclared vs x) (λ _. declared ps next xs t) ws o.2).2

  variables_typed : (vs : List TypedName) (k : Head) (xs : List Node) (p : Place) (ws : List TypedName) → HaveVariableTypes vs → variables ds ps vs k xs p ≡ given ws → HaveVariableTypes ws
  variables_typed vs head.Variables (xs ∷ t ∷ []) p ws h e =
      let u = given_bind (spelled_as.type_of ds t) (declared ps vs (parts_of xs)) ws e in declared_typed vs (parts_of xs) u.0 ws h (spelled_typed ds names t u.0 u.1) u.2
  variables_typed vs _ _ p ws h e = absurd (not_given _ _ ws e)

  -- the locals of a procedure have types of variables
  locals_typed : (vs : List TypedName) (bs : List Node) (ws : List TypedName) → HaveVariableTypes vs → locals ds ps vs bs ≡ given ws → HaveVariableTypes ws
  locals_typed vs [] ws h e = subst HaveVariableTypes (given_is vs ws e) h
  locals_typed vs (b ∷ bs) ws h e =
      let us = given_bind (variables ds ps vs (head_of b) (parts_of b) (place_of b)) (λ us. locals ds ps us bs) ws e in
      locals_typed us.0 bs ws (variables_typed vs (head_of b) (parts_of b) (place_of b) us.0 h us.1) us.2

module _ (ds : Declarations) (c : Context) (m : Module) (beside : IsAround ds c m) where
  module _ (vs : List TypedName) (typed : HaveVariableTypes vs) where
    abbrev at : Environment
    at = program ds m nothing_around vs

    abbrev around : Context
    around = of_program c vs

    value_typed : (ts : List Node) (r : Ty) (u : Term) → IsVariableType r → lacks_value ts r ≡ false → value at ts r ≡ given u → IsGiven of_no_module around Program (Some r) u
    value_typed (t ∷ ts) r u k l h = elaborated_typed t around at [] (fits ds c m beside vs typed) (Some r) (variable_form of_no_module r k) u h
    value_typed [] r u k l h =
        let e : r ≡ ty.Unit = is_unit (ty_eq r ty.Unit) refl l in
        subst (IsGiven of_no_module around Program (Some r)) (given_is unit u h) (given_from around Program (Some r) ty.Unit unit (unit_typed around at [] (fits ds c m beside vs typed)) (sym e))
      where
        is_unit : (b : Bool) → ty_eq r ty.Unit ≡ b → not b ≡ false → r ≡ ty.Unit
        is_unit true e k = (ty_eq-Decides r ty.Unit).0 e
        is_unit false e k = cc

  -- what a procedure says of no module's globals together
  abbrev IsSpoken : Proc → Type 0
  IsSpoken p = BodySpeaks NoName p.body.list × TermNames NoName AnyName p.value

  -- a procedure of this name
  abbrev IsOf : Name → Proc → Type 0
  IsOf n p = (p.name ≡ n) × IsProcedure c p × IsSpoken p

  with_result_typed : (x : Node) (ps : List TypedName) (ls ss v : List Node) (r : Ty) (p : Proc) → HaveVariableTypes ps → IsVariableType r → lacks_value v r ≡ false →
      with_result ds nothing_around m x ps ls ss v r ≡ given p → IsOf (text_of x) p
  unfolding with_result
  with_result_typed x ps ls ss v r p n k l h =
      let vs = given_bind (locals ds ps [] ls) _ p h in
      let is = given_bind (all_stated (with_statings ss) (program ds m nothing_around (ps ++ vs.0))) _ p vs.2 in
      let u = given_bind (value (program ds m nothing_around (ps ++ vs.0)) v r) _ p is.2 in
      let typed = have_both ps vs.0 n (locals_typed ds beside.names.types ps [] ls vs.0 tt vs.1) in
      let g = value_typed (ps ++ vs.0) typed v r u.0 k l u.1 in
      let y = statements_typed ds c m beside (ps ++ vs.0) typed ss is.0 is.1 in
      subst (IsOf (text_of x)) (given_is _ p u.2) (
        refl,
        record {
          body = record { locals = typed; statements = y.0 };
          value = expression ds c m beside (ps ++ vs.0) typed (Some r) u.0 g;
          returned = g.wanted;
          result = k;
        },
        (y.1, none_named u.0 g.apart),
      )

  free_name : (ps : List Proc) (n : Name) → list_any (λ p. bytes_eq p.name n) ps ≡ false → named (procedure_types ps) n ≡ None
  free_name [] n e = refl
  free_name (p ∷ ps) n e = step (bytes_eq p.name n) (bytes_eq n p.name) (name_test p.name n) (free_name ps n) e
    where
      step : (a b : Bool) → a ≡ b → (list_any (λ p. bytes_eq p.name n) ps ≡ false → named (procedure_types ps) n ≡ None) → (a || list_any (λ p. bytes_eq p.name n) ps) ≡ false →
          (if b then Some (type_of_procedure p) else named (procedure_types ps) n) ≡ None
      step true b i f e = cc
      step false true i f e = cc
      step false false i f e = f e

  -- a procedure beside others, under a name of its own
  abbrev pub IsBeside : List Proc → Proc → Type 0
  IsBeside ps p = (named (procedure_types ps) p.name ≡ None) × IsProcedure c p × IsSpoken p

  pub procedure_typed : (k : Head) (xs : List Node) (q : Place) (p : Proc) → procedure_by ds nothing_around m k xs q ≡ given p → IsBeside m.procs p
  procedure_typed head.Procedure (x ∷ fs ∷ r ∷ ls ∷ ss ∷ v ∷ []) q p h =
      let n = given_bind (untaken m x) _ p h in
      let f = given_bind (formals ds [] (parts_of fs)) _ p n.2 in
      let t = given_bind (result_of ds x (parts_of r) (parts_of v)) (with_result ds nothing_around m x f.0 (parts_of ls) (parts_of ss) (parts_of v)) p f.2 in
      let k = result_is ds beside.names.types x (parts_of r) (parts_of v) t.0 t.1 in
      let w = with_result_typed x f.0 (parts_of ls) (parts_of ss) (parts_of v) t.0 p (formals_typed ds beside.names.types [] (parts_of fs) f.0 tt f.1) k.0 k.1 t.2 in
      let u = if_refused (is_member m (text_of x)) (DoubleName (text_of x)) (place_of x) (given tt) n.0 n.1 in
      let o = or_false (list_any (λ (l : TypedName). bytes_eq l.name (text_of x)) m.globals) (list_any (λ (q : Proc). bytes_eq q.name (text_of x)) m.procs) u.0 in
      (ap (named (procedure_types m.procs)) w.0 ∙ free_name m.procs (text_of x) o.1, w.1, w.2)
  procedure_typed _ _ q p h = absurd (not_given _ _ p h)
