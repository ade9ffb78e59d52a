-- What commands `op` declare is typed.
use Rattle.std.proofs.Common.{◌≡◌, List, [], ◌∷◌, ◌++◌, map, reverse, take, drop, length, Option, Some, None, refl, sym, subst}
use Rattle.std.specs.Prelude.{pred}
use Rattle.std.proofs.lemmas.Bool.{false≢true}
use Rattle.std.proofs.lemmas.List.{map-append}
use Rattle.gb_core.specs.declared.place.Place.{Place}
use Rattle.gb_core.specs.declared.ty.Ty.{Ty, end_of-Ty, more_of-Ty}
use Rattle.gb_core.specs.declared.ty.Ty.TheVariants as ty
use Rattle.gb_terms.specs.declared.decl.TypedName.{TypedName}
use Rattle.gb_terms.specs.declared.term.Term.{Term}
use Rattle.gb_goal.specs.Answers.Answer.{given}
use Rattle.gb_goal.specs.Scope as scope
use Rattle.gb_goal.specs.declared.scope.Entry.{Entry}
use Rattle.gb_goal.specs.declared.scope.Entry.TheVariants as entry
use Rattle.gb_script.specs.declared.head.Head.{Head}
use Rattle.gb_script.specs.declared.head.Head.TheVariants as head
use Rattle.gb_script.specs.declared.tree.Node.{Node}
use Rattle.gb_script.specs.Tree.{head_of, parts_of, place_of}
use Rattle.gb_meaning.specs.Written.{type_of as type_of_term}
use Rattle.gb_typing.specs.Context.{Context}
use Rattle.gb_typing.specs.Scopes.{of_operator as in_operator, IsMeasured, AreMeasured, IsResult, IsDefined, AreVariableTypes}
use Rattle.gb_names.specs.Binders.{of_type}
use Rattle.gb_names.specs.Bindings.{bound_value}
use Rattle.gb_names.specs.Types.{all_given, type_of, type_or_number}
use Rattle.gb_elab.specs.Forms.{elaborated}
use Rattle.gb_elab_prog.specs.declared.context.Bound.{Bound}
use Rattle.gb_elab_prog.specs.Contexts.{taken, nothing_bound}
use Rattle.gb_elab_prog.specs.Sizes.{small}
use Rattle.gb_elab_prog.specs.Operators.{of_body, of_one_type, parameters, all_parameters, written, body, defined, undefined, operator_entry}
use Rattle.gb_elab_laws.specs.Fitting.{IsFormType, IsFormTypeIf, AreTypes, AreDeclared, IsFitting, of_no_module}
use Rattle.gb_elab_laws.proofs.Given.{given_bind, given_is, if_refused, not_given}
use Rattle.gb_elab_laws.proofs.Measured.{measured, measured_form}
use Rattle.gb_elab_laws.proofs.MoreNames.{none_named}
use Rattle.gb_elab_laws.proofs.Parameters.{types_in, parameters_bound}
use Rattle.gb_elab_laws.proofs.Shapes.{with_globs, without_globs}
use Rattle.gb_elab_laws.proofs.Types.{spelled_typed}
use Rattle.gb_elab_laws.proofs.Forms.{elaborated_typed}

-- The parameters of an operator.

both_measured : (ts us : List Ty) → AreMeasured ts → AreMeasured us → AreMeasured (ts ++ us)
both_measured [] us h k = k
both_measured (t ∷ ts) us h k = (h.0, both_measured ts us h.1 k)

of_type_measured : (xs : List Node) (u : Ty) → IsMeasured u → AreMeasured (types_in (of_type xs u))
of_type_measured [] u h = tt
of_type_measured (x ∷ xs) u h = (h, of_type_measured xs u h)

abbrev HasMeasured : Bound → Type 0
HasMeasured b = AreMeasured (types_in b.values)

module _ (ds : scope.Declarations) (names : AreTypes ds) where
  one_type_measured : (b c : Bound) (xs : List Node) (t : Node) → of_one_type ds b xs t ≡ given c → HasMeasured b → HasMeasured c
  one_type_measured b c xs t e h =
      let n = given_bind (taken b.names xs) _ c e in
      let u = given_bind (type_or_number ds t) _ c n.2 in
      subst HasMeasured (given_is _ c u.2)
      (subst AreMeasured (sym (map-append (λ (v : TypedName). v.ty) b.values (of_type xs u.0))) (both_measured (types_in b.values) _ h (of_type_measured xs u.0 (measured ds names t u.0 u.1))))

  group_measured : (b c : Bound) (k : Head) (ps : List Node) (p : Place) → parameters ds b k ps p ≡ given c → HasMeasured b → HasMeasured c
  group_measured b c head.Variables (xs ∷ t ∷ []) p e h = one_type_measured b c (parts_of xs) t e h
  group_measured b c _ ps p e h = absurd (not_given _ _ c e)

  all_measured : (b c : Bound) (gs : List Node) → all_parameters ds b gs ≡ given c → HasMeasured b → HasMeasured c
  unfolding all_parameters
  all_measured b c [] e h = subst HasMeasured (given_is b c e) h
  all_measured b c (g ∷ gs) e h =
      let n = given_bind (parameters ds b (head_of g) (parts_of g) (place_of g)) _ c e in
      all_measured n.0 c gs n.2 (group_measured b n.0 (head_of g) (parts_of g) (place_of g) n.1 h)

-- The body of an operator.

form_result : (t : Ty) → IsFormType of_no_module t → IsResult t
form_result ty.Int h = tt
form_result ty.Real h = tt
form_result (ty.Distr' p (more_of-Ty t end_of-Ty)) h = with_globs of_no_module t h.0
form_result ty.Unit h = h
form_result ty.Bool h = h
form_result (ty.Bits n) h = h
form_result (ty.Mod n) h = h
form_result (ty.Enumeration x n) h = h
form_result (ty.Tuple' n ts) h = without_globs (ty.Tuple' n ts) h
form_result (ty.Opt' p x) h = without_globs (ty.Opt' p x) h
form_result (ty.Map' p k q x) h = without_globs (ty.Map' p k q x) h
form_result (ty.Abstract x) h = h
form_result (ty.Glob x) h = absurd (false≢true h)

body_fits : (ds : scope.Declarations) (c : Context) (vs : List TypedName) → AreDeclared c.operator ds → AreMeasured (types_in vs) → IsFitting of_no_module (in_operator c (types_in vs)) (of_body ds) (reverse (map bound_value vs))
body_fits ds c vs names h = record {
  logical = λ i. refl;
  values = tt;
  bound = parameters_bound vs h;
  variables = tt;
  declared = names;
  around = tt;
  globals = λ e. absurd (false≢true e);
  outside = λ e. absurd (false≢true e);
  procedures = λ e p f k. absurd (false≢true e);
  memories = λ e i k. absurd (false≢true e);
  locals = λ e i x t k. absurd (false≢true e);
  frames = λ e i k. absurd (false≢true e);
  sides = λ e. absurd (false≢true (sym e));
  together = λ e a k. absurd (false≢true e);
  stand = λ e a k. absurd (false≢true e);
}

small_is : (t u : Term) → small t ≡ given u → t ≡ u
small_is t u h = given_is t u (if_refused _ _ _ (given t) u h).1

body_typed : (ds : scope.Declarations) (c : Context) (vs : List TypedName) (w : Option Ty) (t : Node) (f : Term) → AreDeclared c.operator ds → AreMeasured (types_in vs) → IsFormTypeIf of_no_module w → body ds vs w t ≡ given f →
    IsDefined c (record { params = types_in vs; body = f })
unfolding body
body_typed ds c vs w t f names h i e =
    let n = given_bind (elaborated t (of_body ds) (reverse (map bound_value vs)) w) _ f e in
    let g = elaborated_typed t (in_operator c (types_in vs)) (of_body ds) (reverse (map bound_value vs)) (body_fits ds c vs names h) w i n.0 n.1 in
    subst (λ z. IsDefined c (record { params = types_in vs; body = z })) (small_is n.0 f n.2)
    (record { params = h; result = form_result (type_of_term n.0) g.type; typed = g.typed; plain = g.plain refl; apart = none_named n.0 g.apart })

-- an operator may be declared
abbrev pub IsOperatorIn : Context → Entry → Type 0
IsOperatorIn c (entry.Operator o) = IsDefined c (record { params = o.params; body = o.body })
IsOperatorIn c (entry.AbstractOperator o) = AreVariableTypes o.params × IsMeasured o.result
IsOperatorIn c _ = ⊥

-- the type that is written for the result
written_form : (ds : scope.Declarations) → AreTypes ds → (ts : List Node) (w : Option Ty) → written ds ts ≡ given w → IsFormTypeIf of_no_module w
written_form ds names [] w e = subst (IsFormTypeIf of_no_module) (given_is None w e) tt
written_form ds names (t ∷ ts) w e =
    let u = given_bind (type_or_number ds t) (λ u. given (Some u)) w e in
    subst (IsFormTypeIf of_no_module) (given_is (Some u.0) w u.2) (measured_form of_no_module u.0 (measured ds names t u.0 u.1)).1

defined_typed : (ds : scope.Declarations) (c : Context) → AreDeclared c.operator ds → (gs r : List Node) (t : Node) (e : Entry) → defined ds gs r t ≡ given e → IsOperatorIn c e
unfolding defined
defined_typed ds c names gs r t e h =
    let b = given_bind (all_parameters ds nothing_bound gs) _ e h in
    let w = given_bind (written ds r) _ e b.2 in
    let f = given_bind (body ds b.0.values w.0 t) _ e w.2 in
    subst (IsOperatorIn c) (given_is _ e f.2) (body_typed ds c b.0.values w.0 t f.0 names (all_measured ds names.types nothing_bound b.0 gs b.1 tt) (written_form ds names.types r w.0 w.1) f.1)

all_variable : (ds : scope.Declarations) → AreTypes ds → (ts : List Node) (us : List Ty) → all_given (map (type_of ds) ts) ≡ given us → AreVariableTypes us
all_variable ds names [] us h = subst AreVariableTypes (given_is [] us h) tt
all_variable ds names (t ∷ ts) us h =
    let a = given_bind (type_of ds t) _ us h in
    let b = given_bind (all_given (map (type_of ds) ts)) _ us a.2 in
    subst AreVariableTypes (given_is _ us b.2) (spelled_typed ds names t a.0 a.1, all_variable ds names ts b.0 b.1)

undefined_typed : (ds : scope.Declarations) → AreTypes ds → (c : Context) (ts rs : List Node) (p : Place) (e : Entry) → undefined ds ts rs p ≡ given e → IsOperatorIn c e
undefined_typed ds names c ts (r ∷ []) p e h =
    let a = given_bind (all_given (map (type_of ds) ts)) _ e h in
    let b = given_bind (type_or_number ds r) _ e a.2 in
    subst (IsOperatorIn c) (given_is _ e b.2) (all_variable ds names ts a.0 a.1, measured ds names r b.0 b.1)
undefined_typed ds names c ts [] p e h = absurd (not_given _ _ e h)
undefined_typed ds names c ts (r ∷ s ∷ rs) p e h = absurd (not_given _ _ e h)

pub operator_typed : (ds : scope.Declarations) (c : Context) → AreDeclared c.operator ds → (h : Head) (ps : List Node) (p : Place) (e : Entry) → operator_entry ds h ps p ≡ given e → IsOperatorIn c e
operator_typed ds c names head.DefinedOperator (gs ∷ r ∷ t ∷ []) p e k = defined_typed ds c names (parts_of gs) (parts_of r) t e k
operator_typed ds c names head.Constant (t ∷ []) p e k = defined_typed ds c names [] [] t e k
operator_typed ds c names head.TypedConstant (r ∷ t ∷ []) p e k = defined_typed ds c names [] (r ∷ []) t e k
operator_typed ds c names head.AbstractOperator ts p e k = undefined_typed ds names.types c (take (pred (length ts)) ts) (drop (pred (length ts)) ts) p e k
operator_typed ds c names _ ps p e k = absurd (not_given _ _ e k)
