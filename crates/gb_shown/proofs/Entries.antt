-- Operators and types that commands declare.
use Rattle.std.proofs.Common.{◌≡◌, nat_lt, pred, List, [], ◌∷◌, drop, take, length, map, reverse, Option, Some, None, subst}
use Rattle.std.specs.List.{AllByRecursion}
use Rattle.gb_core.specs.declared.place.Place.{Place}
use Rattle.gb_core.specs.declared.ty.Ty.{Ty}
use Rattle.gb_terms.specs.Nodes.{term_nodes}
use Rattle.gb_terms.specs.declared.decl.TypedName.{TypedName}
use Rattle.gb_terms.specs.declared.term.Term.{Term}
use Rattle.gb_goal.specs.Answers.Answer.{given}
use Rattle.gb_goal.specs.Scope.{Declarations}
use Rattle.gb_goal.specs.declared.scope.Entry.{Entry}
use Rattle.gb_script.specs.declared.head.Head.{Head}
use Rattle.gb_script.specs.declared.head.Head.TheVariants as head
use Rattle.gb_script.specs.declared.tree.Node.{Node}
use Rattle.gb_script.specs.Tree.{head_of, parts_of, place_of}
use Rattle.gb_names.specs.Binders.{of_type}
use Rattle.gb_names.specs.Bindings.{bound_value}
use Rattle.gb_names.specs.Types.{all_given, type_of, type_or_number}
use Rattle.gb_elab.specs.Forms.{elaborated}
use Rattle.gb_elab_prog.specs.declared.context.Bound.{Bound}
use Rattle.gb_elab_prog.specs.Contexts.{nothing_around, nothing_bound, taken}
use Rattle.gb_elab_prog.specs.Operators.{of_body, parameters, all_parameters, written, body, defined, undefined, operator_entry}
use Rattle.gb_elab_prog.specs.Sizes.{small}
use Rattle.gb_elab_laws.proofs.Given.{given_bind, given_is, if_refused, not_given}
use Rattle.gb_print_names.specs.declared.bound_names.Enumeration.{Enumeration}
use Rattle.gb_shown.specs.Named.{IsNamed, IsNamedType}
use Rattle.gb_shown.proofs.SpeltForms.{as_result}
use Rattle.gb_shown.proofs.Sequents.{all_append}
use Rattle.gb_shown.specs.Scopes.{IsNamedEntry, IsNamedScope, AreNamedBindings, IsNamedWanted}
use Rattle.gb_shown.specs.Words.{IsReadTree}
use Rattle.gb_shown.proofs.OfForms.{OfForms}
use Rattle.gb_shown.proofs.Settings.{nothing_named, operator_named}
use Rattle.gb_shown.proofs.Trees.{AreRead, drop_read, parts_read, take_read}
use mathlib.Core.List.{reverse_aux}

reversed_onto : {A : Type 0} (P : A → Type 0) (xs ys : List A) → AllByRecursion P xs → AllByRecursion P ys → AllByRecursion P (reverse_aux xs ys)
reversed_onto P [] ys k l = l
reversed_onto P (x ∷ xs) ys k l = reversed_onto P xs (x ∷ ys) k.1 (k.0, l)

-- a form that is small enough is given as it is
pub small_is : (f g : Term) → small f ≡ given g → f ≡ g
small_is f g e = let k = if_refused (nat_lt 65536 (term_nodes f)) _ _ (given f) g e in given_is f g k.1

module _ (forms : OfForms) (es : List Enumeration) (ds : Declarations) (k : IsNamedScope es ds) where
  -- parameters of named types
  abbrev AreTyped : List TypedName → Type 0
  AreTyped vs = AllByRecursion (λ (v : TypedName). IsNamedType v.ty) vs

  of_type_typed : (xs : List Node) (u : Ty) → IsNamedType u → AreTyped (of_type xs u)
  of_type_typed [] u w = tt
  of_type_typed (x ∷ xs) u w = (w, of_type_typed xs u w)

  parameters_typed : (b : Bound) → AreTyped b.values → (h : Head) (ps : List Node) → AreRead ps → (p : Place) (c : Bound) → parameters ds b h ps p ≡ given c → AreTyped c.values
  parameters_typed b l head.Variables (xs ∷ t ∷ []) r p c e =
      let a = given_bind (taken b.names (parts_of xs)) _ c e in
      let d = given_bind (type_or_number ds t) _ c a.2 in
      subst (λ (z : Bound). AreTyped z.values) (given_is _ c d.2) (all_append (λ (v : TypedName). IsNamedType v.ty) b.values _ l (of_type_typed (parts_of xs) d.0 (forms.number es ds k t r.1.0 d.0 d.1)))
  parameters_typed b l head.Variables [] r p c e = absurd (not_given _ _ c e)
  parameters_typed b l head.Variables (x ∷ []) r p c e = absurd (not_given _ _ c e)
  parameters_typed b l head.Variables (x ∷ t ∷ u ∷ ps) r p c e = absurd (not_given _ _ c e)
  parameters_typed b l _ ps r p c e = absurd (not_given _ _ c e)

  all_typed : (b : Bound) → AreTyped b.values → (xs : List Node) → AreRead xs → (c : Bound) → all_parameters ds b xs ≡ given c → AreTyped c.values
  unfolding all_parameters
  all_typed b l [] r c e = subst (λ (z : Bound). AreTyped z.values) (given_is b c e) l
  all_typed b l (x ∷ xs) r c e =
      let a = given_bind (parameters ds b (head_of x) (parts_of x) (place_of x)) _ c e in
      all_typed a.0 (parameters_typed b l (head_of x) (parts_of x) (parts_read x r.0) (place_of x) a.0 a.1) xs r.1 c a.2

  written_wanted : (ts : List Node) → AreRead ts → (w : Option Ty) → written ds ts ≡ given w → IsNamedWanted w
  written_wanted [] r w e = subst IsNamedWanted (given_is None w e) tt
  written_wanted (t ∷ ts) r w e =
      let a = given_bind (type_or_number ds t) _ w e in subst IsNamedWanted (given_is (Some a.0) w a.2) (as_result a.0 (forms.number es ds k t r.0 a.0 a.1))

  bound_named : (vs : List TypedName) → AreTyped vs → AreNamedBindings (map bound_value vs)
  bound_named [] l = tt
  bound_named (v ∷ vs) l = (l.0, bound_named vs l.1)

  types_named : (vs : List TypedName) → AreTyped vs → AllByRecursion IsNamedType (map (λ v. v.ty) vs)
  types_named [] l = tt
  types_named (v ∷ vs) l = (l.0, types_named vs l.1)

  body_named : (vs : List TypedName) → AreTyped vs → (w : Option Ty) → IsNamedWanted w → (t : Node) → IsReadTree t → (f : Term) → body ds vs w t ≡ given f → IsNamed es f
  unfolding body
  body_named vs l w n t r f e =
      let a = given_bind (elaborated t (of_body ds) (reverse (map bound_value vs)) w) _ f e in
      let setting = operator_named es ds k nothing_around (nothing_named es) in
      subst (IsNamed es) (small_is a.0 f a.2)
      (forms.form es (of_body ds) setting (reverse (map bound_value vs)) (reversed_onto _ (map bound_value vs) [] (bound_named vs l) tt) w n t r a.0 a.1)

  defined_named : (groups result : List Node) (t : Node) → AreRead groups → AreRead result → IsReadTree t → (x : Entry) → defined ds groups result t ≡ given x → IsNamedEntry es x
  unfolding defined
  defined_named groups result t r q s x e =
      let a = given_bind (all_parameters ds nothing_bound groups) _ x e in
      let b = given_bind (written ds result) _ x a.2 in
      let c = given_bind (body ds a.0.values b.0 t) _ x b.2 in
      let l = all_typed nothing_bound tt groups r a.0 a.1 in
      subst (IsNamedEntry es) (given_is _ x c.2) (types_named a.0.values l, body_named a.0.values l b.0 (written_wanted result q b.0 b.1) t s c.0 c.1)

  all_types : (ts : List Node) → AreRead ts → (us : List Ty) → all_given (map (type_of ds) ts) ≡ given us → AllByRecursion IsNamedType us
  all_types [] r us e = subst (AllByRecursion IsNamedType) (given_is [] us e) tt
  all_types (t ∷ ts) r us e =
      let a = given_bind (type_of ds t) _ us e in
      let b = given_bind (all_given (map (type_of ds) ts)) _ us a.2 in
      let w = forms.type es ds k t r.0 a.0 a.1 in
      subst (AllByRecursion IsNamedType) (given_is (a.0 ∷ b.0) us b.2) (w.named, all_types ts r.1 b.0 b.1)

  undefined_named : (ts rs : List Node) → AreRead ts → AreRead rs → (p : Place) (x : Entry) → undefined ds ts rs p ≡ given x → IsNamedEntry es x
  undefined_named ts (t ∷ []) r q p x e =
      let a = given_bind (all_given (map (type_of ds) ts)) _ x e in
      let b = given_bind (type_or_number ds t) _ x a.2 in
      subst (IsNamedEntry es) (given_is _ x b.2) (all_types ts r a.0 a.1, forms.number es ds k t q.0 b.0 b.1)
  undefined_named ts [] r q p x e = absurd (not_given _ _ x e)
  undefined_named ts (t ∷ u ∷ rs) r q p x e = absurd (not_given _ _ x e)

  -- what an operator's name stands for
  pub operator_entry_named : (h : Head) (ps : List Node) → AreRead ps → (p : Place) (x : Entry) → operator_entry ds h ps p ≡ given x → IsNamedEntry es x
  operator_entry_named head.DefinedOperator (g ∷ w ∷ t ∷ []) r p x e = defined_named (parts_of g) (parts_of w) t (parts_read g r.0) (parts_read w r.1.0) r.1.1.0 x e
  operator_entry_named head.DefinedOperator [] r p x e = absurd (not_given _ _ x e)
  operator_entry_named head.DefinedOperator (g ∷ []) r p x e = absurd (not_given _ _ x e)
  operator_entry_named head.DefinedOperator (g ∷ w ∷ []) r p x e = absurd (not_given _ _ x e)
  operator_entry_named head.DefinedOperator (g ∷ w ∷ t ∷ u ∷ ps) r p x e = absurd (not_given _ _ x e)
  operator_entry_named head.Constant (t ∷ []) r p x e = defined_named [] [] t tt tt r.0 x e
  operator_entry_named head.Constant [] r p x e = absurd (not_given _ _ x e)
  operator_entry_named head.Constant (t ∷ u ∷ ps) r p x e = absurd (not_given _ _ x e)
  operator_entry_named head.TypedConstant (w ∷ t ∷ []) r p x e = defined_named [] (w ∷ []) t tt (r.0, tt) r.1.0 x e
  operator_entry_named head.TypedConstant [] r p x e = absurd (not_given _ _ x e)
  operator_entry_named head.TypedConstant (w ∷ []) r p x e = absurd (not_given _ _ x e)
  operator_entry_named head.TypedConstant (w ∷ t ∷ u ∷ ps) r p x e = absurd (not_given _ _ x e)
  operator_entry_named head.AbstractOperator ts r p x e =
      undefined_named (take (pred (length ts)) ts) (drop (pred (length ts)) ts) (take_read (pred (length ts)) ts r) (drop_read (pred (length ts)) ts r) p x e
  operator_entry_named _ ps r p x e = absurd (not_given _ _ x e)
