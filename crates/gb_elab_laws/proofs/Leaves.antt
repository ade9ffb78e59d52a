-- What a name means is typed.
use Rattle.std.proofs.Common.{◌≡◌, ℕ, Bool, true, false, if◌then◌else◌, List, [], ◌∷◌, map, is_some, Option, Some, None, option_map, bytes_eq, refl, ap, sym, ◌∙◌, subst, arith}
use Rattle.std.specs.Option.{option_map_or}
use Rattle.std.specs.Path.{dot, rsplit_once}
use Rattle.std.proofs.lemmas.Bool.{false≢true}
use Rattle.std.proofs.lemmas.Slice.Eq.{bytes_eq-Decides}
use Rattle.gb_core.specs.declared.place.Place.{Place}
use Rattle.gb_core.specs.declared.refusal.Why.TheVariants.{UnknownName, Argument}
use Rattle.gb_core.specs.declared.ty.Ty.{Ty}
use Rattle.gb_core.specs.declared.ty.Ty.TheVariants as ty
use Rattle.gb_core.specs.declared.value.Value.TheVariants.{Num}
use Rattle.gb_core.specs.declared.var.Var.TheVariants.{Local, Global}
use Rattle.gb_terms.specs.declared.decl.Module.{Module}
use Rattle.gb_terms.specs.declared.decl.TypedName.{TypedName}
use Rattle.gb_terms.specs.declared.op.Side.{Side}
use Rattle.gb_terms.specs.declared.op.Side.TheVariants as side
use Rattle.gb_terms.specs.declared.op.Read.TheVariants as read_of
use Rattle.gb_terms.specs.declared.term.Term.{Term}
use Rattle.gb_terms.specs.declared.term.Head.TheVariants.{Lit, Read, Bound}
use Rattle.gb_terms.specs.Make.{node, truth_literal}
use Rattle.gb_script.specs.declared.head.Head.{Head}
use Rattle.gb_script.specs.declared.head.Head.TheVariants as head
use Rattle.gb_script.specs.declared.tree.Node.{Node}
use Rattle.gb_script.specs.Tree.{text_of, place_of}
use Rattle.gb_laws.specs.Finite.{IsFinite, IsVariableType}
use Rattle.gb_laws.specs.Typing.{binder, IsSide}
use Rattle.gb_laws.specs.Operators.{item}
use Rattle.gb_meaning.specs.Written.{local_type}
use Rattle.gb_names.specs.declared.setting.Variables.{Variables}
use Rattle.gb_names.specs.declared.setting.Variables.TheVariants.{Absent, Own, Sides}
use Rattle.gb_goal.specs.Answers.{Answer}
use Rattle.gb_goal.specs.Scope.{module_of}
use Rattle.gb_names.specs.Wanted.{counted}
use Rattle.gb_goal.specs.Answers.Answer.{given, refused}
use Rattle.gb_names.specs.declared.bindings.Binding.{Binding}
use Rattle.gb_names.specs.declared.bindings.Kind.{Kind}
use Rattle.gb_names.specs.declared.bindings.Kind.TheVariants.{Value, Memory}
use Rattle.gb_names.specs.Bindings.{binders_inside, innermost}
use Rattle.gb_names.specs.Locals.{goal_read_type, local_if, locals_in}
use Rattle.gb_names.specs.Environment.{Name, Environment, may_read, own, own_of, on_side, sides_of}
use Rattle.gb_names.specs.Names.{ModuleVariable, first_named, global_at, global_in, global_of, global_variable, has_own, hidden, module_if, number_before, own_global, unit, unsided, bound_thing, bound_variable, logical_variable, program_variable, names_other, unbound, named, named_around, needs_side, no_variable, variable_on, sided, in_memory}
use Rattle.gb_names.specs.Names.{beside, has_memories, may_name, memory_at, read_global, remembered, side_of}
use Rattle.gb_typing.specs.Context.{Frame, Context, erased, frame_of, local_in}
use Rattle.gb_typing.specs.Typing.{IsFrame}
use Rattle.gb_typing.proofs.Literals.{bool_literal}
use Rattle.gb_typing.proofs.Variables.{variable_finite}
use Rattle.gb_elab_laws.specs.Fitting.{reads_globals, AllFiniteIn, IsBoundTo, AreIn, AreReadable, HasGlobals, HasGlobalsIf, IsFitting}
use Rattle.gb_elab_laws.proofs.Given.{given_bind, given_is, if_allowed, if_refused, counted_is, none_some, same_some}
use Rattle.gb_elab_laws.proofs.Literals.{unit_literal}
use Rattle.gb_elab_laws.proofs.Shapes.{with_globs, finite_form, variable_with}
use Rattle.gb_elab_laws.proofs.Found.{Found, found, found_bound}
use Rattle.gb_elab_laws.proofs.Remembered.{memory_is, remembered_globals}
use Rattle.gb_elab_laws.proofs.Typed.{Typed, IsSome, leaf}

mapped : {A B : Type 0} (f : A → B) (o : Option A) (y : B) → option_map f o ≡ Some y → (x : A) × (o ≡ Some x) × (f x ≡ y)
mapped f (Some x) y e = (x, refl, same_some (f x) y e)
mapped f None y e = none_some y e

-- what is there unless it is hidden
if_there : {A : Type 0} (b : Bool) (o : Option A) (y : A) → (if b then None else o) ≡ Some y → o ≡ Some y
if_there true o y e = none_some y e
if_there false o y e = e

-- variables are read in a memory of these locals
record IsRead (globs : Name → Bool) (f : Frame) (vs : List TypedName) : Type 0 where
  there : (x : Name) (t : Ty) → local_type vs x ≡ Some t → local_in f x ≡ Some t
  values : AllFiniteIn globs vs

none_read : (globs : Name → Bool) (f : Frame) → IsRead globs f []
none_read globs f = record { there = λ x t e. none_some t e; values = tt }

all_read : (globs : Name → Bool) (f : Frame) (vs : List TypedName) → AreIn globs f vs → IsRead globs f vs
all_read globs f vs h = record { there = h.there; values = h.finite }

-- the variables of the program around are read in the own memory
own_there : (globs : Name → Bool) (reads : Bool) (c : Context) (vars : Variables) → AreReadable globs reads c vars → IsRead globs c.own (own_of vars)
own_there globs reads c Absent h = none_read globs c.own
own_there globs reads c (Own ls) h = all_read globs c.own ls h.1
own_there globs reads c (Sides ls rs) h = none_read globs c.own

-- a memory with a local is there
local_frame : (f : Frame) (x : Name) (t : Ty) → local_in f x ≡ Some t → IsFrame f
local_frame None x t e = none_some t e
local_frame (Some ls) x t e = tt

-- where one local is read in a memory, it is a local there
alone_there : (f : Frame) (x : Name) (t : Ty) → local_in f x ≡ Some t → (y : Name) (u : Ty) → local_type (record { name = x; ty = t } ∷ []) y ≡ Some u → local_in f y ≡ Some u
alone_there f x t k y u h = step (bytes_eq y x) refl h
  where
    step : (b : Bool) → bytes_eq y x ≡ b → (if b then Some t else None) ≡ Some u → local_in f y ≡ Some u
    step true j i = ap (local_in f) ((bytes_eq-Decides y x).0 j) ∙ k ∙ i
    step false j i = none_some u i

-- a memory is there, and globals may be read
pub record HasMemory (reads : Bool) (c : Context) (s : Side) : Type 0 where
  pub side : IsSide (erased c) s
  pub frame : IsFrame (frame_of c s)
  pub whole : reads ≡ true

pub own_memory : (globs : Name → Bool) (reads : Bool) (c : Context) (vars : Variables) → has_own vars ≡ true → AreReadable globs reads c vars → HasMemory reads c side.Own
own_memory globs reads c (Own ls) e h = record { side = tt; frame = h.1.memory; whole = h.0 }
own_memory globs reads c Absent e h = absurd (false≢true e)
own_memory globs reads c (Sides ls rs) e h = absurd (false≢true e)

-- the variables of a side are read in its memory
pub record OnSide (globs : Name → Bool) (reads : Bool) (c : Context) (s : Side) (ls : List TypedName) : Type 0 where
  pub memory : HasMemory reads c s
  read : IsRead globs (frame_of c s) ls

pub side_there : (globs : Name → Bool) (reads : Bool) (c : Context) (vars : Variables) (s : Side) (ls : List TypedName) → AreReadable globs reads c vars → sides_of vars s ≡ Some ls → OnSide globs reads c s ls
side_there globs reads c (Sides ls rs) side.Left ms h e = record { memory = record { side = tt; frame = h.1.memory; whole = h.0 }; read = subst (IsRead globs c.left) (same_some ls ms e) (all_read globs c.left ls h.1) }
side_there globs reads c (Sides ls rs) side.Right ms h e = record { memory = record { side = tt; frame = h.2.memory; whole = h.0 }; read = subst (IsRead globs c.right) (same_some rs ms e) (all_read globs c.right rs h.2) }
side_there globs reads c _ s ms h e = none_some ms e

module _ {globs : Name → Bool} (c : Context) (at : Environment) (vs : List Binding) (fit : IsFitting globs c at vs) where
  -- a typed term of a type of values
  abbrev pub IsVariable : Term → Type 0
  IsVariable t = (a : Ty) × IsFinite a × Typed globs c at.language a t

  pub truth_typed : (b : Bool) → Typed globs c at.language ty.Bool (truth_literal b)
  truth_typed true = leaf c at.language (Lit (Num 1)) ty.Bool tt (bool_literal 1 (omega arith)) tt tt (λ e. tt)
  truth_typed false = leaf c at.language (Lit (Num 0)) ty.Bool tt (bool_literal 0 (omega arith)) tt tt (λ e. tt)

  pub unit_typed : Typed globs c at.language ty.Unit unit
  unit_typed = leaf c at.language (Lit (Num 0)) ty.Unit tt unit_literal tt tt (λ e. tt)

  bound_typed : (n : ℕ) (t : Ty) (u : Term) → IsBoundTo globs (binder (erased c) n) (Value t) → bound_variable n t ≡ given u → IsSome globs c at.language u
  bound_typed n t u b h =
      let q = given_bind (counted n) (λ i. given (node (Bound i) [] t)) u h in
      let there : IsBoundTo globs (binder (erased c) q.0) (Value t) = subst (λ i. IsBoundTo globs (binder (erased c) i) (Value t)) (counted_is n q.0 q.1) b in
      subst (IsSome globs c at.language) (given_is _ u q.2) (t, leaf c at.language (Bound q.0) t there.1 there.0 tt tt (λ e. tt))

  thing_typed : (n : ℕ) (p : Place) (k : Kind) (u : Term) → IsBoundTo globs (binder (erased c) n) k → bound_thing n p k ≡ given u → IsSome globs c at.language u
  thing_typed n p (Value t) u b h = bound_typed n t u b h
  thing_typed n p Memory u b h = cc

  logical_typed : (x : Name) (v : TypedName) (u : Term) → Found at.sequent.logical x v → logical_variable (number_before at.sequent.logical x) v ≡ given u → IsSome globs c at.language u
  logical_typed x v u f h =
      let q = given_bind (counted (number_before at.sequent.logical x)) (λ i. given (node (Read (read_of.Logical i)) [] v.ty)) u h in
      let there : c.logical q.0 ≡ Some v.ty =
      fit.logical q.0 ∙ ap (item (map (λ (l : TypedName). l.ty) at.sequent.logical)) (sym (counted_is _ q.0 q.1)) ∙ f.item in
      let finite = f.finite_with globs fit.values in
      subst (IsSome globs c at.language) (given_is _ u q.2)
      (v.ty, leaf c at.language (Read (read_of.Logical q.0)) v.ty (finite_form globs v.ty finite) (with_globs globs v.ty finite, there) tt tt (λ e. tt))

  -- a read of a local
  local_typed : (s : Side) (ls : List TypedName) → IsSide (erased c) s → IsRead globs (frame_of c s) ls → (x : Name) (v : TypedName) → Found ls x v →
      IsVariable (program_variable s v)
  local_typed s ls i r x v f =
      let there : local_type ls v.name ≡ Some v.ty = ap (local_type ls) f.name ∙ f.frame in
      let finite = f.finite_with globs r.values in
      let value = with_globs globs v.ty finite in
      (v.ty, value, leaf c at.language (Read (read_of.Program (Local v.name) s)) v.ty (finite_form globs v.ty finite) (i, value) (r.there v.name v.ty there) tt (λ e. (tt, e)))

  own_variable_typed : (x : Name) (v : TypedName) → Found (own at) x v → IsSome globs c at.language (program_variable side.Own v)
  own_variable_typed x v f =
      let t = local_typed side.Own (own at) tt (own_there globs (reads_globals at.language) c at.variables fit.variables) x v f in
      (t.0, t.2)

  unbound_typed : (x : Name) (p : Place) (u : Term) → unbound at vs x p ≡ given u → IsSome globs c at.language u
  unbound_typed x p u h = step (names_other at vs x) h
    where
      step : (b : Bool) → (if b then refused Argument p else refused (UnknownName x) p) ≡ given u → IsSome globs c at.language u
      step true e = cc
      step false e = cc

  -- a global stands with its type, which is of variables
  abbrev pub Stands : ModuleVariable → Type 0
  Stands g = (c.global g.0 g.1.name ≡ Some g.1.ty) × IsVariableType g.1.ty

  pub in_stands : (n : Name) (o : Option Module) (x : Name) (g : ModuleVariable) → ((m : Module) → o ≡ Some m → HasGlobals c.global n m) → global_in n o x ≡ Some g → Stands g
  in_stands n None x g h e = none_some g e
  in_stands n (Some m) x g h e = let k = mapped (λ (v : TypedName). (n, v)) (first_named m.globals x) g e in subst Stands k.2 (h m refl x k.0 k.1)

  own_stands : (o : Option Module) (x : Name) (g : ModuleVariable) → HasGlobalsIf c.global o → own_global o x ≡ Some g → Stands g
  own_stands None x g h e = none_some g e
  own_stands (Some m) x g h e = in_stands m.name (Some m) x g (λ k i. subst (HasGlobals c.global m.name) (same_some m k i) h) e

  module_stands : reads_globals at.language ≡ true → (o : Option Module) (n : Name) (m : Module) → HasGlobalsIf c.global o → module_if o at.declared n ≡ Some m → HasGlobals c.global n m
  module_stands w None n m h e = fit.globals w n m e
  module_stands w (Some k) n m h e = step (bytes_eq n k.name) refl e
    where
      step : (b : Bool) → bytes_eq n k.name ≡ b → (if b then Some k else module_of at.declared n) ≡ Some m → HasGlobals c.global n m
      step true i f = subst (HasGlobals c.global n) (same_some k m f) (subst (λ z. HasGlobals c.global z k) (sym ((bytes_eq-Decides n k.name).0 i)) h)
      step false i f = fit.globals w n m f

  pub global_stands : reads_globals at.language ≡ true → (bs : List Binding) (x : Name) (g : ModuleVariable) → global_at at bs x ≡ Some g → Stands g
  unfolding global_at
  global_stands w bs x g e = step (rsplit_once dot x) e
    where
      step : (o : Option (Name × Name)) → option_map_or (global_of at bs) o (own_global at.inside x) ≡ Some g → Stands g
      step (Some p) f =
          let found_in = module_if at.inside at.declared p.0 in
          in_stands p.0 found_in p.1 g (λ m i. module_stands w at.inside p.0 m fit.around i) (if_there (hidden at bs p.0) (global_in p.0 found_in p.1) g f)
      step None f = own_stands at.inside x g fit.around f

  -- a read of a global that stands
  pub standing_typed : (s : Side) → HasMemory (reads_globals at.language) c s → (g : ModuleVariable) → Stands g → Typed globs c at.language g.1.ty (global_variable s g)
  standing_typed s h g k =
      let finite = variable_with globs g.1.ty k.1 in
      leaf c at.language (Read (read_of.Program (Global g.0 g.1.name) s)) g.1.ty (finite_form globs g.1.ty finite) (h.side, variable_finite g.1.ty k.1, k.0) (h.frame, k.0) tt (λ e. (tt, e))

  -- a read of a global
  global_typed : (s : Side) → HasMemory (reads_globals at.language) c s → (x : Name) (g : ModuleVariable) → global_at at vs x ≡ Some g → IsVariable (global_variable s g)
  global_typed s h x g e = let k = global_stands h.whole vs x g e in (g.1.ty, variable_finite g.1.ty k.1, standing_typed s h g k)

  unsided_typed : (x : Name) (p : Place) (g : ModuleVariable) (u : Term) → global_at at vs x ≡ Some g → unsided at p g ≡ given u → IsSome globs c at.language u
  unsided_typed x p g u e h =
      let a = given_bind (may_name at g.0 p) (λ _. if has_own at.variables then given (global_variable side.Own g) else refused Argument p) u h in
      let k = if_allowed (has_own at.variables) (given (global_variable side.Own g)) Argument p u a.2 in
      let t = global_typed side.Own (own_memory globs (reads_globals at.language) c at.variables k.0 fit.variables) x g e in
      subst (IsSome globs c at.language) (given_is _ u k.1) (t.0, t.2)

  -- a choice between what a name may mean
  chosen : {A : Type 0} (f : A → Answer Term) (o : Option A) (d : Answer Term) (u : Term) → ((v : A) → o ≡ Some v → f v ≡ given u → IsSome globs c at.language u) →
      (d ≡ given u → IsSome globs c at.language u) → option_map_or f o d ≡ given u → IsSome globs c at.language u
  chosen f (Some v) d u k l h = k v refl h
  chosen f None d u k l h = l h

  -- a name without a side
  pub named_typed : (x : Name) (p : Place) (u : Term) → named at vs x p ≡ given u → IsSome globs c at.language u
  unfolding named
  named_typed x p u h =
      chosen (λ b. bound_thing (binders_inside vs x) p b.kind) (innermost vs x) _ u
      (λ v e k. thing_typed (binders_inside vs x) p v.kind u (found_bound globs vs x v e c.bound fit.bound) k)
      (chosen (λ v. given (program_variable side.Own v)) (first_named (own at) x) _ u (λ v e k. subst (IsSome globs c at.language) (given_is _ u k) (own_variable_typed x v (found (own at) x v e)))
      (λ e. around (if_refused (needs_side at x) (no_variable at vs x) p (named_around at vs x p) u e).1))
      h
    where
      around : named_around at vs x p ≡ given u → IsSome globs c at.language u
      around e =
          let logicals = at.sequent.logical in
          chosen (logical_variable (number_before logicals x)) (first_named logicals x) _ u (λ v e k. logical_typed x v u (found logicals x v e) k)
          (chosen (unsided at p) (global_at at vs x) (unbound at vs x p) u (λ g e k. unsided_typed x p g u e k) (unbound_typed x p u))
          e

  variable_typed : (x : Name) (s : Side) (p : Place) (ls : List TypedName) (u : Term) → OnSide globs (reads_globals at.language) c s ls → variable_on at vs x s p ls ≡ given u → IsVariable u
  variable_typed x s p ls u o h =
      local (first_named ls x) refl (if_refused (is_some (innermost vs x)) Argument p _ u h).1
    where
      global : (y : Option ModuleVariable) → global_at at vs x ≡ y → option_map_or (read_global at s p) y (refused (no_variable at vs x) p) ≡ given u → IsVariable u
      global (Some g) e k =
          let a = given_bind (may_name at g.0 p) (λ _. given (global_variable s g)) u k in
          subst IsVariable (given_is _ u a.2) (global_typed s o.memory x g e)
      global None e k = cc

      local : (y : Option TypedName) → first_named ls x ≡ y →
          option_map_or (λ v. given (program_variable s v)) y (option_map_or (read_global at s p) (global_at at vs x) (refused (no_variable at vs x) p)) ≡ given u → IsVariable u
      local (Some v) e k = subst IsVariable (given_is _ u k) (local_typed s ls o.memory.side o.read x v (found ls x v e))
      local None e k = global (global_at at vs x) refl k

  -- a name with a side
  pub sided_typed : (x : Name) (s : Side) (p : Place) (u : Term) → sided at vs x s p ≡ given u → IsVariable u
  unfolding sided
  sided_typed x s p u h = step (on_side at s) refl h
    where
      step : (o : Option (List TypedName)) → on_side at s ≡ o → option_map_or (variable_on at vs x s p) o (refused Argument p) ≡ given u → IsVariable u
      step (Some ls) e h = variable_typed x s p ls u (side_there globs (reads_globals at.language) c at.variables s ls fit.variables e) h
      step None e h = cc

  -- the local of a name in a memory
  recalled : has_memories at.language ≡ true → (s : Side) (x : Name) → IsRead globs (frame_of c s) (locals_in at.sequent s x)
  recalled may (side.Memory i) x = step (goal_read_type (side.Memory i) x at.sequent) refl
    where
      f : Frame
      f = frame_of c (side.Memory i)

      step : (o : Option Ty) → goal_read_type (side.Memory i) x at.sequent ≡ o → IsRead globs f (local_if x o)
      step None e = none_read globs f
      step (Some t) e =
          let k = fit.locals may i x t e in
          all_read globs f (record { name = x; ty = t } ∷ [])
          (record { memory = local_frame f x t k.0; there = alone_there f x t k.0; finite = (k.1, tt) })
  recalled may side.Own x = none_read globs c.own
  recalled may side.Left x = none_read globs c.left
  recalled may side.Right x = none_read globs c.right
  recalled may (side.Bound i) x = none_read globs (frame_of c (side.Bound i))

  -- a name in a named memory
  in_memory_typed : has_memories at.language ≡ true → (x : Name) (m : Node) (p : Place) (u : Term) → in_memory at vs x m p ≡ given u → IsVariable u
  unfolding in_memory
  in_memory_typed may x m p u h =
      let s = given_bind (memory_at at vs (text_of m) (place_of m)) _ u h in
      let k = if_allowed (may_read at.memories (text_of m)) (variable_on at vs x s.0 p (locals_in at.sequent s.0 x)) Argument p u s.2 in
      let r = memory_is c at vs fit may (text_of m) (place_of m) s.0 s.1 in
      variable_typed x s.0 p (locals_in at.sequent s.0 x) u
      (record { memory = record { side = r.side; frame = r.frame; whole = remembered_globals at.language may }; read = recalled may s.0 x }) k.1

  remembered_typed : (x : Name) (m : Node) (p : Place) (u : Term) → remembered at vs x m p ≡ given u → IsVariable u
  remembered_typed x m p u h =
      let k = if_allowed (has_memories at.language) (in_memory at vs x m p) Argument p u h in in_memory_typed k.0 x m p u k.1

  pub beside_typed : (k : Head) (s : Node) (x : Name) (p : Place) (u : Term) → beside k s at vs x p ≡ given u → IsSome globs c at.language u
  beside_typed head.Number s x p u h =
      let i = given_bind (side_of (text_of s) p) (λ i. sided at vs x i p) u h in
      let q = sided_typed x i.0 p u i.2 in (q.0, q.2)
  beside_typed _ m x p u h = let q = remembered_typed x m p u h in (q.0, q.2)
