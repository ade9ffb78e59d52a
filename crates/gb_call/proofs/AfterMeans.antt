-- What is said before a call of what is to hold after it, and what holds then.
use Rattle.std.proofs.Common.{◌≡◌, pred, ◌<◌, ◌⊎◌, inl, inr, Bool, true, false, List, [], ◌∷◌, ◌++◌, length, get_or, Some, None, refl, ap, sym, ◌∙◌, subst}
use Rattle.std.proofs.lemmas.Bool.{false≢true}
use Rattle.std.proofs.lemmas.List.{map-append}
use Rattle.std.specs.List.{AllByRecursion}
use Rattle.gb_core.specs.declared.ty.Ty.{Ty}
use Rattle.gb_core.specs.declared.value.Value.{Value}
use Rattle.gb_core.specs.declared.var.Var.{Var}
use Rattle.gb_core.specs.declared.var.Var.TheVariants as var
use Rattle.gb_core.specs.Numbering.{parts_of}
use Rattle.gb_terms.specs.declared.decl.TypedName.{TypedName}
use Rattle.gb_terms.specs.declared.op.Rel.{Rel}
use Rattle.gb_terms.specs.declared.op.Side.TheVariants as side
use Rattle.gb_terms.specs.declared.op.Read.TheVariants.{Program}
use Rattle.gb_terms.specs.declared.term.Term.{Term}
use Rattle.gb_terms.specs.declared.term.Head.TheVariants as head
use Rattle.gb_terms.specs.Equal.{var_eq}
use Rattle.gb_terms.proofs.Equality.{var_eq-Decides}
use Rattle.gb_walk.specs.declared.change.Change.TheVariants.{ToTerm}
use Rattle.gb_walk.specs.Change.{term_changed}
use Rattle.gb_meaning.specs.Memory.{Memory, assigned, read, write, write_each, result_name}
use Rattle.gb_meaning.specs.Meanings.{truth, value_in}
use Rattle.gb_meaning.specs.Setting.{Setting}
use Rattle.gb_meaning.specs.State.{State, Binding, at, meaning_in, memory_of}
use Rattle.gb_meaning.specs.State.Binding.{program}
use Rattle.gb_meaning.specs.Terms.{quiet}
use Rattle.gb_meaning.specs.Values.{fit, has}
use Rattle.gb_meaning.specs.Judgments.{Judge, IsFair, den}
use Rattle.gb_meaning.proofs.Maps.{get-set_same}
use Rattle.gb_meaning.proofs.Nodes.{val_node}
use Rattle.gb_laws.proofs.Leaves.{assigned_left}
use Rattle.gb_laws.specs.Uses.{IsWithin}
use Rattle.gb_laws.specs.Written.{Written, all_written}
use Rattle.gb_laws.specs.Finite.{IsFinite}
use Rattle.gb_laws.specs.Operators.{parts_in}
use Rattle.gb_laws.specs.Programs.{HaveTypes, Take, variable_type}
use Rattle.gb_laws.specs.Context.{FitBinders}
use Rattle.gb_laws.specs.Typing.{Binder}
use Rattle.gb_laws.specs.Typing.Binder.{value as value_binder, program as module_binder}
use Rattle.gb_typing.specs.Context.{Context, Frame, erased}
use Rattle.gb_typing.specs.Fits.{IsSettingOf, IsStateOf}
use Rattle.gb_typing.specs.Puts.{Readable, IsTypedWrite, clash, reading}
use Rattle.gb_typing.specs.Typing.{IsIn, IsForm}
use Rattle.gb_typing.proofs.Clashes.{left_of_no_clash}
use Rattle.gb_typing.proofs.Fitting.{fits_reframed}
use Rattle.gb_typing.proofs.Scripts.{none_some}
use Rattle.gb_typing.specs.Forms.{IsAlone}
use Rattle.gb_typing.specs.Rules.{outermost}
use Rattle.gb_prog.specs.Likely.{as_likely}
use Rattle.gb_prog.proofs.Likely.{FollowsAt, likely_at}
use Rattle.gb_typing.proofs.Quantified.{meaning_inside}
use Rattle.gb_prog.specs.AllValues.{Located, in_memory, for_all, to_bound_values, AreLocated, AreAlone}
use Rattle.gb_prog.specs.Writes.{DifferIn, IsApart, IsOneOf, TypedVariable, overwritten, AreIn}
use Rattle.gb_prog.proofs.AllValues.{pushed, pushed_here, binder_of, no_frame, binding_of, bound_writes, writes_are, fit_pushed, all_true, all_writes, have_types, written_in}
use Rattle.gb_prog.proofs.Frames.{frame_read, reads_as}
use Rattle.gb_prog.proofs.Writes.{apart_read}
use Rattle.gb_prog.specs.Assigned.{put_in, taken}
use Rattle.gb_prog.proofs.AssignedForms.{changes_are, writes}
use Rattle.gb_prog.proofs.Parts.{as_many, same_length}
use Rattle.gb_call.proofs.After.{all_append, written_both, same_form, result_frame, res, over, X, Y, result, bound_around, result_there, located, after_located, is_result}
use Rattle.gb_call.proofs.LeftSides.{AreFor, are_for, left_writes, left_ends, left_values, value_here}

-- y is one of these variables
abbrev pub IsOneIn : Var → List Var → Type 0
IsOneIn y [] = ⊥
IsOneIn y (x ∷ xs) = (x ≡ y) ⊎ IsOneIn y xs

module _ (b : Context) (ls : List TypedName) (R : Ty) (W : List TypedVariable) (global : AreIn (outermost b) (Some []) W) (g : Setting) (fits : IsSettingOf (outermost b) g) (j : Judge) (fair : IsFair g j)
    (s : State) (fit_state : IsStateOf (outermost b) g s) (m n : Memory) where
  -- the globals of the outcome, and the frame of the caller
  abbrev pub base : Memory
  base = record { globals = n.globals; frame = m.frame }

  abbrev L : List TypedVariable → List Located
  L V = in_memory side.Own V

  abbrev v : Located → Value
  v w = read g.types (memory_of (at s n) w.0) w.1.variable w.1.ty

  abbrev O : List TypedName → Context
  O f = over b ls R W global f

  abbrev F : List TypedName
  F = result_frame b ls R W global

  fits_over : (f : List TypedName) → IsSettingOf (O f) g
  fits_over f = fits_reframed (outermost b) g fits (Some f) None None

  state_over : (f : List TypedName) → IsStateOf (O f) g (at s m)
  state_over f = record { logical = fit_state.logical; bound = fit_state.bound }

  abbrev bindings : List TypedVariable → List Binding
  bindings V = pushed (binding_of v) (L V) s.bound

  abbrev within_values : List TypedVariable → State
  within_values V = record (at s m) { bound = bindings V }

  alone_located : (P : Readable) (V : List TypedVariable) → AllByRecursion (λ w. IsAlone g w.variable (P side.Own)) V → AreAlone g P (L V)
  alone_located P [] h = tt
  alone_located P (w ∷ V) h = (h.0, alone_located P V h.1)

  are_in : (f : List TypedName) (V : List TypedVariable) → AreLocated (O f) (L V) → AreIn (O f) (Some f) V
  are_in f [] h = tt
  are_in f (w ∷ V) h = ((h.0.1, h.0.2), are_in f V h.1)

  -- what is said of the outcome
  module _ (V : List TypedVariable) (loc : AreLocated (O F) (L V)) (P : Readable) (alone : AllByRecursion (λ w. IsAlone g w.variable (P side.Own)) V)
      (reads_said : (y : Var) (t : Ty) → IsIn (O F) (Some F) y t → P side.Own y ≡ true → (read g.types m y t ≡ read g.types n y t) ⊎ IsOneOf y V) where
    reads_there : (y : Var) (t : Ty) → IsIn (O F) (Some F) y t → P side.Own y ≡ true → read g.types (overwritten g.types V n m) y t ≡ read g.types n y t
    reads_there y t i p = reads_as (O F) g (fits_over F) (Some F) (P side.Own) n y t i p V alone (are_in F V loc) m (reads_said y t i p)

    typed_bindings : FitBinders g.types (pushed binder_of (L V) []) (bindings V)
    typed_bindings = fit_pushed b (Some F) None None g (fits_over F) j fair v (L V) [] s.bound (have_types b (Some F) None None g (fits_over F) j fair (at s n) (L V) loc) tt

    said_means : (f : Term) → IsForm (O F) f → IsWithin (reading P) f → den g j (term_changed f (to_bound_values (L V))) (within_values V) ≡ den g j f (at s n)
    said_means f w k =
        ap (λ cs. den g j (term_changed f cs) (within_values V)) (sym (writes_are v (L V)))
        ∙ ap truth (meaning_inside b (Some F) None None (pushed binder_of (L V) []) (pushed no_frame (L V) []) g (fits_over F) (at s m) (state_over F) (bindings V) typed_bindings j fair P f w.typed k (bound_writes v (L V))
        (all_writes b (Some F) None None g (fits_over F) j fair P (pushed binder_of (L V) []) (pushed no_frame (L V) []) (bindings V) (at s m) v (L V) [] s.bound refl refl loc (alone_located P V alone)))
        ∙ ap (den g j f) (written_in b (Some F) None None g (fits_over F) j fair (at s n) side.Own tt V (at s m))
        ∙ same_form (O F) g (fits_over F) j fair P s (overwritten g.types V n m) n reads_there f w k

  -- reads in the caller's memory
  global_same : (x : Var) (t : Ty) → IsIn (outermost b) (Some []) x t → read g.types n x t ≡ read g.types base x t
  global_same (var.Local x) t i = none_some t i
  global_same (var.Global p x) t i = refl
  global_same (var.Glob a) t i = refl

  same_overwritten : (V : List TypedVariable) → AreIn (outermost b) (Some []) V → overwritten g.types V n m ≡ overwritten g.types V base m
  same_overwritten [] h = refl
  same_overwritten (w ∷ V) h = λ i. write g.types (same_overwritten V h.1 i) w.variable (global_same w.variable w.ty h.0.0 i)

  module _ (U : List Var) (differs : DifferIn g.types U m base) (P : Readable) (alone : AllByRecursion (λ w. IsAlone g w.variable (P side.Own)) W) where
    base_reads : (y : Var) (t : Ty) → IsIn (O ls) (Some ls) y t → P side.Own y ≡ true → IsApart g U y ⊎ IsOneOf y W → read g.types (overwritten g.types W n m) y t ≡ read g.types base y t
    base_reads y t i p o =
        ap (λ z. read g.types z y t) (same_overwritten W global)
        ∙ sym (frame_read (O ls) g (fits_over ls) (Some ls) (P side.Own) base y t i p U W o alone (are_in ls W (located b ls R W global ls W global)) m differs)

    -- Where the result doesn't occur.
    module _ (xs : List Var) (r : Value) (covers : (y : Var) → P side.Own y ≡ true → IsApart g xs y × (IsApart g U y ⊎ IsOneOf y W)) where
      left_reads : (y : Var) (t : Ty) → IsIn (O ls) (Some ls) y t → P side.Own y ≡ true → read g.types (overwritten g.types W n m) y t ≡ read g.types (assigned g.types base xs r) y t
      left_reads y t i p =
          base_reads y t i p (covers y p).1
          ∙ sym (apart_read g xs base (assigned g.types base xs r) (λ k z. assigned_left g.types k xs r z base) y t (covers y p).0)

      return_same : (q : Term) → IsForm (O ls) q → IsWithin (reading P) q → den g j (term_changed q (to_bound_values (L W))) (within_values W) ≡ den g j q (at s (assigned g.types base xs r))
      return_same q w k =
          let loc = located b ls R W global ls W global in
          let B = pushed binder_of (L W) [] in
          let N = pushed no_frame (L W) [] in
          let fit_values = fit_pushed b (Some ls) None None g (fits_over ls) j fair v (L W) [] s.bound (have_types b (Some ls) None None g (fits_over ls) j fair (at s n) (L W) loc) tt in
          ap (λ cs. den g j (term_changed q cs) (within_values W)) (sym (writes_are v (L W)))
          ∙ ap truth (meaning_inside b (Some ls) None None B N g (fits_over ls) (at s m) (state_over ls) (bindings W) fit_values j fair P q w.typed k (bound_writes v (L W))
          (all_writes b (Some ls) None None g (fits_over ls) j fair P B N (bindings W) (at s m) v (L W) [] s.bound refl refl loc (alone_located P W alone)))
          ∙ ap (den g j q) (written_in b (Some ls) None None g (fits_over ls) j fair (at s n) side.Own tt W (at s m))
          ∙ same_form (O ls) g (fits_over ls) j fair P s (overwritten g.types W n m) (assigned g.types base xs r) left_reads q w k

      pub no_result_means : (rel : Rel) (said q : Term) → IsForm (O F) said → (Q : Readable) → IsWithin (reading Q) said → AllByRecursion (λ w. IsAlone g w.variable (Q side.Own)) W →
          ((y : Var) (t : Ty) → IsIn (O F) (Some F) y t → Q side.Own y ≡ true → (read g.types m y t ≡ read g.types n y t) ⊎ IsOneOf y W) → IsForm (O ls) q → IsWithin (reading P) q →
          den g j (for_all (L W) (as_likely rel (term_changed q (to_bound_values (L W))) (term_changed said (to_bound_values (L W))))) (at s m) ≡ true →
          FollowsAt rel (den g j q (at s (assigned g.types base xs r))) (den g j said (at s n))
      no_result_means rel said q w Q k a e u l h =
          let loc = located b ls R W global F W global in
          let values = have_types b (Some F) None None g (fits_over F) j fair (at s n) (L W) loc in
          let A = term_changed said (to_bound_values (L W)) in
          let B = term_changed q (to_bound_values (L W)) in
          subst (λ z. z) (λ i. FollowsAt rel (return_same q u l i) (said_means W loc Q a e said w k i))
          (likely_at g j (within_values W) rel B A (all_true b (Some ls) None None g (fits_over ls) j fair v (L W) s.bound values (as_likely rel B A) (at s m) h))

    -- Where it is assigned.
    module _ (y : Var) (t : Ty) where
      abbrev Alike : Memory → Memory → Type 0
      Alike k l = read g.types k y t ≡ read g.types l y t

      here_alike : (x : Var) (u : Ty) → variable_type (erased (outermost b)) ls x ≡ Some u → (r : Value) (k l : Memory) → read g.types (write g.types k x r) x t ≡ read g.types (write g.types l x r) x t
      here_alike (var.Local x) u e r k l = ap (fit g.types t) (get-set_same k.frame (x ∷ []) r ∙ sym (get-set_same l.frame (x ∷ []) r))
      here_alike (var.Global p x) u e r k l = ap (fit g.types t) (get-set_same k.globals (p ∷ x ∷ []) r ∙ sym (get-set_same l.globals (p ∷ x ∷ []) r))
      here_alike (var.Glob a) u e r k l = none_some u e

      written_alike : (x : Var) (u : Ty) → variable_type (erased (outermost b)) ls x ≡ Some u → ((x ≡ y → ⊥) → clash g x y ≡ false) → (r : Value) (k l : Memory) → (x ≡ y) ⊎ Alike k l → Alike (write g.types k x r) (write g.types l x r)
      written_alike x u e a r k l o = by_test (var_eq x y) refl o
        where
          by_test : (c : Bool) → var_eq x y ≡ c → (x ≡ y) ⊎ Alike k l → Alike (write g.types k x r) (write g.types l x r)
          by_test true d o = subst (λ z. read g.types (write g.types k x r) z t ≡ read g.types (write g.types l x r) z t) ((var_eq-Decides x y).0 d) (here_alike x u e r k l)
          by_test false d (inl i) = absurd (false≢true (sym d ∙ (var_eq-Decides x y).1 i))
          by_test false d (inr i) =
              let c = a (λ z. false≢true (sym d ∙ (var_eq-Decides x y).1 z)) in
              left_of_no_clash g x y t c k r ∙ i ∙ sym (left_of_no_clash g x y t c l r)

      abbrev Free : List Var → Type 0
      Free xs = AllByRecursion (λ x. (x ≡ y → ⊥) → clash g x y ≡ false) xs

      each_alike : (xs : List Var) (rs : List Value) (ts : List Ty) → HaveTypes (erased (outermost b)) ls xs ts → length rs ≡ length xs → Free xs → (k l : Memory) → IsOneIn y xs ⊎ Alike k l →
          Alike (write_each g.types k xs rs) (write_each g.types l xs rs)
      each_alike [] rs ts h e a k l (inl o) = absurd o
      each_alike [] rs ts h e a k l (inr o) = o
      each_alike (x ∷ xs) [] ts h e a k l o = cc
      each_alike (x ∷ xs) (r ∷ rs) [] h e a k l o = absurd h
      each_alike (x ∷ xs) (r ∷ rs) (u ∷ ts) h e a k l o = each_alike xs rs ts h.1 (ap pred e) a.1 (write g.types k x r) (write g.types l x r) (next o)
        where
          next : IsOneIn y (x ∷ xs) ⊎ Alike k l → IsOneIn y xs ⊎ Alike (write g.types k x r) (write g.types l x r)
          next (inl (inl i)) = inr (written_alike x u h.0 a.0 r k l (inl i))
          next (inl (inr i)) = inl i
          next (inr i) = inr (written_alike x u h.0 a.0 r k l (inr i))

      pub assigned_alike : (xs : List Var) (r : Value) → Take (erased (outermost b)) ls xs R → has g.types R r ≡ true → Free xs → (k l : Memory) → IsOneIn y xs ⊎ Alike k l → Alike (assigned g.types k xs r) (assigned g.types l xs r)
      assigned_alike [] r h e a k l (inl o) = absurd o
      assigned_alike [] r h e a k l (inr o) = o
      assigned_alike (x ∷ []) r h e a k l (inl (inl i)) = written_alike x R h a.0 r k l (inl i)
      assigned_alike (x ∷ []) r h e a k l (inl (inr i)) = absurd i
      assigned_alike (x ∷ []) r h e a k l (inr i) = written_alike x R h a.0 r k l (inr i)
      assigned_alike (x ∷ z ∷ xs) r h e a k l o =
          each_alike (x ∷ z ∷ xs) (parts_of r) (parts_in R) h (as_many g s m (outermost b) ls R x (z ∷ xs) r h e ∙ same_length (outermost b) ls (x ∷ z ∷ xs) (parts_in R) h) a k l o

    module _ (fin : IsFinite R) (xs : List Var) (take : Take (erased (outermost b)) ls xs R) (few : length xs < 9) (r : Value) (has_type : has g.types R r ≡ true) (is_read : read g.types n (var.Local result_name) R ≡ r)
        (alone_left : AllByRecursion (λ x. IsAlone g x (P side.Own)) xs) (covers : (y : Var) → P side.Own y ≡ true → IsOneIn y xs ⊎ (IsApart g U y ⊎ IsOneOf y W)) where
      abbrev V : List TypedVariable
      V = res b ls R W global ∷ W

      abbrev A : List Binder
      A = X b ls R W global fin

      abbrev B : List Frame
      B = Y b ls R W global fin

      abbrev here : State
      here = within_values V

      abbrev bound_result : Term
      bound_result = result b ls R W global fin

      free : (y : Var) → P side.Own y ≡ true → (zs : List Var) → AllByRecursion (λ x. IsAlone g x (P side.Own)) zs → AllByRecursion (λ x. (x ≡ y → ⊥) → clash g x y ≡ false) zs
      free y p [] a = tt
      free y p (z ∷ zs) a = (a.0 y p, free y p zs a.1)

      result_reads : (y : Var) (t : Ty) → IsIn (O ls) (Some ls) y t → P side.Own y ≡ true →
          read g.types (assigned g.types (overwritten g.types W n m) xs r) y t ≡ read g.types (assigned g.types base xs r) y t
      result_reads y t i p = assigned_alike y t xs r take has_type (free y p xs alone_left) (overwritten g.types W n m) base (by_place (covers y p))
        where
          by_place : IsOneIn y xs ⊎ (IsApart g U y ⊎ IsOneOf y W) → IsOneIn y xs ⊎ (read g.types (overwritten g.types W n m) y t ≡ read g.types base y t)
          by_place (inl o) = inl o
          by_place (inr o) = inr (base_reads y t i p o)

      abbrev there : get_or A (length (L W)) module_binder ≡ value_binder R
      there = result_there b ls R W global fin

      are : AreFor b (Some ls) None None side.Own tt ls refl A B (length (L W)) R fin there xs (taken xs bound_result)
      are = are_for b (Some ls) None None side.Own tt ls refl A B (length (L W)) R fin there xs take few

      abbrev given : Term → Value
      given = value_here b (Some ls) None None side.Own tt ls refl A B (length (L W)) R fin there g here

      result_value : given bound_result ≡ r
      result_value =
          ap value_in (val_node g quiet (head.Bound (length (L W))) [] R here ∙ ap meaning_in (pushed_here (binding_of v) (side.Own, res b ls R W global) (L W) s.bound program))
          ∙ is_read

      return_means : (q : Term) → IsForm (O ls) q → IsWithin (reading P) q →
          den g j (term_changed q (put_in side.Own xs (taken xs bound_result) ++ to_bound_values (L W))) here ≡ den g j q (at s (assigned g.types base xs r))
      return_means q w k =
          let loc = located b ls R W global ls W global in
          let us = writes side.Own given xs (taken xs bound_result) in
          let vs = bound_writes v (L W) in
          let values = have_types b (Some ls) None None g (fits_over ls) j fair (at s n) (L W) loc in
          let around : FitBinders g.types (bound_around b ls R W global fin) (binding_of v (side.Own, res b ls R W global) ∷ s.bound) = (subst (λ z. has g.types R z ≡ true) (sym is_read) has_type, tt) in
          let fit_values = fit_pushed b (Some ls) None None g (fits_over ls) j fair v (L W) (bound_around b ls R W global fin) _ values around in
          ap (λ cs. den g j (term_changed q cs) here)
          (sym (map-append (λ (w : Written). ToTerm (Program w.variable w.side) w.term) us vs ∙ (λ i. changes_are side.Own given xs (taken xs bound_result) i ++ writes_are v (L W) i)))
          ∙ ap truth (meaning_inside b (Some ls) None None A B g (fits_over ls) (at s m) (state_over ls) (bindings V) fit_values j fair P q w.typed k (us ++ vs)
          (all_append (IsTypedWrite P _ g here) us vs
          (left_writes b (Some ls) None None side.Own tt ls refl A B (length (L W)) R fin there g here P xs (taken xs bound_result) are alone_left)
          (all_writes b (Some ls) None None g (fits_over ls) j fair P A B (bindings V) (at s m) v (L W) (bound_around b ls R W global fin) _ refl refl loc (alone_located P W alone))))
          ∙ ap (den g j q) (written_both g (at s m) us vs
          ∙ ap (λ z. all_written g z us) (written_in b (Some ls) None None g (fits_over ls) j fair (at s n) side.Own tt W (at s m))
          ∙ left_ends b (Some ls) None None side.Own tt ls refl A B (length (L W)) R fin there g here (at s (overwritten g.types W n m)) given xs (taken xs bound_result) are
          ∙ ap (at s) (left_values b (Some ls) None None side.Own tt ls refl A B (length (L W)) R fin there g here xs r result_value has_type take few (overwritten g.types W n m)))
          ∙ same_form (O ls) g (fits_over ls) j fair P s (assigned g.types (overwritten g.types W n m) xs r) (assigned g.types base xs r) result_reads q w k

      pub with_result_means : (rel : Rel) (said q : Term) → IsForm (O F) said → (Q : Readable) → IsWithin (reading Q) said → AllByRecursion (λ w. IsAlone g w.variable (Q side.Own)) V →
          ((y : Var) (t : Ty) → IsIn (O F) (Some F) y t → Q side.Own y ≡ true → (read g.types m y t ≡ read g.types n y t) ⊎ IsOneOf y V) → IsForm (O ls) q → IsWithin (reading P) q →
          den g j (for_all (L V) (as_likely rel (term_changed q (put_in side.Own xs (taken xs bound_result) ++ to_bound_values (L W))) (term_changed said (to_bound_values (L V))))) (at s m) ≡ true →
          FollowsAt rel (den g j q (at s (assigned g.types base xs r))) (den g j said (at s n))
      with_result_means rel said q w Q k a e u l h =
          let loc = after_located b ls R W global fin in
          let values = have_types b (Some F) None None g (fits_over F) j fair (at s n) (L V) loc in
          let C = term_changed said (to_bound_values (L V)) in
          let D = term_changed q (put_in side.Own xs (taken xs bound_result) ++ to_bound_values (L W)) in
          subst (λ z. z) (λ i. FollowsAt rel (return_means q u l i) (said_means V loc Q a e said w k i))
          (likely_at g j here rel D C (all_true b (Some ls) None None g (fits_over ls) j fair v (L V) s.bound values (as_likely rel D C) (at s m) h))

  -- What is said of the outcome reads the result, globals of W, and what is as before.
  module _ (fin : IsFinite R) (U : List Var) (differs : DifferIn g.types U m base) (Q : Readable) (read_said : (y : Var) → Q side.Own y ≡ true → IsApart g U y ⊎ IsOneOf y W) where
    by_place : (V : List TypedVariable) → ((y : Var) → IsOneOf y W → IsOneOf y V) → (y : Var) (t : Ty) → read g.types base y t ≡ read g.types n y t → IsApart g U y ⊎ IsOneOf y W →
        (read g.types m y t ≡ read g.types n y t) ⊎ IsOneOf y V
    by_place V h y t e (inl i) = inl (sym (apart_read g U m base differs y t i) ∙ e)
    by_place V h y t e (inr o) = inr (h y o)

    pub reads_with_result : (y : Var) (t : Ty) → IsIn (O F) (Some F) y t → Q side.Own y ≡ true → (read g.types m y t ≡ read g.types n y t) ⊎ IsOneOf y (res b ls R W global ∷ W)
    reads_with_result (var.Local x) t i p = inr (inl (is_result b ls R W global fin x t i))
    reads_with_result (var.Global k x) t i p = by_place (res b ls R W global ∷ W) (λ y o. inr o) (var.Global k x) t refl (read_said (var.Global k x) p)
    reads_with_result (var.Glob a) t i p = by_place (res b ls R W global ∷ W) (λ y o. inr o) (var.Glob a) t refl (read_said (var.Glob a) p)

    pub reads_without_result : (Q side.Own (var.Local result_name) ≡ true → ⊥) → (y : Var) (t : Ty) → IsIn (O F) (Some F) y t → Q side.Own y ≡ true → (read g.types m y t ≡ read g.types n y t) ⊎ IsOneOf y W
    reads_without_result never (var.Local x) t i p = absurd (never (subst (λ y. Q side.Own y ≡ true) (sym (is_result b ls R W global fin x t i)) p))
    reads_without_result never (var.Global k x) t i p = by_place W (λ y o. o) (var.Global k x) t refl (read_said (var.Global k x) p)
    reads_without_result never (var.Glob a) t i p = by_place W (λ y o. o) (var.Glob a) t refl (read_said (var.Glob a) p)
