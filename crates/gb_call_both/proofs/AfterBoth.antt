-- What is said before two calls of what is to hold after both: typing and meaning.
use Rattle.std.proofs.Common.{◌≡◌, ◌<◌, ◌⊎◌, inl, inr, ℕ, Bool, true, false, List, [], ◌∷◌, ◌++◌, length, get_or, Some, None, refl, ap, sym, ◌∙◌, subst}
use Rattle.std.proofs.lemmas.Bool.{false≢true}
use Rattle.std.proofs.lemmas.List.{map-append}
use Rattle.std.specs.List.{AllByRecursion}
use Rattle.gb_core.specs.declared.ty.Ty.{Ty}
use Rattle.gb_core.specs.declared.value.Value.{Value}
use Rattle.gb_core.specs.declared.value.Value.TheVariants.{Num}
use Rattle.gb_core.specs.declared.var.Var.{Var}
use Rattle.gb_core.specs.declared.var.Var.TheVariants as var
use Rattle.gb_terms.specs.declared.decl.TypedName.{TypedName}
use Rattle.gb_terms.specs.declared.op.Side.{Side}
use Rattle.gb_terms.specs.declared.op.Side.TheVariants as side
use Rattle.gb_terms.specs.declared.op.Read.TheVariants.{Program}
use Rattle.gb_terms.specs.declared.term.Term.{Term}
use Rattle.gb_terms.specs.declared.term.Head.TheVariants as head
use Rattle.gb_terms.specs.Equal.{var_eq}
use Rattle.gb_terms.proofs.Equality.{var_eq-Decides}
use Rattle.gb_walk.specs.declared.change.Change.TheVariants.{ToTerm}
use Rattle.gb_walk.specs.Change.{Changes, term_changed}
use Rattle.gb_meaning.specs.Judgments.{Judge, IsFair, IsTrueUnder, den}
use Rattle.gb_meaning.specs.Meanings.{truth, value_in}
use Rattle.gb_meaning.specs.Memory.{Memory, assigned, read, result_name}
use Rattle.gb_meaning.specs.Setting.{Setting}
use Rattle.gb_meaning.specs.State.{State, Binding, between, meaning_in, memory_of}
use Rattle.gb_meaning.specs.State.Binding.{program}
use Rattle.gb_meaning.specs.Terms.{quiet}
use Rattle.gb_meaning.specs.Values.{has}
use Rattle.gb_meaning.proofs.Nodes.{val_node}
use Rattle.gb_laws.specs.Uses.{IsWithin}
use Rattle.gb_laws.specs.Written.{Written, with_side, written_changes, all_written}
use Rattle.gb_laws.specs.Context.{FitBinders}
use Rattle.gb_laws.specs.Finite.{IsFinite}
use Rattle.gb_laws.specs.Programs.{Take}
use Rattle.gb_laws.specs.Typing.{Binder}
use Rattle.gb_laws.specs.Typing.Binder.{value as value_binder, program as module_binder}
use Rattle.gb_typing.specs.Context.{Context, Frame, erased, reframed}
use Rattle.gb_typing.specs.Fits.{IsSettingOf, IsStateOf}
use Rattle.gb_typing.specs.Puts.{IsTypedPut, IsTypedWrite, Readable, reading}
use Rattle.gb_typing.specs.Typing.{IsIn, IsForm}
use Rattle.gb_typing.proofs.Fitting.{fits_reframed}
use Rattle.gb_typing.proofs.Forms.{implies_typed, implies_use}
use Rattle.gb_typing.proofs.Quantified.{inside_all, meaning_inside}
use Rattle.gb_typing.proofs.Scripts.{none_some}
use Rattle.gb_typing.specs.Forms.{IsAlone, implies_form}
use Rattle.gb_typing.specs.Rules.{outermost}
use Rattle.gb_prog.specs.AllValues.{Located, in_memory, to_bound_values, AreLocated, AreAlone}
use Rattle.gb_prog.specs.Writes.{DifferIn, IsApart, IsOneOf, TypedVariable, overwritten, AreIn}
use Rattle.gb_prog.proofs.AllValues.{pushed, pushed_here, binder_of, no_frame, binding_of, bound_term, bound_writes, writes_are, for_all_typed, fit_pushed, all_true, all_writes, have_types}
use Rattle.gb_prog.specs.Assigned.{taken}
use Rattle.gb_prog.proofs.AssignedForms.{changes_are, put_itself, writes}
use Rattle.gb_call.specs.Outcomes.{Outcome}
use Rattle.gb_call.proofs.After.{all_append, written_both}
use Rattle.gb_call.proofs.AfterMeans.{IsOneIn}
use Rattle.gb_call.proofs.LeftSides.{AreFor, are_for, left_puts, left_writes, left_ends, left_values, value_here}
use Rattle.gb_call_both.specs.BothOutcomes.{after_among, left_side_of, result_of, results_among, returns_among, values_among}
use Rattle.gb_call_both.proofs.OneSide.{anywhere, ends_with_result, ends_without_result, is_result, result_frame, result_variable, said_with_result, said_without_result}
use Rattle.gb_call_both.proofs.Sided.{AreOnSides, globals_on_sides, left_only, of_side, pushed_append, right_only, same_form, sided_typed, values_typed, written_sides}

-- One side: what is read of an outcome besides globals, where the result occurs and where it doesn't.

abbrev pub frame_if : Bool → Ty → List TypedName
frame_if true R = result_frame R
frame_if false R = []

abbrev pub variables_if : Bool → Ty → List TypedVariable → List TypedVariable
variables_if true R W = result_variable R ∷ W
variables_if false R W = W

-- the result, where it isn't to be read
abbrev pub hidden : Bool → Var → Bool
hidden true y = false
hidden false y = var_eq (var.Local result_name) y

pub moves : (b : Bool) (R : Ty) (c : Context) (x : Var) (t : Ty) → hidden b x ≡ false → IsIn c (Some (result_frame R)) x t → IsIn c (Some (frame_if b R)) x t
moves true R c x t n w = w
moves false R c (var.Local x) t n w = absurd (false≢true (sym n ∙ (var_eq-Decides (var.Local result_name) (var.Local x)).1 (is_result R x t w)))
moves false R c (var.Global m x) t n w = w
moves false R c (var.Glob a) t n w = w

one_of : (b : Bool) (R : Ty) (W : List TypedVariable) (x : Var) (t : Ty) (c d : Context) (f : List TypedName) → ((x : Var) → (k : IsIn c (Some []) x t) → IsIn d (Some f) x t) → IsIn c (Some (frame_if b R)) x t → IsOneOf x (variables_if b R W) ⊎ IsIn d (Some f) x t
one_of true R W (var.Local x) t c d f h k = inl (inl (is_result R x t k))
one_of true R W (var.Global m x) t c d f h k = inr (h (var.Global m x) k)
one_of true R W (var.Glob a) t c d f h k = inr (h (var.Glob a) k)
one_of false R W x t c d f h k = inr (h x k)

-- what is read after a call, where the result occurs and where it doesn't
abbrev pub Covers : Setting → Bool → (Var → Bool) → List Var → List Var → List TypedVariable → Type 0
Covers g true L xs T W = (y : Var) → L y ≡ true → IsOneIn y xs ⊎ (IsApart g T y ⊎ IsOneOf y W)
Covers g false L xs T W = (y : Var) → L y ≡ true → IsApart g xs y × (IsApart g T y ⊎ IsOneOf y W)

-- Variables of two memories in any order: those of the left one, and those of the right one.
pub record AreAmong (b : Context) (W V : List TypedVariable) (G : List Located) : Type 0 where
  pub sides : AreOnSides G
  pub left : of_side side.Left G ≡ W
  pub right : of_side side.Right G ≡ V
  pub located : (f h : List TypedName) → AreLocated (reframed (outermost b) None (Some f) (Some h)) G

pub globals_located : (b : Context) (f h : List TypedName) (W V : List TypedVariable) → AreIn (outermost b) (Some []) W → AreIn (outermost b) (Some []) V →
    AreLocated (reframed (outermost b) None (Some f) (Some h)) (in_memory side.Left W ++ in_memory side.Right V)
globals_located b f h [] [] i k = tt
globals_located b f h [] (v ∷ V) i k = ((tt, anywhere b None (Some f) (Some h) h v.variable v.ty k.0.0, k.0.1), globals_located b f h [] V i k.1)
globals_located b f h (w ∷ W) V i k = ((tt, anywhere b None (Some f) (Some h) f w.variable w.ty i.0.0, i.0.1), globals_located b f h W V i.1 k)

-- those of the left one before those of the right one
pub globals_among : (b : Context) (W V : List TypedVariable) → AreIn (outermost b) (Some []) W → AreIn (outermost b) (Some []) V → AreAmong b W V (in_memory side.Left W ++ in_memory side.Right V)
globals_among b W V i k = record { sides = globals_on_sides W V; left = left_only W V; right = right_only W V; located = λ f h. globals_located b f h W V i k }

module _ (b : Context) (ls rs : List TypedName) (R S : Ty) (W V : List TypedVariable) (left_globals : AreIn (outermost b) (Some []) W) (right_globals : AreIn (outermost b) (Some []) V) (left_finite : IsFinite R) (right_finite : IsFinite S)
    (xs ys : List Var) (left_takes : Take (erased (outermost b)) ls xs R) (right_takes : Take (erased (outermost b)) rs ys S) (left_few : length xs < 9) (right_few : length ys < 9) (G : List Located) (among : AreAmong b W V G) where
  abbrev o : Outcome
  o = record { side = side.Left; targets = xs; result = R; globals = W }

  abbrev p : Outcome
  p = record { side = side.Right; targets = ys; result = S; globals = V }

  abbrev d : Context
  d = reframed (outermost b) None (Some ls) (Some rs)

  on_sides : (l r : Bool) → AreOnSides (values_among l r o p G)
  on_sides true true = (tt, (tt, among.sides))
  on_sides true false = (tt, among.sides)
  on_sides false true = (tt, among.sides)
  on_sides false false = among.sides

  pub located_here : (l r : Bool) → AreLocated (reframed (outermost b) None (Some (frame_if l R)) (Some (frame_if r S))) (values_among l r o p G)
  located_here true true = ((tt, refl, left_finite), ((tt, refl, right_finite), among.located (frame_if true R) (frame_if true S)))
  located_here true false = ((tt, refl, left_finite), among.located (frame_if true R) (frame_if false S))
  located_here false true = ((tt, refl, right_finite), among.located (frame_if false R) (frame_if true S))
  located_here false false = among.located (frame_if false R) (frame_if false S)

  left_are : (l r : Bool) → of_side side.Left (values_among l r o p G) ≡ variables_if l R W
  left_are true true = ap (λ V. result_variable R ∷ V) (among.left)
  left_are true false = ap (λ V. result_variable R ∷ V) (among.left)
  left_are false true = among.left
  left_are false false = among.left

  right_are : (l r : Bool) → of_side side.Right (values_among l r o p G) ≡ variables_if r S V
  right_are true true = ap (λ W. result_variable S ∷ W) (among.right)
  right_are true false = among.right
  right_are false true = ap (λ W. result_variable S ∷ W) (among.right)
  right_are false false = among.right

  module _ (l r : Bool) where
    -- the context of what is said, without a result that doesn't occur
    abbrev said_in : Context
    said_in = reframed (outermost b) None (Some (frame_if l R)) (Some (frame_if r S))

    abbrev all : List Located
    all = values_among l r o p G

    abbrev X : List Binder
    X = pushed binder_of all []

    abbrev Y : List Frame
    Y = pushed no_frame all []

    abbrev inside : Context
    inside = inside_all b None (Some ls) (Some rs) X Y

    -- what is bound around the globals, and around the right result
    abbrev around : List Binder
    around = pushed binder_of (result_of r p) (pushed binder_of (result_of l o) [])

    globals_innermost : X ≡ pushed binder_of G around
    globals_innermost = pushed_append binder_of (result_of l o) (result_of r p ++ G) [] ∙ pushed_append binder_of (result_of r p) G (pushed binder_of (result_of l o) [])

    abbrev left_depth : ℕ
    left_depth = length (result_of r p ++ G)

    abbrev right_depth : ℕ
    right_depth = length G

  left_there : (r : Bool) → get_or (X true r) (left_depth true r) module_binder ≡ value_binder R
  left_there r = pushed_here binder_of (side.Left, result_variable R) (result_of r p ++ G) [] module_binder

  right_there : (l : Bool) → get_or (X l true) (right_depth l true) module_binder ≡ value_binder S
  right_there l =
      ap (λ (bs : List Binder). get_or bs (length G) module_binder) (pushed_append binder_of (result_of l o) (result_of true p ++ G) [])
      ∙ pushed_here binder_of (side.Right, result_variable S) G (pushed binder_of (result_of l o) []) module_binder

  -- the results go to the left sides
  left_taken : (r : Bool) → AreFor b None (Some ls) (Some rs) side.Left tt ls refl (X true r) (Y true r) (left_depth true r) R left_finite (left_there r) xs (taken xs (bound_term (left_depth true r) R))
  left_taken r = are_for b None (Some ls) (Some rs) side.Left tt ls refl (X true r) (Y true r) (left_depth true r) R left_finite (left_there r) xs left_takes left_few

  right_taken : (l : Bool) → AreFor b None (Some ls) (Some rs) side.Right tt rs refl (X l true) (Y l true) (right_depth l true) S right_finite (right_there l) ys (taken ys (bound_term (right_depth l true) S))
  right_taken l = are_for b None (Some ls) (Some rs) side.Right tt rs refl (X l true) (Y l true) (right_depth l true) S right_finite (right_there l) ys right_takes right_few

  abbrev left_written : Bool → Bool → (Term → Value) → List Written
  left_written true r v = writes side.Left v xs (taken xs (bound_term (left_depth true r) R))
  left_written false r v = []

  abbrev right_written : Bool → Bool → (Term → Value) → List Written
  right_written l true v = writes side.Right v ys (taken ys (bound_term (right_depth l true) S))
  right_written l false v = []

  left_changes : (l r : Bool) (v : Term → Value) → written_changes (left_written l r v) ≡ left_side_of l o (left_depth l r)
  left_changes true r v = changes_are side.Left v xs (taken xs (bound_term (left_depth true r) R))
  left_changes false r v = refl

  right_changes : (l r : Bool) (v : Term → Value) → written_changes (right_written l r v) ≡ left_side_of r p (right_depth l r)
  right_changes l true v = changes_are side.Right v ys (taken ys (bound_term (right_depth l true) S))
  right_changes l false v = refl

  -- all writes of the results, as changes
  both_changes : (l r : Bool) (v u : Term → Value) → written_changes (left_written l r v ++ right_written l r u) ≡ results_among l r o p G
  both_changes l r v u =
      map-append (λ (w : Written). ToTerm (Program w.variable w.side) w.term) (left_written l r v) (right_written l r u)
      ∙ (λ i. left_changes l r v i ++ right_changes l r u i)

  left_typed : (l r : Bool) (v : Term → Value) → AllByRecursion (IsTypedPut (inside l r)) (left_written l r v)
  left_typed true r v =
      left_puts b None (Some ls) (Some rs) side.Left tt ls refl (X true r) (Y true r) (left_depth true r) R left_finite (left_there r) v xs (taken xs (bound_term (left_depth true r) R)) (left_taken r)
  left_typed false r v = tt

  right_typed : (l r : Bool) (v : Term → Value) → AllByRecursion (IsTypedPut (inside l r)) (right_written l r v)
  right_typed l true v =
      left_puts b None (Some ls) (Some rs) side.Right tt rs refl (X l true) (Y l true) (right_depth l true) S right_finite (right_there l) v ys (taken ys (bound_term (right_depth l true) S)) (right_taken l)
  right_typed l false v = tt

  pub finite_types : (l r : Bool) → AllByRecursion (λ w. IsFinite w.1.ty) (values_among l r o p G)
  finite_types l r = of_located (values_among l r o p G) (located_here l r)
    where
      of_located : (U : List Located) → AreLocated (said_in l r) U → AllByRecursion (λ w. IsFinite w.1.ty) U
      of_located [] h = tt
      of_located (w ∷ U) h = (h.0.2, of_located U h.1)

  -- Before the calls there are the memories m and n; h and k are what the procedures come to.
  module _ (g : Setting) (fits : IsSettingOf (outermost b) g) (j : Judge) (fair : IsFair g j) (s : State) (fit : IsStateOf (outermost b) g s) (m n h k : Memory) (T U : List Var)
      (left_differs : DifferIn g.types T m (record { globals = h.globals; frame = m.frame })) (right_differs : DifferIn g.types U n (record { globals = k.globals; frame = n.frame }))
      (left_value right_value : Value) (left_has : has g.types R left_value ≡ true) (right_has : has g.types S right_value ≡ true)
      (left_read : read g.types h (var.Local result_name) R ≡ left_value) (right_read : read g.types k (var.Local result_name) S ≡ right_value) where
    abbrev left_base : Memory
    left_base = record { globals = h.globals; frame = m.frame }

    abbrev right_base : Memory
    right_base = record { globals = k.globals; frame = n.frame }

    abbrev v : Located → Value
    v w = read g.types (memory_of (between s h k) w.0) w.1.variable w.1.ty

    abbrev bindings : Bool → Bool → List Binding
    bindings l r = pushed (binding_of v) (values_among l r o p G) s.bound

    abbrev here : Bool → Bool → State
    here l r = record (between s m n) { bound = bindings l r }

    pub fits_over : (f e : List TypedName) → IsSettingOf (reframed (outermost b) None (Some f) (Some e)) g
    fits_over f e = fits_reframed (outermost b) g fits None (Some f) (Some e)

    state_over : (f e : List TypedName) → IsStateOf (reframed (outermost b) None (Some f) (Some e)) g (between s m n)
    state_over f e = record { logical = fit.logical; bound = fit.bound }

    pub values_have : (l r : Bool) → AllByRecursion (λ w. has g.types w.1.ty (v w) ≡ true) (values_among l r o p G)
    values_have l r = have_types b None (Some (frame_if l R)) (Some (frame_if r S)) g (fits_over (frame_if l R) (frame_if r S)) j fair (between s h k) (values_among l r o p G) (located_here l r)

    pub fit_bindings : (l r : Bool) → FitBinders g.types (X l r) (bindings l r)
    fit_bindings l r = fit_pushed b None (Some ls) (Some rs) g (fits_over ls rs) j fair v (values_among l r o p G) [] s.bound (values_have l r) tt

    -- what becomes of a memory by a result
    abbrev end : Bool → List Var → Value → Memory → Memory
    end true xs z q = assigned g.types q xs z
    end false xs z q = q

    -- a result in the place of a left side
    pub record IsReturned (l r : Bool) (P : Readable) (a : Side) (change : Memory → Memory) (cs : Changes) : Type 0 where
      pub all_writes_are : List Written
      pub changes : written_changes all_writes_are ≡ cs
      pub typed : AllByRecursion (IsTypedWrite P (inside l r) g (here l r)) all_writes_are
      pub ends : (q : State) → all_written g q all_writes_are ≡ with_side q a (change (memory_of q a))

    module _ (P : Readable) where
      pub left_returned : (l r : Bool) → AllByRecursion (λ x. IsAlone g x (P side.Left)) xs → IsReturned l r P side.Left (end l xs left_value) (left_side_of l o (left_depth l r))
      left_returned false r a = record { all_writes_are = []; changes = refl; typed = tt; ends = λ q. sym (put_itself q side.Left) }
      left_returned true r a =
          let e : Term = bound_term (left_depth true r) R in
          let given : Term → Value = value_here b None (Some ls) (Some rs) side.Left tt ls refl (X true r) (Y true r) (left_depth true r) R left_finite (left_there r) g (here true r) in
          let is : given e ≡ left_value =
          ap value_in (val_node g quiet (head.Bound (left_depth true r)) [] R (here true r) ∙ ap meaning_in (pushed_here (binding_of v) (side.Left, result_variable R) (result_of r p ++ G) s.bound program))
          ∙ left_read in
          record {
            all_writes_are = writes side.Left given xs (taken xs e);
            changes = changes_are side.Left given xs (taken xs e);
            typed =
                left_writes b None (Some ls) (Some rs) side.Left tt ls refl (X true r) (Y true r) (left_depth true r) R left_finite (left_there r) g (here true r) P xs (taken xs e) (left_taken r) a;
            ends = λ q.
                left_ends b None (Some ls) (Some rs) side.Left tt ls refl (X true r) (Y true r) (left_depth true r) R left_finite (left_there r) g (here true r) q given xs (taken xs e) (left_taken r)
                ∙ ap (with_side q side.Left)
                (left_values b None (Some ls) (Some rs) side.Left tt ls refl (X true r) (Y true r) (left_depth true r) R left_finite (left_there r) g (here true r) xs left_value is left_has left_takes left_few (memory_of q side.Left));
          }

      right_returned : (l r : Bool) → AllByRecursion (λ x. IsAlone g x (P side.Right)) ys → IsReturned l r P side.Right (end r ys right_value) (left_side_of r p (right_depth l r))
      right_returned l false a = record { all_writes_are = []; changes = refl; typed = tt; ends = λ q. sym (put_itself q side.Right) }
      right_returned l true a =
          let e : Term = bound_term (right_depth l true) S in
          let given : Term → Value = value_here b None (Some ls) (Some rs) side.Right tt rs refl (X l true) (Y l true) (right_depth l true) S right_finite (right_there l) g (here l true) in
          let is : given e ≡ right_value =
          ap value_in (val_node g quiet (head.Bound (right_depth l true)) [] S (here l true) ∙ ap meaning_in
          (ap (λ (z : List Binding). get_or z (length G) program) (pushed_append (binding_of v) (result_of l o) (result_of true p ++ G) s.bound)
          ∙ pushed_here (binding_of v) (side.Right, result_variable S) G (pushed (binding_of v) (result_of l o) s.bound) program))
          ∙ right_read in
          record {
            all_writes_are = writes side.Right given ys (taken ys e);
            changes = changes_are side.Right given ys (taken ys e);
            typed =
                left_writes b None (Some ls) (Some rs) side.Right tt rs refl (X l true) (Y l true) (right_depth l true) S right_finite (right_there l) g (here l true) P ys (taken ys e) (right_taken l) a;
            ends = λ q.
                left_ends b None (Some ls) (Some rs) side.Right tt rs refl (X l true) (Y l true) (right_depth l true) S right_finite (right_there l) g (here l true) q given ys (taken ys e) (right_taken l)
                ∙ ap (with_side q side.Right)
                (left_values b None (Some ls) (Some rs) side.Right tt rs refl (X l true) (Y l true) (right_depth l true) S right_finite (right_there l) g (here l true) ys right_value is right_has right_takes right_few (memory_of q side.Right));
          }

      module _ (left_alone : AllByRecursion (λ w. IsAlone g w.variable (P side.Left)) W) (right_alone : AllByRecursion (λ w. IsAlone g w.variable (P side.Right)) V)
          (left_side_alone : AllByRecursion (λ x. IsAlone g x (P side.Left)) xs) (right_side_alone : AllByRecursion (λ x. IsAlone g x (P side.Right)) ys) (globals_alone : AreAlone g P G) where
        left_reads : (l : Bool) → Covers g l (P side.Left) xs T W → (y : Var) (t : Ty) → IsIn d (Some ls) y t → P side.Left y ≡ true →
            read g.types (end l xs left_value (overwritten g.types W h m)) y t ≡ read g.types (assigned g.types left_base xs left_value) y t
        left_reads true c = ends_with_result b None (Some ls) (Some rs) g (fits_over ls rs) m h T left_differs W left_globals (P side.Left) ls left_alone fits j fair s fit R xs left_takes left_value left_has left_side_alone c
        left_reads false c = ends_without_result b None (Some ls) (Some rs) g (fits_over ls rs) m h T left_differs W left_globals (P side.Left) ls left_alone xs left_value c

        right_reads : (r : Bool) → Covers g r (P side.Right) ys U V → (y : Var) (t : Ty) → IsIn d (Some rs) y t → P side.Right y ≡ true →
            read g.types (end r ys right_value (overwritten g.types V k n)) y t ≡ read g.types (assigned g.types right_base ys right_value) y t
        right_reads true c =
            ends_with_result b None (Some ls) (Some rs) g (fits_over ls rs) n k U right_differs V right_globals (P side.Right) rs right_alone fits j fair s fit S ys right_takes right_value right_has right_side_alone c
        right_reads false c = ends_without_result b None (Some ls) (Some rs) g (fits_over ls rs) n k U right_differs V right_globals (P side.Right) rs right_alone ys right_value c

        -- It says there what the form says of memories in which all that it may read is read as after the writes.
        pub returned_means : (l r : Bool) (f e : Memory → Memory) (cs ds : Changes) → IsReturned l r P side.Left f cs → IsReturned l r P side.Right e ds → (x z : Memory) →
            ((y : Var) (t : Ty) → IsIn d (Some ls) y t → P side.Left y ≡ true → read g.types (f (overwritten g.types W h m)) y t ≡ read g.types x y t) →
            ((y : Var) (t : Ty) → IsIn d (Some rs) y t → P side.Right y ≡ true → read g.types (e (overwritten g.types V k n)) y t ≡ read g.types z y t) →
            (q : Term) → IsForm d q → IsWithin (reading P) q → den g j (term_changed q ((cs ++ ds) ++ to_bound_values G)) (here l r) ≡ den g j q (between s x z)
        returned_means l r f e cs ds A B x z left_same right_same q w within =
            let us : List Written = A.all_writes_are ++ B.all_writes_are in
            let vs : List Written = bound_writes v G in
            let a : Memory = overwritten g.types W h m in
            let c : Memory = overwritten g.types V k n in
            let inner : List Binding = pushed (binding_of v) (result_of r p) (pushed (binding_of v) (result_of l o) s.bound) in
            ap (λ cs. den g j (term_changed q cs) (here l r))
            (sym (map-append (λ (w : Written). ToTerm (Program w.variable w.side) w.term) us vs
            ∙ (λ i. (map-append (λ (w : Written). ToTerm (Program w.variable w.side) w.term) A.all_writes_are B.all_writes_are ∙ (λ i. A.changes i ++ B.changes i)) i ++ writes_are v G i)))
            ∙ ap truth (meaning_inside b None (Some ls) (Some rs) (X l r) (Y l r) g (fits_over ls rs) (between s m n) (state_over ls rs) (bindings l r) (fit_bindings l r) j fair P q w.typed within (us ++ vs)
            (all_append (IsTypedWrite P (inside l r) g (here l r)) us vs
            (all_append (IsTypedWrite P (inside l r) g (here l r)) A.all_writes_are B.all_writes_are A.typed B.typed)
            (all_writes b None (Some ls) (Some rs) g (fits_over ls rs) j fair P (X l r) (Y l r) (bindings l r) (between s m n) v G (around l r) inner (globals_innermost l r)
            (pushed_append (binding_of v) (result_of l o) (result_of r p ++ G) s.bound ∙ pushed_append (binding_of v) (result_of r p) G (pushed (binding_of v) (result_of l o) s.bound))
            (among.located ls rs) globals_alone)))
            ∙ ap (den g j q) (written_both g (between s m n) us vs
            ∙ ap (λ e. all_written g e us) (written_sides g s m n h k G (among.sides) ∙ (λ i. between s (overwritten g.types (among.left i) h m) (overwritten g.types (among.right i) k n)))
            ∙ written_both g (between s a c) A.all_writes_are B.all_writes_are
            ∙ ap (λ e. all_written g e A.all_writes_are) (B.ends (between s a c))
            ∙ A.ends (between s a (e c)))
            ∙ same_form b (Some ls) (Some rs) g fits j fair P s (f a) (e c) x z left_same right_same q w within

        -- it says there what the form says after both calls
        return_means : (l r : Bool) → Covers g l (P side.Left) xs T W → Covers g r (P side.Right) ys U V → (q : Term) → IsForm d q → IsWithin (reading P) q →
            den g j (returns_among l r o p G q) (here l r) ≡ den g j q (between s (assigned g.types left_base xs left_value) (assigned g.types right_base ys right_value))
        return_means l r left_covers right_covers q w within =
            returned_means l r (end l xs left_value) (end r ys right_value) (left_side_of l o (left_depth l r)) (left_side_of r p (right_depth l r)) (left_returned l r left_side_alone) (right_returned l r right_side_alone)
            (assigned g.types left_base xs left_value) (assigned g.types right_base ys right_value) (left_reads l left_covers) (right_reads r right_covers) q w within

  -- what is said is said without a result that doesn't occur
  module _ (said q : Term) (l r : Bool) (said_narrow : IsForm (said_in l r) said) (end_form : IsForm d q) where
    pub said_typed : IsForm (inside l r) (term_changed said (to_bound_values (values_among l r o p G)))
    said_typed =
        sided_typed b (Some (frame_if l R)) (Some (frame_if r S)) (Some ls) (Some rs) (X l r) (Y l r) (values_among l r o p G) refl (on_sides l r) (located_here l r) (λ z. tt) (λ z. tt)
        (λ x t k. subst (λ U. IsOneOf x U ⊎ IsIn (inside l r) (Some ls) x t) (sym (left_are l r)) (one_of l R W x t (said_in l r) (inside l r) ls (moved t ls) k))
        (λ x t k. subst (λ U. IsOneOf x U ⊎ IsIn (inside l r) (Some rs) x t) (sym (right_are l r)) (one_of r S V x t (said_in l r) (inside l r) rs (moved t rs) k)) said said_narrow
      where
        moved : (t : Ty) (f : List TypedName) (x : Var) → IsIn (said_in l r) (Some []) x t → IsIn (inside l r) (Some f) x t
        moved t f (var.Local x) k = none_some t k
        moved t f (var.Global m x) k = k
        moved t f (var.Glob a) k = k

    return_typed : IsForm (inside l r) (returns_among l r o p G q)
    return_typed =
        let none : Term → Value = λ e. Num 0 in
        let us = left_written l r none ++ right_written l r none in
        subst (λ cs. IsForm (inside l r) (term_changed q (cs ++ to_bound_values G))) (both_changes l r none none)
        (values_typed b (Some ls) (Some rs) (X l r) (Y l r) G (around l r) (globals_innermost l r) (among.located ls rs) us
        (all_append (IsTypedPut (inside l r)) (left_written l r none) (right_written l r none) (left_typed l r none) (right_typed l r none)) q end_form)

    -- for all results and all values of the globals
    pub after_typed : IsForm d (after_among l r o p G said q)
    after_typed = for_all_typed b None (Some ls) (Some rs) (values_among l r o p G) [] [] (finite_types l r) _ (implies_typed (inside l r) _ _ said_typed return_typed)

    module _ (g : Setting) (fits : IsSettingOf (outermost b) g) (j : Judge) (fair : IsFair g j) (s : State) (fit : IsStateOf (outermost b) g s) (m n h k : Memory) (T U : List Var)
        (left_differs : DifferIn g.types T m (record { globals = h.globals; frame = m.frame })) (right_differs : DifferIn g.types U n (record { globals = k.globals; frame = n.frame }))
        (left_value right_value : Value) (left_has : has g.types R left_value ≡ true) (right_has : has g.types S right_value ≡ true)
        (left_read : read g.types h (var.Local result_name) R ≡ left_value) (right_read : read g.types k (var.Local result_name) S ≡ right_value) where
      abbrev w : Located → Value
      w = v g fits j fair s fit m n h k T U left_differs right_differs left_value right_value left_has right_has left_read right_read

      abbrev bound_here : List Binding
      bound_here = bindings g fits j fair s fit m n h k T U left_differs right_differs left_value right_value left_has right_has left_read right_read l r

      abbrev inner_state : State
      inner_state = here g fits j fair s fit m n h k T U left_differs right_differs left_value right_value left_has right_has left_read right_read l r

      over : (f e : List TypedName) → IsSettingOf (reframed (outermost b) None (Some f) (Some e)) g
      over f e = fits_reframed (outermost b) g fits None (Some f) (Some e)

      -- What is said of the outcomes.
      module _ (Q : Readable) (within : IsWithin (reading Q) said) (alone_said : AreAlone g Q (values_among l r o p G))
          (left_said : (y : Var) → Q side.Left y ≡ true → IsApart g T y ⊎ IsOneOf y W) (right_said : (y : Var) → Q side.Right y ≡ true → IsApart g U y ⊎ IsOneOf y V)
          (left_alone : AllByRecursion (λ w. IsAlone g w.variable (Q side.Left)) W) (right_alone : AllByRecursion (λ w. IsAlone g w.variable (Q side.Right)) V) where
        left_outcome : (l : Bool) (y : Var) (t : Ty) → IsIn (said_in l r) (Some (frame_if l R)) y t → Q side.Left y ≡ true → read g.types (overwritten g.types (variables_if l R W) h m) y t ≡ read g.types h y t
        left_outcome true y t i e =
            said_with_result b None (Some (frame_if true R)) (Some (frame_if r S)) g (over (frame_if true R) (frame_if r S)) m h T left_differs W left_globals (Q side.Left) left_said left_alone R left_finite y t i e
        left_outcome false y t i e =
            said_without_result b None (Some (frame_if false R)) (Some (frame_if r S)) g (over (frame_if false R) (frame_if r S)) m h T left_differs W left_globals (Q side.Left) left_said left_alone y t i e

        right_outcome : (r : Bool) (y : Var) (t : Ty) → IsIn (said_in l r) (Some (frame_if r S)) y t → Q side.Right y ≡ true → read g.types (overwritten g.types (variables_if r S V) k n) y t ≡ read g.types k y t
        right_outcome true y t i e =
            said_with_result b None (Some (frame_if l R)) (Some (frame_if true S)) g (over (frame_if l R) (frame_if true S)) n k U right_differs V right_globals (Q side.Right) right_said right_alone S right_finite y t i e
        right_outcome false y t i e =
            said_without_result b None (Some (frame_if l R)) (Some (frame_if false S)) g (over (frame_if l R) (frame_if false S)) n k U right_differs V right_globals (Q side.Right) right_said right_alone y t i e

        pub said_means : den g j (term_changed said (to_bound_values (values_among l r o p G))) inner_state ≡ den g j said (between s h k)
        said_means =
            let A : Memory = overwritten g.types (of_side side.Left (values_among l r o p G)) h m in
            let B : Memory = overwritten g.types (of_side side.Right (values_among l r o p G)) k n in
            ap (λ cs. den g j (term_changed said cs) inner_state) (sym (writes_are w (values_among l r o p G)))
            ∙ ap truth (meaning_inside b None (Some (frame_if l R)) (Some (frame_if r S)) (X l r) (Y l r) g (over (frame_if l R) (frame_if r S)) (between s m n) (record { logical = fit.logical; bound = fit.bound }) bound_here (fit_bindings g fits j fair s fit m n h k T U left_differs right_differs left_value right_value left_has right_has left_read right_read l r) j fair Q
            said said_narrow.typed within (bound_writes w (values_among l r o p G))
            (all_writes b None (Some (frame_if l R)) (Some (frame_if r S)) g (over (frame_if l R) (frame_if r S)) j fair Q (X l r) (Y l r) bound_here (between s m n) w (values_among l r o p G) [] s.bound refl refl (located_here l r) alone_said))
            ∙ ap (den g j said) (written_sides g s m n h k (values_among l r o p G) (on_sides l r))
            ∙ same_form b (Some (frame_if l R)) (Some (frame_if r S)) g fits j fair Q s A B h k
            (λ y t i e. ap (λ Z. read g.types (overwritten g.types Z h m) y t) (left_are l r) ∙ left_outcome l y t i e)
            (λ y t i e. ap (λ Z. read g.types (overwritten g.types Z k n) y t) (right_are l r) ∙ right_outcome r y t i e) said said_narrow within

        -- where it holds before the calls, what is said of the outcomes leads to what is to hold after both
        pub after_both_means : (P : Readable) → IsWithin (reading P) q → AllByRecursion (λ w. IsAlone g w.variable (P side.Left)) W → AllByRecursion (λ w. IsAlone g w.variable (P side.Right)) V →
            AllByRecursion (λ x. IsAlone g x (P side.Left)) xs → AllByRecursion (λ x. IsAlone g x (P side.Right)) ys → AreAlone g P G →
            Covers g l (P side.Left) xs T W → Covers g r (P side.Right) ys U V →
            IsTrueUnder g j (after_among l r o p G said q) (between s m n) → IsTrueUnder g j said (between s h k) →
            IsTrueUnder g j q (between s (assigned g.types (record { globals = h.globals; frame = m.frame }) xs left_value) (assigned g.types (record { globals = k.globals; frame = n.frame }) ys right_value))
        after_both_means P end_within la ra lsa rsa ga lc rc holds is_said =
            let A : Term = term_changed said (to_bound_values (values_among l r o p G)) in
            let B : Term = returns_among l r o p G q in
            sym (return_means g fits j fair s fit m n h k T U left_differs right_differs left_value right_value left_has right_has left_read right_read P la ra lsa rsa ga l r lc rc q end_form end_within)
            ∙ implies_use g j A B inner_state
            (all_true b None (Some ls) (Some rs) g (over ls rs) j fair w (values_among l r o p G) s.bound (values_have g fits j fair s fit m n h k T U left_differs right_differs left_value right_value left_has right_has left_read right_read l r) (implies_form A B) (between s m n) holds)
            (said_means ∙ is_said)
