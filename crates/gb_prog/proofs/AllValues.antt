-- A form for all values of variables: typing and meaning.
use Rattle.std.proofs.Common.{◌≡◌, ℕ, suc, ◌+◌, true, List, [], ◌∷◌, ◌++◌, length, get_or, None, refl, ap, sym, ◌∙◌, subst, arith}
use Rattle.std.specs.List.{AllByRecursion}
use Rattle.gb_core.specs.declared.ty.Ty.{Ty}
use Rattle.gb_core.specs.declared.ty.Ty.TheVariants as ty
use Rattle.gb_core.specs.declared.var.Var.{Var}
use Rattle.gb_core.specs.declared.var.Var.TheVariants as var
use Rattle.gb_core.specs.declared.value.Value.{Value}
use Rattle.gb_core.specs.declared.value.Value.TheVariants.{Num}
use Rattle.gb_terms.specs.declared.op.Side.{Side}
use Rattle.gb_terms.specs.declared.op.Side.TheVariants as side
use Rattle.gb_terms.specs.declared.op.Read.TheVariants.{Program}
use Rattle.gb_terms.specs.declared.term.Term.{Term}
use Rattle.gb_terms.specs.declared.term.Head.TheVariants as head
use Rattle.gb_terms.specs.Make.{node}
use Rattle.gb_walk.specs.declared.change.Change.TheVariants.{ToTerm}
use Rattle.gb_walk.specs.Change.{Changes, term_changed}
use Rattle.gb_meaning.specs.Memory.{Memory, read, write}
use Rattle.gb_meaning.specs.Meanings.{truth, value_in}
use Rattle.gb_meaning.specs.Setting.{Setting}
use Rattle.gb_meaning.specs.Setting.Meaning.{finite}
use Rattle.gb_meaning.specs.State.{State, Binding, at, between, meaning_in, memory_of}
use Rattle.gb_meaning.specs.State.Binding.{value as value_bound, program}
use Rattle.gb_meaning.specs.Terms.{quiet}
use Rattle.gb_meaning.specs.Values.{has}
use Rattle.gb_meaning.specs.Judgments.{Judge, IsFair, den}
use Rattle.gb_meaning.specs.Commands.{statements}
use Rattle.gb_dist.specs.WeightedList.{Every}
use Rattle.gb_dist.proofs.Entries.{Every-weaken}
use Rattle.gb_terms.specs.declared.term.Instr.{Instr}
use Rattle.gb_typing.specs.Meaning.{run}
use Rattle.gb_meaning.proofs.Nodes.{val_node, term_is_node}
use Rattle.gb_meaning.proofs.Truths.{true_all}
use Rattle.gb_laws.specs.Plain.{IsPlain}
use Rattle.gb_laws.specs.Uses.{IsWithin}
use Rattle.gb_laws.specs.Written.{IsSide, Written, with_side, written_changes, all_written}
use Rattle.gb_laws.specs.Context.{FitBinders}
use Rattle.gb_laws.specs.Finite.{IsFinite}
use Rattle.gb_laws.specs.Typing.{Binder, IsBoundAt}
use Rattle.gb_laws.specs.Typing.Binder.{value, program as module_binder}
use Rattle.gb_laws.proofs.Nodes.{type_of_node}
use Rattle.gb_typing.specs.Changes.{Made}
use Rattle.gb_typing.specs.Context.{Context, Frame, frame_of, reframed}
use Rattle.gb_typing.specs.Fits.{IsSettingOf, IsStateOf}
use Rattle.gb_typing.specs.Puts.{Readable, reading, IsPutFor, IsTypedPut, IsTypedWrite}
use Rattle.gb_typing.specs.Typing.{IsIn, IsForm}
use Rattle.gb_typing.proofs.Clashes.{left_of_no_clash}
use Rattle.gb_typing.proofs.Fitting.{fits_reframed}
use Rattle.gb_typing.proofs.Made.{made_node}
use Rattle.gb_typing.proofs.Substituted.{finite_no_distribution}
use Rattle.gb_typing.specs.Forms.{IsAlone}
use Rattle.gb_typing.specs.Rules.{outermost}
use Rattle.gb_typing.proofs.Forms.{made_form, form_made}
use Rattle.gb_typing.proofs.Quantified.{inside_all, typed_inside, meaning_inside}
use Rattle.gb_prog.specs.Writes.{WritesWithin, DifferIn, TypedVariable, overwritten, AreIn, Covers}
use Rattle.gb_prog.specs.AllValues.{Located, in_memory, for_all, to_bound_values, all_values, AreLocated, AreAlone}
use Rattle.gb_prog.proofs.Writes.{run_differs}
use Rattle.gb_prog.proofs.Frames.{read_has, whole_type, frame_form, placed}

-- What stands for variables, put in front of a list one after another.
abbrev pub pushed : {A : Type 0} → (Located → A) → List Located → List A → List A
pushed f [] xs = xs
pushed f (w ∷ W) xs = pushed f W (f w ∷ xs)

pub pushed_at : {A : Type 0} (f : Located → A) (W : List Located) (xs : List A) (i : ℕ) (z : A) → get_or (pushed f W xs) (length W + i) z ≡ get_or xs i z
pushed_at f [] xs i z = ap (λ (i : ℕ). get_or xs i z) (let e : 0 + i ≡ i = omega arith in e)
pushed_at f (w ∷ W) xs i z = ap (λ (i : ℕ). get_or (pushed f W (f w ∷ xs)) i z) (let e : suc (length W) + i ≡ length W + suc i = omega arith in e) ∙ pushed_at f W (f w ∷ xs) (suc i) z

pub pushed_here : {A : Type 0} (f : Located → A) (w : Located) (W : List Located) (xs : List A) (z : A) → get_or (pushed f (w ∷ W) xs) (length W) z ≡ f w
pushed_here f w W xs z = ap (λ (i : ℕ). get_or (pushed f W (f w ∷ xs)) i z) (let e : length W ≡ length W + 0 = omega arith in e) ∙ pushed_at f W (f w ∷ xs) 0 z

abbrev pub binder_of : Located → Binder
binder_of w = value w.1.ty

abbrev pub no_frame : Located → Frame
no_frame w = None

-- a bound value for each variable
abbrev pub binding_of : (Located → Value) → Located → Binding
binding_of v w = value_bound (finite (v w))

-- the value that is bound for a variable
abbrev pub bound_term : ℕ → Ty → Term
bound_term i u = node (head.Bound i) [] u

pub bound_plain : (i : ℕ) (u : Ty) → IsPlain (bound_term i u)
bound_plain i u = subst IsPlain (term_is_node (head.Bound i) [] u) (tt, tt)

-- the changes as writes
abbrev pub bound_writes : (Located → Value) → List Located → List Written
bound_writes v [] = []
bound_writes v (w ∷ W) = record { variable = w.1.variable; side = w.0; term = bound_term (length W) w.1.ty; value = v w } ∷ bound_writes v W

pub writes_are : (v : Located → Value) (W : List Located) → written_changes (bound_writes v W) ≡ to_bound_values W
writes_are v [] = refl
writes_are v (w ∷ W) = ap (λ (cs : Changes). ToTerm (Program w.1.variable w.0) (bound_term (length W) w.1.ty) ∷ cs) (writes_are v W)

with_side_twice : (s : State) (r : Side) → IsSide r → (m n : Memory) → with_side (with_side s r m) r n ≡ with_side s r n
with_side_twice s side.Own i m n = refl
with_side_twice s side.Left i m n = refl
with_side_twice s side.Right i m n = refl
with_side_twice s (side.Memory k) i m n = absurd i
with_side_twice s (side.Bound k) i m n = absurd i

with_side_itself : (s : State) (r : Side) → with_side s r (memory_of s r) ≡ s
with_side_itself s side.Own = refl
with_side_itself s side.Left = refl
with_side_itself s side.Right = refl
with_side_itself s (side.Memory k) = refl
with_side_itself s (side.Bound k) = refl

frame_around : (b : Context) (F L K : Frame) (bs : List Binder) (fs : List Frame) (r : Side) → IsSide r → (x : Var) (t : Ty) →
    IsIn (reframed (outermost b) F L K) (frame_of (reframed (outermost b) F L K) r) x t → IsIn (inside_all b F L K bs fs) (frame_of (inside_all b F L K bs fs) r) x t
frame_around b F L K bs fs side.Own i (var.Local x) t w = w
frame_around b F L K bs fs side.Own i (var.Global m x) t w = w
frame_around b F L K bs fs side.Own i (var.Glob a) t w = w
frame_around b F L K bs fs side.Left i (var.Local x) t w = w
frame_around b F L K bs fs side.Left i (var.Global m x) t w = w
frame_around b F L K bs fs side.Left i (var.Glob a) t w = w
frame_around b F L K bs fs side.Right i (var.Local x) t w = w
frame_around b F L K bs fs side.Right i (var.Global m x) t w = w
frame_around b F L K bs fs side.Right i (var.Glob a) t w = w
frame_around b F L K bs fs (side.Memory k) i x t w = absurd i
frame_around b F L K bs fs (side.Bound k) i x t w = absurd i

module _ (b : Context) (F L K : Frame) where
  abbrev d : Context
  d = reframed (outermost b) F L K

  abbrev inner : List Located → Context
  inner W = inside_all b F L K (pushed binder_of W []) (pushed no_frame W [])

  pub for_all_typed : (W : List Located) (bs : List Binder) (fs : List Frame) → AllByRecursion (λ w. IsFinite w.1.ty) W → (f : Term) →
      IsForm (inside_all b F L K (pushed binder_of W bs) (pushed no_frame W fs)) f → IsForm (inside_all b F L K bs fs) (for_all W f)
  for_all_typed [] bs fs h f w = w
  for_all_typed (x ∷ W) bs fs h f w =
      form_made (inside_all b F L K bs fs) (for_all (x ∷ W) f)
      (made_node (inside_all b F L K bs fs) (head.All x.1.ty) (ty.Bool ∷ []) (for_all W f ∷ []) ty.Bool (h.0, (refl, (refl, tt))) tt []
      (made_form (inside_all b F L K (value x.1.ty ∷ bs) (None ∷ fs)) (for_all W f) (for_all_typed W (value x.1.ty ∷ bs) (None ∷ fs) h.1 f w)))

  module _ (X : List Binder) (fs : List Frame) where
    pub one_put : (w : Located) (k : ℕ) → IsSide w.0 × IsIn d (frame_of d w.0) w.1.variable w.1.ty × IsFinite w.1.ty → get_or X k module_binder ≡ value w.1.ty →
        IsPutFor (inside_all b F L K X fs) w.1.variable w.0 (bound_term k w.1.ty)
    one_put w k h e = record {
      side = h.0;
      type = subst (λ t. IsIn (inside_all b F L K X fs) (frame_of (inside_all b F L K X fs) w.0) w.1.variable t) (sym (type_of_node (head.Bound k) [] w.1.ty))
          (frame_around b F L K X fs w.0 h.0 w.1.variable w.1.ty h.1);
      finite = subst IsFinite (sym (type_of_node (head.Bound k) [] w.1.ty)) h.2;
      plain = bound_plain k w.1.ty;
      typed = λ f l q keeps.
          let m : Made (reframed (inside_all b F L K X fs) f l q) w.1.ty (bound_term k w.1.ty) =
          made_node (reframed (inside_all b F L K X fs) f l q) (head.Bound k) [] [] w.1.ty (subst (λ z. IsBoundAt z w.1.ty) (sym e) (finite_no_distribution w.1.ty h.2, refl)) tt [] tt in
          m.typed;
    }

    pub all_puts : (v : Located → Value) (W : List Located) (bs : List Binder) → X ≡ pushed binder_of W bs → AreLocated d W → AllByRecursion (IsTypedPut (inside_all b F L K X fs)) (bound_writes v W)
    all_puts v [] bs e h = tt
    all_puts v (w ∷ W) bs e h = (
      one_put w (length W) h.0 (ap (λ (l : List Binder). get_or l (length W) module_binder) e ∙ pushed_here binder_of w W bs module_binder),
      all_puts v W (value w.1.ty ∷ bs) e h.1,
    )

  finite_types : (W : List Located) → AreLocated d W → AllByRecursion (λ w. IsFinite w.1.ty) W
  finite_types [] h = tt
  finite_types (w ∷ W) h = (h.0.2, finite_types W h.1)

  -- the form for all values is typed where the form is
  all_typed : (W : List Located) → AreLocated d W → (f : Term) → IsForm d f → IsForm d (all_values W f)
  all_typed W h f w =
      for_all_typed W [] [] (finite_types W h) (term_changed f (to_bound_values W))
      (subst (λ cs. IsForm (inner W) (term_changed f cs)) (writes_are no_value W)
      (let m = typed_inside b F L K (pushed binder_of W []) (pushed no_frame W []) f w.typed (bound_writes no_value W) (all_puts (pushed binder_of W []) (pushed no_frame W []) no_value W [] refl h) in
      record { typed = m.typed; truth = m.written ∙ w.truth }))
    where
      no_value : Located → Value
      no_value w = Num 0

  module _ (g : Setting) (fits : IsSettingOf d g) (j : Judge) (fair : IsFair g j) where
    -- values of the types of variables
    abbrev pub AreOf : (Located → Value) → List Located → Type 0
    AreOf v W = AllByRecursion (λ w. has g.types w.1.ty (v w) ≡ true) W

    pub fit_pushed : (v : Located → Value) (W : List Located) (bs : List Binder) (xs : List Binding) → AreOf v W → FitBinders g.types bs xs → FitBinders g.types (pushed binder_of W bs) (pushed (binding_of v) W xs)
    fit_pushed v [] bs xs h k = k
    fit_pushed v (w ∷ W) bs xs h k = fit_pushed v W (value w.1.ty ∷ bs) (value_bound (finite (v w)) ∷ xs) h.1 (h.0, k)

    pub all_true : (v : Located → Value) (W : List Located) (xs : List Binding) → AreOf v W → (f : Term) (s : State) →
        den g j (for_all W f) (record s { bound = xs }) ≡ true → den g j f (record s { bound = pushed (binding_of v) W xs }) ≡ true
    all_true v [] xs h f s t = t
    all_true v (w ∷ W) xs h f s t = all_true v W (value_bound (finite (v w)) ∷ xs) h.1 f s ((true_all g j w.1.ty (for_all W f) (record s { bound = xs })).0 t (v w) h.0)

    module _ (P : Readable) (X : List Binder) (fs : List Frame) (xs : List Binding) (s : State) (v : Located → Value) where
      one_write : (w : Located) (k : ℕ) → IsSide w.0 × IsIn d (frame_of d w.0) w.1.variable w.1.ty × IsFinite w.1.ty → IsAlone g w.1.variable (P w.0) →
          get_or X k module_binder ≡ value w.1.ty → get_or xs k program ≡ value_bound (finite (v w)) →
          IsTypedWrite P (inside_all b F L K X fs) g (record s { bound = xs }) (record { variable = w.1.variable; side = w.0; term = bound_term k w.1.ty; value = v w })
      one_write w k h a e x = record {
        put = one_put X fs w k h e;
        spares = λ y t u p n z. left_of_no_clash g w.1.variable y t (a y p n);
        value = sym (ap value_in (val_node g quiet (head.Bound k) [] w.1.ty (record s { bound = xs }) ∙ ap meaning_in x));
      }

      pub all_writes : (W : List Located) (bs : List Binder) (ys : List Binding) → X ≡ pushed binder_of W bs → xs ≡ pushed (binding_of v) W ys → AreLocated d W → AreAlone g P W →
          AllByRecursion (IsTypedWrite P (inside_all b F L K X fs) g (record s { bound = xs })) (bound_writes v W)
      all_writes [] bs ys e x h a = tt
      all_writes (w ∷ W) bs ys e x h a = (
        one_write w (length W) h.0 a.0 (ap (λ (l : List Binder). get_or l (length W) module_binder) e ∙ pushed_here binder_of w W bs module_binder)
            (ap (λ (l : List Binding). get_or l (length W) program) x ∙ pushed_here (binding_of v) w W ys program),
        all_writes W (value w.1.ty ∷ bs) (value_bound (finite (v w)) ∷ ys) e x h.1 a.1,
      )

    -- where the form is true for all values, it is true after the writes of these
    all_given : (P : Readable) (W : List Located) → AreLocated d W → AreAlone g P W → (f : Term) → IsForm d f → IsWithin (reading P) f → (s : State) → IsStateOf d g s → (v : Located → Value) → AreOf v W →
        den g j (all_values W f) s ≡ true → den g j f (all_written g s (bound_writes v W)) ≡ true
    all_given P W h a f w k s fit v o t =
        let X = pushed binder_of W [] in
        let fs = pushed no_frame W [] in
        let xs = pushed (binding_of v) W s.bound in
        ap truth (sym (meaning_inside b F L K X fs g fits s fit xs (fit_pushed v W [] s.bound o tt) j fair P f w.typed k (bound_writes v W) (all_writes P X fs xs s v W [] s.bound refl refl h a)))
        ∙ ap (λ cs. den g j (term_changed f cs) (record s { bound = xs })) (writes_are v W)
        ∙ all_true v W s.bound o (term_changed f (to_bound_values W)) s t

    -- the values that variables have in a state
    abbrev pub values_at : State → Located → Value
    values_at q w = read g.types (memory_of q w.0) w.1.variable w.1.ty

    pub have_types : (q : State) (W : List Located) → AreLocated d W → AreOf (values_at q) W
    have_types q [] h = tt
    have_types q (w ∷ W) h = (read_has d g fits w.1.variable w.1.ty (whole_type d w.1.variable (frame_of d w.0) w.1.ty h.0.1) h.0.2 (memory_of q w.0), have_types q W h.1)

    -- the writes, memory by memory
    written_append : (q : State) (V W : List Located) (s : State) → all_written g s (bound_writes (values_at q) (V ++ W)) ≡ all_written g (all_written g s (bound_writes (values_at q) W)) (bound_writes (values_at q) V)
    written_append q [] W s = refl
    written_append q (w ∷ V) W s = ap (λ o. with_side o w.0 (write g.types (memory_of o w.0) w.1.variable (values_at q w))) (written_append q V W s)

    pub written_in : (q : State) (r : Side) → IsSide r → (W : List TypedVariable) (s : State) →
        all_written g s (bound_writes (values_at q) (in_memory r W)) ≡ with_side s r (overwritten g.types W (memory_of q r) (memory_of s r))
    written_in q r i [] s = sym (with_side_itself s r)
    written_in q r i (w ∷ W) s =
        let v : Value = read g.types (memory_of q r) w.variable w.ty in
        let m : Memory = overwritten g.types W (memory_of q r) (memory_of s r) in
        ap (λ o. with_side o r (write g.types (memory_of o r) w.variable v)) (written_in q r i W s)
        ∙ ap (λ z. with_side (with_side s r m) r (write g.types z w.variable v)) (placed s r i m)
        ∙ with_side_twice s r i m (write g.types m w.variable v)

    located_in : (r : Side) (W : List TypedVariable) → AreLocated d (in_memory r W) → AreIn d (frame_of d r) W
    located_in r [] h = tt
    located_in r (w ∷ W) h = ((h.0.1, h.0.2), located_in r W h.1)

    alone_in : (P : Readable) (r : Side) (W : List TypedVariable) → AreAlone g P (in_memory r W) → AllByRecursion (λ w. IsAlone g w.variable (P r)) W
    alone_in P r [] h = tt
    alone_in P r (w ∷ W) h = (h.0, alone_in P r W h.1)

    parts_of : (Q : Located → Type 0) (V W : List Located) → AllByRecursion Q (V ++ W) → AllByRecursion Q V × AllByRecursion Q W
    parts_of Q [] W h = (tt, h)
    parts_of Q (w ∷ V) W h = let k = parts_of Q V W h.1 in ((h.0, k.0), k.1)

    module _ (P : Readable) (f : Term) (w : IsForm d f) (k : IsWithin (reading P) f) (s : State) (fit : IsStateOf d g s) where
      -- in one memory
      all_ends_one : (r : Side) → IsSide r → (U : List Var) (W : List TypedVariable) → Covers g (P r) U W → AreLocated d (in_memory r W) → AreAlone g P (in_memory r W) → den g j (all_values (in_memory r W) f) s ≡ true → (n : Memory) →
          DifferIn g.types U (memory_of s r) n → den g j f (with_side s r n) ≡ true
      all_ends_one r i U W o h a t n e =
          let q = with_side s r n in
          frame_form d g fits r i P U W o (alone_in P r W a) (located_in r W h) (memory_of s r) n e j fair f w k s
          ∙ ap (λ m. den g j f (with_side s r (overwritten g.types W m (memory_of s r)))) (sym (placed s r i n))
          ∙ ap (den g j f) (sym (written_in q r i W s))
          ∙ all_given P (in_memory r W) h a f w k s fit (values_at q) (have_types q (in_memory r W) h) t

      -- in both sides
      all_ends_two : (T U : List Var) (V W : List TypedVariable) → Covers g (P side.Left) T V → Covers g (P side.Right) U W → AreLocated d (in_memory side.Left V ++ in_memory side.Right W) → AreAlone g P (in_memory side.Left V ++ in_memory side.Right W) →
          den g j (all_values (in_memory side.Left V ++ in_memory side.Right W) f) s ≡ true → (m n : Memory) → DifferIn g.types T s.left m → DifferIn g.types U s.right n →
          den g j f (between s m n) ≡ true
      all_ends_two T U V W o p h a t m n x y =
          let q = between s m n in
          let located = parts_of (λ w. IsSide w.0 × IsIn d (frame_of d w.0) w.1.variable w.1.ty × IsFinite w.1.ty) (in_memory side.Left V) (in_memory side.Right W) h in
          let alone = parts_of (λ w. IsAlone g w.1.variable (P w.0)) (in_memory side.Left V) (in_memory side.Right W) a in
          frame_form d g fits side.Right tt P U W p (alone_in P side.Right W alone.1) (located_in side.Right W located.1) s.right n y j fair f w k (between s m n)
          ∙ frame_form d g fits side.Left tt P T V o (alone_in P side.Left V alone.0) (located_in side.Left V located.0) s.left m x j fair f w k (between s m (overwritten g.types W n s.right))
          ∙ ap (den g j f) (sym (written_append q (in_memory side.Left V) (in_memory side.Right W) s
          ∙ ap (λ o. all_written g o (bound_writes (values_at q) (in_memory side.Left V))) (written_in q side.Right tt W s)
          ∙ written_in q side.Left tt V (record s { right = overwritten g.types W n s.right })))
          ∙ all_given P (in_memory side.Left V ++ in_memory side.Right W) h a f w k s fit (values_at q) (have_types q (in_memory side.Left V ++ in_memory side.Right W) h) t

-- The same in the context of a goal.

module _ (c : Context) (outer : c ≡ outermost c) (F L K : Frame) (f : Term) (w : IsForm (reframed c F L K) f) where
  form_there : IsForm (reframed (outermost c) F L K) f
  form_there = subst (λ c. IsForm (reframed c F L K) f) outer w

  located_there : (W : List Located) → AreLocated (reframed c F L K) W → AreLocated (reframed (outermost c) F L K) W
  located_there W h = subst (λ c. AreLocated (reframed c F L K) W) outer h

  pub all_values_typed : (W : List Located) → AreLocated (reframed c F L K) W → IsForm (reframed c F L K) (all_values W f)
  all_values_typed W h = subst (λ c. IsForm (reframed c F L K) (all_values W f)) (sym outer) (all_typed c F L K W (located_there W h) f form_there)

  module _ (g : Setting) (fits : IsSettingOf c g) (j : Judge) (fair : IsFair g j) (P : Readable) (k : IsWithin (reading P) f) (s : State) (fit : IsStateOf (reframed c F L K) g s) where
    fits_there : IsSettingOf (reframed (outermost c) F L K) g
    fits_there = fits_reframed (outermost c) g (subst (λ c. IsSettingOf c g) outer fits) F L K

    state_there : IsStateOf (reframed (outermost c) F L K) g s
    state_there = subst (λ c. IsStateOf (reframed c F L K) g s) outer fit

    pub ends_in_one : (r : Side) → IsSide r → (U : List Var) (W : List TypedVariable) → Covers g (P r) U W → AreLocated (reframed c F L K) (in_memory r W) → AreAlone g P (in_memory r W) → den g j (all_values (in_memory r W) f) s ≡ true → (n : Memory) →
        DifferIn g.types U (memory_of s r) n → den g j f (with_side s r n) ≡ true
    ends_in_one r i U W o h a t n e = all_ends_one c F L K g fits_there j fair P f form_there k s state_there r i U W o (located_there (in_memory r W) h) a t n e

    pub ends_in_two : (T U : List Var) (V W : List TypedVariable) → Covers g (P side.Left) T V → Covers g (P side.Right) U W → AreLocated (reframed c F L K) (in_memory side.Left V ++ in_memory side.Right W) → AreAlone g P (in_memory side.Left V ++ in_memory side.Right W) →
        den g j (all_values (in_memory side.Left V ++ in_memory side.Right W) f) s ≡ true → (m n : Memory) → DifferIn g.types T s.left m → DifferIn g.types U s.right n → den g j f (between s m n) ≡ true
    ends_in_two T U V W o p h a t m n x y = all_ends_two c F L K g fits_there j fair P f form_there k s state_there T U V W o p (located_there (in_memory side.Left V ++ in_memory side.Right W) h) a t m n x y

    -- at the ends of a body
    pub ends_of_body : (U : List Var) (W : List TypedVariable) → Covers g (P side.Own) U W → AreLocated (reframed c F L K) (in_memory side.Own W) → AreAlone g P (in_memory side.Own W) → (m : Memory) → den g j (all_values (in_memory side.Own W) f) (at s m) ≡ true →
        (is : List Instr) → WritesWithin g U (statements g is) → Every (λ n. den g j f (at s n) ≡ true) (run g s is m)
    ends_of_body U W o h a m t is u =
        Every-weaken {P = DifferIn g.types U m} (run g s is m)
        (λ n e. all_ends_one c F L K g fits_there j fair P f form_there k (at s m) (record { logical = state_there.logical; bound = state_there.bound }) side.Own tt U W o (located_there (in_memory side.Own W) h) a t n e)
        (run_differs g s U (statements g is) u m)
