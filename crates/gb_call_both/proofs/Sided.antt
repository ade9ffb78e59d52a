-- Variables of both sides, in which bound values take their places: typing, and the memories that they lead to.
use Rattle.std.proofs.Common.{◌≡◌, ◌⊎◌, inl, inr, ◌&&◌, Bool, true, false, if◌then◌else◌, ℕ, List, [], ◌∷◌, ◌++◌, length, get_or, Some, None, refl, ap, sym, ◌∙◌, subst}
use Rattle.std.proofs.lemmas.Bool.{false≢true, and_parts}
use Rattle.std.proofs.lemmas.List.{map-append}
use Rattle.std.specs.List.{AllByRecursion}
use Rattle.gb_core.specs.declared.ty.Ty.{Ty}
use Rattle.gb_core.specs.declared.value.Value.{Value}
use Rattle.gb_core.specs.declared.value.Value.TheVariants.{Num}
use Rattle.gb_core.specs.declared.var.Var.{Var}
use Rattle.gb_terms.specs.declared.op.Side.{Side}
use Rattle.gb_terms.specs.declared.op.Side.TheVariants as side
use Rattle.gb_terms.specs.declared.op.Read.TheVariants.{Logical, Program}
use Rattle.gb_terms.specs.declared.term.Term.{Term}
use Rattle.gb_terms.specs.declared.term.Head.TheVariants as head
use Rattle.gb_terms.specs.Equal.{var_eq, side_eq}
use Rattle.gb_terms.proofs.Equality.{var_eq-Decides, side_eq-Decides}
use Rattle.gb_walk.specs.declared.change.Change.TheVariants.{ToTerm}
use Rattle.gb_walk.specs.Change.{or_later, term_changed, found_for_read}
use Rattle.gb_meaning.specs.Judgments.{Judge, IsFair, den}
use Rattle.gb_meaning.specs.Meanings.{truth}
use Rattle.gb_meaning.specs.Memory.{Memory, read, write}
use Rattle.gb_meaning.specs.Setting.{Setting}
use Rattle.gb_meaning.specs.Setting.Meaning.{finite}
use Rattle.gb_meaning.specs.State.{State, between, memory_of}
use Rattle.gb_laws.specs.Agree.{Agree}
use Rattle.gb_laws.specs.Uses.{Uses, IsWithin}
use Rattle.gb_laws.specs.Uses.Use.{read as reads, bound, globals, starts, binds_own, binds_sides}
use Rattle.gb_laws.specs.Written.{Written, with_side, written_changes, all_written}
use Rattle.gb_laws.proofs.Agreeing.{form_agrees}
use Rattle.gb_laws.specs.Finite.{IsFinite}
use Rattle.gb_laws.specs.Typing.{Binder, IsBoundAt}
use Rattle.gb_laws.specs.Typing.Binder.{value, program as module_binder}
use Rattle.gb_typing.specs.Changes.{Made}
use Rattle.gb_typing.specs.Context.{Context, Frame, frame_of, reframed}
use Rattle.gb_typing.specs.Fits.{IsSettingOf}
use Rattle.gb_typing.specs.Puts.{IsTypedPut, Readable, reading}
use Rattle.gb_typing.specs.Typing.{IsFrame, IsIn, IsForm}
use Rattle.gb_typing.proofs.Both.{both, within_both}
use Rattle.gb_typing.proofs.Fitting.{fits_reframed}
use Rattle.gb_typing.proofs.Formed.{formed}
use Rattle.gb_typing.proofs.Made.{made_node}
use Rattle.gb_typing.proofs.Quantified.{inside_all, typed_inside}
use Rattle.gb_typing.proofs.Sound.{procedures_sound, sound_form}
use Rattle.gb_typing.proofs.Substituted.{finite_no_distribution}
use Rattle.gb_typing.proofs.Uses.{reads_found, reads_in, uses_of, uses_typed}
use Rattle.gb_typing.specs.Rules.{outermost}
use Rattle.gb_prog.specs.AllValues.{Located, in_memory, to_bound_values, AreLocated}
use Rattle.gb_prog.specs.Writes.{TypedVariable, overwritten, IsOneOf}
use Rattle.gb_prog.proofs.AllValues.{pushed, pushed_here, binder_of, bound_term, bound_plain, bound_writes, writes_are, all_puts}
use Rattle.gb_call.proofs.After.{all_append, one_type}
use Rattle.gb_call.proofs.Replaced.{ArePlaced, Replaces, replaced_typed, sides_here, sides_variables}

-- those in this memory
abbrev pub of_side : Side → List Located → List TypedVariable
of_side r [] = []
of_side r (w ∷ W) = if side_eq w.0 r then w.1 ∷ of_side r W else of_side r W

abbrev pub IsOnSide : Side → Type 0
IsOnSide side.Left = Unit {0}
IsOnSide side.Right = Unit {0}
IsOnSide _ = ⊥

abbrev pub AreOnSides : List Located → Type 0
AreOnSides W = AllByRecursion (λ w. IsOnSide w.0) W

pub left_only : (W V : List TypedVariable) → of_side side.Left (in_memory side.Left W ++ in_memory side.Right V) ≡ W
left_only [] [] = refl
left_only [] (v ∷ V) = left_only [] V
left_only (w ∷ W) V = ap (λ l. w ∷ l) (left_only W V)

pub right_only : (W V : List TypedVariable) → of_side side.Right (in_memory side.Left W ++ in_memory side.Right V) ≡ V
right_only [] [] = refl
right_only [] (v ∷ V) = ap (λ l. v ∷ l) (right_only [] V)
right_only (w ∷ W) V = right_only W V

pub globals_on_sides : (W V : List TypedVariable) → AreOnSides (in_memory side.Left W ++ in_memory side.Right V)
globals_on_sides [] [] = tt
globals_on_sides [] (v ∷ V) = (tt, globals_on_sides [] V)
globals_on_sides (w ∷ W) V = (tt, globals_on_sides W V)

side_puts : (W : List Located) → AreOnSides W → ArePlaced (to_bound_values W)
side_puts [] h = tt
side_puts ((side.Left, w) ∷ W) h = (tt, side_puts W h.1)
side_puts ((side.Right, w) ∷ W) h = (tt, side_puts W h.1)
side_puts ((side.Own, w) ∷ W) h = absurd h.0
side_puts ((side.Memory k, w) ∷ W) h = absurd h.0
side_puts ((side.Bound k, w) ∷ W) h = absurd h.0

pub pushed_append : {A : Type 0} (f : Located → A) (V W : List Located) (xs : List A) → pushed f (V ++ W) xs ≡ pushed f W (pushed f V xs)
pushed_append f [] W xs = refl
pushed_append f (v ∷ V) W xs = pushed_append f V W (f v ∷ xs)

-- Typing.

module _ (b : Context) (E F G H : Frame) (X : List Binder) (fs : List Frame) where
  abbrev source : Context
  source = reframed (outermost b) None E F

  abbrev target : Context
  target = inside_all b None G H X fs

  module _ (r : Side) (x : Var) (t : Ty) where
    bound_replaces : (k : ℕ) (u : Ty) → IsFinite u → get_or X k module_binder ≡ value u → u ≡ t → Replaces b None E F None G H X fs r x t (Some (bound_term k u))
    bound_replaces k u h e i = (
      bound_plain k u,
      λ f l q p. subst (λ z. Made (reframed target f l q) z (bound_term k u)) i
          (made_node (reframed target f l q) (head.Bound k) [] [] u (subst (λ z. IsBoundAt z u) (sym e) (finite_no_distribution u h, refl)) tt [] tt),
    )

    abbrev SameType : Located → Type 0
    SameType w = w.0 ≡ r → w.1.variable ≡ x → w.1.ty ≡ t

    replaced_in : (W : List Located) (bs : List Binder) → X ≡ pushed binder_of W bs → AllByRecursion (λ w. IsFinite w.1.ty) W → AllByRecursion SameType W →
        IsOneOf x (of_side r W) ⊎ IsIn target (frame_of target r) x t → Replaces b None E F None G H X fs r x t (found_for_read (to_bound_values W) (Program x r))
    replaced_in [] bs e h k (inl o) = absurd o
    replaced_in [] bs e h k (inr i) = i
    replaced_in (w ∷ W) bs e h k o = by_test (var_eq w.1.variable x) refl (side_eq w.0 r) refl (λ z. replaced_in W (value w.1.ty ∷ bs) e h.1 k.1 z) o
      where
        by_test : (c : Bool) → var_eq w.1.variable x ≡ c → (d : Bool) → side_eq w.0 r ≡ d →
            (IsOneOf x (of_side r W) ⊎ IsIn target (frame_of target r) x t → Replaces b None E F None G H X fs r x t (found_for_read (to_bound_values W) (Program x r))) →
            IsOneOf x (if d then w.1 ∷ of_side r W else of_side r W) ⊎ IsIn target (frame_of target r) x t →
            Replaces b None E F None G H X fs r x t (or_later (c && d) (bound_term (length W) w.1.ty) (found_for_read (to_bound_values W) (Program x r)))
        by_test true i true j go o =
            bound_replaces (length W) w.1.ty h.0 (ap (λ (l : List Binder). get_or l (length W) module_binder) e ∙ pushed_here binder_of w W bs module_binder)
            (k.0 ((side_eq-Decides w.0 r).0 j) ((var_eq-Decides w.1.variable x).0 i))
        by_test true i false j go o = go o
        by_test false i false j go o = go o
        by_test false i true j go (inr v) = go (inr v)
        by_test false i true j go (inl (inr v)) = go (inl v)
        by_test false i true j go (inl (inl v)) = absurd (false≢true (sym i ∙ (var_eq-Decides w.1.variable x).1 v))

    same_types : IsIn source (frame_of source r) x t → (W : List Located) → AreLocated source W → AllByRecursion SameType W
    same_types i [] h = tt
    same_types i (w ∷ W) h = (
      (λ p e. one_type source (frame_of source r) x w.1.ty t (subst (λ z. z) (λ k. IsIn source (frame_of source (p k)) (e k) w.1.ty) h.0.1) i),
      same_types i W h.1,
    )

  finite_types : (W : List Located) → AreLocated source W → AllByRecursion (λ w. IsFinite w.1.ty) W
  finite_types [] h = tt
  finite_types (w ∷ W) h = (h.0.2, finite_types W h.1)

  -- each variable that may stand in the form is one of these, or stands in the other memories too
  pub sided_typed : (W : List Located) → X ≡ pushed binder_of W [] → AreOnSides W → AreLocated source W → (IsFrame E → IsFrame G) → (IsFrame F → IsFrame H) →
      ((x : Var) (t : Ty) → IsIn source E x t → IsOneOf x (of_side side.Left W) ⊎ IsIn target G x t) →
      ((x : Var) (t : Ty) → IsIn source F x t → IsOneOf x (of_side side.Right W) ⊎ IsIn target H x t) →
      (f : Term) → IsForm source f → IsForm target (term_changed f (to_bound_values W))
  sided_typed W e s l left_here right_here on_left on_right f w =
      replaced_typed b None E F None G H X fs (to_bound_values W) (side_puts W s) (sides_here b E F G H X fs left_here right_here)
      (sides_variables b E F G H X fs (λ r x t. Replaces b None E F None G H X fs r x t (found_for_read (to_bound_values W) (Program x r)))
      (λ x t k. replaced_in side.Left x t W [] e (finite_types W l) (same_types side.Left x t k W l) (on_left x t k))
      (λ x t k. replaced_in side.Right x t W [] e (finite_types W l) (same_types side.Right x t k W l) (on_right x t k))) f w

-- with further terms in place of variables, and values that are bound innermost
pub values_typed : (b : Context) (G H : Frame) (X : List Binder) (fs : List Frame) (W : List Located) (bs : List Binder) → X ≡ pushed binder_of W bs → AreLocated (reframed (outermost b) None G H) W →
    (us : List Written) → AllByRecursion (IsTypedPut (inside_all b None G H X fs)) us → (q : Term) → IsForm (reframed (outermost b) None G H) q →
    IsForm (inside_all b None G H X fs) (term_changed q (written_changes us ++ to_bound_values W))
values_typed b G H X fs W bs e l us h q w =
    let vs = bound_writes no_value W in
    let m = typed_inside b None G H X fs q w.typed (us ++ vs) (all_append (IsTypedPut (inside_all b None G H X fs)) us vs h (all_puts b None G H X fs no_value W bs e l)) in
    subst (λ cs. IsForm (inside_all b None G H X fs) (term_changed q cs))
    (map-append (λ (w : Written). ToTerm (Program w.variable w.side) w.term) us vs ∙ ap (λ cs. written_changes us ++ cs) (writes_are no_value W))
    (record { typed = m.typed; truth = m.written ∙ w.truth })
  where
    no_value : Located → Value
    no_value w = Num 0

-- Memories.

-- the memories after the writes of the values that two other ones have
pub written_sides : (g : Setting) (s : State) (m n o p : Memory) (W : List Located) → AreOnSides W →
    all_written g (between s m n) (bound_writes (λ w. read g.types (memory_of (between s o p) w.0) w.1.variable w.1.ty) W)
    ≡ between s (overwritten g.types (of_side side.Left W) o m) (overwritten g.types (of_side side.Right W) p n)
written_sides g s m n o p [] h = refl
written_sides g s m n o p ((side.Left, w) ∷ W) h = ap (λ q. with_side q side.Left (write g.types (memory_of q side.Left) w.variable (read g.types o w.variable w.ty))) (written_sides g s m n o p W h.1)
written_sides g s m n o p ((side.Right, w) ∷ W) h = ap (λ q. with_side q side.Right (write g.types (memory_of q side.Right) w.variable (read g.types p w.variable w.ty))) (written_sides g s m n o p W h.1)
written_sides g s m n o p ((side.Own, w) ∷ W) h = absurd h.0
written_sides g s m n o p ((side.Memory k, w) ∷ W) h = absurd h.0
written_sides g s m n o p ((side.Bound k, w) ∷ W) h = absurd h.0

-- A form says the same of two pairs of memories in which the variables read the same that it may read.
module _ (b : Context) (G H : Frame) (g : Setting) (fits : IsSettingOf (outermost b) g) (j : Judge) (fair : IsFair g j) (P : Readable) (s : State) (m n o p : Memory)
    (left_same : (y : Var) (t : Ty) → IsIn (reframed (outermost b) None G H) G y t → P side.Left y ≡ true → read g.types m y t ≡ read g.types o y t)
    (right_same : (y : Var) (t : Ty) → IsIn (reframed (outermost b) None G H) H y t → P side.Right y ≡ true → read g.types n y t ≡ read g.types p y t) where
  abbrev c : Context
  c = reframed (outermost b) None G H

  abbrev used : Uses
  used = both (uses_of c) (reading P)

  agree : Agree g used (between s m n) (between s o p)
  agree (reads (Logical i) t) k = refl
  agree (reads (Program y side.Own) t) k = refl
  agree (reads (Program y side.Left) t) k = let z = and_parts (reads_in c G y t) (P side.Left y) k in ap finite (left_same y t (reads_found c G y t z.0) z.1)
  agree (reads (Program y side.Right) t) k = let z = and_parts (reads_in c H y t) (P side.Right y) k in ap finite (right_same y t (reads_found c H y t z.0) z.1)
  agree (reads (Program y (side.Memory i)) t) k = refl
  agree (reads (Program y (side.Bound i)) t) k = refl
  agree (bound i) k = refl
  agree (globals x r) k = absurd (false≢true k)
  agree (starts side.Own) k = refl
  agree (starts side.Left) k = absurd (false≢true k)
  agree (starts side.Right) k = absurd (false≢true k)
  agree (starts (side.Memory i)) k = refl
  agree (starts (side.Bound i)) k = refl
  agree binds_own k = tt
  agree binds_sides k = tt

  pub same_form : (f : Term) → IsForm c f → IsWithin (reading P) f → den g j f (between s m n) ≡ den g j f (between s o p)
  same_form f w k =
      ap truth (form_agrees g j fair f (formed c f w.typed) (sound_form g c (procedures_sound c g (fits_reframed (outermost b) g fits None G H)) f w.typed) used (between s m n) (between s o p) agree
      (within_both (uses_of c) (reading P) f (uses_typed c f w.typed) k))
