-- A form is true at an end of a run where it is true at the start, with the values of the written variables at the end.
use Rattle.std.proofs.Common.{◌≡◌, ℕ, ◌⊎◌, inl, inr, ◌&&◌, Bool, true, false, if◌then◌else◌, List, [], ◌∷◌, get_or, Option, Some, None, refl, ap, sym, ◌∙◌, subst}
use Rattle.std.proofs.lemmas.Bool.{false≢true, and_parts}
use Rattle.std.specs.List.{AllByRecursion}
use Rattle.gb_core.specs.declared.ty.Ty.{Ty}
use Rattle.gb_core.specs.declared.var.Var.{Var}
use Rattle.gb_core.specs.declared.var.Var.TheVariants as var
use Rattle.gb_terms.specs.declared.op.Side.{Side}
use Rattle.gb_terms.specs.declared.op.Side.TheVariants as side
use Rattle.gb_terms.specs.declared.op.Read.TheVariants.{Logical, Program}
use Rattle.gb_terms.specs.declared.term.Term.{Term}
use Rattle.gb_terms.specs.Equal.{var_eq}
use Rattle.gb_terms.proofs.Equality.{var_eq-Decides}
use Rattle.gb_meaning.specs.Memory.{Memory, read, write}
use Rattle.gb_meaning.specs.Meanings.{truth}
use Rattle.gb_meaning.specs.Setting.{Setting, Meaning}
use Rattle.gb_meaning.specs.Setting.Meaning.{finite}
use Rattle.gb_meaning.specs.State.{State, memory_of, meaning_in}
use Rattle.gb_meaning.specs.State.Binding.{program}
use Rattle.gb_meaning.specs.Values.{has}
use Rattle.gb_meaning.specs.Judgments.{Judge, IsFair, den}
use Rattle.gb_laws.specs.Agree.{Agree}
use Rattle.gb_laws.specs.Uses.{Uses, IsWithin}
use Rattle.gb_laws.specs.Uses.Use.{read as reads, bound, globals, starts, binds_own, binds_sides}
use Rattle.gb_laws.specs.Written.{IsSide, with_side}
use Rattle.gb_laws.proofs.Agreeing.{form_agrees}
use Rattle.gb_laws.specs.Finite.{IsFinite}
use Rattle.gb_laws.proofs.Sizes.{fit_in, glob_in}
use Rattle.gb_typing.specs.Context.{Context, Frame, frame_of}
use Rattle.gb_typing.specs.Typing.{IsIn, IsForm}
use Rattle.gb_typing.specs.Fits.{IsSettingOf}
use Rattle.gb_typing.specs.Puts.{Readable, reading}
use Rattle.gb_typing.proofs.Both.{both, within_both}
use Rattle.gb_typing.proofs.Clashes.{left_of_no_clash}
use Rattle.gb_typing.proofs.Formed.{formed}
use Rattle.gb_typing.proofs.Globals.{IsWholeAt, read_back}
use Rattle.gb_typing.proofs.Sound.{procedures_sound, sound_form}
use Rattle.gb_typing.proofs.Uses.{is_frame, is_place, reads_found, reads_in, uses_of, uses_typed}
use Rattle.gb_typing.specs.Forms.{IsAlone}
use Rattle.gb_prog.specs.Writes.{DifferIn, IsApart, TypedVariable, variables, overwritten, AreIn, IsOneOf, Covers, read_among}
use Rattle.gb_prog.proofs.Writes.{apart_read}

-- all globals of a module are read at their type
pub whole_type : (c : Context) (x : Var) (f : Frame) (t : Ty) → IsIn c f x t → IsWholeAt x t
whole_type c (var.Glob a) f t w = w.2
whole_type c (var.Global m x) f t w = tt
whole_type c (var.Local x) f t w = tt

-- States that differ in one memory.

pub placed : (s : State) (r : Side) → IsSide r → (m : Memory) → memory_of (with_side s r m) r ≡ m
placed s side.Own i m = refl
placed s side.Left i m = refl
placed s side.Right i m = refl
placed s (side.Memory k) i m = absurd i
placed s (side.Bound k) i m = absurd i

nearby : (s : State) (r : Side) → IsSide r → (a b : Memory) (o : Side) → (o ≡ r) ⊎ (memory_of (with_side s r a) o ≡ memory_of (with_side s r b) o)
nearby s side.Own i a b side.Own = inl refl
nearby s side.Own i a b side.Left = inr refl
nearby s side.Own i a b side.Right = inr refl
nearby s side.Own i a b (side.Memory k) = inr refl
nearby s side.Own i a b (side.Bound k) = inr refl
nearby s side.Left i a b side.Own = inr refl
nearby s side.Left i a b side.Left = inl refl
nearby s side.Left i a b side.Right = inr refl
nearby s side.Left i a b (side.Memory k) = inr refl
nearby s side.Left i a b (side.Bound k) = inr refl
nearby s side.Right i a b side.Own = inr refl
nearby s side.Right i a b side.Left = inr refl
nearby s side.Right i a b side.Right = inl refl
nearby s side.Right i a b (side.Memory k) = inr refl
nearby s side.Right i a b (side.Bound k) = inr refl
nearby s (side.Memory n) i a b o = absurd i
nearby s (side.Bound n) i a b o = absurd i

logical_same : (s : State) (r : Side) (a b : Memory) → (with_side s r a).logical ≡ (with_side s r b).logical
logical_same s side.Own a b = refl
logical_same s side.Left a b = refl
logical_same s side.Right a b = refl
logical_same s (side.Memory k) a b = refl
logical_same s (side.Bound k) a b = refl

bound_same : (s : State) (r : Side) (a b : Memory) → (with_side s r a).bound ≡ (with_side s r b).bound
bound_same s side.Own a b = refl
bound_same s side.Left a b = refl
bound_same s side.Right a b = refl
bound_same s (side.Memory k) a b = refl
bound_same s (side.Bound k) a b = refl

no_place : {P : Type 0} (r : Side) → IsSide r → (b : Bool) → (is_place r && b) ≡ true → P
no_place side.Own i b e = absurd (false≢true e)
no_place side.Left i b e = absurd (false≢true e)
no_place side.Right i b e = absurd (false≢true e)
no_place (side.Memory k) i b e = absurd i
no_place (side.Bound k) i b e = absurd i

-- Variables with which no other one that may be read clashes cover themselves; those of them that may be read cover all.
module _ (g : Setting) (P : Var → Bool) where
  abbrev AreAlone : List TypedVariable → Type 0
  AreAlone W = AllByRecursion (λ w. IsAlone g w.variable P) W

  pub covers_all : (W : List TypedVariable) → AreAlone W → Covers g P (variables W) W
  covers_all [] a y p = inl tt
  covers_all (w ∷ W) a y p = by_test (var_eq w.variable y) refl (covers_all W a.1 y p)
    where
      by_test : (b : Bool) → var_eq w.variable y ≡ b → IsApart g (variables W) y ⊎ IsOneOf y W → IsApart g (variables (w ∷ W)) y ⊎ IsOneOf y (w ∷ W)
      by_test true e r = inr (inl ((var_eq-Decides w.variable y).0 e))
      by_test false e (inl h) = inl (a.0 y p (λ z. false≢true (sym e ∙ (var_eq-Decides w.variable y).1 z)), h)
      by_test false e (inr h) = inr (inr h)

  is_read : (W : List TypedVariable) (y : Var) → P y ≡ true → IsOneOf y W → IsOneOf y (read_among P W)
  is_read [] y p h = absurd h
  is_read (w ∷ W) y p h = by_test (P w.variable) refl h (is_read W y p)
    where
      by_test : (b : Bool) → P w.variable ≡ b → IsOneOf y (w ∷ W) → (IsOneOf y W → IsOneOf y (read_among P W)) → IsOneOf y (if b then w ∷ read_among P W else read_among P W)
      by_test true e (inl k) go = inl k
      by_test true e (inr k) go = inr (go k)
      by_test false e (inl k) go = absurd (false≢true (sym e ∙ ap P k ∙ p))
      by_test false e (inr k) go = go k

  pub covers_read : (W : List TypedVariable) → AreAlone W → Covers g P (variables W) (read_among P W)
  covers_read W a y p = elim (covers_all W a y p) [ inl h ↦ inl h | inr h ↦ inr (is_read W y p h) ]

module _ (c : Context) (g : Setting) (fits : IsSettingOf c g) where
  -- a variable is read as a value of its type
  pub read_has : (x : Var) (u : Ty) → IsWholeAt x u → IsFinite u → (m : Memory) → has g.types u (read g.types m x u) ≡ true
  read_has (var.Global p n) u w f m = fit_in g.types fits.types.inhabited u f _
  read_has (var.Local x) u w f m = fit_in g.types fits.types.inhabited u f _
  read_has (var.Glob a) u w f m = subst (λ u. has g.types u (read g.types m (var.Glob a) u) ≡ true) (sym w) (glob_in g.types fits.types.inhabited m a)

  some_type : {t u : Ty} → Some t ≡ Some u → t ≡ u
  some_type {t} {u} e = ap (λ o. or_else o) e
    where
      or_else : Option Ty → Ty
      or_else None = t
      or_else (Some z) = z

  one_type : (f : Frame) (x : Var) (t u : Ty) → IsIn c f x t → IsIn c f x u → t ≡ u
  one_type f (var.Local x) t u a b = some_type (sym a ∙ b)
  one_type f (var.Global m x) t u a b = some_type (sym a.1 ∙ b.1)
  one_type f (var.Glob m) t u a b = a.2 ∙ sym b.2

  module _ (f : Frame) (P : Var → Bool) (n : Memory) (y : Var) (t : Ty) (i : IsIn c f y t) (p : P y ≡ true) where
    -- after the writes of values that n has, y reads as in n
    pub reads_as : (W : List TypedVariable) → AreAlone g P W → AreIn c f W → (m : Memory) → (read g.types m y t ≡ read g.types n y t) ⊎ IsOneOf y W →
        read g.types (overwritten g.types W n m) y t ≡ read g.types n y t
    reads_as [] a k m (inl e) = e
    reads_as [] a k m (inr h) = absurd h
    reads_as (w ∷ W) a k m r = by_test (var_eq w.variable y) refl r (λ r. reads_as W a.1 k.1 m r)
      where
        same : w.variable ≡ y → read g.types (write g.types (overwritten g.types W n m) w.variable (read g.types n w.variable w.ty)) y t ≡ read g.types n y t
        same e =
            let u : w.ty ≡ t = one_type f y w.ty t (subst (λ x. IsIn c f x w.ty) e k.0.0) i in
            subst (λ z. z) (λ j. read g.types (write g.types (overwritten g.types W n m) w.variable (read g.types n w.variable w.ty)) (e j) (u j) ≡ read g.types n (e j) (u j))
            (read_back g.types fits.types.inhabited fits.once w.variable w.ty (whole_type c w.variable f w.ty k.0.0) (overwritten g.types W n m) (read g.types n w.variable w.ty)
            (read_has w.variable w.ty (whole_type c w.variable f w.ty k.0.0) k.0.1 n))

        left : var_eq w.variable y ≡ false → read g.types (write g.types (overwritten g.types W n m) w.variable (read g.types n w.variable w.ty)) y t ≡ read g.types (overwritten g.types W n m) y t
        left e = left_of_no_clash g w.variable y t (a.0 y p (λ z. false≢true (sym e ∙ (var_eq-Decides w.variable y).1 z))) (overwritten g.types W n m) (read g.types n w.variable w.ty)

        by_test : (b : Bool) → var_eq w.variable y ≡ b → (read g.types m y t ≡ read g.types n y t) ⊎ IsOneOf y (w ∷ W) →
            ((read g.types m y t ≡ read g.types n y t) ⊎ IsOneOf y W → read g.types (overwritten g.types W n m) y t ≡ read g.types n y t) →
            read g.types (write g.types (overwritten g.types W n m) w.variable (read g.types n w.variable w.ty)) y t ≡ read g.types n y t
        by_test true e r go = same ((var_eq-Decides w.variable y).0 e)
        by_test false e (inl h) go = left e ∙ go (inl h)
        by_test false e (inr (inl h)) go = same h
        by_test false e (inr (inr h)) go = left e ∙ go (inr h)

    -- memories that differ in covered variables alone
    pub frame_read : (U : List Var) (W : List TypedVariable) → IsApart g U y ⊎ IsOneOf y W → AreAlone g P W → AreIn c f W → (m : Memory) → DifferIn g.types U m n →
        read g.types n y t ≡ read g.types (overwritten g.types W n m) y t
    frame_read U W o a k m d = sym (reads_as W a k m (start o))
      where
        start : IsApart g U y ⊎ IsOneOf y W → (read g.types m y t ≡ read g.types n y t) ⊎ IsOneOf y W
        start (inl h) = inl (sym (apart_read g U m n d y t h))
        start (inr h) = inr h

  module _ (r : Side) (is_side : IsSide r) (P : Readable) (U : List Var) (W : List TypedVariable) (covers : Covers g (P r) U W) (alone : AllByRecursion (λ w. IsAlone g w.variable (P r)) W)
      (typed : AreIn c (frame_of c r) W) (m n : Memory) (d : DifferIn g.types U m n) where
    abbrev used : Uses
    used = both (uses_of c) (reading P)

    here : (y : Var) (t : Ty) → used (reads (Program y r) t) ≡ true → read g.types n y t ≡ read g.types (overwritten g.types W n m) y t
    here y t k = let z = and_parts (reads_in c (frame_of c r) y t) (P r y) k in frame_read (frame_of c r) (P r) n y t (reads_found c (frame_of c r) y t z.0) z.1 U W (covers y z.1) alone typed m d

    agree : (s : State) → Agree g used (with_side s r n) (with_side s r (overwritten g.types W n m))
    agree s (reads (Logical i) t) k = ap (λ (f : ℕ → Meaning). f i) (logical_same s r n (overwritten g.types W n m))
    agree s (reads (Program y o) t) k = by_side (nearby s r is_side n (overwritten g.types W n m) o) k
      where
        by_side : (o ≡ r) ⊎ (memory_of (with_side s r n) o ≡ memory_of (with_side s r (overwritten g.types W n m)) o) → used (reads (Program y o) t) ≡ true →
            finite (read g.types (memory_of (with_side s r n) o) y t) ≡ finite (read g.types (memory_of (with_side s r (overwritten g.types W n m)) o) y t)
        by_side (inl e) k =
            ap (λ m. finite (read g.types m y t)) (ap (memory_of (with_side s r n)) e ∙ placed s r is_side n)
            ∙ ap finite (here y t (subst (λ o. used (reads (Program y o) t) ≡ true) e k))
            ∙ sym (ap (λ m. finite (read g.types m y t)) (ap (memory_of (with_side s r (overwritten g.types W n m))) e ∙ placed s r is_side (overwritten g.types W n m)))
        by_side (inr e) k = ap (λ m. finite (read g.types m y t)) e
    agree s (bound i) k = ap (λ bs. meaning_in (get_or bs i program)) (bound_same s r n (overwritten g.types W n m))
    agree s (globals x o) k = absurd (false≢true k)
    agree s (starts o) k = by_side (nearby s r is_side n (overwritten g.types W n m) o)
      where
        by_side : (o ≡ r) ⊎ (memory_of (with_side s r n) o ≡ memory_of (with_side s r (overwritten g.types W n m)) o) →
            memory_of (with_side s r n) o ≡ memory_of (with_side s r (overwritten g.types W n m)) o
        by_side (inl e) = absurd (no_place r is_side (is_frame (frame_of c r)) (and_parts _ _ (subst (λ o. used (starts o) ≡ true) e k)).0)
        by_side (inr e) = e
    agree s binds_own k = tt
    agree s binds_sides k = tt

    pub frame_form : (j : Judge) → IsFair g j → (q : Term) → IsForm c q → IsWithin (reading P) q → (s : State) →
        den g j q (with_side s r n) ≡ den g j q (with_side s r (overwritten g.types W n m))
    frame_form j fair q w k s =
        ap truth (form_agrees g j fair q (formed c q w.typed) (sound_form g c (procedures_sound c g fits) q w.typed) used (with_side s r n) (with_side s r (overwritten g.types W n m)) (agree s)
        (within_both (uses_of c) (reading P) q (uses_typed c q w.typed) k))
