-- What well-typed terms use.
use Rattle.std.proofs.Common.{◌≡◌, ℕ, zero, suc, ◌⊎◌, inl, inr, true, false, Bool, ◌&&◌, List, [], ◌∷◌, Option, Some, None, refl, ap, ◌∙◌}
use Rattle.std.proofs.lemmas.Bool.{false≢true, and_parts}
use Rattle.gb_core.specs.declared.ty.Ty.{Ty}
use Rattle.gb_core.specs.declared.ty.Ty.TheVariants as ty
use Rattle.gb_core.specs.declared.var.Var.{Var}
use Rattle.gb_core.specs.declared.var.Var.TheVariants as var
use Rattle.gb_terms.specs.declared.decl.TypedName.{TypedName}
use Rattle.gb_terms.specs.declared.op.Side.{Side}
use Rattle.gb_terms.specs.declared.op.Side.TheVariants as side
use Rattle.gb_terms.specs.declared.op.Read.{Read}
use Rattle.gb_terms.specs.declared.op.Read.TheVariants.{Logical, Program}
use Rattle.gb_terms.specs.declared.term.Term.{Term, Term', Row_of-Term, end_of-Term, more_of-Term, end_of-Head, more_of-Head}
use Rattle.gb_terms.specs.declared.term.Subject.{Subject}
use Rattle.gb_terms.specs.declared.term.Head.{Head}
use Rattle.gb_terms.specs.declared.term.Head.TheVariants as head
use Rattle.gb_terms.specs.declared.term.Head.TheVariants.{Proc, Body'}
use Rattle.gb_meaning.specs.Operators.{outcome_type}
use Rattle.gb_core.specs.SameTypes.{ty_eq}
use Rattle.gb_core.proofs.SameTypes.{ty_eq-Decides}
use Rattle.gb_laws.specs.Plain.{HeadIsPlain, IsPlain, AllPlain}
use Rattle.gb_laws.specs.Uses.{Uses, beneath, under_own, under_sides, besides_own, besides_sides, every_use, SubjectIsWithin, HeadIsWithin, IsWithin, AreWithin}
use Rattle.gb_laws.specs.Uses as uses
use Rattle.gb_laws.specs.Uses.Use.{read, bound, globals, starts, binds_own, binds_sides}
use Rattle.gb_laws.specs.Typing.{Binder, types_of, IsBoundAt, IsHead}
use Rattle.gb_laws.specs.Typing.Binder.{value, index, memory, program}
use Rattle.gb_typing.specs.Context.{Frame, Context, erased, frame_of, local_in, with_own, with_sides, within}
use Rattle.gb_typing.specs.Changes.{binder}
use Rattle.gb_typing.specs.Typing.{IsFrame, IsIn, IsPlace, IsThere, procedure_in, IsNamed, first, middle, last, IsTyped, AreTyped}
use mathlib.Core.Former.{Count}

-- nothing stands in a memory that there isn't
pub nothing_in : (c : Context) (x : Var) (ty : Ty) → IsIn c None x ty → ⊥
nothing_in c (var.Local x) ty e = false≢true (ap is_some e)
  where
    is_some : Option Ty → Bool
    is_some None = false
    is_some (Some t) = true
nothing_in c (var.Global m x) ty e = e.0
nothing_in c (var.Glob m) ty e = e.0

-- All that a typed term may use is among these uses; that memories are bound in it is, where B is true.
pub record Admits (B : Bool) (K : Uses) (c : Context) : Type 0 where
  pub reads : (r : Read) (ty : Ty) → IsNamed c (head.Read r) ty → K (read r ty) ≡ true
  pub bounds : (i : ℕ) (ty : Ty) → IsBoundAt (binder c i) ty → K (bound i) ≡ true
  pub places : (r : Side) → IsFrame (frame_of c r) → IsPlace r → K (starts r) ≡ true
  pub own : B ≡ true → K binds_own ≡ true
  pub sides : B ≡ true → K binds_sides ≡ true

module _ (B : Bool) (K : Uses) (c : Context) (a : Admits B K c) where
  reads_under : (b : Binder) (f : Frame) (r : Read) (ty : Ty) → IsNamed (within c b f) (head.Read r) ty → beneath K (read r ty) ≡ true
  reads_under b f (Logical i) ty s = a.reads (Logical i) ty s
  reads_under b f (Program (var.Local x) side.Own) ty s = a.reads (Program (var.Local x) side.Own) ty s
  reads_under b f (Program (var.Global m x) side.Own) ty s = a.reads (Program (var.Global m x) side.Own) ty s
  reads_under b f (Program (var.Glob m) side.Own) ty s = a.reads (Program (var.Glob m) side.Own) ty s
  reads_under b f (Program (var.Local x) side.Left) ty s = a.reads (Program (var.Local x) side.Left) ty s
  reads_under b f (Program (var.Global m x) side.Left) ty s = a.reads (Program (var.Global m x) side.Left) ty s
  reads_under b f (Program (var.Glob m) side.Left) ty s = a.reads (Program (var.Glob m) side.Left) ty s
  reads_under b f (Program (var.Local x) side.Right) ty s = a.reads (Program (var.Local x) side.Right) ty s
  reads_under b f (Program (var.Global m x) side.Right) ty s = a.reads (Program (var.Global m x) side.Right) ty s
  reads_under b f (Program (var.Glob m) side.Right) ty s = a.reads (Program (var.Glob m) side.Right) ty s
  reads_under b f (Program (var.Local x) (side.Memory i)) ty s = a.reads (Program (var.Local x) (side.Memory i)) ty s
  reads_under b f (Program (var.Global m x) (side.Memory i)) ty s = a.reads (Program (var.Global m x) (side.Memory i)) ty s
  reads_under b f (Program (var.Glob m) (side.Memory i)) ty s = a.reads (Program (var.Glob m) (side.Memory i)) ty s
  reads_under b f (Program x (side.Bound zero)) ty s = refl
  reads_under b f (Program (var.Local x) (side.Bound (suc i))) ty s = a.reads (Program (var.Local x) (side.Bound i)) ty s
  reads_under b f (Program (var.Global m x) (side.Bound (suc i))) ty s = a.reads (Program (var.Global m x) (side.Bound i)) ty s
  reads_under b f (Program (var.Glob m) (side.Bound (suc i))) ty s = a.reads (Program (var.Glob m) (side.Bound i)) ty s

  bounds_under : (b : Binder) (f : Frame) (i : ℕ) (ty : Ty) → IsBoundAt (binder (within c b f) i) ty → beneath K (bound i) ≡ true
  bounds_under b f zero ty w = refl
  bounds_under b f (suc i) ty w = a.bounds i ty w

  places_under : (b : Binder) (f : Frame) (r : Side) → IsFrame (frame_of (within c b f) r) → IsPlace r → beneath K (starts r) ≡ true
  places_under b f side.Own w p = absurd p
  places_under b f side.Left w p = absurd p
  places_under b f side.Right w p = absurd p
  places_under b f (side.Memory i) w p = a.places (side.Memory i) w p
  places_under b f (side.Bound zero) w p = refl
  places_under b f (side.Bound (suc i)) w p = a.places (side.Bound i) w p

  admits_within : (b : Binder) (f : Frame) → Admits B (beneath K) (within c b f)
  admits_within b f = record { reads = reads_under b f; bounds = bounds_under b f; places = places_under b f; own = a.own; sides = a.sides }

  reads_own : (f : Frame) (r : Read) (ty : Ty) → IsNamed (with_own c f) (head.Read r) ty → under_own K (read r ty) ≡ true
  reads_own f (Logical i) ty s = a.reads (Logical i) ty s
  reads_own f (Program x side.Own) ty s = refl
  reads_own f (Program (var.Local x) side.Left) ty s = a.reads (Program (var.Local x) side.Left) ty s
  reads_own f (Program (var.Global m x) side.Left) ty s = a.reads (Program (var.Global m x) side.Left) ty s
  reads_own f (Program (var.Glob m) side.Left) ty s = a.reads (Program (var.Glob m) side.Left) ty s
  reads_own f (Program (var.Local x) side.Right) ty s = a.reads (Program (var.Local x) side.Right) ty s
  reads_own f (Program (var.Global m x) side.Right) ty s = a.reads (Program (var.Global m x) side.Right) ty s
  reads_own f (Program (var.Glob m) side.Right) ty s = a.reads (Program (var.Glob m) side.Right) ty s
  reads_own f (Program (var.Local x) (side.Memory i)) ty s = a.reads (Program (var.Local x) (side.Memory i)) ty s
  reads_own f (Program (var.Global m x) (side.Memory i)) ty s = a.reads (Program (var.Global m x) (side.Memory i)) ty s
  reads_own f (Program (var.Glob m) (side.Memory i)) ty s = a.reads (Program (var.Glob m) (side.Memory i)) ty s
  reads_own f (Program (var.Local x) (side.Bound i)) ty s = a.reads (Program (var.Local x) (side.Bound i)) ty s
  reads_own f (Program (var.Global m x) (side.Bound i)) ty s = a.reads (Program (var.Global m x) (side.Bound i)) ty s
  reads_own f (Program (var.Glob m) (side.Bound i)) ty s = a.reads (Program (var.Glob m) (side.Bound i)) ty s

  places_own : (f : Frame) (r : Side) → IsFrame (frame_of (with_own c f) r) → IsPlace r → under_own K (starts r) ≡ true
  places_own f side.Own w p = absurd p
  places_own f side.Left w p = absurd p
  places_own f side.Right w p = absurd p
  places_own f (side.Memory i) w p = a.places (side.Memory i) w p
  places_own f (side.Bound i) w p = a.places (side.Bound i) w p

  admits_own : (f : Frame) → Admits B (under_own K) (with_own c f)
  admits_own f = record { reads = reads_own f; bounds = a.bounds; places = places_own f; own = a.own; sides = a.sides }

  reads_outside : (r : Read) (ty : Ty) → IsNamed (with_own c None) (head.Read r) ty → besides_own K (read r ty) ≡ true
  reads_outside (Program x side.Own) ty s = absurd (nothing_in c x ty s)
  reads_outside (Logical i) ty s = a.reads (Logical i) ty s
  reads_outside (Program (var.Local x) side.Left) ty s = a.reads (Program (var.Local x) side.Left) ty s
  reads_outside (Program (var.Global m x) side.Left) ty s = a.reads (Program (var.Global m x) side.Left) ty s
  reads_outside (Program (var.Glob m) side.Left) ty s = a.reads (Program (var.Glob m) side.Left) ty s
  reads_outside (Program (var.Local x) side.Right) ty s = a.reads (Program (var.Local x) side.Right) ty s
  reads_outside (Program (var.Global m x) side.Right) ty s = a.reads (Program (var.Global m x) side.Right) ty s
  reads_outside (Program (var.Glob m) side.Right) ty s = a.reads (Program (var.Glob m) side.Right) ty s
  reads_outside (Program (var.Local x) (side.Memory i)) ty s = a.reads (Program (var.Local x) (side.Memory i)) ty s
  reads_outside (Program (var.Global m x) (side.Memory i)) ty s = a.reads (Program (var.Global m x) (side.Memory i)) ty s
  reads_outside (Program (var.Glob m) (side.Memory i)) ty s = a.reads (Program (var.Glob m) (side.Memory i)) ty s
  reads_outside (Program (var.Local x) (side.Bound i)) ty s = a.reads (Program (var.Local x) (side.Bound i)) ty s
  reads_outside (Program (var.Global m x) (side.Bound i)) ty s = a.reads (Program (var.Global m x) (side.Bound i)) ty s
  reads_outside (Program (var.Glob m) (side.Bound i)) ty s = a.reads (Program (var.Glob m) (side.Bound i)) ty s

  places_outside : (r : Side) → IsFrame (frame_of (with_own c None) r) → IsPlace r → besides_own K (starts r) ≡ true
  places_outside side.Own w p = absurd p
  places_outside side.Left w p = absurd p
  places_outside side.Right w p = absurd p
  places_outside (side.Memory i) w p = a.places (side.Memory i) w p
  places_outside (side.Bound i) w p = a.places (side.Bound i) w p

  admits_outside : Admits B (besides_own K) (with_own c None)
  admits_outside = record { reads = reads_outside; bounds = a.bounds; places = places_outside; own = a.own; sides = a.sides }

  reads_sides : (f h : Frame) (r : Read) (ty : Ty) → IsNamed (with_sides c f h) (head.Read r) ty → under_sides K (read r ty) ≡ true
  reads_sides f h (Logical i) ty s = a.reads (Logical i) ty s
  reads_sides f h (Program x side.Left) ty s = refl
  reads_sides f h (Program x side.Right) ty s = refl
  reads_sides f h (Program (var.Local x) side.Own) ty s = a.reads (Program (var.Local x) side.Own) ty s
  reads_sides f h (Program (var.Global m x) side.Own) ty s = a.reads (Program (var.Global m x) side.Own) ty s
  reads_sides f h (Program (var.Glob m) side.Own) ty s = a.reads (Program (var.Glob m) side.Own) ty s
  reads_sides f h (Program (var.Local x) (side.Memory i)) ty s = a.reads (Program (var.Local x) (side.Memory i)) ty s
  reads_sides f h (Program (var.Global m x) (side.Memory i)) ty s = a.reads (Program (var.Global m x) (side.Memory i)) ty s
  reads_sides f h (Program (var.Glob m) (side.Memory i)) ty s = a.reads (Program (var.Glob m) (side.Memory i)) ty s
  reads_sides f h (Program (var.Local x) (side.Bound i)) ty s = a.reads (Program (var.Local x) (side.Bound i)) ty s
  reads_sides f h (Program (var.Global m x) (side.Bound i)) ty s = a.reads (Program (var.Global m x) (side.Bound i)) ty s
  reads_sides f h (Program (var.Glob m) (side.Bound i)) ty s = a.reads (Program (var.Glob m) (side.Bound i)) ty s

  places_sides : (f h : Frame) (r : Side) → IsFrame (frame_of (with_sides c f h) r) → IsPlace r → under_sides K (starts r) ≡ true
  places_sides f h side.Own w p = absurd p
  places_sides f h side.Left w p = absurd p
  places_sides f h side.Right w p = absurd p
  places_sides f h (side.Memory i) w p = a.places (side.Memory i) w p
  places_sides f h (side.Bound i) w p = a.places (side.Bound i) w p

  admits_sides : (f h : Frame) → Admits B (under_sides K) (with_sides c f h)
  admits_sides f h = record { reads = reads_sides f h; bounds = a.bounds; places = places_sides f h; own = a.own; sides = a.sides }

  admits_first : (h : Head) → Admits B (uses.of_arguments K h) (first c h)
  admits_first (head.Hoare b) = admits_own _
  admits_first (head.Phoare b r) = admits_own _
  admits_first (head.Equiv x y) = admits_sides _ _
  admits_first _ = a

  admits_middle : (h : Head) → Admits B (uses.of_arguments K h) (middle c h)
  admits_middle (head.Hoare b) = admits_own _
  admits_middle (head.Phoare b r) = admits_own _
  admits_middle (head.Equiv x y) = admits_sides _ _
  admits_middle _ = a

  admits_last : (ls : List TypedName) (h : Head) (us : List Ty) (ty : Ty) → IsHead (erased c) h us ty → IsNamed c h ty → Admits B (uses.of_last K h) (last c ls h us)
  admits_last ls (head.All u) us ty w s = admits_within (value u) None
  admits_last ls (head.Some u) us ty w s = admits_within (value u) None
  admits_last ls head.AllMemory us ty w s = admits_within memory (Some ls)
  admits_last ls head.SomeMemory us ty w s = admits_within memory (Some ls)
  admits_last ls (head.AllModule b) us ty w s = absurd s
  admits_last ls head.Mu [] ty w s = absurd w
  admits_last ls head.Mu (u ∷ us) ty w s = admits_within (value (outcome_type u)) None
  admits_last ls (head.Sum q) us ty w s = admits_within (index q) None
  admits_last ls head.Map [] ty w s = absurd w
  admits_last ls head.Map (u ∷ us) ty w s = admits_within (value (outcome_type u)) None
  admits_last ls head.Restrict [] ty w s = absurd w
  admits_last ls head.Restrict (u ∷ us) ty w s = admits_within (value (outcome_type u)) None
  admits_last ls (head.Pr p r) us ty w s = admits_own _
  admits_last ls (head.Hoare b) us ty w s = admits_own _
  admits_last ls (head.Phoare b r) us ty w s = admits_outside
  admits_last ls (head.Equiv x y) us ty w s = admits_sides _ _
  admits_last ls _ us ty w s = a

  subject_within : (s : Subject) → IsThere (procedure_in c s) → SubjectIsWithin K s
  subject_within (Proc p) k = tt
  subject_within (Body' n is) k = absurd k

  head_within : (h : Head) (us : List Ty) (ty : Ty) → HeadIsPlain h ⊎ (B ≡ true) → IsHead (erased c) h us ty → IsNamed c h ty → HeadIsWithin K h ty
  head_within (head.Read r) us ty b w s = a.reads r ty s
  head_within (head.Bound i) [] ty b w s = a.bounds i ty w
  head_within (head.Bound i) (u ∷ us) ty b w s = absurd w
  head_within (head.Glob m r) us ty b w s = absurd s
  head_within (head.Pr p r) us ty (inl x) w s = absurd x
  head_within (head.Pr p r) us ty (inr b) w s = (a.places r s.0 s.1, a.own b)
  head_within (head.Hoare o) us ty (inl x) w s = absurd x
  head_within (head.Hoare o) us ty (inr b) w s = (a.own b, subject_within o s)
  head_within (head.Phoare o r) us ty (inl x) w s = absurd x
  head_within (head.Phoare o r) us ty (inr b) w s = (a.own b, subject_within o s)
  head_within (head.Equiv x y) us ty (inl k) w s = absurd k
  head_within (head.Equiv x y) us ty (inr b) w s = (a.sides b, subject_within x s.0, subject_within y s.1)
  head_within _ us ty b w s = tt

module _ (B : Bool) where
  head_binds : {n : Count} (h : Head) (ts : Row_of-Term n) → (HeadIsPlain h × AllPlain ts) ⊎ (B ≡ true) → HeadIsPlain h ⊎ (B ≡ true)
  head_binds h ts (inl x) = inl x.0
  head_binds h ts (inr b) = inr b

  row_binds : {n : Count} (h : Head) (ts : Row_of-Term n) → (HeadIsPlain h × AllPlain ts) ⊎ (B ≡ true) → AllPlain ts ⊎ (B ≡ true)
  row_binds h ts (inl x) = inl x.1
  row_binds h ts (inr b) = inr b

  next_binds : {n : Count} (t : Term) (ts : Row_of-Term n) → (IsPlain t × AllPlain ts) ⊎ (B ≡ true) → IsPlain t ⊎ (B ≡ true)
  next_binds t ts (inl x) = inl x.0
  next_binds t ts (inr b) = inr b

  rest_binds : {n : Count} (t : Term) (ts : Row_of-Term n) → (IsPlain t × AllPlain ts) ⊎ (B ≡ true) → AllPlain ts ⊎ (B ≡ true)
  rest_binds t ts (inl x) = inl x.1
  rest_binds t ts (inr b) = inr b

  mutual
    pub term_within : (K : Uses) (c : Context) → Admits B K c → (t : Term) → IsPlain t ⊎ (B ≡ true) → IsTyped c t → IsWithin K t
    term_within K c a (Term' p (more_of-Head h end_of-Head) n ts ty) b w = (
      head_within B K c a h (types_of ts) ty (head_binds h ts b) w.0 w.1,
      all_within (uses.of_arguments K h) (uses.of_last K h) (first c h) (middle c h) (last c w.2 h (types_of ts))
          (admits_first B K c a h) (admits_middle B K c a h) (admits_last B K c a w.2 h (types_of ts) ty w.0 w.1) ts (row_binds h ts b) w.3,
    )

    all_within : {n : Count} (K L : Uses) (c e d : Context) → Admits B K c → Admits B K e → Admits B L d → (ts : Row_of-Term n) → AllPlain ts ⊎ (B ≡ true) → AreTyped c e d ts → AreWithin K L ts
    all_within K L c e d x y z end_of-Term b w = tt
    all_within K L c e d x y z (more_of-Term t end_of-Term) b w = term_within L d z t (next_binds t end_of-Term b) w
    all_within K L c e d x y z (more_of-Term t (more_of-Term u ts)) b w =
        (term_within K c x t (next_binds t (more_of-Term u ts) b) w.0, all_within K L e e d y y z (more_of-Term u ts) (rest_binds t (more_of-Term u ts) b) w.1)

-- The uses that a context allows, as a test.

abbrev pub is_frame : Frame → Bool
is_frame None = false
is_frame (Some ls) = true

abbrev pub is_type : Option Ty → Ty → Bool
is_type None t = false
is_type (Some u) t = ty_eq u t

abbrev pub reads_in : Context → Frame → Var → Ty → Bool
reads_in c f (var.Glob a) t = is_frame f && (c.has_globals a && ty_eq t (ty.Glob a))
reads_in c f (var.Global m x) t = is_frame f && is_type (c.global m x) t
reads_in c f (var.Local x) t = is_type (local_in f x) t

abbrev pub is_place : Side → Bool
is_place (side.Memory i) = true
is_place (side.Bound i) = true
is_place _ = false

abbrev pub is_value : Binder → Bool
is_value (value u) = true
is_value (index q) = true
is_value _ = false

abbrev pub uses_of : Context → Uses
uses_of c (read (Logical i) ty) = true
uses_of c (read (Program x r) ty) = reads_in c (frame_of c r) x ty
uses_of c (bound i) = is_value (binder c i)
uses_of c (globals m r) = false
uses_of c (starts r) = is_place r && is_frame (frame_of c r)
uses_of c binds_own = true
uses_of c binds_sides = true

both_true : (a b : Bool) → a ≡ true → b ≡ true → (a && b) ≡ true
both_true a b p q = λ i. p i && q i

is_frame_true : (f : Frame) → IsFrame f → is_frame f ≡ true
is_frame_true None w = absurd w
is_frame_true (Some ls) w = refl

type_found : (o : Option Ty) (t : Ty) → o ≡ Some t → is_type o t ≡ true
type_found o t e = ap (λ o. is_type o t) e ∙ (ty_eq-Decides t t).1 refl

in_found : (c : Context) (f : Frame) (x : Var) (t : Ty) → IsIn c f x t → reads_in c f x t ≡ true
in_found c f (var.Glob a) t w =
    both_true (is_frame f) (c.has_globals a && ty_eq t (ty.Glob a)) (is_frame_true f w.0)
    (both_true (c.has_globals a) (ty_eq t (ty.Glob a)) w.1 ((ty_eq-Decides t (ty.Glob a)).1 w.2))
in_found c f (var.Local x) t w = type_found (local_in f x) t w
in_found c f (var.Global m x) t w = both_true (is_frame f) (is_type (c.global m x) t) (is_frame_true f w.0) (type_found (c.global m x) t w.1)

frame_found : (f : Frame) → is_frame f ≡ true → IsFrame f
frame_found None e = false≢true e
frame_found (Some ls) e = tt

found_type : (o : Option Ty) (t : Ty) → is_type o t ≡ true → o ≡ Some t
found_type None t e = absurd (false≢true e)
found_type (Some u) t e = ap Some ((ty_eq-Decides u t).0 e)

pub reads_found : (c : Context) (f : Frame) (x : Var) (t : Ty) → reads_in c f x t ≡ true → IsIn c f x t
reads_found c f (var.Glob a) t e =
    let x = and_parts (is_frame f) (c.has_globals a && ty_eq t (ty.Glob a)) e in
    let y = and_parts (c.has_globals a) (ty_eq t (ty.Glob a)) x.1 in
    (frame_found f x.0, y.0, (ty_eq-Decides t (ty.Glob a)).0 y.1)
reads_found c f (var.Local x) t e = found_type (local_in f x) t e
reads_found c f (var.Global m x) t e = let y = and_parts (is_frame f) _ e in (frame_found f y.0, found_type (c.global m x) t y.1)

bound_found : (b : Binder) (t : Ty) → IsBoundAt b t → is_value b ≡ true
bound_found (value u) t w = refl
bound_found (index q) t w = refl
bound_found memory t w = absurd w
bound_found program t w = absurd w

place_found : (r : Side) → IsPlace r → is_place r ≡ true
place_found side.Own w = absurd w
place_found side.Left w = absurd w
place_found side.Right w = absurd w
place_found (side.Memory i) w = refl
place_found (side.Bound i) w = refl

read_found : (c : Context) (r : Read) (ty : Ty) → IsNamed c (head.Read r) ty → uses_of c (read r ty) ≡ true
read_found c (Logical i) ty s = refl
read_found c (Program x r) ty s = in_found c (frame_of c r) x ty s

pub admits_uses : (c : Context) → Admits true (uses_of c) c
admits_uses c = record {
  reads = read_found c;
  bounds = λ i ty w. bound_found (binder c i) ty w;
  places = λ r w p. both_true (is_place r) (is_frame (frame_of c r)) (place_found r p) (is_frame_true (frame_of c r) w);
  own = λ b. refl;
  sides = λ b. refl;
}

-- a well-typed term uses what its context allows alone
pub uses_typed : (c : Context) (t : Term) → IsTyped c t → IsWithin (uses_of c) t
uses_typed c t w = term_within true (uses_of c) c (admits_uses c) t (inr refl) w

-- what a term may use that reads nothing of the own memory, or of both sides

everything : (c : Context) → Admits true every_use c
everything c = record { reads = λ r ty s. refl; bounds = λ i ty w. refl; places = λ r w p. refl; own = λ b. refl; sides = λ b. refl }

pub admits_besides_own : (c : Context) → Admits true (besides_own every_use) (with_own c None)
admits_besides_own c = admits_outside true every_use c (everything c)

module _ (c : Context) where
  reads_elsewhere : (r : Read) (ty : Ty) → IsNamed (with_sides c None None) (head.Read r) ty → besides_sides every_use (read r ty) ≡ true
  reads_elsewhere (Logical i) ty s = refl
  reads_elsewhere (Program x side.Own) ty s = refl
  reads_elsewhere (Program x side.Left) ty s = absurd (nothing_in c x ty s)
  reads_elsewhere (Program x side.Right) ty s = absurd (nothing_in c x ty s)
  reads_elsewhere (Program x (side.Memory i)) ty s = refl
  reads_elsewhere (Program x (side.Bound i)) ty s = refl

  places_elsewhere : (r : Side) → IsFrame (frame_of (with_sides c None None) r) → IsPlace r → besides_sides every_use (starts r) ≡ true
  places_elsewhere side.Own w p = absurd p
  places_elsewhere side.Left w p = absurd p
  places_elsewhere side.Right w p = absurd p
  places_elsewhere (side.Memory i) w p = refl
  places_elsewhere (side.Bound i) w p = refl

  pub admits_besides_sides : Admits true (besides_sides every_use) (with_sides c None None)
  admits_besides_sides = record { reads = reads_elsewhere; bounds = λ i ty w. refl; places = places_elsewhere; own = λ b. refl; sides = λ b. refl }

-- The uses of a plain term: no memory is bound in it.

abbrev pub unbinding : Uses → Uses
unbinding K binds_own = false
unbinding K binds_sides = false
unbinding K u = K u

pub admits_plain : (c : Context) → Admits false (unbinding (uses_of c)) c
admits_plain c =
    let a : Admits true (uses_of c) c = admits_uses c in
    record { reads = a.reads; bounds = a.bounds; places = a.places; own = λ b. absurd (false≢true b); sides = λ b. absurd (false≢true b) }

pub plain_typed : (c : Context) (t : Term) → IsPlain t → IsTyped c t → IsWithin (unbinding (uses_of c)) t
plain_typed c t x w = term_within false (unbinding (uses_of c)) c (admits_plain c) t (inl x) w
