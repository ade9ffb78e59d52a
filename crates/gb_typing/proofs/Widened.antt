-- A well-typed term stays well typed where its memories have further locals, and means the same where what it may read is the same.
use Rattle.std.proofs.Common.{◌≡◌, List, [], ◌∷◌, refl, ap}
use Rattle.gb_core.specs.declared.ty.Ty.{Ty}
use Rattle.gb_core.specs.declared.var.Var.{Var}
use Rattle.gb_core.specs.declared.var.Var.TheVariants as var
use Rattle.gb_terms.specs.declared.decl.TypedName.{TypedName}
use Rattle.gb_terms.specs.declared.op.Side.{Side}
use Rattle.gb_terms.specs.declared.op.Side.TheVariants as side
use Rattle.gb_terms.specs.declared.op.Read.TheVariants.{Logical, Program}
use Rattle.gb_terms.specs.declared.term.Term.{Term, Term', Row_of-Term, end_of-Term, more_of-Term, end_of-Head, more_of-Head}
use Rattle.gb_terms.specs.declared.term.Head.{Head}
use Rattle.gb_terms.specs.declared.term.Head.TheVariants as head
use Rattle.gb_terms.specs.declared.term.Head.TheVariants.{Body', Proc}
use Rattle.std.specs.Prelude.{Some}
use Rattle.gb_meaning.specs.Memory.{Memory, read, read_local}
use Rattle.gb_meaning.specs.Meanings.{truth}
use Rattle.gb_meaning.specs.Names.{Name}
use Rattle.gb_meaning.specs.Setting.{Setting}
use Rattle.gb_meaning.specs.Setting.Meaning.{finite}
use Rattle.gb_meaning.specs.State.{State}
use Rattle.gb_meaning.specs.Judgments.{Judge, IsFair, den}
use Rattle.gb_laws.specs.Agree.{Agree}
use Rattle.gb_laws.specs.Uses.Use.{read as reads, bound, globals, starts, binds_own, binds_sides}
use Rattle.gb_laws.proofs.Agreeing.{form_agrees}
use Rattle.std.proofs.lemmas.Bool.{false≢true}
use Rattle.gb_laws.specs.Typing.{types_of, Binder}
use Rattle.gb_typing.specs.Context.{Frame, Context, frame_of, local_in, with_own, with_sides, within}
use Rattle.gb_typing.specs.Typing.{IsFrame, IsIn, IsNamed, first, middle, last, IsTyped, AreTyped, IsForm}
use Rattle.gb_typing.specs.Fits.{IsSettingOf}
use Rattle.gb_typing.proofs.Formed.{formed}
use Rattle.gb_typing.proofs.Sound.{procedures_sound, sound_form}
use Rattle.gb_typing.proofs.Uses.{reads_found, uses_of, uses_typed}
use Rattle.gb_typing.proofs.Unread.{Frames, with_frames}
use mathlib.Core.Former.{Count}

-- what may be read of a memory with the first locals may be read with the second ones
pub record IsMore (f g : Frame) : Type 0 where
  pub there : IsFrame f → IsFrame g
  pub locals : (x : Name) (ty : Ty) → local_in f x ≡ Some ty → local_in g x ≡ Some ty

pub same_frame : (f : Frame) → IsMore f f
same_frame f = record { there = λ w. w; locals = λ x ty e. e }

-- each memory has as many locals or more
pub record Widens (c : Context) (F : Frames) : Type 0 where
  pub own : IsMore c.own F.own
  pub left : IsMore c.left F.left
  pub right : IsMore c.right F.right

frame_more : (c : Context) (F : Frames) → Widens c F → (s : Side) → IsMore (frame_of c s) (frame_of (with_frames c F) s)
frame_more c F k side.Own = k.own
frame_more c F k side.Left = k.left
frame_more c F k side.Right = k.right
frame_more c F k (side.Memory i) = same_frame _
frame_more c F k (side.Bound i) = same_frame _

in_more : (c : Context) (F : Frames) (f g : Frame) → IsMore f g → (x : Var) (t : Ty) → IsIn c f x t → IsIn (with_frames c F) g x t
in_more c F f g m (var.Local x) t w = m.locals x t w
in_more c F f g m (var.Global p x) t w = (m.there w.0, w.1)
in_more c F f g m (var.Glob a) t w = (m.there w.0, w.1, w.2)

named_more : (c : Context) (F : Frames) → Widens c F → (h : Head) (t : Ty) → IsNamed c h t → IsNamed (with_frames c F) h t
named_more c F k (head.Read (Logical i)) t w = tt
named_more c F k (head.Read (Program x s)) t w = in_more c F (frame_of c s) (frame_of (with_frames c F) s) (frame_more c F k s) x t w
named_more c F k (head.Pr p s) t w = (let m = frame_more c F k s in m.there w.0, w.1, w.2)
named_more c F k (head.AllModule m) t w = absurd w
named_more c F k (head.Glob m s) t w = absurd w
named_more c F k (head.Hoare (Proc p)) t w = w
named_more c F k (head.Phoare (Proc p) o) t w = w
named_more c F k (head.Equiv (Proc p) (Proc q)) t w = w
named_more c F k (head.Hoare (Body' n is)) t w = absurd w
named_more c F k (head.Phoare (Body' n is) o) t w = absurd w
named_more c F k (head.Equiv (Body' n is) q) t w = absurd w.0
named_more c F k (head.Equiv (Proc p) (Body' n is)) t w = absurd w.1
named_more c F k _ t w = tt

widens_own : (c : Context) (F : Frames) (f : Frame) → Widens c F → Widens (with_own c f) (record F { own = f })
widens_own c F f k = record { own = same_frame f; left = k.left; right = k.right }

widens_sides : (c : Context) (F : Frames) (f h : Frame) → Widens c F → Widens (with_sides c f h) (record F { left = f; right = h })
widens_sides c F f h k = record { own = k.own; left = same_frame f; right = same_frame h }

widens_within : (c : Context) (F : Frames) (b : Binder) (f : Frame) → Widens c F → Widens (within c b f) F
widens_within c F b f k = record { own = k.own; left = k.left; right = k.right }

-- arguments, each in its context
abbrev Moves : {n : Count} → Row_of-Term n → Type 0
Moves ts = (a b d : Context) (A B D : Frames) → Widens a A → Widens b B → Widens d D → AreTyped a b d ts → AreTyped (with_frames a A) (with_frames b B) (with_frames d D) ts

arguments : {n : Count} (c : Context) (F : Frames) → Widens c F → (h : Head) (us : List Ty) (t : Ty) → IsNamed c h t → (ls : List TypedName) (ts : Row_of-Term n) → Moves ts →
    AreTyped (first c h) (middle c h) (last c ls h us) ts → AreTyped (first (with_frames c F) h) (middle (with_frames c F) h) (last (with_frames c F) ls h us) ts
arguments c F k (head.Hoare (Proc p)) us t w ls ts m x = m _ _ _ _ _ _ (widens_own c F _ k) (widens_own c F _ k) (widens_own c F _ k) x
arguments c F k (head.Phoare (Proc p) o) us t w ls ts m x = m _ _ _ _ _ _ (widens_own c F _ k) (widens_own c F _ k) (widens_own c F _ k) x
arguments c F k (head.Equiv (Proc p) (Proc q)) us t w ls ts m x = m _ _ _ _ _ _ (widens_sides c F _ _ k) (widens_sides c F _ _ k) (widens_sides c F _ _ k) x
arguments c F k (head.Hoare (Body' n is)) us t w ls ts m x = absurd w
arguments c F k (head.Phoare (Body' n is) o) us t w ls ts m x = absurd w
arguments c F k (head.Equiv (Body' n is) q) us t w ls ts m x = absurd w.0
arguments c F k (head.Equiv (Proc p) (Body' n is)) us t w ls ts m x = absurd w.1
arguments c F k (head.AllModule b) us t w ls ts m x = absurd w
arguments c F k (head.Pr p s) us t w ls ts m x = m _ _ _ _ _ _ k k (widens_own c F _ k) x
arguments c F k (head.All u) us t w ls ts m x = m _ _ _ _ _ _ k k (widens_within c F _ _ k) x
arguments c F k (head.Some u) us t w ls ts m x = m _ _ _ _ _ _ k k (widens_within c F _ _ k) x
arguments c F k head.AllMemory us t w ls ts m x = m _ _ _ _ _ _ k k (widens_within c F _ _ k) x
arguments c F k head.SomeMemory us t w ls ts m x = m _ _ _ _ _ _ k k (widens_within c F _ _ k) x
arguments c F k (head.Sum q) us t w ls ts m x = m _ _ _ _ _ _ k k (widens_within c F _ _ k) x
arguments c F k head.Mu (u ∷ us) t w ls ts m x = m _ _ _ _ _ _ k k (widens_within c F _ _ k) x
arguments c F k head.Map (u ∷ us) t w ls ts m x = m _ _ _ _ _ _ k k (widens_within c F _ _ k) x
arguments c F k head.Restrict (u ∷ us) t w ls ts m x = m _ _ _ _ _ _ k k (widens_within c F _ _ k) x
arguments c F k head.Mu [] t w ls ts m x = m _ _ _ _ _ _ k k k x
arguments c F k head.Map [] t w ls ts m x = m _ _ _ _ _ _ k k k x
arguments c F k head.Restrict [] t w ls ts m x = m _ _ _ _ _ _ k k k x
arguments c F k _ us t w ls ts m x = m _ _ _ _ _ _ k k k x

mutual
  widened_typed : (t : Term) (c : Context) (F : Frames) → Widens c F → IsTyped c t → IsTyped (with_frames c F) t
  widened_typed (Term' tt (more_of-Head h end_of-Head) n ts t) c F k w =
      (w.0, named_more c F k h t w.1, w.2, arguments c F k h (types_of ts) t w.1 w.2 ts (all_widened ts) w.3)

  all_widened : {n : Count} (ts : Row_of-Term n) → Moves ts
  all_widened end_of-Term a b d A B D j k l w = tt
  all_widened (more_of-Term t end_of-Term) a b d A B D j k l w = widened_typed t d D l w
  all_widened (more_of-Term t (more_of-Term u ts)) a b d A B D j k l w = (widened_typed t a A j w.0, all_widened (more_of-Term u ts) b b d B B D k k l w.1)

-- a form on memories with further locals
pub widened : (c : Context) (F : Frames) → Widens c F → (f : Term) → IsForm c f → IsForm (with_frames c F) f
widened c F k f w = record { typed = widened_typed f c F k w.typed; truth = w.truth }

-- Two memories are the same, as far as these locals go.
pub record IsSameIn (g : Setting) (f : Frame) (m n : Memory) : Type 0 where
  pub globals : m.globals ≡ n.globals
  pub locals : (x : Name) (ty : Ty) → local_in f x ≡ Some ty → read_local g.types m x ty ≡ read_local g.types n x ty

pub same_in : (g : Setting) (f : Frame) (m : Memory) → IsSameIn g f m m
same_in g f m = record { globals = refl; locals = λ x ty e. refl }

same_read : (g : Setting) (c : Context) (f : Frame) (m n : Memory) → IsSameIn g f m n → (x : Var) (ty : Ty) → IsIn c f x ty → read g.types m x ty ≡ read g.types n x ty
same_read g c f m n k (var.Local x) ty w = k.locals x ty w
same_read g c f m n k (var.Global p x) ty w = ap (λ z. read g.types (record { globals = z; frame = m.frame }) (var.Global p x) ty) k.globals
same_read g c f m n k (var.Glob a) ty w = ap (λ z. read g.types (record { globals = z; frame = m.frame }) (var.Glob a) ty) k.globals

-- a state with these memories
abbrev pub with_memories : State → Memory → Memory → Memory → State
with_memories s a b d = record s { own = a; left = b; right = d }

module _ (c : Context) (g : Setting) (fits : IsSettingOf c g) (j : Judge) (fair : IsFair g j) (s : State) (a b d u v w : Memory)
    (own : IsSameIn g c.own a u) (left : IsSameIn g c.left b v) (right : IsSameIn g c.right d w) where
  agree : Agree g (uses_of c) (with_memories s a b d) (with_memories s u v w)
  agree (reads (Logical i) ty) k = refl
  agree (reads (Program x side.Own) ty) k = ap finite (same_read g c c.own a u own x ty (reads_found c c.own x ty k))
  agree (reads (Program x side.Left) ty) k = ap finite (same_read g c c.left b v left x ty (reads_found c c.left x ty k))
  agree (reads (Program x side.Right) ty) k = ap finite (same_read g c c.right d w right x ty (reads_found c c.right x ty k))
  agree (reads (Program x (side.Memory i)) ty) k = refl
  agree (reads (Program x (side.Bound i)) ty) k = refl
  agree (bound i) k = refl
  agree (globals x r) k = absurd (false≢true k)
  agree (starts side.Own) k = absurd (false≢true k)
  agree (starts side.Left) k = absurd (false≢true k)
  agree (starts side.Right) k = absurd (false≢true k)
  agree (starts (side.Memory i)) k = refl
  agree (starts (side.Bound i)) k = refl
  agree binds_own k = tt
  agree binds_sides k = tt

  -- a form says the same of memories that are the same where it may read them
  pub same_form : (f : Term) → IsForm c f → den g j f (with_memories s a b d) ≡ den g j f (with_memories s u v w)
  same_form f k =
      ap truth (form_agrees g j fair f (formed c f k.typed) (sound_form g c (procedures_sound c g fits) f k.typed) (uses_of c) (with_memories s a b d) (with_memories s u v w) agree (uses_typed c f k.typed))
