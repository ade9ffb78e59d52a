-- A term that doesn't read a memory is well typed, and means the same, whatever that memory is.
use Rattle.std.proofs.Common.{◌≡◌, Bool, true, false, not, ◌&&◌, ◌||◌, List, [], ◌∷◌, refl, sym, ◌∙◌, subst}
use Rattle.std.proofs.lemmas.Bool.{false≢true}
use Rattle.gb_core.specs.declared.ty.Ty.{Ty}
use Rattle.gb_core.specs.declared.var.Var.{Var}
use Rattle.gb_core.specs.declared.var.Var.TheVariants as var
use Rattle.gb_terms.specs.declared.decl.TypedName.{TypedName}
use Rattle.gb_terms.specs.declared.op.Side.{Side}
use Rattle.gb_terms.specs.declared.op.Side.TheVariants as side
use Rattle.gb_terms.specs.declared.op.Read.TheVariants.{Logical, Program}
use Rattle.gb_terms.specs.declared.term.Term.{Term, Term', Row_of-Term, end_of-Term, more_of-Term, end_of-Head, more_of-Head}
use Rattle.gb_terms.specs.declared.term.Head.{Head}
use Rattle.gb_terms.specs.declared.term.Head.TheVariants as head
use Rattle.gb_terms.specs.declared.term.Head.TheVariants.{Body', Proc}
use Rattle.gb_terms.specs.Equal.{side_eq}
use Rattle.gb_walk.specs.Change.{is_left_or_right}
use Rattle.gb_walk.specs.Sides.{reads_side}
use Rattle.gb_laws.specs.Typing.{types_of, Binder}
use Rattle.gb_typing.specs.Context.{Frame, Context, frame_of, procedure, reframed, with_own, with_sides, within}
use Rattle.gb_typing.specs.Typing.{IsFrame, IsIn, IsNamed, before, after, first, middle, last, IsTyped, AreTyped}
use Rattle.gb_typing.proofs.Reading.{read_at, any_reads, reads_side_is}
use mathlib.Core.Former.{Count}

either_false : (a b : Bool) → (a || b) ≡ false → (a ≡ false) × (b ≡ false)
either_false true b e = absurd (false≢true (sym e))
either_false false b e = (refl, e)

-- the locals of the own memory and of both sides
pub record Frames : Type 0 where
  pub own : Frame
  pub left : Frame
  pub right : Frame

abbrev pub with_frames : Context → Frames → Context
with_frames c F = reframed c F.own F.left F.right

module _ (r : Side) where
  -- the memories other than r have the locals that they have
  pub record Keeps (c : Context) (F : Frames) : Type 0 where
    pub own : side_eq r side.Own ≡ false → F.own ≡ c.own
    pub left : side_eq r side.Left ≡ false → F.left ≡ c.left
    pub right : side_eq r side.Right ≡ false → F.right ≡ c.right

  frame_kept : (c : Context) (F : Frames) → Keeps c F → (s : Side) → side_eq r s ≡ false → frame_of c s ≡ frame_of (with_frames c F) s
  frame_kept c F k side.Own e = sym (k.own e)
  frame_kept c F k side.Left e = sym (k.left e)
  frame_kept c F k side.Right e = sym (k.right e)
  frame_kept c F k (side.Memory i) e = refl
  frame_kept c F k (side.Bound i) e = refl

  in_kept : (c : Context) (F : Frames) (f : Frame) (x : Var) (t : Ty) → IsIn c f x t → IsIn (with_frames c F) f x t
  in_kept c F f (var.Local x) t w = w
  in_kept c F f (var.Global m x) t w = w
  in_kept c F f (var.Glob a) t w = w

  named_kept : (c : Context) (F : Frames) → Keeps c F → (h : Head) (b : Bool) (t : Ty) → read_at h r b ≡ false → IsNamed c h t → IsNamed (with_frames c F) h t
  named_kept c F k (head.Read (Logical i)) b t e w = tt
  named_kept c F k (head.Read (Program x s)) b t e w =
      in_kept c F (frame_of (with_frames c F) s) x t (subst (λ f. IsIn c f x t) (frame_kept c F k s (either_false (side_eq r s) b e).0) w)
  named_kept c F k (head.Pr p s) b t e w = (subst IsFrame (frame_kept c F k s (either_false (side_eq r s) b e).0) w.0, w.1, w.2)
  named_kept c F k (head.AllModule m) b t e w = absurd w
  named_kept c F k (head.Glob m s) b t e w = absurd w
  named_kept c F k (head.Hoare (Proc p)) b t e w = w
  named_kept c F k (head.Phoare (Proc p) o) b t e w = w
  named_kept c F k (head.Equiv (Proc p) (Proc q)) b t e w = w
  named_kept c F k (head.Hoare (Body' n is)) b t e w = absurd w
  named_kept c F k (head.Phoare (Body' n is) o) b t e w = absurd w
  named_kept c F k (head.Equiv (Body' n is) q) b t e w = absurd w.0
  named_kept c F k (head.Equiv (Proc p) (Body' n is)) b t e w = absurd w.1
  named_kept c F k _ b t e w = tt

  keeps_own : (c : Context) (F : Frames) (f : Frame) → Keeps c F → Keeps (with_own c f) (record F { own = f })
  keeps_own c F f k = record { own = λ e. refl; left = k.left; right = k.right }

  keeps_sides : (c : Context) (F : Frames) (f h : Frame) → Keeps c F → Keeps (with_sides c f h) (record F { left = f; right = h })
  keeps_sides c F f h k = record { own = k.own; left = λ e. refl; right = λ e. refl }

  keeps_within : (c : Context) (F : Frames) (b : Binder) (f : Frame) → Keeps c F → Keeps (within c b f) F
  keeps_within c F b f k = record { own = k.own; left = k.left; right = k.right }

  -- arguments, each in its context, as soon as none of them reads the memory
  abbrev Moves : {n : Count} → Row_of-Term n → Type 0
  Moves ts = (a b d : Context) (A B D : Frames) → Keeps a A → Keeps b B → Keeps d D → any_reads r ts ≡ false → AreTyped a b d ts →
      AreTyped (with_frames a A) (with_frames b B) (with_frames d D) ts

  under_equivalence : {n : Count} (c : Context) (F : Frames) → Keeps c F → (f g h i : Frame) (ts : Row_of-Term n) → Moves ts → (b : Bool) → is_left_or_right r ≡ b → (not b && any_reads r ts) ≡ false →
      AreTyped (with_sides c f g) (with_sides c h i) (with_sides c h i) ts →
      AreTyped (with_sides (with_frames c F) f g) (with_sides (with_frames c F) h i) (with_sides (with_frames c F) h i) ts
  under_equivalence c F k f g h i ts m false z e w =
      m (with_sides c f g) (with_sides c h i) (with_sides c h i) (record F { left = f; right = g }) (record F { left = h; right = i }) (record F { left = h; right = i })
      (keeps_sides c F f g k) (keeps_sides c F h i k) (keeps_sides c F h i k) e w
  under_equivalence c F k f g h i ts m true z e w =
      subst (λ o. AreTyped (reframed c o f g) (reframed c o h i) (reframed c o h i) ts) (sym (k.own (own_other r z))) w
    where
      own_other : (r : Side) → is_left_or_right r ≡ true → side_eq r side.Own ≡ false
      own_other side.Left z = refl
      own_other side.Right z = refl
      own_other side.Own z = absurd (false≢true z)
      own_other (side.Memory i) z = refl
      own_other (side.Bound i) z = refl

  arguments : {n : Count} (c : Context) (F : Frames) → Keeps c F → (h : Head) (us : List Ty) (t : Ty) → IsNamed c h t → (ls : List TypedName) (ts : Row_of-Term n) → Moves ts → read_at h r (any_reads r ts) ≡ false →
      AreTyped (first c h) (middle c h) (last c ls h us) ts → AreTyped (first (with_frames c F) h) (middle (with_frames c F) h) (last (with_frames c F) ls h us) ts
  arguments c F k (head.Hoare (Proc p)) us t w ls ts m e x = m _ _ _ _ _ _ (keeps_own c F _ k) (keeps_own c F _ k) (keeps_own c F _ k) e x
  arguments c F k (head.Phoare (Proc p) o) us t w ls ts m e x = m _ _ _ _ _ _ (keeps_own c F _ k) (keeps_own c F _ k) (keeps_own c F _ k) e x
  arguments c F k (head.Equiv (Proc p) (Proc q)) us t w ls ts m e x =
      under_equivalence c F k (before (procedure c p)) (before (procedure c q)) (after (procedure c p)) (after (procedure c q)) ts m (is_left_or_right r) refl e x
  arguments c F k (head.Hoare (Body' n is)) us t w ls ts m e x = absurd w
  arguments c F k (head.Phoare (Body' n is) o) us t w ls ts m e x = absurd w
  arguments c F k (head.Equiv (Body' n is) q) us t w ls ts m e x = absurd w.0
  arguments c F k (head.Equiv (Proc p) (Body' n is)) us t w ls ts m e x = absurd w.1
  arguments c F k (head.AllModule b) us t w ls ts m e x = absurd w
  arguments c F k (head.Glob b s) us t w ls ts m e x = absurd w
  arguments c F k (head.Read q) us t w ls ts m e x = m _ _ _ _ _ _ k k k (either_false _ _ e).1 x
  arguments c F k (head.Pr p s) us t w ls ts m e x = m _ _ _ _ _ _ k k (keeps_own c F _ k) (either_false _ _ e).1 x
  arguments c F k (head.All u) us t w ls ts m e x = m _ _ _ _ _ _ k k (keeps_within c F _ _ k) e x
  arguments c F k (head.Some u) us t w ls ts m e x = m _ _ _ _ _ _ k k (keeps_within c F _ _ k) e x
  arguments c F k head.AllMemory us t w ls ts m e x = m _ _ _ _ _ _ k k (keeps_within c F _ _ k) e x
  arguments c F k head.SomeMemory us t w ls ts m e x = m _ _ _ _ _ _ k k (keeps_within c F _ _ k) e x
  arguments c F k (head.Sum q) us t w ls ts m e x = m _ _ _ _ _ _ k k (keeps_within c F _ _ k) e x
  arguments c F k head.Mu (u ∷ us) t w ls ts m e x = m _ _ _ _ _ _ k k (keeps_within c F _ _ k) e x
  arguments c F k head.Map (u ∷ us) t w ls ts m e x = m _ _ _ _ _ _ k k (keeps_within c F _ _ k) e x
  arguments c F k head.Restrict (u ∷ us) t w ls ts m e x = m _ _ _ _ _ _ k k (keeps_within c F _ _ k) e x
  arguments c F k head.Mu [] t w ls ts m e x = m _ _ _ _ _ _ k k k e x
  arguments c F k head.Map [] t w ls ts m e x = m _ _ _ _ _ _ k k k e x
  arguments c F k head.Restrict [] t w ls ts m e x = m _ _ _ _ _ _ k k k e x
  arguments c F k _ us t w ls ts m e x = m _ _ _ _ _ _ k k k e x

  mutual
    pub unread_typed : (t : Term) (c : Context) (F : Frames) → Keeps c F → reads_side t r ≡ false → IsTyped c t → IsTyped (with_frames c F) t
    unread_typed (Term' tt (more_of-Head h end_of-Head) n ts t) c F k e w =
        let z = sym (reads_side_is h n ts t r) ∙ e in
        (w.0, named_kept c F k h (any_reads r ts) t z w.1, w.2, arguments c F k h (types_of ts) t w.1 w.2 ts (all_unread ts) z w.3)

    all_unread : {n : Count} (ts : Row_of-Term n) → Moves ts
    all_unread end_of-Term a b d A B D j k l e w = tt
    all_unread (more_of-Term t end_of-Term) a b d A B D j k l e w = unread_typed t d D l (either_false _ _ e).0 w
    all_unread (more_of-Term t (more_of-Term u ts)) a b d A B D j k l e w =
        (unread_typed t a A j (either_false _ _ e).0 w.0, all_unread (more_of-Term u ts) b b d B B D k k l (either_false _ _ e).1 w.1)
