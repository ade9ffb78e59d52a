-- What stands in other memories than those that a head binds stays there, and in those that it binds new locals stand.
use Rattle.std.proofs.Common.{◌≡◌, true, false, Some, refl, sym}
use Rattle.std.proofs.lemmas.Bool.{false≢true}
use Rattle.gb_core.specs.declared.ty.Ty.{Ty}
use Rattle.gb_core.specs.declared.var.Var.{Var}
use Rattle.gb_core.specs.declared.var.Var.TheVariants as var
use Rattle.gb_terms.specs.declared.op.Side.{Side}
use Rattle.gb_terms.specs.declared.op.Side.TheVariants as side
use Rattle.gb_terms.specs.declared.op.Read.{Read}
use Rattle.gb_terms.specs.declared.op.Read.TheVariants.{Logical, Program}
use Rattle.gb_terms.specs.declared.term.Head.TheVariants as head
use Rattle.gb_terms.specs.declared.term.Head.TheVariants.{Proc, Body'}
use Rattle.gb_walk.specs.Change.{is_own, is_left_or_right, is_read_through}
use Rattle.gb_meaning.specs.Names.{Name}
use Rattle.gb_laws.specs.Typing.{IsSide}
use Rattle.gb_typing.specs.Context.{Frame, Context, erased, frame_of, with_own, with_sides}
use Rattle.gb_typing.specs.Typing.{IsPlace, IsNamed}
use Rattle.gb_typing.specs.Changes.{IsLeaf}

module _ (f : Frame) where
  pub own_there : (c : Context) (q : Read) (ty : Ty) → is_read_through is_own q ≡ false → IsNamed c (head.Read q) ty → IsNamed (with_own c f) (head.Read q) ty
  own_there c (Logical i) ty e w = tt
  own_there c (Program x side.Own) ty e w = absurd (false≢true (sym e))
  own_there c (Program (var.Local x) side.Left) ty e w = w
  own_there c (Program (var.Global m x) side.Left) ty e w = w
  own_there c (Program (var.Glob a) side.Left) ty e w = w
  own_there c (Program (var.Local x) side.Right) ty e w = w
  own_there c (Program (var.Global m x) side.Right) ty e w = w
  own_there c (Program (var.Glob a) side.Right) ty e w = w
  own_there c (Program (var.Local x) (side.Memory i)) ty e w = w
  own_there c (Program (var.Global m x) (side.Memory i)) ty e w = w
  own_there c (Program (var.Glob a) (side.Memory i)) ty e w = w
  own_there c (Program (var.Local x) (side.Bound i)) ty e w = w
  own_there c (Program (var.Global m x) (side.Bound i)) ty e w = w
  own_there c (Program (var.Glob a) (side.Bound i)) ty e w = w

  pub own_back : (c : Context) (q : Read) (ty : Ty) → is_read_through is_own q ≡ false → IsNamed (with_own c f) (head.Read q) ty → IsNamed c (head.Read q) ty
  own_back c (Logical i) ty e w = tt
  own_back c (Program x side.Own) ty e w = absurd (false≢true (sym e))
  own_back c (Program (var.Local x) side.Left) ty e w = w
  own_back c (Program (var.Global m x) side.Left) ty e w = w
  own_back c (Program (var.Glob a) side.Left) ty e w = w
  own_back c (Program (var.Local x) side.Right) ty e w = w
  own_back c (Program (var.Global m x) side.Right) ty e w = w
  own_back c (Program (var.Glob a) side.Right) ty e w = w
  own_back c (Program (var.Local x) (side.Memory i)) ty e w = w
  own_back c (Program (var.Global m x) (side.Memory i)) ty e w = w
  own_back c (Program (var.Glob a) (side.Memory i)) ty e w = w
  own_back c (Program (var.Local x) (side.Bound i)) ty e w = w
  own_back c (Program (var.Global m x) (side.Bound i)) ty e w = w
  own_back c (Program (var.Glob a) (side.Bound i)) ty e w = w

  pub own_frame : (c : Context) (r : Side) → is_own r ≡ false → frame_of c r ≡ frame_of (with_own c f) r
  own_frame c side.Own e = absurd (false≢true (sym e))
  own_frame c side.Left e = refl
  own_frame c side.Right e = refl
  own_frame c (side.Memory i) e = refl
  own_frame c (side.Bound i) e = refl

  pub own_new_frame : (c d : Context) (r : Side) → is_own r ≡ true → frame_of (with_own c f) r ≡ frame_of (with_own d f) r
  own_new_frame c d side.Own e = refl
  own_new_frame c d side.Left e = absurd (false≢true e)
  own_new_frame c d side.Right e = absurd (false≢true e)
  own_new_frame c d (side.Memory i) e = absurd (false≢true e)
  own_new_frame c d (side.Bound i) e = absurd (false≢true e)

  pub own_new : (c d : Context) (x : Var) (r : Side) (ty : Ty) → is_own r ≡ true → ((m x : Name) (t : Ty) → c.global m x ≡ Some t → d.global m x ≡ Some t) → ((a : Name) → c.has_globals a ≡ true → d.has_globals a ≡ true) →
      IsLeaf (with_own c f) (head.Read (Program x r)) ty → IsLeaf (with_own d f) (head.Read (Program x r)) ty
  own_new c d (var.Local x) side.Own ty e u v w = w
  own_new c d (var.Global m x) side.Own ty e u v w = ((w.0.0, w.0.1, u m x ty w.0.2), (w.1.0, u m x ty w.1.1))
  own_new c d (var.Glob a) side.Own ty e u v w = (w.0, (w.1.0, v a w.1.1, w.1.2))
  own_new c d x side.Left ty e u v w = absurd (false≢true e)
  own_new c d x side.Right ty e u v w = absurd (false≢true e)
  own_new c d x (side.Memory i) ty e u v w = absurd (false≢true e)
  own_new c d x (side.Bound i) ty e u v w = absurd (false≢true e)

  pub own_side : (c d : Context) (r : Side) → is_own r ≡ true → IsSide (erased c) r → IsSide (erased d) r
  own_side c d side.Own e w = tt
  own_side c d side.Left e w = absurd (false≢true e)
  own_side c d side.Right e w = absurd (false≢true e)
  own_side c d (side.Memory i) e w = absurd (false≢true e)
  own_side c d (side.Bound i) e w = absurd (false≢true e)

  pub own_place : (r : Side) → is_own r ≡ true → IsPlace r → ⊥
  own_place side.Own e w = w
  own_place side.Left e w = false≢true e
  own_place side.Right e w = false≢true e
  own_place (side.Memory i) e w = false≢true e
  own_place (side.Bound i) e w = false≢true e

module _ (f h : Frame) where
  pub sides_there : (c : Context) (q : Read) (ty : Ty) → is_read_through is_left_or_right q ≡ false → IsNamed c (head.Read q) ty → IsNamed (with_sides c f h) (head.Read q) ty
  sides_there c (Logical i) ty e w = tt
  sides_there c (Program x side.Left) ty e w = absurd (false≢true (sym e))
  sides_there c (Program x side.Right) ty e w = absurd (false≢true (sym e))
  sides_there c (Program (var.Local x) side.Own) ty e w = w
  sides_there c (Program (var.Global m x) side.Own) ty e w = w
  sides_there c (Program (var.Glob a) side.Own) ty e w = w
  sides_there c (Program (var.Local x) (side.Memory i)) ty e w = w
  sides_there c (Program (var.Global m x) (side.Memory i)) ty e w = w
  sides_there c (Program (var.Glob a) (side.Memory i)) ty e w = w
  sides_there c (Program (var.Local x) (side.Bound i)) ty e w = w
  sides_there c (Program (var.Global m x) (side.Bound i)) ty e w = w
  sides_there c (Program (var.Glob a) (side.Bound i)) ty e w = w

  pub sides_back : (c : Context) (q : Read) (ty : Ty) → is_read_through is_left_or_right q ≡ false → IsNamed (with_sides c f h) (head.Read q) ty → IsNamed c (head.Read q) ty
  sides_back c (Logical i) ty e w = tt
  sides_back c (Program x side.Left) ty e w = absurd (false≢true (sym e))
  sides_back c (Program x side.Right) ty e w = absurd (false≢true (sym e))
  sides_back c (Program (var.Local x) side.Own) ty e w = w
  sides_back c (Program (var.Global m x) side.Own) ty e w = w
  sides_back c (Program (var.Glob a) side.Own) ty e w = w
  sides_back c (Program (var.Local x) (side.Memory i)) ty e w = w
  sides_back c (Program (var.Global m x) (side.Memory i)) ty e w = w
  sides_back c (Program (var.Glob a) (side.Memory i)) ty e w = w
  sides_back c (Program (var.Local x) (side.Bound i)) ty e w = w
  sides_back c (Program (var.Global m x) (side.Bound i)) ty e w = w
  sides_back c (Program (var.Glob a) (side.Bound i)) ty e w = w

  pub sides_frame : (c : Context) (r : Side) → is_left_or_right r ≡ false → frame_of c r ≡ frame_of (with_sides c f h) r
  sides_frame c side.Left e = absurd (false≢true (sym e))
  sides_frame c side.Right e = absurd (false≢true (sym e))
  sides_frame c side.Own e = refl
  sides_frame c (side.Memory i) e = refl
  sides_frame c (side.Bound i) e = refl

  pub sides_new_frame : (c d : Context) (r : Side) → is_left_or_right r ≡ true → frame_of (with_sides c f h) r ≡ frame_of (with_sides d f h) r
  sides_new_frame c d side.Left e = refl
  sides_new_frame c d side.Right e = refl
  sides_new_frame c d side.Own e = absurd (false≢true e)
  sides_new_frame c d (side.Memory i) e = absurd (false≢true e)
  sides_new_frame c d (side.Bound i) e = absurd (false≢true e)

  pub sides_new : (c d : Context) (x : Var) (r : Side) (ty : Ty) → is_left_or_right r ≡ true → ((m x : Name) (t : Ty) → c.global m x ≡ Some t → d.global m x ≡ Some t) → ((a : Name) → c.has_globals a ≡ true → d.has_globals a ≡ true) →
      IsLeaf (with_sides c f h) (head.Read (Program x r)) ty → IsLeaf (with_sides d f h) (head.Read (Program x r)) ty
  sides_new c d (var.Local x) side.Left ty e u v w = w
  sides_new c d (var.Global m x) side.Left ty e u v w = ((w.0.0, w.0.1, u m x ty w.0.2), (w.1.0, u m x ty w.1.1))
  sides_new c d (var.Glob a) side.Left ty e u v w = (w.0, (w.1.0, v a w.1.1, w.1.2))
  sides_new c d (var.Local x) side.Right ty e u v w = w
  sides_new c d (var.Global m x) side.Right ty e u v w = ((w.0.0, w.0.1, u m x ty w.0.2), (w.1.0, u m x ty w.1.1))
  sides_new c d (var.Glob a) side.Right ty e u v w = (w.0, (w.1.0, v a w.1.1, w.1.2))
  sides_new c d x side.Own ty e u v w = absurd (false≢true e)
  sides_new c d x (side.Memory i) ty e u v w = absurd (false≢true e)
  sides_new c d x (side.Bound i) ty e u v w = absurd (false≢true e)

  pub sides_side : (c d : Context) (r : Side) → is_left_or_right r ≡ true → IsSide (erased c) r → IsSide (erased d) r
  sides_side c d side.Left e w = tt
  sides_side c d side.Right e w = tt
  sides_side c d side.Own e w = absurd (false≢true e)
  sides_side c d (side.Memory i) e w = absurd (false≢true e)
  sides_side c d (side.Bound i) e w = absurd (false≢true e)

  pub sides_place : (r : Side) → is_left_or_right r ≡ true → IsPlace r → ⊥
  sides_place side.Left e w = w
  sides_place side.Right e w = w
  sides_place side.Own e w = false≢true e
  sides_place (side.Memory i) e w = false≢true e
  sides_place (side.Bound i) e w = false≢true e
