-- A term is well typed with other locals of the own memory, where it reads those alone that are there too.
use Rattle.std.proofs.Common.{◌≡◌, Bool, true, false, List, [], ◌∷◌, ◌-◌, length, refl}
use Rattle.gb_core.specs.declared.ty.Ty.{Ty}
use Rattle.gb_core.specs.declared.var.Var.{Var}
use Rattle.gb_core.specs.declared.var.Var.TheVariants as var
use Rattle.gb_terms.specs.declared.decl.TypedName.{TypedName}
use Rattle.gb_terms.specs.declared.op.Side.TheVariants as side
use Rattle.gb_terms.specs.declared.op.Read.TheVariants.{Logical, Program}
use Rattle.gb_terms.specs.declared.term.Term.{Term, Term', Row_of-Term, end_of-Term, more_of-Term, end_of-Head, more_of-Head}
use Rattle.gb_terms.specs.declared.term.Head.{Head}
use Rattle.gb_terms.specs.declared.term.Head.TheVariants as head
use Rattle.gb_terms.specs.declared.term.Head.TheVariants.{Body', Proc}
use Rattle.gb_walk.specs.Clash.{read_by, outside, variables_read, each_read}
use Rattle.gb_laws.specs.Typing.{types_of}
use Rattle.gb_typing.specs.Context.{Frame, Context, procedure, with_own, with_sides}
use Rattle.gb_typing.specs.Typing.{IsFrame, IsIn, IsNamed, before, after, first, middle, last, IsTyped, AreTyped}
use Rattle.gb_typing.proofs.Spared.{Clear, ClearIn, read_in, clear_append, clear_all, clear_but_last}
use mathlib.Core.Former.{Count}

module _ (o F : Frame) (T : Var → Bool) (moves : (c : Context) (x : Var) (t : Ty) → T x ≡ false → IsIn c o x t → IsIn c F x t) (here : IsFrame o → IsFrame F) where
  abbrev IsClear : List Var → Type 0
  IsClear = Clear side.Own tt T

  abbrev AreClear : {n : Count} → Bool → Row_of-Term n → Type 0
  AreClear d ts = ClearIn side.Own tt T true d ts

  own_moved : (c : Context) (x : Var) (t : Ty) → T x ≡ false → IsIn (with_own c o) o x t → IsIn (with_own c F) F x t
  own_moved c (var.Local x) t n w = moves c (var.Local x) t n w
  own_moved c (var.Global m x) t n w = moves c (var.Global m x) t n w
  own_moved c (var.Glob a) t n w = moves c (var.Glob a) t n w

  other_kept : (c : Context) (f : Frame) (x : Var) (t : Ty) → IsIn (with_own c o) f x t → IsIn (with_own c F) f x t
  other_kept c f (var.Local x) t w = w
  other_kept c f (var.Global m x) t w = w
  other_kept c f (var.Glob a) t w = w

  named : (c : Context) (h : Head) (t : Ty) → IsClear (read_by h side.Own) → IsNamed (with_own c o) h t → IsNamed (with_own c F) h t
  named c (head.Read (Logical i)) t k w = tt
  named c (head.Read (Program x side.Own)) t k w = own_moved c x t k.0 w
  named c (head.Read (Program x side.Left)) t k w = other_kept c c.left x t w
  named c (head.Read (Program x side.Right)) t k w = other_kept c c.right x t w
  named c (head.Read (Program x (side.Memory i))) t k w = other_kept c _ x t w
  named c (head.Read (Program x (side.Bound i))) t k w = other_kept c _ x t w
  named c (head.Pr p side.Own) t k w = (here w.0, w.1, w.2)
  named c (head.Pr p side.Left) t k w = w
  named c (head.Pr p side.Right) t k w = w
  named c (head.Pr p (side.Memory i)) t k w = w
  named c (head.Pr p (side.Bound i)) t k w = w
  named c (head.AllModule m) t k w = absurd w
  named c (head.Glob m s) t k w = absurd w
  named c (head.Hoare (Proc p)) t k w = w
  named c (head.Phoare (Proc p) l) t k w = w
  named c (head.Equiv (Proc p) (Proc q)) t k w = w
  named c (head.Hoare (Body' n is)) t k w = absurd w
  named c (head.Phoare (Body' n is) l) t k w = absurd w
  named c (head.Equiv (Body' n is) q) t k w = absurd w.0
  named c (head.Equiv (Proc p) (Body' n is)) t k w = absurd w.1
  named c _ t k w = tt

  -- arguments, each in its context; or all but the last one, which has an own memory of its own
  record Moves {n : Count} (ts : Row_of-Term n) : Type 0 where
    all : (a b d : Context) → AreClear true ts → AreTyped (with_own a o) (with_own b o) (with_own d o) ts → AreTyped (with_own a F) (with_own b F) (with_own d F) ts
    but_last : (a b d : Context) → AreClear false ts → AreTyped (with_own a o) (with_own b o) d ts → AreTyped (with_own a F) (with_own b F) d ts

  arguments : {n : Count} (c : Context) (h : Head) (us : List Ty) (t : Ty) → IsNamed (with_own c o) h t → (ls : List TypedName) (ts : Row_of-Term n) → Moves ts →
      IsClear (read_in side.Own tt T (outside h side.Own (length (each_read side.Own ts))) ts) →
      AreTyped (first (with_own c o) h) (middle (with_own c o) h) (last (with_own c o) ls h us) ts → AreTyped (first (with_own c F) h) (middle (with_own c F) h) (last (with_own c F) ls h us) ts
  arguments c (head.Hoare (Proc p)) us t w ls ts m e x = x
  arguments c (head.Phoare (Proc p) l) us t w ls ts m e x = x
  arguments c (head.Equiv (Proc p) (Proc q)) us t w ls ts m e x =
      let a = with_sides c (before (procedure c p)) (before (procedure c q)) in
      let b = with_sides c (after (procedure c p)) (after (procedure c q)) in
      m.all a b b (clear_all side.Own tt T true ts (λ q. e)) x
  arguments c (head.Hoare (Body' n is)) us t w ls ts m e x = absurd w
  arguments c (head.Phoare (Body' n is) l) us t w ls ts m e x = absurd w
  arguments c (head.Equiv (Body' n is) q) us t w ls ts m e x = absurd w.0
  arguments c (head.Equiv (Proc p) (Body' n is)) us t w ls ts m e x = absurd w.1
  arguments c (head.AllModule b) us t w ls ts m e x = absurd w
  arguments c (head.Glob b s) us t w ls ts m e x = absurd w
  arguments c (head.Pr p s) us t w ls ts m e x =
      m.but_last c c (last (with_own c o) ls (head.Pr p s) us) (clear_but_last side.Own tt T true false refl ts (length (each_read side.Own ts) - 1) refl (λ q. e)) x
  arguments c (head.All u) us t w ls ts m e x = m.all c c (last c ls (head.All u) us) (clear_all side.Own tt T true ts (λ q. e)) x
  arguments c (head.Some u) us t w ls ts m e x = m.all c c (last c ls (head.Some u) us) (clear_all side.Own tt T true ts (λ q. e)) x
  arguments c head.AllMemory us t w ls ts m e x = m.all c c (last c ls head.AllMemory us) (clear_all side.Own tt T true ts (λ q. e)) x
  arguments c head.SomeMemory us t w ls ts m e x = m.all c c (last c ls head.SomeMemory us) (clear_all side.Own tt T true ts (λ q. e)) x
  arguments c (head.Sum q) us t w ls ts m e x = m.all c c (last c ls (head.Sum q) us) (clear_all side.Own tt T true ts (λ q. e)) x
  arguments c head.Mu (u ∷ us) t w ls ts m e x = m.all c c (last c ls head.Mu (u ∷ us)) (clear_all side.Own tt T true ts (λ q. e)) x
  arguments c head.Map (u ∷ us) t w ls ts m e x = m.all c c (last c ls head.Map (u ∷ us)) (clear_all side.Own tt T true ts (λ q. e)) x
  arguments c head.Restrict (u ∷ us) t w ls ts m e x = m.all c c (last c ls head.Restrict (u ∷ us)) (clear_all side.Own tt T true ts (λ q. e)) x
  arguments c head.Mu [] t w ls ts m e x = m.all c c c (clear_all side.Own tt T true ts (λ q. e)) x
  arguments c head.Map [] t w ls ts m e x = m.all c c c (clear_all side.Own tt T true ts (λ q. e)) x
  arguments c head.Restrict [] t w ls ts m e x = m.all c c c (clear_all side.Own tt T true ts (λ q. e)) x
  arguments c _ us t w ls ts m e x = m.all c c c (clear_all side.Own tt T true ts (λ q. e)) x

  mutual
    pub own_typed : (t : Term) (c : Context) → IsClear (variables_read side.Own t) → IsTyped (with_own c o) t → IsTyped (with_own c F) t
    own_typed (Term' tt (more_of-Head h end_of-Head) n ts t) c k w =
        let z = clear_append side.Own tt T (read_by h side.Own) _ k in
        (w.0, named c h t z.0 w.1, w.2, arguments c h (types_of ts) t w.1 w.2 ts (record { all = all_typed ts; but_last = but_last_typed ts }) z.1 w.3)

    all_typed : {n : Count} (ts : Row_of-Term n) (a b d : Context) → AreClear true ts → AreTyped (with_own a o) (with_own b o) (with_own d o) ts → AreTyped (with_own a F) (with_own b F) (with_own d F) ts
    all_typed end_of-Term a b d k w = tt
    all_typed (more_of-Term t end_of-Term) a b d k w = own_typed t d (k refl) w
    all_typed (more_of-Term t (more_of-Term u ts)) a b d k w = (own_typed t a (k.0 refl) w.0, all_typed (more_of-Term u ts) b b d k.1 w.1)

    but_last_typed : {n : Count} (ts : Row_of-Term n) (a b d : Context) → AreClear false ts → AreTyped (with_own a o) (with_own b o) d ts → AreTyped (with_own a F) (with_own b F) d ts
    but_last_typed end_of-Term a b d k w = tt
    but_last_typed (more_of-Term t end_of-Term) a b d k w = w
    but_last_typed (more_of-Term t (more_of-Term u ts)) a b d k w = (own_typed t a (k.0 refl) w.0, but_last_typed (more_of-Term u ts) b b d k.1 w.1)
