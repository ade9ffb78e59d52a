-- A term is well typed with other locals of both sides, where it reads those alone that are there too.
use Rattle.std.proofs.Common.{◌≡◌, Bool, true, false, List, [], ◌∷◌, length, None, refl}
use Rattle.gb_core.specs.declared.ty.Ty.{Ty}
use Rattle.gb_core.specs.declared.var.Var.{Var}
use Rattle.gb_core.specs.declared.var.Var.TheVariants as var
use Rattle.gb_terms.specs.declared.decl.TypedName.{TypedName}
use Rattle.gb_terms.specs.declared.op.Side.TheVariants as side
use Rattle.gb_terms.specs.declared.op.Read.TheVariants.{Logical, Program}
use Rattle.gb_terms.specs.declared.term.Term.{Term, Term', Row_of-Term, end_of-Term, more_of-Term, end_of-Head, more_of-Head}
use Rattle.gb_terms.specs.declared.term.Head.{Head}
use Rattle.gb_terms.specs.declared.term.Head.TheVariants as head
use Rattle.gb_terms.specs.declared.term.Head.TheVariants.{Body', Proc}
use Rattle.gb_walk.specs.Clash.{read_by, outside, variables_read, each_read}
use Rattle.gb_laws.specs.Typing.{types_of}
use Rattle.gb_typing.specs.Context.{Frame, Context, procedure, with_own, with_sides}
use Rattle.gb_typing.specs.Typing.{IsFrame, IsIn, IsNamed, before, after, first, middle, last, IsTyped, AreTyped}
use Rattle.gb_typing.proofs.Spared.{Clear, ClearIn, read_in, clear_append, clear_all}
use mathlib.Core.Former.{Count}

module _ (o p F G : Frame) (T U : Var → Bool) (left_moves : (c : Context) (x : Var) (t : Ty) → T x ≡ false → IsIn c o x t → IsIn c F x t)
    (right_moves : (c : Context) (x : Var) (t : Ty) → U x ≡ false → IsIn c p x t → IsIn c G x t) (left_here : IsFrame o → IsFrame F) (right_here : IsFrame p → IsFrame G) where
  abbrev IsClear : List Var → Type 0
  IsClear = Clear side.Left tt T

  abbrev IsClearRight : List Var → Type 0
  IsClearRight = Clear side.Right tt U

  abbrev AreClear : {n : Count} → Row_of-Term n → Type 0
  AreClear ts = ClearIn side.Left tt T true true ts × ClearIn side.Right tt U true true ts

  abbrev old : Context → Context
  old c = with_sides c o p

  abbrev new : Context → Context
  new c = with_sides c F G

  left_moved : (c : Context) (x : Var) (t : Ty) → T x ≡ false → IsIn (old c) o x t → IsIn (new c) F x t
  left_moved c (var.Local x) t n w = left_moves c (var.Local x) t n w
  left_moved c (var.Global m x) t n w = left_moves c (var.Global m x) t n w
  left_moved c (var.Glob a) t n w = left_moves c (var.Glob a) t n w

  right_moved : (c : Context) (x : Var) (t : Ty) → U x ≡ false → IsIn (old c) p x t → IsIn (new c) G x t
  right_moved c (var.Local x) t n w = right_moves c (var.Local x) t n w
  right_moved c (var.Global m x) t n w = right_moves c (var.Global m x) t n w
  right_moved c (var.Glob a) t n w = right_moves c (var.Glob a) t n w

  other_kept : (c : Context) (f : Frame) (x : Var) (t : Ty) → IsIn (old c) f x t → IsIn (new c) f x t
  other_kept c f (var.Local x) t w = w
  other_kept c f (var.Global m x) t w = w
  other_kept c f (var.Glob a) t w = w

  named : (c : Context) (h : Head) (t : Ty) → IsClear (read_by h side.Left) → IsClearRight (read_by h side.Right) → IsNamed (old c) h t → IsNamed (new c) h t
  named c (head.Read (Logical i)) t k l w = tt
  named c (head.Read (Program x side.Own)) t k l w = other_kept c c.own x t w
  named c (head.Read (Program x side.Left)) t k l w = left_moved c x t k.0 w
  named c (head.Read (Program x side.Right)) t k l w = right_moved c x t l.0 w
  named c (head.Read (Program x (side.Memory i))) t k l w = other_kept c _ x t w
  named c (head.Read (Program x (side.Bound i))) t k l w = other_kept c _ x t w
  named c (head.Pr q side.Own) t k l w = w
  named c (head.Pr q side.Left) t k l w = (left_here w.0, w.1, w.2)
  named c (head.Pr q side.Right) t k l w = (right_here w.0, w.1, w.2)
  named c (head.Pr q (side.Memory i)) t k l w = w
  named c (head.Pr q (side.Bound i)) t k l w = w
  named c (head.AllModule m) t k l w = absurd w
  named c (head.Glob m s) t k l w = absurd w
  named c (head.Hoare (Proc q)) t k l w = w
  named c (head.Phoare (Proc q) r) t k l w = w
  named c (head.Equiv (Proc q) (Proc u)) t k l w = w
  named c (head.Hoare (Body' n is)) t k l w = absurd w
  named c (head.Phoare (Body' n is) r) t k l w = absurd w
  named c (head.Equiv (Body' n is) q) t k l w = absurd w.0
  named c (head.Equiv (Proc q) (Body' n is)) t k l w = absurd w.1
  named c _ t k l w = tt

  -- arguments, each in its context
  abbrev Moves : {n : Count} → Row_of-Term n → Type 0
  Moves ts = (a b d : Context) → AreClear ts → AreTyped (old a) (old b) (old d) ts → AreTyped (new a) (new b) (new d) ts

  arguments : {n : Count} (c : Context) (h : Head) (us : List Ty) (t : Ty) → IsNamed (old c) h t → (ls : List TypedName) (ts : Row_of-Term n) → Moves ts →
      IsClear (read_in side.Left tt T (outside h side.Left (length (each_read side.Left ts))) ts) → IsClearRight (read_in side.Right tt U (outside h side.Right (length (each_read side.Right ts))) ts) →
      AreTyped (first (old c) h) (middle (old c) h) (last (old c) ls h us) ts → AreTyped (first (new c) h) (middle (new c) h) (last (new c) ls h us) ts
  arguments c (head.Hoare (Proc q)) us t w ls ts m e f x =
      let b = with_own c (after (procedure c q)) in
      m (with_own c (before (procedure c q))) b b (clear_all side.Left tt T true ts (λ z. e), clear_all side.Right tt U true ts (λ z. f)) x
  arguments c (head.Phoare (Proc q) l) us t w ls ts m e f x =
      m (with_own c (before (procedure c q))) (with_own c (after (procedure c q))) (with_own c None) (clear_all side.Left tt T true ts (λ z. e), clear_all side.Right tt U true ts (λ z. f)) x
  arguments c (head.Equiv (Proc q) (Proc u)) us t w ls ts m e f x = x
  arguments c (head.Hoare (Body' n is)) us t w ls ts m e f x = absurd w
  arguments c (head.Phoare (Body' n is) l) us t w ls ts m e f x = absurd w
  arguments c (head.Equiv (Body' n is) q) us t w ls ts m e f x = absurd w.0
  arguments c (head.Equiv (Proc q) (Body' n is)) us t w ls ts m e f x = absurd w.1
  arguments c (head.AllModule b) us t w ls ts m e f x = absurd w
  arguments c (head.Glob b s) us t w ls ts m e f x = absurd w
  arguments c (head.Pr q s) us t w ls ts m e f x = m c c (with_own c (after (procedure c q))) (clear_all side.Left tt T true ts (λ z. e), clear_all side.Right tt U true ts (λ z. f)) x
  arguments c (head.All u) us t w ls ts m e f x = m c c (last c ls (head.All u) us) (clear_all side.Left tt T true ts (λ z. e), clear_all side.Right tt U true ts (λ z. f)) x
  arguments c (head.Some u) us t w ls ts m e f x = m c c (last c ls (head.Some u) us) (clear_all side.Left tt T true ts (λ z. e), clear_all side.Right tt U true ts (λ z. f)) x
  arguments c head.AllMemory us t w ls ts m e f x = m c c (last c ls head.AllMemory us) (clear_all side.Left tt T true ts (λ z. e), clear_all side.Right tt U true ts (λ z. f)) x
  arguments c head.SomeMemory us t w ls ts m e f x = m c c (last c ls head.SomeMemory us) (clear_all side.Left tt T true ts (λ z. e), clear_all side.Right tt U true ts (λ z. f)) x
  arguments c (head.Sum q) us t w ls ts m e f x = m c c (last c ls (head.Sum q) us) (clear_all side.Left tt T true ts (λ z. e), clear_all side.Right tt U true ts (λ z. f)) x
  arguments c head.Mu (u ∷ us) t w ls ts m e f x = m c c (last c ls head.Mu (u ∷ us)) (clear_all side.Left tt T true ts (λ z. e), clear_all side.Right tt U true ts (λ z. f)) x
  arguments c head.Map (u ∷ us) t w ls ts m e f x = m c c (last c ls head.Map (u ∷ us)) (clear_all side.Left tt T true ts (λ z. e), clear_all side.Right tt U true ts (λ z. f)) x
  arguments c head.Restrict (u ∷ us) t w ls ts m e f x = m c c (last c ls head.Restrict (u ∷ us)) (clear_all side.Left tt T true ts (λ z. e), clear_all side.Right tt U true ts (λ z. f)) x
  arguments c head.Mu [] t w ls ts m e f x = m c c c (clear_all side.Left tt T true ts (λ z. e), clear_all side.Right tt U true ts (λ z. f)) x
  arguments c head.Map [] t w ls ts m e f x = m c c c (clear_all side.Left tt T true ts (λ z. e), clear_all side.Right tt U true ts (λ z. f)) x
  arguments c head.Restrict [] t w ls ts m e f x = m c c c (clear_all side.Left tt T true ts (λ z. e), clear_all side.Right tt U true ts (λ z. f)) x
  arguments c _ us t w ls ts m e f x = m c c c (clear_all side.Left tt T true ts (λ z. e), clear_all side.Right tt U true ts (λ z. f)) x

  mutual
    pub sides_typed : (t : Term) (c : Context) → IsClear (variables_read side.Left t) → IsClearRight (variables_read side.Right t) → IsTyped (old c) t → IsTyped (new c) t
    sides_typed (Term' tt (more_of-Head h end_of-Head) n ts t) c k l w =
        let z = clear_append side.Left tt T (read_by h side.Left) _ k in
        let y = clear_append side.Right tt U (read_by h side.Right) _ l in
        (w.0, named c h t z.0 y.0 w.1, w.2, arguments c h (types_of ts) t w.1 w.2 ts (λ a b d q v. all_typed ts a b d q v) z.1 y.1 w.3)

    all_typed : {n : Count} (ts : Row_of-Term n) (a b d : Context) → AreClear ts → AreTyped (old a) (old b) (old d) ts → AreTyped (new a) (new b) (new d) ts
    all_typed end_of-Term a b d k w = tt
    all_typed (more_of-Term t end_of-Term) a b d k w = sides_typed t d (k.0 refl) (k.1 refl) w
    all_typed (more_of-Term t (more_of-Term u ts)) a b d k w = (sides_typed t a (k.0.0 refl) (k.1.0 refl) w.0, all_typed (more_of-Term u ts) b b d (k.0.1, k.1.1) w.1)
