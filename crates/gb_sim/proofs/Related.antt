-- Forms that say of variables that each is equal on both sides.
use Rattle.std.proofs.Common.{◌≡◌, inl, inr, ◌⊎◌, Bool, true, false, ◌&&◌, if◌then◌else◌, List, [], ◌∷◌, map, Option, Some, None, refl, ap, sym, ◌∙◌, subst, arith}
use Rattle.std.proofs.lemmas.Option.{same_Some, none-some}
use Rattle.std.specs.List.{AllByRecursion}
use Rattle.gb_core.specs.declared.ty.Ty.{Ty}
use Rattle.gb_core.specs.declared.ty.Ty.TheVariants as ty
use Rattle.gb_core.specs.declared.value.Value.TheVariants.{Num}
use Rattle.gb_core.specs.declared.var.Var.{Var}
use Rattle.gb_core.specs.declared.var.Var.TheVariants as var
use Rattle.gb_core.specs.Numbering.{parts_in, parts_of}
use Rattle.gb_core.proofs.Lawful.{out-Many}
use Rattle.gb_terms.specs.declared.decl.TypedName.{TypedName}
use Rattle.gb_terms.specs.declared.module.Mexp.TheVariants.{Name as named}
use Rattle.gb_terms.specs.declared.op.Op.TheVariants as op
use Rattle.gb_terms.specs.declared.op.Read.TheVariants.{Logical, Program}
use Rattle.gb_terms.specs.declared.op.Side.{Side}
use Rattle.gb_terms.specs.declared.op.Side.TheVariants as side
use Rattle.gb_terms.specs.declared.term.Head.{Head}
use Rattle.gb_terms.specs.declared.term.Head.TheVariants as head
use Rattle.gb_terms.specs.declared.term.Term.{Term, Term', Row_of-Term, end_of-Term, more_of-Term, end_of-Head, more_of-Head}
use Rattle.gb_terms.specs.Equal.{side_eq}
use Rattle.gb_terms.specs.Make.{truth_literal}
use Rattle.gb_terms.proofs.Equality.{side_eq-Decides}
use Rattle.gb_meaning.specs.Commands.{terms_in}
use Rattle.gb_meaning.specs.Judgments.{Judge, den, speaking}
use Rattle.gb_meaning.specs.Meanings.{same, truth}
use Rattle.gb_meaning.specs.Memory.{Memory, read, read_global}
use Rattle.gb_meaning.specs.Setting.{Setting}
use Rattle.gb_meaning.specs.Setting.Meaning.{finite}
use Rattle.gb_meaning.specs.State.{State, between, memory_of}
use Rattle.gb_meaning.specs.Terms.{val, at_head, parts}
use Rattle.gb_meaning.specs.Values.{Global, Types}
use Rattle.gb_meaning.proofs.Nodes.{val_node}
use Rattle.gb_meaning.proofs.Truths.{true_equal, truth_of}
use Rattle.gb_meaning.proofs.Values.{value_eq-true}
use Rattle.gb_laws.specs.Cells.{Cell, In, Agree, Among, cells_of, global_cell, look}
use Rattle.gb_laws.proofs.Cells.{in_left, read_agree}
use Rattle.gb_laws.proofs.Trees.{out_is}
use Rattle.gb_laws.specs.Finite.{IsFinite}
use Rattle.gb_laws.specs.Typing.{IsHead, IsRead, types_of}
use Rattle.gb_typing.specs.Changes.{Made}
use Rattle.gb_typing.specs.Context.{Context, erased, frame_of, with_sides}
use Rattle.gb_typing.specs.Forms.{and_form}
use Rattle.gb_typing.specs.Typing.{AreTyped, IsForm, IsIn, IsNamed, IsTyped, first, middle, last}
use Rattle.gb_typing.proofs.Forms.{and_typed, and_use, form_made}
use Rattle.gb_typing.proofs.Literals.{bool_literal}
use Rattle.gb_typing.proofs.Made.{made_node}
use Rattle.gb_typing.proofs.Supported.{equal_values}
use Rattle.gb_labels.specs.declared.reads.TypedVar.{TypedVar}
use Rattle.gb_labels.specs.Reads.{Vars}
use Rattle.gb_forms.specs.Ordered.{is_same, joined}
use Rattle.gb_sim.specs.Sim.{both, each_equal, equal_in, equal_on, equality, equated, equated_at, first_known, read_in, same_variable, variable_in, variable_of, with_equalities}
use Rattle.gb_sim.proofs.Agreeing.{AgreeOn, agree_new, agree_old, cells, in_either, same_is}
use Rattle.gb_sim.proofs.Typed.{AreReadable, IsReadable, all_joined}
use mathlib.Core.Former.{Count}

-- The same variable on both sides.
record IsOneVariable (o u : Option TypedVar) (V : Vars) : Type 0 where
  variable : TypedVar
  left : o ≡ Some variable
  right : u ≡ Some variable
  is : variable ∷ [] ≡ V

one_variable : (o u : Option TypedVar) (V : Vars) → same_variable o u ≡ Some V → IsOneVariable o u V
one_variable None u V e = absurd (none-some V e)
one_variable (Some x) None V e = absurd (none-some V e)
one_variable (Some x) (Some y) V e = by_test (is_same x y) refl e
  where
    by_test : (b : Bool) → is_same x y ≡ b → (if b then Some (x ∷ []) else None) ≡ Some V → IsOneVariable (Some x) (Some y) V
    by_test true k i = record { variable = x; left = refl; right = ap Some (sym (same_is x y k)); is = same_Some (x ∷ []) V i }
    by_test false k i = absurd (none-some V i)

abbrev AreEquated : Term → Term → Vars → Type 0
AreEquated a b V =
    IsOneVariable (variable_in side.Left a) (variable_in side.Right b) V ⊎ IsOneVariable (variable_in side.Right a) (variable_in side.Left b) V

are_equated : (a b : Term) (V : Vars) → equated a b ≡ Some V → AreEquated a b V
are_equated a b V e = by_first (same_variable (variable_in side.Left a) (variable_in side.Right b)) refl e
  where
    by_first : (o : Option Vars) → same_variable (variable_in side.Left a) (variable_in side.Right b) ≡ o →
        first_known o (same_variable (variable_in side.Right a) (variable_in side.Left b)) ≡ Some V → AreEquated a b V
    by_first (Some U) d i = inl (one_variable _ _ V (d ∙ i))
    by_first None d i = inr (one_variable _ _ V i)

record AreFound (o u : Option Vars) (V : Vars) : Type 0 where
  left : Vars
  right : Vars
  is_left : o ≡ Some left
  is_right : u ≡ Some right
  is : joined left right ≡ V

both_found : (o u : Option Vars) (V : Vars) → both o u ≡ Some V → AreFound o u V
both_found None u V e = absurd (none-some V e)
both_found (Some W) None V e = absurd (none-some V e)
both_found (Some W) (Some U) V e = record { left = W; right = U; is_left = refl; is_right = refl; is = same_Some (joined W U) V e }

-- what is read of a variable is the same in both memories
abbrev ReadsSame : Types → Memory → Memory → TypedVar → Type 0
ReadsSame t m n x = read t m x.var x.ty ≡ read t n x.var x.ty

module _ (t : Types) (m n : Memory) where
  globals_same : (fs : List Global) → map (read_global t m) fs ≡ map (read_global t n) fs → (d : Cell) → In d (map global_cell fs) → look t m d ≡ look t n d
  globals_same [] e d i = absurd i
  globals_same (f ∷ fs) e d (inl k) = subst (λ z. look t m z ≡ look t n z) (sym k) (cc)
  globals_same (f ∷ fs) e d (inr k) = globals_same fs (cc) d k

  cells_same : (x : Var) (u : Ty) → read t m x u ≡ read t n x u → Agree t (Among (cells_of t x u)) m n
  cells_same (var.Global p x) u e d (inl k) = subst (λ z. look t m z ≡ look t n z) (sym k) e
  cells_same (var.Global p x) u e d (inr k) = absurd k
  cells_same (var.Local x) u e d (inl k) = subst (λ z. look t m z ≡ look t n z) (sym k) e
  cells_same (var.Local x) u e d (inr k) = absurd k
  cells_same (var.Glob a) u e d i =
      let fs = t.footprint (named a) in
      globals_same fs (sym (ap parts_in (out-Many (map (read_global t m) fs))) ∙ ap parts_of e ∙ ap parts_in (out-Many (map (read_global t n) fs))) d i

  all_agree : (V : Vars) → AllByRecursion (ReadsSame t m n) V → AgreeOn t V m n
  all_agree [] h d i = absurd i
  all_agree (x ∷ V) h d i = elim (in_either d (cells_of t x.var x.ty) (cells t V) i) [ inl j ↦ cells_same x.var x.ty h.0 d j | inr j ↦ all_agree V h.1 d j ]

  first_same : (x : TypedVar) (V : Vars) → AgreeOn t (x ∷ V) m n → ReadsSame t m n x
  first_same x V a =
      read_agree t (Among (cells t (x ∷ V))) x.var x.ty (λ d i. in_left d (cells_of t x.var x.ty) (cells t V) i) m n a

module _ (g : Setting) (j : Judge) (s : State) (m n : Memory) where
  abbrev here : State
  here = between s m n

  variable_means : (r : Side) (x : TypedVar) → val g (speaking g j) (variable_of r x) here ≡ finite (read g.types (memory_of here r) x.var x.ty)
  variable_means r x = val_node g (speaking g j) (head.Read (Program x.var r)) [] x.ty here

  equality_says : (x : TypedVar) → den g j (equality x) here ≡ true → ReadsSame g.types m n x
  equality_says x h = (true_equal g j (variable_of side.Left x) (variable_of side.Right x) _ _ here (variable_means side.Left x) (variable_means side.Right x)).0 h

  with_says : (f : Term) (V : Vars) → den g j (with_equalities f V) here ≡ true → (den g j f here ≡ true) × AllByRecursion (ReadsSame g.types m n) V
  with_says f [] h = (h, tt)
  with_says f (x ∷ V) h =
      let k = with_says (and_form f (equality x)) V h in
      let l = and_use g j f (equality x) here k.0 in
      (l.0, (equality_says x l.1, k.1))

  -- what the form says
  pub equal_says : (V : Vars) → den g j (equal_on V) here ≡ true → AgreeOn g.types V m n
  equal_says [] h = λ d i. absurd i
  equal_says (x ∷ V) h = let k = with_says (equality x) V h in all_agree g.types m n (x ∷ V) (equality_says x k.0, k.1)

  -- A term that is a variable of a memory.
  side_is : (r z : Side) → side_eq z r ≡ true → z ≡ r
  side_is r z e = (side_eq-Decides z r).0 e

  head_means : (r : Side) (h : Head) (u : Ty) (x : TypedVar) → read_in r h u ≡ Some x → (y : Var) × (z : Side) × (h ≡ head.Read (Program y z)) × (z ≡ r) × (record { var = y; ty = u } ≡ x)
  head_means r (head.Read (Program y z)) u x e = by_test (side_eq z r) refl e
    where
      by_test : (b : Bool) → side_eq z r ≡ b → (if b then Some (record { var = y; ty = u }) else None) ≡ Some x →
          (v : Var) × (w : Side) × (head.Read (Program y z) ≡ head.Read (Program v w)) × (w ≡ r) × (record { var = v; ty = u } ≡ x)
      by_test true k i = (y, z, refl, side_is r z k, same_Some (record { var = y; ty = u }) x i)
      by_test false k i = absurd (none-some x i)
  head_means r (head.Read (Logical i)) u x e = absurd (none-some x e)
  head_means r _ u x e = absurd (none-some x e)

  term_means : (r : Side) (a : Term) (x : TypedVar) → variable_in r a ≡ Some x → val g (speaking g j) a here ≡ finite (read g.types (memory_of here r) x.var x.ty)
  term_means r (Term' tt (more_of-Head h end_of-Head) k ts u) x e =
      let o = out_is h k ts u in
      let z = head_means r h u x ((λ i. read_in r (sym o i).head (sym o i).ty) ∙ e) in
      ap (λ (w : Head). at_head g (speaking g j) (Term' tt (more_of-Head h end_of-Head) k ts u) w (parts g (speaking g j) ts) u here) z.2
      ∙ ap (λ w. finite (read g.types (memory_of here w) z.0 u)) z.3
      ∙ ap (λ (w : TypedVar). finite (read g.types (memory_of here r) w.var w.ty)) z.4

  -- an equation of a variable of both memories
  variables_same : (r z : Side) (a b : Term) (x : TypedVar) → variable_in r a ≡ Some x → variable_in z b ≡ Some x →
      read g.types (memory_of here r) x.var x.ty ≡ read g.types (memory_of here z) x.var x.ty → same (val g (speaking g j) a here) (val g (speaking g j) b here) ≡ true
  variables_same r z a b x p q e =
      let k = term_means r a x p in
      let l = term_means z b x q in
      (λ i. same (k i) (l i)) ∙ (value_eq-true (read g.types (memory_of here r) x.var x.ty) (read g.types (memory_of here z) x.var x.ty)).1 e

  equated_same : (a b : Term) (V : Vars) → AreEquated a b V → AgreeOn g.types V m n → same (val g (speaking g j) a here) (val g (speaking g j) b here) ≡ true
  equated_same a b V (inl k) h = variables_same side.Left side.Right a b k.variable k.left k.right (first_same g.types m n k.variable [] (subst (λ U. AgreeOn g.types U m n) (sym k.is) h))
  equated_same a b V (inr k) h = variables_same side.Right side.Left a b k.variable k.left k.right (sym (first_same g.types m n k.variable [] (subst (λ U. AgreeOn g.types U m n) (sym k.is) h)))

  mutual
    -- where the memories agree on these variables, the form holds
    pub equal_holds : (q : Term) (V : Vars) → equal_in q ≡ Some V → AgreeOn g.types V m n → den g j q here ≡ true
    equal_holds (Term' p (more_of-Head h end_of-Head) k ts u) V e a = at_holds (Term' p (more_of-Head h end_of-Head) k ts u) h ts u V e a

    at_holds : (q : Term) (h : Head) {k : Count} (ts : Row_of-Term k) (u : Ty) (V : Vars) → equated_at h (terms_in ts) (each_equal ts) ≡ Some V → AgreeOn g.types V m n →
        truth (at_head g (speaking g j) q h (parts g (speaking g j) ts) u here) ≡ true
    at_holds q (head.Builtin op.And) end_of-Term u V e a = absurd (none-some V e)
    at_holds q (head.Builtin op.And) (more_of-Term x end_of-Term) u V e a = absurd (none-some V e)
    at_holds q (head.Builtin op.And) (more_of-Term x (more_of-Term y end_of-Term)) u V e a =
        let z = both_found (equal_in x) (equal_in y) V e in
        let h = subst (λ U. AgreeOn g.types U m n) (sym z.is) a in
        truth_of (den g j x here && den g j y here)
        ∙ (λ i. equal_holds x z.left z.is_left (agree_new g.types m n z.left z.right h) i && equal_holds y z.right z.is_right (agree_old g.types m n z.left z.right h) i)
    at_holds q (head.Builtin op.And) (more_of-Term x (more_of-Term y (more_of-Term z ts))) u V e a = absurd (none-some V e)
    at_holds q (head.Builtin op.Equal) end_of-Term u V e a = absurd (none-some V e)
    at_holds q (head.Builtin op.Equal) (more_of-Term x end_of-Term) u V e a = absurd (none-some V e)
    at_holds q (head.Builtin op.Equal) (more_of-Term x (more_of-Term y end_of-Term)) u V e a =
        truth_of (same (val g (speaking g j) x here) (val g (speaking g j) y here)) ∙ equated_same x y V (are_equated x y V e) a
    at_holds q (head.Builtin op.Equal) (more_of-Term x (more_of-Term y (more_of-Term z ts))) u V e a = absurd (none-some V e)
    at_holds q (head.Builtin _) ts u V e a = absurd (none-some V e)
    at_holds q _ ts u V e a = absurd (none-some V e)

-- Typing.
module _ (c : Context) (ls rs : List TypedName) where
  abbrev sides : Context
  sides = with_sides c (Some ls) (Some rs)

  abbrev AreOnBoth : Vars → Type 0
  AreOnBoth V = AreReadable c ls V × AreReadable c rs V

  right_read : (x : Var) (u : Ty) → IsRead (erased c) (Program x side.Left) u → IsRead (erased c) (Program x side.Right) u
  right_read (var.Global m x) u h = h
  right_read (var.Local x) u h = h
  right_read (var.Glob a) u h = h

  read_finite : (x : Var) (u : Ty) → IsRead (erased c) (Program x side.Left) u → IsFinite u
  read_finite (var.Global m x) u h = h.1
  read_finite (var.Local x) u h = h.1
  read_finite (var.Glob a) u h = subst IsFinite (sym h.1) refl

  equality_typed : (x : TypedVar) → IsReadable c ls x → IsReadable c rs x → IsForm sides (equality x)
  equality_typed x h k =
      let a : Made sides x.ty (variable_of side.Left x) = made_node sides (head.Read (Program x.var side.Left)) [] [] x.ty h.0 h.1 [] tt in
      let b : Made sides x.ty (variable_of side.Right x) = made_node sides (head.Read (Program x.var side.Right)) [] [] x.ty (right_read x.var x.ty k.0) k.1 [] tt in
      equal_values sides x.ty (variable_of side.Left x) (variable_of side.Right x) (read_finite x.var x.ty h.0) a b

  with_typed : (f : Term) (V : Vars) → IsForm sides f → AreOnBoth V → IsForm sides (with_equalities f V)
  with_typed f [] w h = w
  with_typed f (x ∷ V) w h = with_typed (and_form f (equality x)) V (and_typed sides f (equality x) w (equality_typed x h.0.0 h.1.0)) (h.0.1, h.1.1)

  pub equal_typed : (V : Vars) → AreOnBoth V → IsForm sides (equal_on V)
  equal_typed [] h = form_made sides (truth_literal true) (made_node sides (head.Lit (Num 1)) [] [] ty.Bool (bool_literal 1 (omega arith)) tt [] tt)
  equal_typed (x ∷ V) h = with_typed (equality x) V (equality_typed x h.0.0 h.1.0) (h.0.1, h.1.1)

  -- the variables of such a form stand in both memories
  head_typed : (r : Side) (ks : List TypedName) → frame_of sides r ≡ Some ks → (h : Head) (us : List Ty) (u : Ty) → IsHead (erased sides) h us u → IsNamed sides h u → (x : TypedVar) → read_in r h u ≡ Some x → IsReadable c ks x
  head_typed r ks f (head.Read (Program y z)) [] u k i x e = by_test (side_eq z r) refl e
    where
      left : (y : Var) → IsRead (erased sides) (Program y z) u → IsIn sides (frame_of sides z) y u → IsRead (erased c) (Program y side.Left) u
      left (var.Global m y) k i = (tt, k.1, k.2)
      left (var.Local y) k i = (tt, k.1)
      left (var.Glob a) k i = (tt, k.1)

      by_test : (b : Bool) → side_eq z r ≡ b → (if b then Some (record { var = y; ty = u }) else None) ≡ Some x → IsReadable c ks x
      by_test true p q =
          subst (IsReadable c ks) (same_Some (record { var = y; ty = u }) x q)
          (left y k i, subst (λ F. IsIn sides F y u) (ap (frame_of sides) ((side_eq-Decides z r).0 p) ∙ f) i)
      by_test false p q = absurd (none-some x q)
  head_typed r ks f (head.Read (Program y z)) (v ∷ us) u k i x e = absurd k
  head_typed r ks f (head.Read (Logical n)) us u k i x e = absurd (none-some x e)
  head_typed r ks f _ us u k i x e = absurd (none-some x e)

  term_typed : (r : Side) (ks : List TypedName) → frame_of sides r ≡ Some ks → (a : Term) → IsTyped sides a → (x : TypedVar) → variable_in r a ≡ Some x → IsReadable c ks x
  term_typed r ks f (Term' tt (more_of-Head h end_of-Head) k ts u) w x e =
      let o = out_is h k ts u in head_typed r ks f h (types_of ts) u w.0 w.1 x ((λ i. read_in r (sym o i).head (sym o i).ty) ∙ e)

  equated_readable : (a b : Term) (V : Vars) → AreEquated a b V → IsTyped sides a → IsTyped sides b → AreOnBoth V
  equated_readable a b V (inl k) v w =
      subst AreOnBoth k.is ((term_typed side.Left ls refl a v k.variable k.left, tt), (term_typed side.Right rs refl b w k.variable k.right, tt))
  equated_readable a b V (inr k) v w =
      subst AreOnBoth k.is ((term_typed side.Left ls refl b w k.variable k.right, tt), (term_typed side.Right rs refl a v k.variable k.left, tt))

  mutual
    pub equal_readable : (q : Term) (V : Vars) → equal_in q ≡ Some V → IsTyped sides q → AreOnBoth V
    equal_readable (Term' p (more_of-Head h end_of-Head) k ts u) V e w = at_readable h ts V e w.2 w.3

    at_readable : (h : Head) {k : Count} (ts : Row_of-Term k) (V : Vars) → equated_at h (terms_in ts) (each_equal ts) ≡ Some V → (ks : List TypedName) →
        AreTyped (first sides h) (middle sides h) (last sides ks h (types_of ts)) ts → AreOnBoth V
    at_readable (head.Builtin op.And) end_of-Term V e ks w = absurd (none-some V e)
    at_readable (head.Builtin op.And) (more_of-Term x end_of-Term) V e ks w = absurd (none-some V e)
    at_readable (head.Builtin op.And) (more_of-Term x (more_of-Term y end_of-Term)) V e ks w =
        let z = both_found (equal_in x) (equal_in y) V e in
        let a = equal_readable x z.left z.is_left w.0 in
        let b = equal_readable y z.right z.is_right w.1 in
        subst AreOnBoth z.is (all_joined (IsReadable c ls) z.left z.right a.0 b.0, all_joined (IsReadable c rs) z.left z.right a.1 b.1)
    at_readable (head.Builtin op.And) (more_of-Term x (more_of-Term y (more_of-Term z ts))) V e ks w = absurd (none-some V e)
    at_readable (head.Builtin op.Equal) end_of-Term V e ks w = absurd (none-some V e)
    at_readable (head.Builtin op.Equal) (more_of-Term x end_of-Term) V e ks w = absurd (none-some V e)
    at_readable (head.Builtin op.Equal) (more_of-Term x (more_of-Term y end_of-Term)) V e ks w = equated_readable x y V (are_equated x y V e) w.0 w.1
    at_readable (head.Builtin op.Equal) (more_of-Term x (more_of-Term y (more_of-Term z ts))) V e ks w = absurd (none-some V e)
    at_readable (head.Builtin _) ts V e ks w = absurd (none-some V e)
    at_readable _ ts V e ks w = absurd (none-some V e)
