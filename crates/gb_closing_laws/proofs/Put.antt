-- A form with a term of a goal in place of a variable that means the same is typed, and means what it meant.
use Rattle.std.proofs.Common.{◌≡◌, ℕ, Bool, true, false, not, cond, Option, None, List, [], ◌∷◌, map, refl, ap, sym, ◌∙◌, subst}
use Rattle.gb_core.specs.declared.ty.Ty.{Ty}
use Rattle.gb_core.specs.declared.var.Var.{Var}
use Rattle.gb_core.specs.declared.var.Var.TheVariants as var
use Rattle.gb_terms.specs.declared.op.Side.TheVariants as side
use Rattle.gb_terms.specs.declared.op.Read.{Read}
use Rattle.gb_terms.specs.declared.op.Read.TheVariants.{Logical, Program}
use Rattle.gb_terms.specs.declared.term.Term.{Term, Term', Row_of-Term, end_of-Term, more_of-Term, end_of-Head, more_of-Head}
use Rattle.gb_terms.specs.declared.term.Head.{Head}
use Rattle.gb_terms.specs.declared.term.Head.TheVariants as head
use Rattle.gb_terms.specs.declared.term.Head.TheVariants.{Proc, Body'}
use Rattle.gb_terms.specs.Equal.{read_eq}
use Rattle.gb_terms.proofs.Equality.{read_eq-Decides}
use Rattle.gb_terms.specs.Make.{node}
use Rattle.gb_walk.specs.Layers.{seen_by}
use Rattle.gb_walk.specs.Raise.{read_raised}
use Rattle.gb_walk.specs.declared.change.Change.TheVariants.{ToTerm}
use Rattle.gb_walk.specs.Change.{Changes, is_own, is_left_or_right, is_read_through, without, under_binder, seen_by_args, seen_by_last, or_later, put_or, read_changed, term_of, term_changed}
use Rattle.gb_walk.specs.Change.Made.{Kept}
use Rattle.gb_meaning.specs.Commands.{terms_in}
use Rattle.gb_meaning.specs.Written.{type_of}
use Rattle.gb_meaning.specs.Setting.{Setting}
use Rattle.gb_meaning.specs.State.{State}
use Rattle.gb_meaning.specs.Terms.{read_at, val}
use Rattle.gb_meaning.specs.Judgments.{Judge, IsFair, speaking, IsSoundForm, AllSound}
use Rattle.gb_meaning.proofs.Nodes.{val_node, denominator_node}
use Rattle.gb_laws.specs.Formed.{IsFormed, AllFormed}
use Rattle.gb_laws.proofs.Changed.{changed_at, term_changed_is}
use Rattle.gb_laws.proofs.Forms.{procedure_stays}
use Rattle.gb_laws.specs.Operators.{IsNoDistribution}
use Rattle.gb_laws.specs.Typing.{types_of, IsHead}
use Rattle.gb_typing.specs.Context.{Context, erased, frame_of, local_in}
use Rattle.gb_typing.specs.Typing.{IsNamed, first, middle, last, IsTyped, AreTyped, IsForm}
use Rattle.gb_typing.specs.Changes.{IsLeaf, Made}
use Rattle.gb_typing.specs.Rules.{outermost}
use Rattle.gb_typing.proofs.Every.{side_of}
use Rattle.gb_typing.proofs.Formed.{formed}
use Rattle.gb_typing.proofs.Made.{EachMade, made_node}
use Rattle.gb_typing.proofs.Sound.{procedures_sound, sound_form}
use Rattle.gb_typing.proofs.Uses.{nothing_in}
use Rattle.gb_typing.specs.Fits.{IsSettingOf}
use Rattle.gb_rewrite.proofs.Inside.{typed_inside}
use Rattle.gb_rewrite.proofs.Kept.{IsInside, inside_first, inside_middle, inside_last}
use Rattle.gb_rewrite.proofs.Means.{Alike, AllAlike, node_alike}
use Rattle.gb_rewrite.proofs.Placed.{IsLike, around, everywhere, one}
use Rattle.gb_rewrite.proofs.Sides.{AreSides}
use Rattle.gb_smt_laws.proofs.Equations.{some_some}
use Rattle.gb_closing_laws.proofs.Still.{term_still}
use mathlib.Core.Former.{Count}

-- What is read outside of all binders has one type inside of them too.
module _ (o d : Context) (i : IsInside o d) where
  same_local : (j : ℕ) (x : Var) (t u : Ty) → IsLeaf (outermost o) (head.Read (Program x (side.Memory j))) t → IsLeaf d (head.Read (Program x (side.Memory j))) u → t ≡ u
  same_local j (var.Global m y) t u w v = some_some t u (sym w.0.2 ∙ sym (ap (λ c. c.global m y) i) ∙ v.0.2)
  same_local j (var.Local y) t u w v = some_some t u (sym w.1 ∙ sym (ap local_at i) ∙ v.1)
    where
      local_at : Context → Option Ty
      local_at c = local_in (frame_of c (side.Memory j)) y
  same_local j (var.Glob a) t u w v = w.0.1 ∙ sym v.0.1

  one_type : (r : Read) (t u : Ty) → IsLeaf (outermost o) (head.Read r) t → IsLeaf d (head.Read r) u → t ≡ u
  one_type (Logical k) t u w v = some_some t u (sym w.0.1 ∙ sym (ap (λ c. c.logical k) i) ∙ v.0.1)
  one_type (Program x side.Own) t u w v = absurd (nothing_in (outermost o) x t w.1)
  one_type (Program x side.Left) t u w v = absurd (nothing_in (outermost o) x t w.1)
  one_type (Program x side.Right) t u w v = absurd (nothing_in (outermost o) x t w.1)
  one_type (Program x (side.Memory j)) t u w v = same_local j x t u w v
  one_type (Program x (side.Bound j)) t u w v = absurd (side_of (outermost o) x (side.Bound j) t w)

module _ (o : Context) (r : Read) (ty : Ty) (u : Term) (leaf : IsLeaf (outermost o) (head.Read r) ty) (typed : IsTyped (outermost o) u) (written : type_of u ≡ ty) where
  abbrev cs : Changes
  cs = ToTerm r u ∷ []

  -- the change is the same inside of binders

  read_still : (q : Read) → IsLeaf (outermost o) (head.Read q) ty → read_raised 0 q ≡ q
  read_still (Logical k) w = refl
  read_still (Program x side.Own) w = refl
  read_still (Program x side.Left) w = refl
  read_still (Program x side.Right) w = refl
  read_still (Program x (side.Memory j)) w = refl
  read_still (Program x (side.Bound j)) w = absurd (side_of (outermost o) x (side.Bound j) ty w)

  under_still : under_binder cs ≡ cs
  under_still = λ i. ToTerm (read_still r leaf i) (term_still o u typed i) ∷ []

  not_own : (q : Read) → IsLeaf (outermost o) (head.Read q) ty → is_read_through is_own q ≡ false
  not_own (Logical k) w = refl
  not_own (Program x side.Own) w = absurd (nothing_in (outermost o) x ty w.1)
  not_own (Program x side.Left) w = refl
  not_own (Program x side.Right) w = refl
  not_own (Program x (side.Memory j)) w = refl
  not_own (Program x (side.Bound j)) w = refl

  not_sides : (q : Read) → IsLeaf (outermost o) (head.Read q) ty → is_read_through is_left_or_right q ≡ false
  not_sides (Logical k) w = refl
  not_sides (Program x side.Own) w = refl
  not_sides (Program x side.Left) w = absurd (nothing_in (outermost o) x ty w.1)
  not_sides (Program x side.Right) w = absurd (nothing_in (outermost o) x ty w.1)
  not_sides (Program x (side.Memory j)) w = refl
  not_sides (Program x (side.Bound j)) w = refl

  own_still : without is_own cs ≡ cs
  own_still = ap (λ b. cond (not b) cs []) (not_own r leaf)

  sides_still : without is_left_or_right cs ≡ cs
  sides_still = ap (λ b. cond (not b) cs []) (not_sides r leaf)

  args_still : (h : Head) → seen_by_args h cs ≡ cs
  args_still (head.Hoare s) = own_still
  args_still (head.Phoare s x) = own_still
  args_still (head.Equiv s t) = sides_still
  args_still _ = refl

  last_still : (h : Head) → seen_by_last h cs ≡ cs
  last_still (head.All t) = under_still
  last_still (head.Some t) = under_still
  last_still head.AllMemory = under_still
  last_still head.SomeMemory = under_still
  last_still (head.AllModule b) = under_still
  last_still head.Mu = under_still
  last_still (head.Sum q) = under_still
  last_still head.Map = under_still
  last_still head.Restrict = under_still
  last_still (head.Pr p s) = own_still
  last_still (head.Hoare s) = own_still
  last_still (head.Phoare s x) = own_still
  last_still (head.Equiv s t) = sides_still
  last_still _ = refl

  abbrev row_changed : {n : Count} → Row_of-Term n → List Term
  row_changed ts = seen_by cs cs (map term_changed (terms_in ts))

  -- a head stays, but a read that gives way
  head_stays : (h : Head) (c : Context) (t : Ty) → IsNamed c h t → ((q : Read) → h ≡ head.Read q → ⊥) → changed_at h cs ≡ Kept h
  head_stays (head.Read q) c t s n = absurd (n q refl)
  head_stays (head.Hoare (Proc p)) c t s n = ap (λ b. Kept (head.Hoare b)) (procedure_stays p cs)
  head_stays (head.Hoare (Body' m is)) c t s n = absurd s
  head_stays (head.Phoare (Proc p) x) c t s n = ap (λ b. Kept (head.Phoare b x)) (procedure_stays p cs)
  head_stays (head.Phoare (Body' m is) x) c t s n = absurd s
  head_stays (head.Equiv (Proc p) (Proc q)) c t s n = λ i. Kept (head.Equiv (procedure_stays p cs i) (procedure_stays q cs i))
  head_stays (head.Equiv (Body' m is) b) c t s n = absurd s.0
  head_stays (head.Equiv (Proc p) (Body' m is)) c t s n = absurd s.1
  head_stays _ c t s n = refl

  node_changed : (h : Head) (n : _) (ts : _) (t : Ty) → changed_at h cs ≡ Kept h → term_changed (Term' tt (more_of-Head h end_of-Head) n ts t) cs ≡ node h (row_changed ts) t
  node_changed h n ts t e =
      term_changed_is h n ts t cs ∙ ap (λ m. term_of m cs (map term_changed (terms_in ts)) t) e
      ∙ (λ i. node h (seen_by (args_still h i) (last_still h i) (map term_changed (terms_in ts))) t)

  read_stays : (q : Read) → read_eq r q ≡ false → changed_at (head.Read q) cs ≡ Kept (head.Read q)
  read_stays (Logical k) e = ap (λ b. put_or (or_later b u None) (head.Read (Logical k))) e
  read_stays (Program x s) e = ap (λ b. put_or (or_later b u None) (head.Read (Program x s))) e

  read_changed_is : (q : Read) (n : _) (ts : _) (t : Ty) → read_eq r q ≡ true → term_changed (Term' tt (more_of-Head (head.Read q) end_of-Head) n ts t) cs ≡ u
  read_changed_is q n ts t e =
      term_changed_is (head.Read q) n ts t cs
      ∙ ap (λ b. term_of (put_or (or_later b u None) (head.Read (read_changed cs q))) cs (map term_changed (terms_in ts)) t) e

  -- types

  put_made : (d : Context) → IsInside o d → (q : Read) (t : Ty) → r ≡ q → IsLeaf d (head.Read q) t → Made d t u
  put_made d i q t e w = record {
    typed = typed_inside d u (subst (λ c. IsTyped c u) (sym i) typed);
    written = written ∙ one_type o d i r ty t leaf (subst (λ z. IsLeaf d (head.Read z) t) (sym e) w);
  }

  leaf_of : (d : Context) (q : Read) (us : List Ty) (t : Ty) → IsHead (erased d) (head.Read q) us t → IsNamed d (head.Read q) t → IsLeaf d (head.Read q) t
  leaf_of d q [] t w s = (w, s)
  leaf_of d q (v ∷ us) t w s = absurd w

  read_made : (d : Context) → IsInside o d → (q : Read) (n : _) (ts : _) (t : Ty) → IsHead (erased d) (head.Read q) (types_of ts) t → IsNamed d (head.Read q) t → Made d t (node (head.Read q) (row_changed ts) t) →
      Made d t (term_changed (Term' tt (more_of-Head (head.Read q) end_of-Head) n ts t) cs)
  read_made d i q n ts t w named kept = step (read_eq r q) refl
    where
      step : (b : Bool) → read_eq r q ≡ b → Made d t (term_changed (Term' tt (more_of-Head (head.Read q) end_of-Head) n ts t) cs)
      step true e = subst (Made d t) (sym (read_changed_is q n ts t e)) (put_made d i q t ((read_eq-Decides r q).0 e) (leaf_of d q (types_of ts) t w named))
      step false e = subst (Made d t) (sym (node_changed (head.Read q) n ts t (read_stays q e))) kept

  mutual
    pub changed_made : (d : Context) → IsInside o d → (t : Term) → IsTyped d t → Made d (type_of t) (term_changed t cs)
    changed_made d i (Term' y (more_of-Head (head.Read q) end_of-Head) n ts t) w =
        read_made d i q n ts t w.0 w.1 (made_node d (head.Read q) (types_of ts) (row_changed ts) t w.0 w.1 w.2 (row_made d d d i i i ts w.3))
    changed_made d i (Term' y (more_of-Head h end_of-Head) n ts t) w =
        subst (Made d t) (sym (node_changed h n ts t (head_stays h d t w.1 (λ q e. cc))))
        (made_node d h (types_of ts) (row_changed ts) t w.0 w.1 w.2
        (row_made (first d h) (middle d h) (last d w.2 h (types_of ts)) (inside_first o d h i) (inside_middle o d h i) (inside_last o d w.2 h (types_of ts) i) ts w.3))

    row_made : {n : Count} (x y z : Context) → IsInside o x → IsInside o y → IsInside o z → (ts : Row_of-Term n) → AreTyped x y z ts → EachMade x y z (types_of ts) (row_changed ts)
    row_made x y z i j k end_of-Term w = tt
    row_made x y z i j k (more_of-Term t end_of-Term) w = changed_made z k t w
    row_made x y z i j k (more_of-Term t (more_of-Term v ts)) w = (changed_made x i t w.0, row_made y y z j j k (more_of-Term v ts) w.1)

  pub form_changed : (f : Term) → IsForm (outermost o) f → IsForm (outermost o) (term_changed f cs)
  form_changed f w =
      let m = changed_made (outermost o) refl f w.typed in
      record { typed = m.typed; truth = m.written ∙ w.truth }

  -- meanings, in states in which the variable has the value of the term

  module _ (g : Setting) (fits : IsSettingOf (outermost o) g) (j : Judge) (fair : IsFair g j) (q : State)
      (sides : AreSides (outermost o) (node (head.Read r) [] ty) u) (equal : val g (speaking g j) (node (head.Read r) [] ty) q ≡ val g (speaking g j) u q) where
    abbrev AreAlike : Term → Term → Type 0
    AreAlike x t = Alike g j fair (IsLike q) (around q) x t

    both_alike : AreAlike u (node (head.Read r) [] ty)
    both_alike = (
      λ s p. everywhere o g fits q j fair u sides.right s p ∙ sym equal ∙ sym (everywhere o g fits q j fair (node (head.Read r) [] ty) sides.left s p),
      one o g fits q j fair u sides.right (subst IsNoDistribution sides.type sides.single) ∙ sym (one o g fits q j fair (node (head.Read r) [] ty) sides.left sides.single),
    )

    put_alike : (p : Read) (n : _) (ts : _) (t : Ty) → r ≡ p → ty ≡ t → AreAlike u (Term' tt (more_of-Head (head.Read p) end_of-Head) n ts t)
    put_alike p n ts t e f = (
      λ s x. both_alike.0 s x ∙ val_node g (speaking g j) (head.Read r) [] ty s ∙ (λ i. read_at g (e i) (f i) s),
      both_alike.1 ∙ denominator_node g (head.Read r) [] ty,
    )

    read_alike : (d : Context) → IsInside o d → (p : Read) (n : _) (ts : _) (t : Ty) → IsHead (erased d) (head.Read p) (types_of ts) t → IsNamed d (head.Read p) t →
        AreAlike (node (head.Read p) (row_changed ts) t) (Term' tt (more_of-Head (head.Read p) end_of-Head) n ts t) →
        AreAlike (term_changed (Term' tt (more_of-Head (head.Read p) end_of-Head) n ts t) cs) (Term' tt (more_of-Head (head.Read p) end_of-Head) n ts t)
    read_alike d i p n ts t w named kept = step (read_eq r p) refl
      where
        whole : Term
        whole = Term' tt (more_of-Head (head.Read p) end_of-Head) n ts t

        step : (b : Bool) → read_eq r p ≡ b → AreAlike (term_changed whole cs) whole
        step true e =
            let same = (read_eq-Decides r p).0 e in
            subst (λ x. AreAlike x whole) (sym (read_changed_is p n ts t e))
            (put_alike p n ts t same (one_type o d i r ty t leaf (subst (λ a. IsLeaf d (head.Read a) t) (sym same) (leaf_of d p (types_of ts) t w named))))
        step false e = subst (λ x. AreAlike x whole) (sym (node_changed (head.Read p) n ts t (read_stays p e))) kept

    mutual
      changed_alike : (d : Context) → IsInside o d → (t : Term) → IsTyped d t → IsFormed t → IsSoundForm g t → AreAlike (term_changed t cs) t
      changed_alike d i (Term' y (more_of-Head (head.Read p) end_of-Head) n ts t) w f z =
          read_alike d i p n ts t w.0 w.1 (node_alike g j fair (IsLike q) (around q) (head.Read p) n (row_changed ts) ts t f.0 z.0 (row_alike d d d i i i ts w.3 f.2 z.1))
      changed_alike d i (Term' y (more_of-Head h end_of-Head) n ts t) w f z =
          subst (λ x. AreAlike x (Term' y (more_of-Head h end_of-Head) n ts t)) (sym (node_changed h n ts t (head_stays h d t w.1 (λ p e. cc))))
          (node_alike g j fair (IsLike q) (around q) h n (row_changed ts) ts t f.0 z.0
          (row_alike (first d h) (middle d h) (last d w.2 h (types_of ts)) (inside_first o d h i) (inside_middle o d h i) (inside_last o d w.2 h (types_of ts) i) ts w.3 f.2 z.1))

      row_alike : {n : Count} (a b c : Context) → IsInside o a → IsInside o b → IsInside o c → (ts : Row_of-Term n) → AreTyped a b c ts → AllFormed ts → AllSound g ts →
          AllAlike g j fair (IsLike q) (around q) (row_changed ts) ts
      row_alike a b c i k l end_of-Term w f z = tt
      row_alike a b c i k l (more_of-Term t end_of-Term) w f z = (changed_alike c l t w f.0 z.0, tt)
      row_alike a b c i k l (more_of-Term t (more_of-Term v ts)) w f z = (changed_alike a i t w.0 f.0 z.0, row_alike b b c k k l (more_of-Term v ts) w.1 f.1 z.1)

    pub form_means : (f : Term) → IsForm (outermost o) f → val g (speaking g j) (term_changed f cs) q ≡ val g (speaking g j) f q
    form_means f w =
        (changed_alike (outermost o) refl f w.typed (formed (outermost o) f w.typed) (sound_form g (outermost o) (procedures_sound (outermost o) g fits) f w.typed)).0 q (refl, refl)
