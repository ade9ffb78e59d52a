-- Two fair judges give a form the same meaning.
use Rattle.std.proofs.Common.{◌≡◌, Bool, ◌↔◌, List, ◌∷◌, refl, ap, sym, ◌∙◌, subst}
use Rattle.std.proofs.Math.Path.{fun_ext}
use Rattle.gb_core.specs.declared.ty.Ty.{Ty}
use Rattle.gb_terms.specs.declared.term.Term.{Term, Term', Row_of-Term, end_of-Term, more_of-Term, end_of-Head, more_of-Head}
use Rattle.gb_terms.specs.declared.term.Head.{Head}
use Rattle.gb_terms.specs.declared.term.Head.TheVariants as head
use Rattle.gb_meaning.specs.Setting.{Meaning, Setting}
use Rattle.gb_meaning.specs.Meanings.{of_truth, truth}
use Rattle.gb_meaning.specs.State.{State}
use Rattle.gb_meaning.specs.Terms.{Part, at_head, val, parts, denominator}
use Rattle.gb_meaning.specs.Judgments.{Judge, IsFair, speaking, stands_at, is_judged_at, is_sound_at, IsSoundForm, AllSound, IsTrueUnder, IsTrueIn}
use Rattle.gb_meaning.proofs.Bools.{same_truth}
use Rattle.gb_laws.proofs.Cells.{Cell, Covers}
use Rattle.gb_laws.proofs.States.{Near}
use Rattle.gb_laws.proofs.Exact.{form_cells, trying, val_exact, near_exact}
use Rattle.gb_laws.proofs.Fair.{is_fair}
use mathlib.Core.Former.{Count}

-- the answers are equal, where the head is judged
abbrev SameAnswer : Head → Bool → Bool → Type 0
SameAnswer head.AllMemory a b = a ≡ b
SameAnswer head.SomeMemory a b = a ≡ b
SameAnswer (head.Hoare c) a b = a ≡ b
SameAnswer (head.Phoare c r) a b = a ≡ b
SameAnswer (head.Equiv c d) a b = a ≡ b
SameAnswer _ a b = Unit {0}

at_head-same : (g : Setting) (j i : Judge) (u : Term) (h : Head) (xs : List Part) (ty : Ty) (s : State) → SameAnswer h (j u s) (i u s) →
    at_head g (speaking g j) u h xs ty s ≡ at_head g (speaking g i) u h xs ty s
at_head-same g j i u head.AllMemory xs ty s e = ap of_truth e
at_head-same g j i u head.SomeMemory xs ty s e = ap of_truth e
at_head-same g j i u (head.Hoare c) xs ty s e = ap of_truth e
at_head-same g j i u (head.Phoare c r) xs ty s e = ap of_truth e
at_head-same g j i u (head.Equiv c d) xs ty s e = ap of_truth e
at_head-same g j i u _ xs ty s e = refl

same_answer : (g : Setting) (h : Head) → is_sound_at g h → (a b : Bool) → (is_judged_at g h → a ≡ b) → SameAnswer h a b
same_answer g head.AllMemory u a b e = e tt
same_answer g head.SomeMemory u a b e = e tt
same_answer g (head.Hoare c) u a b e = e u
same_answer g (head.Phoare c r) u a b e = e u
same_answer g (head.Equiv c d) u a b e = e u
same_answer g _ u a b e = tt

module _ (g : Setting) (j i : Judge) (fj : IsFair g j) (fi : IsFair g i) where
  mutual
    pub val_unique : (t : Term) → IsSoundForm g t → (s : State) → val g (speaking g j) t s ≡ val g (speaking g i) t s
    val_unique (Term' p (more_of-Head h end_of-Head) n ts ty) u s =
        let e = parts_unique ts u.1 in
        ap (λ xs. at_head g (speaking g j) (Term' p (more_of-Head h end_of-Head) n ts ty) h xs ty s) e
        ∙ at_head-same g j i (Term' p (more_of-Head h end_of-Head) n ts ty) h (parts g (speaking g i) ts) ty s
        (same_answer g h u.0 _ _ (λ w. same_truth _ _
        (λ k. (fi (Term' p (more_of-Head h end_of-Head) n ts ty) s w).1 (subst (λ xs. stands_at g h xs s) e ((fj (Term' p (more_of-Head h end_of-Head) n ts ty) s w).0 k)))
        (λ k. (fj (Term' p (more_of-Head h end_of-Head) n ts ty) s w).1 (subst (λ xs. stands_at g h xs s) (sym e) ((fi (Term' p (more_of-Head h end_of-Head) n ts ty) s w).0 k)))))

    pub parts_unique : {n : Count} (ts : Row_of-Term n) → AllSound g ts → parts g (speaking g j) ts ≡ parts g (speaking g i) ts
    parts_unique end_of-Term u = refl
    parts_unique (more_of-Term t ts) u =
        let one : ◌≡◌ {A = State → Meaning} (λ s. val g (speaking g j) t s) (λ s. val g (speaking g i) t s) = fun_ext (λ s. val_unique t u.0 s) in
        let two = parts_unique ts u.1 in
        λ k. (let x : Part = record { meaning = one k; denominator = denominator g t } in x) ∷ two k

-- truth is the truth under any one fair judge
pub true_under_each : (g : Setting) (j : Judge) → IsFair g j → (f : Term) → IsSoundForm g f → (s : State) → IsTrueIn g f s ↔ IsTrueUnder g j f s
true_under_each g j fj f u s = (λ h. h j fj, λ e i fi. ap truth (val_unique g i j fi fj f u s) ∙ e)

-- under a fair judge the meaning of a form depends on what it reads alone
pub val_near : (g : Setting) (j : Judge) → IsFair g j → (F : Cell → Type 0) (t : Term) → IsSoundForm g t → Covers F (form_cells g t) → (s q : State) → Near g.types F s q →
    val g (speaking g j) t s ≡ val g (speaking g j) t q
val_near g j fj F t u h s q n =
    val_unique g j (trying g) fj (is_fair g) t u s ∙ val_exact g t s ∙ near_exact g F t h s q n ∙ sym (val_exact g t q) ∙ sym (val_unique g j (trying g) fj (is_fair g) t u q)
