-- Judgments stand alike where their parts mean the same and their programs run alike.
use Rattle.std.proofs.Common.{◌≡◌, ℕ, zero, suc, Bool, List, [], ◌∷◌, map, get_or, ap, sym, ◌∙◌, subst}
use Rattle.std.proofs.Math.Path.{fun_ext}
use Rattle.gb_core.specs.declared.ty.Ty.{Ty}
use Rattle.gb_terms.specs.declared.op.Rel.{Rel}
use Rattle.gb_terms.specs.declared.term.Term.{Term, Term', Row_of-Term, end_of-Head, more_of-Head}
use Rattle.gb_terms.specs.declared.term.Subject.{Subject}
use Rattle.gb_terms.specs.declared.term.Head.{Head}
use Rattle.gb_terms.specs.declared.term.Head.TheVariants as head
use Rattle.gb_terms.specs.Make.{node}
use Rattle.gb_dist.specs.WeightedList.{WeightedList, Every}
use Rattle.gb_dist.specs.Coupling.{Coupling}
use Rattle.gb_dist.proofs.Entries.{Every-weaken}
use Rattle.gb_dist.proofs.Basic.{coupling_weakening}
use Rattle.gb_meaning.specs.Memory.{Memory}
use Rattle.gb_meaning.specs.Setting.{Setting}
use Rattle.gb_meaning.specs.Meanings.{truth, fraction_in}
use Rattle.gb_meaning.specs.State.{State, under, at, between}
use Rattle.gb_meaning.specs.State.Binding.{memory}
use Rattle.gb_meaning.specs.Terms.{Part, no_part, parts, part_of}
use Rattle.gb_meaning.specs.Judgments.{Judge, IsFair, speaking, part, run_of, subject_denominator, chance, compares, Holds, HoareStands, PhoareStands, EquivStands, stands_at, is_judged_at, is_sound_at, IsSoundSubject}
use Rattle.gb_meaning.proofs.Nodes.{stands_node, judged_node}
use Rattle.gb_meaning.proofs.Bools.{same_truth}
use Rattle.gb_laws.specs.Formed.{AreThree, HasArguments}
use Rattle.gb_laws.proofs.Heads.{Moved, last_moved, Under, At, Between, Here, Related, Answers, with_subjects}
use Rattle.sqlite_items.specs.formers.items.Items.{the_former}
use mathlib.Core.Former.{arity, this}

-- a part of each place
nth_moved : (R : Part → Part → Type 0) → R no_part no_part → (xs ys : List Part) → Moved R R xs ys → (i : ℕ) → R (get_or xs i no_part) (get_or ys i no_part)
nth_moved R o [] [] r i = o
nth_moved R o [] (y ∷ ys) r i = absurd r
nth_moved R o (x ∷ []) [] r i = absurd r
nth_moved R o (x ∷ v ∷ xs) [] r i = absurd r
nth_moved R o (x ∷ []) (y ∷ []) r zero = r
nth_moved R o (x ∷ []) (y ∷ []) r (suc i) = o
nth_moved R o (x ∷ []) (y ∷ w ∷ ys) r i = absurd r
nth_moved R o (x ∷ v ∷ xs) (y ∷ []) r i = absurd r
nth_moved R o (x ∷ v ∷ xs) (y ∷ w ∷ ys) r zero = r.0
nth_moved R o (x ∷ v ∷ xs) (y ∷ w ∷ ys) r (suc i) = nth_moved R o (v ∷ xs) (w ∷ ys) r.1 i

-- three parts
three_moved : (R L : Part → Part → Type 0) (xs ys : List Part) → AreThree ys → Moved R L xs ys →
    R (part xs 0) (part ys 0) × R (part xs 1) (part ys 1) × L (part xs 2) (part ys 2)
three_moved R L [] [] a r = absurd a
three_moved R L [] (y ∷ ys) a r = absurd r
three_moved R L (x ∷ []) [] a r = absurd r
three_moved R L (x ∷ v ∷ xs) [] a r = absurd r
three_moved R L (x ∷ []) (y ∷ []) a r = absurd a
three_moved R L (x ∷ []) (y ∷ w ∷ ys) a r = absurd r
three_moved R L (x ∷ v ∷ xs) (y ∷ []) a r = absurd a
three_moved R L (x ∷ v ∷ xs) (y ∷ w ∷ []) a r = absurd a
three_moved R L (x ∷ v ∷ []) (y ∷ w ∷ c ∷ ys) a r = absurd r.1
three_moved R L (x ∷ v ∷ b ∷ []) (y ∷ w ∷ c ∷ []) a r = (r.0, r.1.0, r.1.1)
three_moved R L (x ∷ v ∷ b ∷ d ∷ xs) (y ∷ w ∷ c ∷ []) a r = absurd r.1.1
three_moved R L (x ∷ v ∷ b ∷ xs) (y ∷ w ∷ c ∷ e ∷ ys) a r = absurd a

coupled_at : {A B : Type 0} (Q : A → B → Type 0) (l1 r1 : WeightedList A) (k1 i1 : ℕ) (l2 r2 : WeightedList B) (k2 i2 : ℕ) →
    l1 ≡ r1 → k1 ≡ i1 → l2 ≡ r2 → k2 ≡ i2 → Coupling Q l1 k1 l2 k2 → Coupling Q r1 i1 r2 i2
coupled_at Q l1 r1 k1 i1 l2 r2 k2 i2 a b c d h =
    subst (λ z. Coupling Q r1 i1 r2 z) d (subst (λ z. Coupling Q r1 i1 z k2) c (subst (λ z. Coupling Q r1 z l2 k2) b (subst (λ z. Coupling Q z k1 l2 k2) a h)))

module _ (g : Setting) where
  -- one program runs in s as the other does in q
  pub record SameRuns (s q : State) (c d : Subject) : Type 0 where
    pub runs : (m : Memory) → run_of g s c m ≡ run_of g q d m
    pub denominators : subject_denominator g c ≡ subject_denominator g d
    pub sound : IsSoundSubject g c

  back_runs : (s q : State) (c d : Subject) → IsSoundSubject g d → SameRuns s q c d → SameRuns q s d c
  back_runs s q c d u e = record { runs = λ m. sym (e.runs m); denominators = sym e.denominators; sound = u }

  hoare_moved : (s q : State) (c d : Subject) (P Q A B : Part) → SameRuns s q c d → At s q P A → At s q Q B → HoareStands g c P Q s → HoareStands g d A B q
  hoare_moved s q c d P Q A B e a b h =
      λ m p. subst (λ l. Every (λ n. Holds B (at q n)) l) (e.runs m)
      (Every-weaken {P = λ n. Holds Q (at s n)} (run_of g s c m) (λ n i. sym (ap truth (b n)) ∙ i) (h m (ap truth (a m) ∙ p)))

  phoare_moved : (s q : State) (c d : Subject) (r : Rel) (P Q x A B y : Part) → SameRuns s q c d → At s q P A → At s q Q B → x.meaning s ≡ y.meaning q →
      PhoareStands g c r P Q x s → PhoareStands g d r A B y q
  phoare_moved s q c d r P Q x A B y e a b z h =
      λ m p. (
      let event : ◌≡◌ {A = Memory → Bool} (λ n. truth (Q.meaning (at s n))) (λ n. truth (B.meaning (at q n))) = fun_ext (λ n. ap truth (b n)) in
      let runs = e.runs m in
      sym (λ i. compares r (chance (runs i) (e.denominators i) (event i)) (fraction_in (z i))) ∙ h m (ap truth (a m) ∙ p)
      )

  equiv_moved : (s q : State) (c d c2 d2 : Subject) (P Q A B : Part) → SameRuns s q c c2 → SameRuns s q d d2 → Between s q P A → Between s q Q B →
      EquivStands g c d P Q s → EquivStands g c2 d2 A B q
  equiv_moved s q c d c2 d2 P Q A B e f a b h =
      λ m n p. coupled_at (λ x y. Holds B (between q x y)) _ _ _ _ _ _ _ _ (e.runs m) e.denominators (f.runs n) f.denominators
      (coupling_weakening {Q = λ x y. Holds Q (between s x y)} {R = λ x y. Holds B (between q x y)} (λ x y i. sym (ap truth (b x y)) ∙ i) (h m n (ap truth (a m n) ∙ p)))

  -- the programs of a head run alike
  abbrev pub SameSubjects : (Subject → Subject) → State → State → Head → Type 0
  SameSubjects f s q (head.Hoare c) = SameRuns s q (f c) c
  SameSubjects f s q (head.Phoare c r) = SameRuns s q (f c) c
  SameSubjects f s q (head.Equiv c d) = SameRuns s q (f c) c × SameRuns s q (f d) d
  SameSubjects f s q _ = Unit {0}

  at_none : (s q : State) → At s q no_part no_part
  at_none s q m i = no_part.meaning (at s m)

  between_none : (s q : State) → Between s q no_part no_part
  between_none s q m n i = no_part.meaning (between s m n)

  back_at : (s q : State) (x y : Part) → At s q x y → At q s y x
  back_at s q x y e m = sym (e m)

  back_between : (s q : State) (x y : Part) → Between s q x y → Between q s y x
  back_between s q x y e m n = sym (e m n)

  module _ (j : Judge) (fair : IsFair g j) (f : Subject → Subject) (s q : State) (h : Head) (args : List Term) (n : List (Unit {0})) (ts : Row_of-Term (arity (the_former (this {0})) n)) (ty : Ty) where
    abbrev after : Term
    after = node (with_subjects f h) args ty

    abbrev before : Term
    before = Term' tt (more_of-Head h end_of-Head) n ts ty

    abbrev xs : List Part
    xs = map (part_of g (speaking g j)) args

    abbrev ys : List Part
    ys = parts g (speaking g j) ts

    by_standing : is_judged_at g (with_subjects f h) → is_judged_at g h → (stands_at g (with_subjects f h) xs s → stands_at g h ys q) →
        (stands_at g h ys q → stands_at g (with_subjects f h) xs s) → j after s ≡ j before q
    by_standing u w to from = same_truth _ _
        (λ e. (fair before q w).1 (to ((stands_node g j (with_subjects f h) args ty s).0 ((fair after s (judged_node g (with_subjects f h) args ty u)).0 e))))
        (λ e. (fair after s (judged_node g (with_subjects f h) args ty u)).1 ((stands_node g j (with_subjects f h) args ty s).1 (from ((fair before q w).0 e))))

  module _ (j : Judge) (fair : IsFair g j) (f : Subject → Subject) (s q : State) where
    none_under : Under s q no_part no_part
    none_under b i = no_part.meaning (under s b)

    -- a fair judge answers alike
    pub answers_same : (h : Head) (args : List Term) (n : List (Unit {0})) (ts : Row_of-Term (arity (the_former (this {0})) n)) (ty : Ty) → is_sound_at g h → SameSubjects f s q h →
        HasArguments h (parts g (speaking g j) ts) → Related s q h (map (part_of g (speaking g j)) args) (parts g (speaking g j) ts) →
        Answers h (j (node (with_subjects f h) args ty) s) (j (Term' tt (more_of-Head h end_of-Head) n ts ty) q)
    answers_same head.AllMemory args n ts ty u e a r =
        let last = last_moved (Here s q) (Under s q) _ _ r none_under in
        by_standing j fair f s q head.AllMemory args n ts ty tt tt (λ k m. sym (ap truth (last (memory m))) ∙ k m) (λ k m. ap truth (last (memory m)) ∙ k m)
    answers_same head.SomeMemory args n ts ty u e a r =
        let last = last_moved (Here s q) (Under s q) _ _ r none_under in
        by_standing j fair f s q head.SomeMemory args n ts ty tt tt (λ k. (k.0, sym (ap truth (last (memory k.0))) ∙ k.1)) (λ k. (k.0, ap truth (last (memory k.0)) ∙ k.1))
    answers_same (head.Hoare c) args n ts ty u e a r =
        let X : ℕ → Part = part (map (part_of g (speaking g j)) args) in
        let Y : ℕ → Part = part (parts g (speaking g j) ts) in
        let P : At s q (X 0) (Y 0) = nth_moved (At s q) (at_none s q) _ _ r 0 in
        let Q : At s q (X 1) (Y 1) = nth_moved (At s q) (at_none s q) _ _ r 1 in
        by_standing j fair f s q (head.Hoare c) args n ts ty e.sound u (hoare_moved s q (f c) c (X 0) (X 1) (Y 0) (Y 1) e P Q)
        (hoare_moved q s c (f c) (Y 0) (Y 1) (X 0) (X 1) (back_runs s q (f c) c u e) (back_at s q (X 0) (Y 0) P) (back_at s q (X 1) (Y 1) Q))
    answers_same (head.Phoare c o) args n ts ty u e a r =
        let X : ℕ → Part = part (map (part_of g (speaking g j)) args) in
        let Y : ℕ → Part = part (parts g (speaking g j) ts) in
        let x = three_moved (At s q) (Here s q) (map (part_of g (speaking g j)) args) (parts g (speaking g j) ts) a r in
        by_standing j fair f s q (head.Phoare c o) args n ts ty e.sound u (phoare_moved s q (f c) c o (X 0) (X 1) (X 2) (Y 0) (Y 1) (Y 2) e x.0 x.1 x.2.0)
        (phoare_moved q s c (f c) o (Y 0) (Y 1) (Y 2) (X 0) (X 1) (X 2) (back_runs s q (f c) c u e) (back_at s q (X 0) (Y 0) x.0) (back_at s q (X 1) (Y 1) x.1) (sym x.2.0))
    answers_same (head.Equiv c d) args n ts ty u e a r =
        let X : ℕ → Part = part (map (part_of g (speaking g j)) args) in
        let Y : ℕ → Part = part (parts g (speaking g j) ts) in
        let P : Between s q (X 0) (Y 0) = nth_moved (Between s q) (between_none s q) _ _ r 0 in
        let Q : Between s q (X 1) (Y 1) = nth_moved (Between s q) (between_none s q) _ _ r 1 in
        by_standing j fair f s q (head.Equiv c d) args n ts ty (e.0.sound, e.1.sound) u
        (equiv_moved s q (f c) (f d) c d (X 0) (X 1) (Y 0) (Y 1) e.0 e.1 P Q)
        (equiv_moved q s c d (f c) (f d) (Y 0) (Y 1) (X 0) (X 1) (back_runs s q (f c) c u.0 e.0) (back_runs s q (f d) d u.1 e.1)
        (back_between s q (X 0) (Y 0) P) (back_between s q (X 1) (Y 1) Q))
    answers_same _ args n ts ty u e a r = tt
