-- Each leaf is valid by equality, or some labelling refutes it.
use Rattle.std.proofs.Common.{◌≡◌, ◌≢◌, ℕ, zero, suc, ◌+◌, ◌<◌, ◌≤◌, ◌⊎◌, inl, inr, ◌==◌, not, Bool, true, false, if◌then◌else◌, List, [], ◌∷◌, map, length, get_or, Option, Some, None, refl, sym, ap, ◌∙◌, subst, arith}
use Rattle.std.specs.List.{All, Contains}
use Rattle.std.proofs.lemmas.Bool.{false≢true}
use Rattle.std.proofs.lemmas.Bool.Decides.{Decides-eqb}
use Rattle.std.proofs.lemmas.List.{length-map, get_or_default}
use Rattle.gb_terms.specs.Make.{bit}
use Rattle.gb_terms.specs.declared.term.Term.{Term}
use Rattle.gb_equality.specs.declared.connectives.Connective.{Connective}
use Rattle.gb_equality.specs.declared.connectives.Connective.TheVariants.{Truth, Not, And, Or, Implies, Iff, Unlike, Equal, NotEqual, Other}
use Rattle.gb_equality.specs.Parts.{arguments_of, operator_of, is_same, terms_in}
use Rattle.gb_equality.specs.Connectives.{is_form, is_true, truth, connective_of, by_table, label_by, AreDifferent}
use Rattle.gb_equality.specs.Labels.{Labels, IsLabelling, Refutes, EqualityValid}
use Rattle.gb_equality.specs.Table.{label_in}
use Rattle.gb_equality.proofs.Places.{some_same, default_read}
use Rattle.gb_equality.proofs.Once.{same_of, of_same}
use Rattle.gb_equality.proofs.Forms.{known_is_form}
use Rattle.gb_equality.proofs.Among.{argument_there, hypothesis_there, conclusion_there}
use Rattle.gb_equality.proofs.Decisions.{Decided, both_or, implies_or, not_or, like_or, numbers_or, truths_or, bools_or, lists_or, same_operators_or, different_or, each_or, all_or, AllBelow, some_or_none}

-- whether labels are a labelling that refutes

module _ (L : Labels) where
  abbrev Pair : Term → Term → Type 0
  Pair t u = (operator_of t ≡ operator_of u → map L (arguments_of t) ≡ map L (arguments_of u) → L t ≡ L u) × (AreDifferent t u → L t ≡ L u → ⊥)

  pair_or : (t u : Term) → Decided (Pair t u)
  pair_or t u =
      both_or (implies_or (same_operators_or t u) (implies_or (lists_or (map L (arguments_of t)) (map L (arguments_of u))) (numbers_or (L t) (L u))))
      (implies_or (different_or t u) (not_or (numbers_or (L t) (L u))))

  abbrev IsTabled : Term → Type 0
  IsTabled t = (l : ℕ) → label_by (connective_of t) (map L (arguments_of t)) ≡ Some l → L t ≡ l

  tabled_or : (t : Term) → Decided (IsTabled t)
  tabled_or t = by_label (label_by (connective_of t) (map L (arguments_of t))) refl
    where
      by_label : (o : Option ℕ) → label_by (connective_of t) (map L (arguments_of t)) ≡ o → Decided (IsTabled t)
      by_label None e = inl (λ l q. let z : None ≡ Some l = sym e ∙ q in cc)
      by_label (Some k) e = like_or (λ p l q. p ∙ some_same k l (sym e ∙ q)) (λ f. f k e) (numbers_or (L t) k)

  abbrev Alone : Term → Type 0
  Alone t = (is_form t ≡ true → L t < 2) × IsTabled t

  alone_or : (t : Term) → Decided (Alone t)
  alone_or t = both_or (implies_or (bools_or (is_form t)) (truths_or (L t))) (tabled_or t)

  labelling_or : (us : List Term) → Decided (IsLabelling L us)
  labelling_or us =
      like_or
      (λ p. record {
        congruent = λ t u a b. (p.0 t a u b).0;
        literals = λ t u a b. (p.0 t a u b).1;
        truths = λ t a. (p.1 t a).0;
        tables = λ t a. (p.1 t a).1;
      })
      (λ r. ((λ t a u b. (r.congruent t u a b, r.literals t u a b)), (λ t a. (r.truths t a, r.tables t a))))
      (both_or (each_or (λ t. (u : Term) → Contains us u → Pair t u) (λ t. each_or (Pair t) (pair_or t) us) us) (each_or Alone alone_or us))

  refutes_or : (hyps : List Term) (t : Term) → Decided (Refutes L hyps t)
  refutes_or hyps t =
      like_or (λ p. record { labelling = p.0; assumed = p.1.0; concluded = p.1.1 }) (λ r. (r.labelling, (r.assumed, r.concluded)))
      (both_or (labelling_or (terms_in hyps t)) (both_or (all_or (λ h. L h ≡ 1) (λ h. numbers_or (L h) 1) hyps) (numbers_or (L t) 0)))

-- Labels numbered anew: those of truths stay, and each other one is its first place behind them.

place_in : List ℕ → ℕ → ℕ
place_in [] l = 0
place_in (k ∷ ks) l = if k == l then 0 else suc (place_in ks l)

place_small : (ks : List ℕ) (l : ℕ) → place_in ks l ≤ length ks
unfolding place_in
place_small [] l = omega arith
place_small (k ∷ ks) l = by_test (k == l) (place_small ks l)
  where
    by_test : (b : Bool) → place_in ks l ≤ length ks → (if b then 0 else suc (place_in ks l)) ≤ length (k ∷ ks)
    by_test true h = omega arith
    by_test false h = omega (arith, h)

at_place_in : (ks : List ℕ) (l : ℕ) → Contains ks l → get_or ks (place_in ks l) 0 ≡ l
unfolding place_in
at_place_in [] l c = absurd (omega (arith, c.1))
at_place_in (k ∷ ks) l c = by_test (k == l) refl (at_place_in ks l)
  where
    later : Contains (k ∷ ks) l → (k == l) ≡ false → Contains ks l
    later (zero, m, e) f = absurd (false≢true (sym f ∙ (Decides-eqb k l).1 e))
    later (suc i, m, e) f = (i, omega (arith, m), e)

    by_test : (b : Bool) → (k == l) ≡ b → (Contains ks l → get_or ks (place_in ks l) 0 ≡ l) → get_or (k ∷ ks) (if b then 0 else suc (place_in ks l)) 0 ≡ l
    by_test true e rest = (Decides-eqb k l).0 e
    by_test false e rest = rest (later c e)

short : List ℕ → ℕ → ℕ
short ks zero = 0
short ks (suc zero) = 1
short ks (suc (suc l)) = suc (suc (place_in ks (suc (suc l))))

short_truth : (ks : List ℕ) (l : ℕ) → l < 2 → short ks l ≡ l
unfolding short
short_truth ks zero h = refl
short_truth ks (suc zero) h = refl
short_truth ks (suc (suc l)) h = absurd (omega (arith, h))

short_below : (ks : List ℕ) (l : ℕ) → short ks l < length ks + 3
unfolding short
short_below ks zero = omega arith
short_below ks (suc zero) = omega arith
short_below ks (suc (suc l)) = omega (arith, place_small ks (suc (suc l)))

-- the label of a truth, or one in the list
abbrev IsIn : List ℕ → ℕ → Type 0
IsIn ks l = (l < 2) ⊎ Contains ks l

in_list : (ks : List ℕ) (l : ℕ) → IsIn ks (suc (suc l)) → Contains ks (suc (suc l))
in_list ks l (inl h) = absurd (omega (arith, h))
in_list ks l (inr c) = c

short_once : (ks : List ℕ) (l m : ℕ) → IsIn ks l → IsIn ks m → short ks l ≡ short ks m → l ≡ m
unfolding short
short_once ks zero zero a b e = refl
short_once ks zero (suc zero) a b e = absurd (omega (arith, e))
short_once ks zero (suc (suc m)) a b e = absurd (omega (arith, e))
short_once ks (suc zero) zero a b e = absurd (omega (arith, e))
short_once ks (suc zero) (suc zero) a b e = refl
short_once ks (suc zero) (suc (suc m)) a b e = absurd (omega (arith, e))
short_once ks (suc (suc l)) zero a b e = absurd (omega (arith, e))
short_once ks (suc (suc l)) (suc zero) a b e = absurd (omega (arith, e))
short_once ks (suc (suc l)) (suc (suc m)) a b e =
    let p : place_in ks (suc (suc l)) ≡ place_in ks (suc (suc m)) = omega (arith, e) in
    sym (at_place_in ks (suc (suc l)) (in_list ks l a)) ∙ ap (λ i. get_or ks i 0) p ∙ at_place_in ks (suc (suc m)) (in_list ks m b)

short_true : (ks : List ℕ) (l : ℕ) → is_true (short ks l) ≡ is_true l
unfolding short
short_true ks zero = refl
short_true ks (suc zero) = refl
short_true ks (suc (suc l)) = both_false (suc (suc (place_in ks (suc (suc l))))) (suc (suc l)) (omega arith) (omega arith)
  where
    not_one : (n : ℕ) → 1 < n → (n == 1) ≡ false
    not_one n h = by_test (n == 1) refl
      where
        by_test : (b : Bool) → (n == 1) ≡ b → (n == 1) ≡ false
        by_test true e = absurd (omega (arith, h, (Decides-eqb n 1).0 e))
        by_test false e = e

    both_false : (m n : ℕ) → 1 < m → 1 < n → is_true m ≡ is_true n
    both_false m n a b = not_one m a ∙ sym (not_one n b)

same_test : (a b c d : ℕ) → (a ≡ b → c ≡ d) → (c ≡ d → a ≡ b) → (a == b) ≡ (c == d)
same_test a b c d f g = by_tests (a == b) (c == d) refl refl
  where
    by_tests : (x y : Bool) → (a == b) ≡ x → (c == d) ≡ y → (a == b) ≡ (c == d)
    by_tests true true e q = e ∙ sym q
    by_tests false false e q = e ∙ sym q
    by_tests true false e q = absurd (false≢true (sym q ∙ (Decides-eqb c d).1 (f ((Decides-eqb a b).0 e))))
    by_tests false true e q = absurd (false≢true (sym e ∙ (Decides-eqb a b).1 (g ((Decides-eqb c d).0 q))))

-- tables say the same of them
module _ (ks : List ℕ) (x y : ℕ) (a : IsIn ks x) (b : IsIn ks y) where
  equal_test : (short ks x == short ks y) ≡ (x == y)
  equal_test = same_test (short ks x) (short ks y) x y (short_once ks x y a b) (ap (short ks))

  truth_test : (c : Connective) → Some (bit (truth c (is_true (short ks x)) (is_true (short ks y)))) ≡ Some (bit (truth c (is_true x) (is_true y)))
  truth_test c = ap (λ p. Some (bit (truth c p (is_true (short ks y))))) (short_true ks x) ∙ ap (λ p. Some (bit (truth c (is_true x) p))) (short_true ks y)

  short_table : (c : Connective) → by_table c (short ks x) (short ks y) ≡ by_table c x y
  short_table Equal = ap (λ p. Some (bit p)) equal_test
  short_table NotEqual = ap (λ p. Some (bit (not p))) equal_test
  short_table Other = refl
  short_table c = truth_test c

-- a labelling with its labels numbered anew

module _ (us : List Term) (closed : (t a : Term) → Contains us t → Contains (arguments_of t) a → Contains us a) where
  label_there : (L : Labels) (ts : List Term) (t : Term) → Contains ts t → Contains (map L ts) (L t)
  label_there L [] t c = absurd (omega (arith, c.1))
  label_there L (u ∷ ts) t (zero, l, e) = (0, omega arith, ap L e)
  label_there L (u ∷ ts) t (suc i, l, e) = let k = label_there L ts t (i, omega (arith, l), e) in (suc k.0, omega (arith, k.1), k.2)

  module _ (L : Labels) (h : IsLabelling L us) where
    abbrev ks : List ℕ
    ks = map L us

    abbrev S : Labels
    S t = short ks (L t)

    known : (t : Term) → Contains us t → IsIn ks (L t)
    known t c = inr (label_there L us t c)

    first_known : (x : Term) (xs : List Term) → ((a : Term) → Contains (x ∷ xs) a → Contains us a) → Contains us x
    first_known x xs f = f x (0, omega arith, refl)

    rest_known : (x : Term) (xs : List Term) → ((a : Term) → Contains (x ∷ xs) a → Contains us a) → (a : Term) → Contains xs a → Contains us a
    rest_known x xs f a k = f a (suc k.0, omega (arith, k.1), k.2)

    lists_back : (xs ys : List Term) → ((a : Term) → Contains xs a → Contains us a) → ((b : Term) → Contains ys b → Contains us b) → map S xs ≡ map S ys → map L xs ≡ map L ys
    lists_back [] [] f g e = refl
    lists_back [] (y ∷ ys) f g e = cc
    lists_back (x ∷ xs) [] f g e = cc
    lists_back (x ∷ xs) (y ∷ ys) f g e =
        let p : short ks (L x) ≡ short ks (L y) = cc in
        let q : map S xs ≡ map S ys = cc in
        let a : L x ≡ L y = short_once ks (L x) (L y) (known x (first_known x xs f)) (known y (first_known y ys g)) p in
        let b = lists_back xs ys (rest_known x xs f) (rest_known y ys g) q in
        cc

    mapped_known : (xs : List Term) (i : ℕ) → ((a : Term) → Contains xs a → Contains us a) → IsIn ks (get_or (map L xs) i 0)
    mapped_known [] i f = inl (omega arith)
    mapped_known (x ∷ xs) zero f = known x (first_known x xs f)
    mapped_known (x ∷ xs) (suc i) f = mapped_known xs i (rest_known x xs f)

    mapped_twice : (xs : List Term) → map S xs ≡ map (short ks) (map L xs)
    mapped_twice [] = refl
    mapped_twice (x ∷ xs) = ap (λ l. S x ∷ l) (mapped_twice xs)

    argument : (xs : List Term) (i : ℕ) → get_or (map S xs) i 0 ≡ short ks (get_or (map L xs) i 0)
    argument xs i = ap (λ l. get_or l i 0) (mapped_twice xs) ∙ default_read (short ks) (short_truth ks 0 (omega arith)) (map L xs) i

    same_label : (t : Term) → Contains us t → label_by (connective_of t) (map S (arguments_of t)) ≡ label_by (connective_of t) (map L (arguments_of t))
    same_label t c =
        let xs : List Term = arguments_of t in
        ap (λ l. by_table (connective_of t) l (get_or (map S xs) 1 0)) (argument xs 0) ∙ ap (by_table (connective_of t) (short ks (get_or (map L xs) 0 0))) (argument xs 1)
        ∙ short_table ks (get_or (map L xs) 0 0) (get_or (map L xs) 1 0) (mapped_known xs 0 (λ a k. closed t a c k)) (mapped_known xs 1 (λ a k. closed t a c k)) (connective_of t)

    shortened : IsLabelling S us
    shortened = record {
      congruent = λ t u a b o e. ap (short ks) (h.congruent t u a b o (lists_back (arguments_of t) (arguments_of u) (λ x k. closed t x a k) (λ x k. closed u x b k) e));
      literals = λ t u a b d e. h.literals t u a b d (short_once ks (L t) (L u) (known t a) (known u b) e);
      truths = λ t a f. let l = h.truths t a f in omega (arith, l, short_truth ks (L t) l);
      tables = λ t a l e.
          let p : label_by (connective_of t) (map L (arguments_of t)) ≡ Some l = sym (same_label t a) ∙ e in
          short_truth ks (L t) (h.truths t a (known_is_form t (get_or (map L (arguments_of t)) 0 0) (get_or (map L (arguments_of t)) 1 0) l p)) ∙ h.tables t a l p;
    }

  -- labels that are the same of these terms

  same_mapped : (L M : Labels) → ((t : Term) → Contains us t → M t ≡ L t) → (xs : List Term) → ((a : Term) → Contains xs a → Contains us a) → map M xs ≡ map L xs
  same_mapped L M same [] f = refl
  same_mapped L M same (x ∷ xs) f =
      let p = same x (f x (0, omega arith, refl)) in
      let q = same_mapped L M same xs (λ a k. f a (suc k.0, omega (arith, k.1), k.2)) in
      cc

  same_labelling : (L M : Labels) → ((t : Term) → Contains us t → M t ≡ L t) → IsLabelling L us → IsLabelling M us
  same_labelling L M same h = record {
    congruent = λ t u a b o e.
        same t a ∙ h.congruent t u a b o (sym (same_mapped L M same (arguments_of t) (λ x k. closed t x a k)) ∙ e ∙ same_mapped L M same (arguments_of u) (λ x k. closed u x b k)) ∙ sym (same u b);
    literals = λ t u a b d e. h.literals t u a b d (sym (same t a) ∙ e ∙ same u b);
    truths = λ t a f. let l = h.truths t a f in omega (arith, l, same t a);
    tables = λ t a l e. same t a ∙ h.tables t a l (ap (label_by (connective_of t)) (sym (same_mapped L M same (arguments_of t) (λ x k. closed t x a k))) ∙ e);
  }

-- the label of a term in the list of all labels
listed : (f : Labels) (us : List Term) (t : Term) → Contains us t → label_in us (map f us) t ≡ f t
listed f [] t c = absurd (omega (arith, c.1))
listed f (u ∷ us) t c = by_test (is_same u t) refl (listed f us t)
  where
    later : Contains (u ∷ us) t → is_same u t ≡ false → Contains us t
    later (zero, l, e) n = absurd (differs (subst (λ x. is_same u x ≡ false) (sym e) n))
      where
        differs : is_same u u ≡ false → ⊥
        differs d = false≢true (sym d ∙ of_same u u refl)
    later (suc i, l, e) n = (i, omega (arith, l), e)

    by_test : (b : Bool) → is_same u t ≡ b → (Contains us t → label_in us (map f us) t ≡ f t) → (if b then f u else label_in us (map f us) t) ≡ f t
    by_test true e rest = ap f (same_of u t e)
    by_test false e rest = rest (later c e)

all_below : (f : Labels) (b : ℕ) → ((t : Term) → f t < b) → (us : List Term) → AllBelow b (map f us)
all_below f b w [] = tt
all_below f b w (u ∷ us) = (w u, all_below f b w us)

module _ (hyps : List Term) (t : Term) where
  abbrev us : List Term
  us = terms_in hyps t

  closed : (u a : Term) → Contains us u → Contains (arguments_of u) a → Contains us a
  closed u a = argument_there hyps t u a

  abbrev RefutedBy : List ℕ → Type 0
  RefutedBy ls = Refutes (label_in us ls) hyps t

  module _ (L : Labels) where
    abbrev anew : Labels
    anew u = short (map L us) (L u)

    here : (k : ℕ) (d : Term) → k < length hyps → get_or hyps k d ≡ get_or hyps k (get_or hyps k d)
    here k d l = get_or_default hyps k d (get_or hyps k d) l

    label_of : (u : Term) → Contains us u → (n : ℕ) → n < 2 → L u ≡ n → label_in us (map anew us) u ≡ n
    label_of u c n b e = let l : L u < 2 = omega (arith, e, b) in listed anew us u c ∙ short_truth (map L us) (L u) l ∙ e

    bounded : Refutes L hyps t → RefutedBy (map anew us)
    bounded r = record {
      labelling = same_labelling us closed anew (label_in us (map anew us)) (λ u k. listed anew us u k) (shortened us closed L r.labelling);
      assumed = λ k d l. label_of (get_or hyps k d) (hypothesis_there hyps t (get_or hyps k d) (k, l, sym (here k d l))) 1 (omega arith) (r.assumed k d l);
      concluded = label_of t (conclusion_there hyps t) 0 (omega arith) r.concluded;
    }

    small : AllBelow (length us + 3) (map anew us)
    small = all_below anew (length us + 3) (λ u. subst (λ k. short (map L us) (L u) < k + 3) (length-map us L) (short_below (map L us) (L u))) us

  pub valid_or_refuted : EqualityValid hyps t ⊎ ((L : Labels) × Refutes L hyps t)
  valid_or_refuted = of_search (some_or_none (length us + 3) (length us) RefutedBy (λ ls. refutes_or (label_in us ls) hyps t))
    where
      of_search : ((ls : List ℕ) × RefutedBy ls) ⊎ ((ls : List ℕ) → length ls ≡ length us → AllBelow (length us + 3) ls → RefutedBy ls → ⊥) → EqualityValid hyps t ⊎ ((L : Labels) × Refutes L hyps t)
      of_search (inl x) = inr (label_in us x.0, x.1)
      of_search (inr n) = inl (λ L r. n (map (anew L) us) (length-map us (anew L)) (small L) (bounded L r))
