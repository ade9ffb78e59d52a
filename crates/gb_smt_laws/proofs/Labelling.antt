-- The labelling of a state: forms have their truths, and other terms that mean the same have one label.
use Rattle.std.proofs.Common.{◌≡◌, ◌⊎◌, inl, inr, ℕ, zero, suc, ◌<◌, ◌==◌, Bool, true, false, ◌&&◌, if◌then◌else◌, ℤ, List, [], ◌∷◌, Some, refl, sym, ap, ◌∙◌, subst, arith}
use Rattle.std.specs.Ordering.{int_eq}
use Rattle.std.specs.List.{Contains}
use Rattle.std.proofs.lemmas.Bool.{false≢true}
use Rattle.std.proofs.lemmas.Bool.Decides.{Decides-eqb, Decides-int_eq}
use Rattle.std.proofs.lemmas.Int.{ints}
use Rattle.gb_core.specs.declared.ty.Ty.{Ty}
use Rattle.gb_core.specs.declared.ty.Ty.TheVariants as ty
use Rattle.gb_core.specs.declared.value.Value.{Value}
use Rattle.gb_core.specs.declared.value.Value.TheVariants.{Num}
use Rattle.gb_core.specs.Numbering.{number_of}
use Rattle.gb_dist.specs.WeightedList.{WeightedList, bit}
use Rattle.gb_terms.specs.Make as make
use Rattle.gb_terms.specs.declared.op.Op.{Op}
use Rattle.gb_terms.specs.declared.op.Op.TheVariants as op
use Rattle.gb_terms.specs.declared.term.Term.{Term, out-Term}
use Rattle.gb_terms.specs.declared.term.Head.{Head}
use Rattle.gb_terms.specs.declared.term.Head.TheVariants as head
use Rattle.gb_terms.specs.Make.{node}
use Rattle.gb_meaning.specs.Fractions.{is_same, of_whole}
use Rattle.gb_meaning.specs.Setting.{Meaning, Setting}
use Rattle.gb_meaning.specs.Setting.Meaning.{finite, whole, fraction, weights}
use Rattle.gb_meaning.specs.Meanings.{of_truth, value_in, truth, fraction_in}
use Rattle.gb_meaning.specs.State.{State}
use Rattle.gb_meaning.specs.Terms.{Speaks, val, denominator}
use Rattle.gb_meaning.specs.Values.{Types, value_eq}
use Rattle.gb_meaning.specs.Written.{type_of}
use Rattle.gb_meaning.proofs.Nodes.{each_is_node, val_node}
use Rattle.gb_meaning.proofs.Values.{value_eq-true}
use Rattle.gb_laws.specs.Meant.{IsOf}
use Rattle.gb_core.proofs.Lawful.{Lawful-numbers}
use Rattle.gb_laws.proofs.Meanings.{finite_is, finite_has}
use Rattle.gb_laws.proofs.Nodes.{type_of_node}
use Rattle.gb_equality.specs.Connectives.{is_bool, is_form, shown_whole, shown_by, shown_at, shown, AreDifferent}
use Rattle.gb_smt_laws.specs.Alike.{Alike}
use Rattle.gb_smt_laws.proofs.Fractions.{Same, same_used}
use Rattle.gb_smt_laws.proofs.Alike.{IsProper, alike_itself, alike_of, alike_turned, alike_then, truth_alike}
use Rattle.gb_smt_laws.proofs.Congruent.{AreSame, same_itself}

-- tests of meanings

abbrev weights_eq : WeightedList Value → WeightedList Value → Bool
weights_eq [] [] = true
weights_eq (x ∷ d) (y ∷ e) = (value_eq x.0 y.0 && (x.1 == y.1)) && weights_eq d e
weights_eq _ _ = false

both_true : (a b : Bool) → (a && b) ≡ true → (a ≡ true) × (b ≡ true)
both_true true b e = (refl, e)
both_true false b e = absurd (false≢true e)

weights_is : (d e : WeightedList Value) → weights_eq d e ≡ true → d ≡ e
weights_is [] [] h = refl
weights_is [] (y ∷ e) h = absurd (false≢true h)
weights_is (x ∷ d) [] h = absurd (false≢true h)
weights_is (x ∷ d) (y ∷ e) h =
    let p = both_true (value_eq x.0 y.0 && (x.1 == y.1)) (weights_eq d e) h in
    let q = both_true (value_eq x.0 y.0) (x.1 == y.1) p.0 in
    let a : x.0 ≡ y.0 = (value_eq-true x.0 y.0).0 q.0 in
    let b : x.1 ≡ y.1 = (Decides-eqb x.1 y.1).0 q.1 in
    let r = weights_is d e p.1 in
    λ i. (a i, b i) ∷ r i

weights_same : (d : WeightedList Value) → weights_eq d d ≡ true
weights_same [] = refl
weights_same (x ∷ d) =
    ap (λ b. (b && (x.1 == x.1)) && weights_eq d d) ((value_eq-true x.0 x.0).1 refl) ∙ ap (λ b. b && weights_eq d d) ((Decides-eqb x.1 x.1).1 refl) ∙ weights_same d

-- whether two meanings are the same
abbrev alike_test : Meaning → Meaning → Bool
alike_test (finite v) (finite w) = value_eq v w
alike_test (whole m) (whole n) = int_eq m n
alike_test (fraction a) (fraction b) = is_same a b
alike_test (weights d) (weights e) = weights_eq d e
alike_test _ _ = false

alike_tested : (x y : Meaning) → alike_test x y ≡ true → Alike x y
alike_tested (finite v) (finite w) h = ap finite ((value_eq-true v w).0 h)
alike_tested (whole m) (whole n) h = ap whole ((Decides-int_eq m n).0 h)
alike_tested (fraction a) (fraction b) h = h
alike_tested (weights d) (weights e) h = ap weights (weights_is d e h)
alike_tested (finite v) (whole n) h = absurd (false≢true h)
alike_tested (finite v) (fraction b) h = absurd (false≢true h)
alike_tested (finite v) (weights e) h = absurd (false≢true h)
alike_tested (whole m) (finite w) h = absurd (false≢true h)
alike_tested (whole m) (fraction b) h = absurd (false≢true h)
alike_tested (whole m) (weights e) h = absurd (false≢true h)
alike_tested (fraction a) (finite w) h = absurd (false≢true h)
alike_tested (fraction a) (whole n) h = absurd (false≢true h)
alike_tested (fraction a) (weights e) h = absurd (false≢true h)
alike_tested (weights d) (finite w) h = absurd (false≢true h)
alike_tested (weights d) (whole n) h = absurd (false≢true h)
alike_tested (weights d) (fraction b) h = absurd (false≢true h)

test_itself : (x : Meaning) → alike_test x x ≡ true
test_itself (finite v) = (value_eq-true v v).1 refl
test_itself (whole n) = (Decides-int_eq n n).1 refl
test_itself (fraction a) = alike_itself (fraction a)
test_itself (weights d) = weights_same d

test_of : (x y : Meaning) → Alike x y → alike_test x y ≡ true
test_of (fraction a) (fraction b) h = h
test_of (finite v) y h = ap (alike_test (finite v)) (sym h) ∙ test_itself (finite v)
test_of (whole n) y h = ap (alike_test (whole n)) (sym h) ∙ test_itself (whole n)
test_of (weights d) y h = ap (alike_test (weights d)) (sym h) ∙ test_itself (weights d)
test_of (fraction a) (finite w) h = cc
test_of (fraction a) (whole n) h = cc
test_of (fraction a) (weights e) h = cc

-- A meaning of type `bool` is its truth.

bit_of : (n : ℕ) → n < 2 → bit (n == 1) ≡ n
bit_of zero l = refl
bit_of (suc zero) l = refl
bit_of (suc (suc n)) l = absurd (omega (arith, l))

same_bits : (b : Bool) → make.bit b ≡ bit b
same_bits true = refl
same_bits false = refl

bits_differ : (a b : Bool) → make.bit a ≡ make.bit b → a ≡ b
bits_differ true true e = refl
bits_differ true false e = absurd (omega (arith, e))
bits_differ false true e = absurd (omega (arith, e))
bits_differ false false e = refl

bit_below : (b : Bool) → make.bit b < 2
bit_below true = omega arith
bit_below false = omega arith

pub truth_is : (g : Types) (x : Meaning) → IsOf g ty.Bool x → x ≡ of_truth (truth x)
truth_is g x h =
    let v = finite_has g ty.Bool x tt h in
    finite_is g ty.Bool x tt h ∙ ap finite (sym ((Lawful-numbers 2).at_place (value_in x) v)) ∙ ap (λ n. finite (Num n)) (sym (bit_of (number_of (value_in x)) ((Lawful-numbers 2).below (value_in x) v)))

pub truth_of : (b : Bool) → truth (of_truth b) ≡ b
truth_of true = ap (λ n. n == 1) ((Lawful-numbers 2).place_at 1 (omega arith))
truth_of false = ap (λ n. n == 1) ((Lawful-numbers 2).place_at 0 (omega arith))

pub type_is : (t : Term) → (out-Term t).ty ≡ type_of t
type_is t = sym (ap type_of (each_is_node t) ∙ type_of_node (out-Term t).head (out-Term t).args (out-Term t).ty)

pub bool_is : (u : Ty) → is_bool u ≡ true → u ≡ ty.Bool
bool_is ty.Bool h = refl
bool_is _ h = absurd (false≢true h)

-- what a literal shows

abbrev pub Shows : Head → Meaning → Type 0
Shows (head.Lit v) x = x ≡ finite v
Shows (head.Whole n) x = (x ≡ whole n) ⊎ (x ≡ fraction (of_whole n))
Shows _ x = ⊥

whole_same : (m n : ℤ) → is_same (of_whole m) (of_whole n) ≡ true → m ≡ n
whole_same m n h = let e : Same (of_whole m) (of_whole n) = same_used (of_whole m) (of_whole n) h in omega (arith, ints, e)

shown_same : (a b : Head) (x y : Meaning) → Shows a x → Shows b y → Alike x y → a ≡ b
shown_same (head.Lit v) (head.Lit w) x y h k e = ap head.Lit (finite_same v w (subst (λ z. Alike z (finite w)) h (subst (Alike x) k e)))
  where
    finite_same : (v w : Value) → finite v ≡ finite w → v ≡ w
    finite_same v w e = cc
shown_same (head.Lit v) (head.Whole n) x y h (inl k) e = let q : finite v ≡ whole n = subst (λ z. Alike z (whole n)) h (subst (Alike x) k e) in cc
shown_same (head.Lit v) (head.Whole n) x y h (inr k) e = let q : finite v ≡ fraction (of_whole n) = subst (λ z. Alike z (fraction (of_whole n))) h (subst (Alike x) k e) in cc
shown_same (head.Whole m) (head.Lit w) x y (inl h) k e = let q : whole m ≡ finite w = subst (λ z. Alike z (finite w)) h (subst (Alike x) k e) in cc
shown_same (head.Whole m) (head.Lit w) x y (inr h) k e = let q : fraction (of_whole m) ≡ finite w = subst (λ z. Alike z (finite w)) h (subst (Alike x) k e) in cc
shown_same (head.Whole m) (head.Whole n) x y (inl h) (inl k) e = ap head.Whole (numbers_same m n (subst (λ z. Alike z (whole n)) h (subst (Alike x) k e)))
  where
    numbers_same : (m n : ℤ) → whole m ≡ whole n → m ≡ n
    numbers_same m n e = cc
shown_same (head.Whole m) (head.Whole n) x y (inl h) (inr k) e = let q : whole m ≡ fraction (of_whole n) = subst (λ z. Alike z (fraction (of_whole n))) h (subst (Alike x) k e) in cc
shown_same (head.Whole m) (head.Whole n) x y (inr h) (inl k) e = let q : fraction (of_whole m) ≡ whole n = subst (λ z. Alike z (whole n)) h (subst (Alike x) k e) in cc
shown_same (head.Whole m) (head.Whole n) x y (inr h) (inr k) e = ap head.Whole (whole_same m n (subst (λ z. Alike z (fraction (of_whole n))) h (subst (Alike x) k e)))
shown_same (head.Lit v) _ x y h k e = absurd k
shown_same (head.Whole m) _ x y h k e = absurd k
shown_same _ b x y h k e = absurd h

module _ (g : Setting) (j : Speaks) (s : State) where
  whole_shown : (h : Head) (ts : List Term) (u : Ty) (a : Head) → shown_whole h ts ≡ Some a → (n : ℤ) × (a ≡ head.Whole n) × (val g j (node h ts u) s ≡ whole n)
  whole_shown (head.Whole n) [] u a e = (n, sym (some_head (head.Whole n) a e), val_node g j (head.Whole n) [] u s)
    where
      some_head : (x y : Head) → Some x ≡ Some y → x ≡ y
      some_head x y e = cc
  whole_shown (head.Whole n) (t ∷ ts) u a e = cc
  whole_shown (head.Lit v) ts u a e = cc
  whole_shown _ ts u a e = cc

  by_operator : (o : Op) (ts : List Term) (u : Ty) (a : Head) → shown_by o ts ≡ Some a → Shows a (val g j (node (head.Builtin o) ts u) s)
  by_operator op.ToReal (t ∷ []) u a e =
      let w = whole_shown (out-Term t).head (out-Term t).args (out-Term t).ty a e in
      let v : val g j t s ≡ whole w.0 = ap (λ z. val g j z s) (each_is_node t) ∙ w.2 in
      subst (λ z. Shows z (val g j (node (head.Builtin op.ToReal) (t ∷ []) u) s)) (sym w.1)
      (inr (val_node g j (head.Builtin op.ToReal) (t ∷ []) u s ∙ ap (λ z. fraction (fraction_in z)) v))
  by_operator op.ToReal [] u a e = cc
  by_operator op.ToReal (t ∷ v ∷ ts) u a e = cc
  by_operator _ ts u a e = cc

  by_head : (h : Head) (ts : List Term) (u : Ty) (a : Head) → shown_at h ts ≡ Some a → Shows a (val g j (node h ts u) s)
  by_head (head.Lit v) [] u a e = subst (λ z. Shows z (val g j (node (head.Lit v) [] u) s)) (some_head (head.Lit v) a e) (val_node g j (head.Lit v) [] u s)
    where
      some_head : (x y : Head) → Some x ≡ Some y → x ≡ y
      some_head x y e = cc
  by_head (head.Whole n) [] u a e = subst (λ z. Shows z (val g j (node (head.Whole n) [] u) s)) (some_head (head.Whole n) a e) (inl (val_node g j (head.Whole n) [] u s))
    where
      some_head : (x y : Head) → Some x ≡ Some y → x ≡ y
      some_head x y e = cc
  by_head (head.Builtin o) ts u a e = by_operator o ts u a e
  by_head (head.Lit v) (t ∷ ts) u a e = cc
  by_head (head.Whole n) (t ∷ ts) u a e = cc
  by_head _ ts u a e = cc

  pub literal_shows : (t : Term) (a : Head) → shown t ≡ Some a → Shows a (val g j t s)
  literal_shows t a e = subst (λ z. Shows a (val g j z s)) (sym (each_is_node t)) (by_head (out-Term t).head (out-Term t).args (out-Term t).ty a e)

  pub different_apart : (t u : Term) → AreDifferent t u → AreSame g j s t u → ⊥
  different_apart t u d h = d.different (shown_same d.first d.second (val g j t s) (val g j u s) (literal_shows t d.first d.first_shown) (literal_shows u d.second d.second_shown) h.alike)

  -- whether two terms mean the same
  abbrev pub tests : Term → Term → Bool
  tests t u = alike_test (val g j t s) (val g j u s) && (denominator g t == denominator g u)

  tested : (t u : Term) → tests t u ≡ true → AreSame g j s t u
  tested t u h =
      let p = both_true (alike_test (val g j t s) (val g j u s)) (denominator g t == denominator g u) h in
      record { alike = alike_tested (val g j t s) (val g j u s) p.0; denominator = (Decides-eqb (denominator g t) (denominator g u)).0 p.1 }

  of_same : (t u : Term) → AreSame g j s t u → tests t u ≡ true
  of_same t u h =
      ap (λ b. b && (denominator g t == denominator g u)) (test_of (val g j t s) (val g j u s) h.alike) ∙ (Decides-eqb (denominator g t) (denominator g u)).1 h.denominator

  turned : (t u : Term) → AreSame g j s t u → AreSame g j s u t
  turned t u h = record { alike = alike_turned (val g j t s) (val g j u s) h.alike; denominator = sym h.denominator }

  joined : (t u v : Term) → IsProper (val g j u s) → AreSame g j s t u → AreSame g j s u v → AreSame g j s t v
  joined t u v p h k = record { alike = alike_then (val g j t s) (val g j u s) (val g j v s) p h.alike k.alike; denominator = h.denominator ∙ k.denominator }

  -- the place of the first term that means the same
  abbrev pub place : List Term → Term → ℕ
  place [] t = 0
  place (u ∷ us) t = if tests u t then 0 else suc (place us t)

  abbrev EachProper : List Term → Type 0
  EachProper us = (u : Term) → Contains us u → IsProper (val g j u s)

  proper_rest : (u : Term) (us : List Term) → EachProper (u ∷ us) → EachProper us
  proper_rest u us p v k = p v (suc k.0, omega (arith, k.1), k.2)

  -- terms that mean the same have one place
  place_same : (us : List Term) (t v : Term) → EachProper us → IsProper (val g j t s) → IsProper (val g j v s) → AreSame g j s t v → place us t ≡ place us v
  place_same [] t v p a b h = refl
  place_same (u ∷ us) t v p a b h =
      let r = place_same us t v (proper_rest u us p) a b h in
      ap (λ c. if c then 0 else suc (place us t)) (one_test (tests u t) (tests u v) refl refl) ∙ ap (λ n. if tests u v then 0 else suc n) r
    where
      one_test : (c d : Bool) → tests u t ≡ c → tests u v ≡ d → tests u t ≡ tests u v
      one_test true d e f = e ∙ sym (of_same u v (joined u t v a (tested u t e) h))
      one_test false true e f = absurd (false≢true (sym e ∙ of_same u t (joined u v t b (tested u v f) (turned t v h))))
      one_test false false e f = e ∙ sym f

  -- and the other way round

  rest : (u : Term) (us : List Term) (t : Term) → tests u t ≡ false → Contains (u ∷ us) t → Contains us t
  rest u us t e (zero, l, q) = absurd (false≢true (sym e ∙ of_same u t (same_itself g j s u t q)))
  rest u us t e (suc k, l, q) = (k, omega (arith, l), q)

  same_place : (us : List Term) (t v : Term) → EachProper us → Contains us t → Contains us v → place us t ≡ place us v → AreSame g j s t v
  same_place [] t v p k l e = absurd (omega (arith, k.1))
  same_place (u ∷ us) t v p k l e = by_tests (tests u t) (tests u v) refl refl (same_place us t v (proper_rest u us p))
    where
      by_tests : (c d : Bool) → tests u t ≡ c → tests u v ≡ d → (Contains us t → Contains us v → place us t ≡ place us v → AreSame g j s t v) → AreSame g j s t v
      by_tests true true x y f = joined t u v (p u (0, omega arith, refl)) (turned u t (tested u t x)) (tested u v y)
      by_tests true false x y f =
          absurd (omega (arith, e, ap (λ b. if b then 0 else suc (place us t)) x, ap (λ b. if b then 0 else suc (place us v)) y))
      by_tests false true x y f =
          absurd (omega (arith, e, ap (λ b. if b then 0 else suc (place us t)) x, ap (λ b. if b then 0 else suc (place us v)) y))
      by_tests false false x y f =
          f (rest u us t x k) (rest u us v y l)
          (omega (arith, e, ap (λ b. if b then 0 else suc (place us t)) x, ap (λ b. if b then 0 else suc (place us v)) y))

  -- The label of a term: that of its truth for a form, and else one by the first term that means the same.
  abbrev pub labels : List Term → Term → ℕ
  labels us t = if is_form t then make.bit (truth (val g j t s)) else suc (suc (place us t))

  pub form_label : (us : List Term) (t : Term) → is_form t ≡ true → labels us t ≡ make.bit (truth (val g j t s))
  form_label us t e = ap (λ b. if b then make.bit (truth (val g j t s)) else suc (suc (place us t))) e

  pub other_label : (us : List Term) (t : Term) → is_form t ≡ false → labels us t ≡ suc (suc (place us t))
  other_label us t e = ap (λ b. if b then make.bit (truth (val g j t s)) else suc (suc (place us t))) e

  module _ (us : List Term) (proper : EachProper us) (bools : (t : Term) → Contains us t → is_form t ≡ true → (val g j t s ≡ of_truth (truth (val g j t s))) × (denominator g t ≡ 1)) where
    -- terms of one label mean the same
    pub same_of_labels : (t v : Term) → Contains us t → Contains us v → labels us t ≡ labels us v → AreSame g j s t v
    same_of_labels t v k l e = by_forms (is_form t) (is_form v) refl refl
      where
        by_forms : (c d : Bool) → is_form t ≡ c → is_form v ≡ d → AreSame g j s t v
        by_forms true true x y =
            let p = bools t k x in
            let q = bools v l y in
            let b : truth (val g j t s) ≡ truth (val g j v s) = bits_differ (truth (val g j t s)) (truth (val g j v s)) (sym (form_label us t x) ∙ e ∙ form_label us v y) in
            record { alike = alike_of (val g j t s) (val g j v s) (p.0 ∙ ap of_truth b ∙ sym q.0); denominator = p.1 ∙ sym q.1 }
        by_forms true false x y = absurd (omega (arith, e, form_label us t x, other_label us v y, bit_below (truth (val g j t s))))
        by_forms false true x y = absurd (omega (arith, e, other_label us t x, form_label us v y, bit_below (truth (val g j v s))))
        by_forms false false x y = same_place us t v proper k l (omega (arith, e, other_label us t x, other_label us v y))

    -- terms that mean the same, both forms or both none, have one label
    pub labels_of_same : (t v : Term) → Contains us t → Contains us v → is_form t ≡ is_form v → AreSame g j s t v → labels us t ≡ labels us v
    labels_of_same t v k l f h = by_forms (is_form t) refl
      where
        by_forms : (c : Bool) → is_form t ≡ c → labels us t ≡ labels us v
        by_forms true x = form_label us t x ∙ ap make.bit (truth_alike (val g j t s) (val g j v s) h.alike) ∙ sym (form_label us v (sym f ∙ x))
        by_forms false x =
            other_label us t x ∙ ap (λ n. suc (suc n)) (place_same us t v proper (proper t k) (proper v l) h) ∙ sym (other_label us v (sym f ∙ x))
