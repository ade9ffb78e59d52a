-- A simple term with labels means what the term means, where the values of globals are labels.
use Rattle.std.proofs.Common.{◌≡◌, ◌↔◌, ℕ, ◌+◌, ◌-◌, ◌*◌, ◌%◌, Bool, true, false, ◌&&◌, if◌then◌else◌, Option, Some, None, List, [], ◌∷◌, refl, ap, sym, ◌∙◌, subst}
use Rattle.std.specs.List.{list_all}
use Rattle.std.proofs.lemmas.Bool.{false≢true, and_parts}
use Rattle.gb_core.specs.declared.ty.Ty.{Ty}
use Rattle.gb_core.specs.declared.var.Var.{Var}
use Rattle.gb_core.specs.declared.var.Var.TheVariants as var
use Rattle.gb_core.specs.declared.value.Value.{Value}
use Rattle.gb_core.specs.declared.value.Value.TheVariants.{Many}
use Rattle.gb_core.specs.Numbering.{Numbering, parts_of, first_or}
use Rattle.gb_terms.specs.declared.op.Op.{Op}
use Rattle.gb_terms.specs.declared.op.Op.TheVariants as op
use Rattle.gb_terms.specs.declared.op.Read.{Read}
use Rattle.gb_terms.specs.declared.op.Read.TheVariants.{Logical, Program}
use Rattle.gb_terms.specs.declared.term.Term.{Term, Term', Row_of-Term, end_of-Term, more_of-Term, end_of-Head, more_of-Head}
use Rattle.gb_terms.specs.declared.term.Head.{Head}
use Rattle.gb_terms.specs.declared.term.Head.TheVariants as head
use Rattle.gb_meaning.specs.Values.{Types, values, first, has, fit}
use Rattle.gb_meaning.specs.Memory.{Memory, read}
use Rattle.gb_meaning.specs.Setting.{Meaning, Setting}
use Rattle.gb_meaning.specs.Setting.Meaning.{finite, whole, fraction, weights}
use Rattle.gb_meaning.specs.Meanings.{of_truth, of_number, value_in, number_in, truth}
use Rattle.gb_meaning.specs.Distributions.{uniform}
use Rattle.gb_meaning.specs.Operators.{Argument, outcome_type, key_type, modulus, sum_at, difference_at, product_at, entry_set, nullary, unary, binary, ternary, operated, denominator_at}
use Rattle.gb_meaning.specs.State.{State, memory_of}
use Rattle.gb_meaning.specs.Terms.{Speaks, Part, last_of, at_head, at_value, each_value, some_value, val, parts, read_at, denominator, denominators, denominator_of}
use Rattle.gb_eval.specs.Meant.{is_judged_at}
use Rattle.gb_smt.specs.Meant.{IsRight}
use Rattle.gb_labels.specs.Labels.{Labels, labelled_ty}
use Rattle.gb_labels.specs.Labelled.{labelled_head, labelled, all_labelled}
use Rattle.gb_smt_laws.specs.Labels.{AreLabels}
use Rattle.gb_smt_laws.specs.Simple.{is_simple, all_simple, is_simple_at, only, both}
use Rattle.gb_smt_laws.proofs.LabelledTypes.{labelled_values, labelled_alike}
use mathlib.Core.Former.{Count}

-- Terms with labels are simple as those without are.
module _ (ls : Labels) where
  simple_head : (h : Head) (bs : List Bool) → is_simple_at (labelled_head ls h) bs ≡ is_simple_at h bs
  simple_head (head.All u) bs = refl
  simple_head (head.Some u) bs = refl
  simple_head _ bs = refl

  mutual
    pub labelled_simple : (t : Term) → is_simple (labelled ls t) ≡ is_simple t
    labelled_simple (Term' p (more_of-Head h end_of-Head) n ts ty) = simple_head h (all_simple (all_labelled ls ts)) ∙ ap (is_simple_at h) (row_simple ts)

    row_simple : {n : Count} (ts : Row_of-Term n) → all_simple (all_labelled ls ts) ≡ all_simple ts
    row_simple end_of-Term = refl
    row_simple (more_of-Term t ts) = let first = labelled_simple t in let rest = row_simple ts in λ i. first i ∷ rest i

-- heads whose arguments count
abbrev IsInner : Head → Type 0
IsInner (head.Lit v) = ⊥
IsInner (head.Whole v) = ⊥
IsInner (head.Read r) = ⊥
IsInner (head.Bound i) = ⊥
IsInner _ = Unit {0}

only_simple : (bs : List Bool) → only bs ≡ true → list_all (λ b. b) bs ≡ true
only_simple [] k = absurd (false≢true k)
only_simple (b ∷ []) k = ap (λ b. b && true) k
only_simple (b ∷ c ∷ bs) k = absurd (false≢true k)

both_simple : (bs : List Bool) → both bs ≡ true → list_all (λ b. b) bs ≡ true
both_simple [] k = absurd (false≢true k)
both_simple (b ∷ []) k = absurd (false≢true k)
both_simple (b ∷ c ∷ []) k = let x = and_parts b c k in λ i. x.0 i && (x.1 i && true)
both_simple (b ∷ c ∷ d ∷ bs) k = absurd (false≢true k)

each_simple : (h : Head) (bs : List Bool) → is_simple_at h bs ≡ true → IsInner h → list_all (λ b. b) bs ≡ true
each_simple (head.Lit v) bs k i = absurd i
each_simple (head.Whole v) bs k i = absurd i
each_simple (head.Read r) bs k i = absurd i
each_simple (head.Bound x) bs k i = absurd i
each_simple (head.Builtin o) bs k i = k
each_simple (head.User v) bs k i = k
each_simple (head.Weights ps) bs k i = k
each_simple (head.All u) bs k i = only_simple bs k
each_simple (head.Some u) bs k i = only_simple bs k
each_simple (head.Sum q) bs k i = only_simple bs k
each_simple head.AllMemory bs k i = only_simple bs k
each_simple head.SomeMemory bs k i = only_simple bs k
each_simple head.Mu bs k i = both_simple bs k
each_simple head.Map bs k i = both_simple bs k
each_simple head.Restrict bs k i = both_simple bs k
each_simple _ bs k i = absurd (false≢true k)

-- Arithmetic modulo the bounds of two types, where these are the same.

sum_same : (u v : Ty) (a b : Meaning) → modulus u ≡ modulus v → sum_at u a b ≡ sum_at v a b
sum_same u v (whole a) (whole b) e = refl
sum_same u v (fraction a) (fraction b) e = refl
sum_same u v a b e = ap (λ n. of_number ((number_in a + number_in b) % n)) e

difference_same : (u v : Ty) (a b : Meaning) → modulus u ≡ modulus v → difference_at u a b ≡ difference_at v a b
difference_same u v (whole a) (whole b) e = refl
difference_same u v (fraction a) (fraction b) e = refl
difference_same u v a b e = ap (λ n. of_number ((number_in a + (n - number_in b)) % n)) e

product_same : (u v : Ty) (a b : Meaning) → modulus u ≡ modulus v → product_at u a b ≡ product_at v a b
product_same u v (whole a) (whole b) e = refl
product_same u v (fraction a) (fraction b) e = refl
product_same u v a b e = ap (λ n. of_number ((number_in a * number_in b) % n)) e

module _ (t : Types) (ls : Labels) (are : AreLabels t ls) where
  -- Reads.

  fit_same : (u : Ty) (o : Option Value) → fit t (labelled_ty ls u) o ≡ fit t u o
  fit_same u None = ap (λ (n : Numbering). n.at 0) (labelled_values t ls are u)
  fit_same u (Some v) = ap (λ (n : Numbering). if n.has v then v else n.at 0) (labelled_values t ls are u)

  pub read_same : (m : Memory) (x : Var) (u : Ty) → read t m x (labelled_ty ls u) ≡ read t m x u
  read_same m (var.Global a x) u = fit_same u _
  read_same m (var.Local x) u = fit_same u _
  read_same m (var.Glob a) u = refl

  -- Operators.

  nullary_same : (o : Op) (u : Ty) → nullary t o (labelled_ty ls u) ≡ nullary t o u
  nullary_same op.Uniform u =
      ap (λ v. weights (uniform (values t v))) (labelled_alike ls u).1 ∙ ap (λ n. weights (uniform n)) (labelled_values t ls are (outcome_type u))
  nullary_same _ u = refl

  unary_same : (o : Op) (u : Ty) (a : Meaning) → unary t o (labelled_ty ls u) a ≡ unary t o u a
  unary_same op.Oget u a = ap (λ (n : Numbering). finite (first_or (parts_of (value_in a)) (n.at 0))) (labelled_values t ls are u)
  unary_same _ u a = refl

  binary_same : (o : Op) (u : Ty) (a b : Argument) → binary t o (labelled_ty ls u) a b ≡ binary t o u a b
  binary_same op.Plus u a b = sum_same (labelled_ty ls u) u a.meaning b.meaning (labelled_alike ls u).3
  binary_same op.Minus u a b = difference_same (labelled_ty ls u) u a.meaning b.meaning (labelled_alike ls u).3
  binary_same op.Times u a b = product_same (labelled_ty ls u) u a.meaning b.meaning (labelled_alike ls u).3
  binary_same _ u a b = refl

  ternary_same : (o : Op) (u : Ty) (a b c : Argument) → ternary t o (labelled_ty ls u) a b c ≡ ternary t o u a b c
  ternary_same op.Set u a b c =
      ap (λ v. finite (Many (entry_set (values t v) (parts_of (value_in a.meaning)) (value_in b.meaning) (value_in c.meaning)))) (labelled_alike ls u).2
      ∙ ap (λ n. finite (Many (entry_set n (parts_of (value_in a.meaning)) (value_in b.meaning) (value_in c.meaning)))) (labelled_values t ls are (key_type u))
  ternary_same _ u a b c = refl

  operated_same : (o : Op) (u : Ty) (xs : List Argument) → operated t o (labelled_ty ls u) xs ≡ operated t o u xs
  operated_same op.Tuple u xs = refl
  operated_same o u [] = nullary_same o u
  operated_same o u (a ∷ []) = unary_same o u a.meaning
  operated_same o u (a ∷ b ∷ []) = binary_same o u a b
  operated_same o u (a ∷ b ∷ c ∷ []) = ternary_same o u a b c
  operated_same o u (a ∷ b ∷ c ∷ d ∷ xs) = refl

  operator_denominator : (o : Op) (u : Ty) (ks : List ℕ) → denominator_at t o (labelled_ty ls u) ks ≡ denominator_at t o u ks
  operator_denominator op.Uniform u ks =
      ap (λ v. (values t v).size) (labelled_alike ls u).1 ∙ ap (λ (n : Numbering). n.size) (labelled_values t ls are (outcome_type u))
  operator_denominator _ u ks = refl

module _ (g : Setting) (ls : Labels) (are : AreLabels g.types ls) where
  pub labelled_read : (r : Read) (u : Ty) (s : State) → read_at g r (labelled_ty ls u) s ≡ read_at g r u s
  labelled_read (Logical i) u s = refl
  labelled_read (Program x r) u s = ap finite (read_same g.types ls are (memory_of s r) x u)

  -- Denominators.

  head_denominator : (h : Head) (ks : List ℕ) (u : Ty) → denominator_of g (labelled_head ls h) ks (labelled_ty ls u) ≡ denominator_of g h ks u
  head_denominator (head.Builtin o) ks u = operator_denominator g.types ls are o u ks
  head_denominator (head.User n) ks u = ap (λ b. if b then g.denominator n else 1) (labelled_alike ls u).0
  head_denominator (head.All v) ks u = refl
  head_denominator (head.Some v) ks u = refl
  head_denominator _ ks u = refl

  mutual
    pub labelled_denominator : (t : Term) → denominator g (labelled ls t) ≡ denominator g t
    labelled_denominator (Term' p (more_of-Head h end_of-Head) n ts u) =
        ap (λ ks. denominator_of g (labelled_head ls h) ks (labelled_ty ls u)) (labelled_denominators ts) ∙ head_denominator h (denominators g ts) u

    pub labelled_denominators : {n : Count} (ts : Row_of-Term n) → denominators g (all_labelled ls ts) ≡ denominators g ts
    labelled_denominators end_of-Term = refl
    labelled_denominators (more_of-Term t ts) = let first = labelled_denominator t in let rest = labelled_denominators ts in λ i. first i ∷ rest i

  -- Meanings.
  module _ (j : Speaks) (right : IsRight g j) where
    equal : (a b : Bool) → (a ≡ true → b ≡ true) → (b ≡ true → a ≡ true) → a ≡ b
    equal true b f e = sym (f refl)
    equal false true f e = e refl
    equal false false f e = refl

    same_answer : {P : Type 0} (a b : Bool) → (a ≡ true ↔ P) → (b ≡ true ↔ P) → a ≡ b
    same_answer a b x y = equal a b (λ e. y.1 (x.0 e)) (λ e. x.1 (y.0 e))

    -- a head with labels means the same from the same parts, where judges say of both terms what quantifiers over memories say
    head_same : (t v : Term) (h : Head) (xs : List Part) (u : Ty) (s : State) → is_judged_at g j t h xs → is_judged_at g j v h xs → (bs : List Bool) → is_simple_at h bs ≡ true →
        at_head g j t (labelled_head ls h) xs (labelled_ty ls u) s ≡ at_head g j v h xs u s
    head_same t v (head.Lit w) xs u s a b bs k = refl
    head_same t v (head.Whole w) xs u s a b bs k = refl
    head_same t v (head.Read r) xs u s a b bs k = labelled_read r u s
    head_same t v (head.Bound i) xs u s a b bs k = refl
    head_same t v (head.Builtin o) xs u s a b bs k = operated_same g.types ls are o u _
    head_same t v (head.User n) xs u s a b bs k = refl
    head_same t v (head.All w) xs u s a b bs k =
        ap (λ n. of_truth (each_value n (λ z. truth (at_value (last_of xs) s z)))) (labelled_values g.types ls are w)
    head_same t v (head.Some w) xs u s a b bs k =
        ap (λ n. of_truth (some_value n (λ z. truth (at_value (last_of xs) s z)))) (labelled_values g.types ls are w)
    head_same t v head.AllMemory xs u s a b bs k = ap of_truth (same_answer (j.judged t s) (j.judged v s) (a s) (b s))
    head_same t v head.SomeMemory xs u s a b bs k = ap of_truth (same_answer (j.judged t s) (j.judged v s) (a s) (b s))
    head_same t v head.Mu xs u s a b bs k = refl
    head_same t v (head.Sum q) xs u s a b bs k = refl
    head_same t v (head.Weights ps) xs u s a b bs k = refl
    head_same t v head.Map xs u s a b bs k = refl
    head_same t v head.Restrict xs u s a b bs k = refl
    head_same t v _ xs u s a b bs k = absurd (false≢true k)

    -- what is said of a term with labels, at its head without them
    judged_head : (t : Term) (h : Head) (xs : List Part) → is_judged_at g j t (labelled_head ls h) xs → is_judged_at g j t h xs
    judged_head t (head.All u) xs a = tt
    judged_head t (head.Some u) xs a = tt
    judged_head t h xs a = a

    node_means : (t v : Term) (h : Head) (xs ys : List Part) → xs ≡ ys → (u : Ty) → is_judged_at g j t (labelled_head ls h) xs → is_judged_at g j v h ys → (bs : List Bool) → is_simple_at h bs ≡ true →
        (s : State) → at_head g j t (labelled_head ls h) xs (labelled_ty ls u) s ≡ at_head g j v h ys u s
    node_means t v h xs ys e u a b bs k s =
        ap (λ xs. at_head g j t (labelled_head ls h) xs (labelled_ty ls u) s) e
        ∙ head_same t v h ys u s (judged_head t h ys (subst (is_judged_at g j t (labelled_head ls h)) e a)) b bs k

    mutual
      pub labelled_means : (t : Term) → is_simple t ≡ true → (s : State) → val g j (labelled ls t) s ≡ val g j t s
      labelled_means (Term' p (more_of-Head (head.Lit v) end_of-Head) n ts u) k s = refl
      labelled_means (Term' p (more_of-Head (head.Whole v) end_of-Head) n ts u) k s = refl
      labelled_means (Term' p (more_of-Head (head.Read r) end_of-Head) n ts u) k s = labelled_read r u s
      labelled_means (Term' p (more_of-Head (head.Bound i) end_of-Head) n ts u) k s = refl
      labelled_means (Term' p (more_of-Head h end_of-Head) n ts u) k s =
          let t : Term = Term' p (more_of-Head (labelled_head ls h) end_of-Head) n (all_labelled ls ts) (labelled_ty ls u) in
          let v : Term = Term' p (more_of-Head h end_of-Head) n ts u in
          node_means t v h (parts g j (all_labelled ls ts)) (parts g j ts) (parts_same ts (each_simple h (all_simple ts) k tt)) u (right t).0 (right v).0 (all_simple ts) k s

      parts_same : {n : Count} (ts : Row_of-Term n) → list_all (λ b. b) (all_simple ts) ≡ true → parts g j (all_labelled ls ts) ≡ parts g j ts
      parts_same end_of-Term k = refl
      parts_same (more_of-Term t ts) k =
          let both = and_parts (is_simple t) (list_all (λ b. b) (all_simple ts)) k in
          let first = labelled_means t both.0 in
          let size = labelled_denominator t in
          let rest = parts_same ts both.1 in
          λ i. (let x : Part = record { meaning = λ s. first s i; denominator = size i } in x) ∷ rest i
