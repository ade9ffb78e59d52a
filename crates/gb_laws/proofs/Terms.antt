-- Well-typed terms mean what their types say.
use Rattle.std.proofs.Common.{◌≡◌, ℕ, zero, suc, ◌<◌, ◌≤◌, Bool, true, false, if◌then◌else◌, pos, List, [], ◌∷◌, map, get_or, refl, ap, sym, ◌∙◌, subst, arith}
use Rattle.std.proofs.Math.Nat.{mul-pos}
use Rattle.std.proofs.lemmas.Bool.{false≢true, ltb-true, lt-ltb}
use Rattle.gb_core.specs.declared.ty.Ty.{Ty}
use Rattle.gb_core.specs.declared.ty.Ty.TheVariants as ty
use Rattle.gb_core.specs.declared.value.Value.{Value}
use Rattle.gb_core.specs.declared.value.Value.TheOpen as v
use Rattle.gb_core.specs.declared.value.Value.TheViews.{out-Value}
use Rattle.gb_core.specs.declared.var.Var.TheVariants as var
use Rattle.gb_core.specs.Numbering.{is_below_in}
use Rattle.gb_dist.specs.WeightedList.{WeightedList, Every, weight, dmap}
use Rattle.gb_dist.proofs.Entries.{Every-dmap}
use Rattle.gb_terms.specs.declared.module.Mexp.TheVariants.{Name as named}
use Rattle.gb_terms.specs.declared.op.Read.{Read}
use Rattle.gb_terms.specs.declared.op.Read.TheVariants.{Logical, Program}
use Rattle.gb_terms.specs.declared.term.Pair.{Pair}
use Rattle.gb_terms.specs.declared.term.Term.{Term, Term', Row_of-Term, end_of-Term, more_of-Term, end_of-Head, more_of-Head}
use Rattle.gb_terms.specs.declared.term.Head.{Head}
use Rattle.gb_terms.specs.declared.term.Head.TheVariants as head
use Rattle.gb_meaning.specs.Fractions.{Fraction}
use Rattle.gb_meaning.specs.Values.{has}
use Rattle.gb_meaning.specs.Setting.{Meaning, Setting}
use Rattle.gb_meaning.specs.Setting.Meaning.{finite, whole, fraction, weights}
use Rattle.gb_meaning.specs.Meanings.{of_number, value_in, truth, fraction_in, weights_in}
use Rattle.gb_meaning.specs.Distributions.{stated, restricted}
use Rattle.gb_meaning.specs.Operators.{Argument, outcome_type, operated}
use Rattle.gb_meaning.specs.State.{State, Binding, meaning_in, memory_of, under, at}
use Rattle.gb_meaning.specs.State.Binding.{value as bound_value, program as bound_program}
use Rattle.gb_meaning.specs.Terms.{Speaks, Part, last_of, before_last, argument, at_value, sum_below, read_at, at_head, val, parts, denominator}
use Rattle.gb_meaning.proofs.Types.{values_finite}
use Rattle.gb_meaning.specs.Trees.{distributions}
use Rattle.gb_laws.specs.Finite.{IsFinite}
use Rattle.gb_laws.specs.Operators.{IsDistributionType, IsOperator}
use Rattle.gb_laws.specs.Typing.{Context, Binder, types_of, IsLiteral, AreLiterals, IsBoundAt, IsRead, IsHead, inner, IsTyped, AreTyped}
use Rattle.gb_meaning.specs.Written.{type_of}
use Rattle.gb_laws.specs.Typing.Binder.{value, index, program}
use Rattle.gb_laws.specs.Meant.{IsOf, AreGiven}
use Rattle.gb_laws.specs.Context.{AreOf, FitsBinder, FitBinders, IsSettingOf, IsStateOf, IsFractional}
use Rattle.gb_laws.proofs.Sizes.{fit_in, glob_in}
use Rattle.gb_laws.proofs.Meanings.{number_has, finite_has, finite_is, fraction_above, weights_have, bool_in, real_in, at_type}
use Rattle.gb_laws.proofs.Operated.{operated_in}
use Rattle.gb_laws.proofs.Drawn.{typed_distribution}
use mathlib.Core.Former.{Count}

pub below_more : (q n : ℕ) → q ≤ n → (x : v.Value-F Value) → is_below_in q x ≡ true → is_below_in n x ≡ true
below_more q n h (v.Num k) e = let p = ltb-true k q e in lt-ltb k n (omega (arith, p))
below_more q n h (v.Many xs) e = absurd (false≢true e)

-- a sum of fractions has a denominator above 0
sum_above : (n : ℕ) (f : ℕ → Fraction) → ((i : ℕ) → i < n → 0 < (f i).1) → 0 < (sum_below n f).1
sum_above zero f h = omega arith
sum_above (suc n) f h = mul-pos (sum_above n f (λ i l. h i (omega (arith, l)))) (h n (omega arith))

restricted_every : (P : Value → Type 0) (d : WeightedList Value) (p : Value → Bool) → Every P d → Every P (restricted d p)
restricted_every P [] p h = tt
restricted_every P (e ∷ d) p h = step (p e.0) (restricted_every P d p h.1)
  where
    step : (b : Bool) → Every P (restricted d p) → Every P (if b then e ∷ restricted d p else restricted d p)
    step true k = (h.0, k)
    step false k = k

module _ (c : Context) (g : Setting) (i : IsSettingOf c g) (j : Speaks) (f : IsFractional j) where
  literal_has : (t : Ty) (w : Value) → IsLiteral t w → has g.types t w ≡ true
  literal_has t w h = subst (λ z. z.has w ≡ true) (sym (values_finite g.types t h.0)) h.1

  bound_at : (b : Binder) (x : Binding) (t : Ty) → FitsBinder g.types b x → IsBoundAt b t → IsOf g.types t (meaning_in x)
  bound_at (value u) x t h k = at_type g.types u t (meaning_in x) k.1 h
  bound_at (index q) x (ty.Mod n) h k = index_at q n (meaning_in x) k h
    where
      index_at : (q n : ℕ) (y : Meaning) → q ≤ n → IsOf g.types (ty.Mod q) y → IsOf g.types (ty.Mod n) y
      index_at q n (finite w) k h = below_more q n k (out-Value w) h
      index_at q n (whole m) k h = h
      index_at q n (fraction a) k h = h
      index_at q n (weights d) k h = h
  bound_at _ x t h k = absurd k

  bound_in : (bs : List Binder) (xs : List Binding) (n : ℕ) (t : Ty) → FitBinders g.types bs xs → IsBoundAt (get_or bs n program) t →
      IsOf g.types t (meaning_in (get_or xs n bound_program))
  bound_in [] xs n t h k = absurd k
  bound_in (b ∷ bs) [] n t h k = absurd h
  bound_in (b ∷ bs) (x ∷ xs) zero t h k = bound_at b x t h.0 k
  bound_in (b ∷ bs) (x ∷ xs) (suc n) t h k = bound_in bs xs n t h.1 k

  read_in : (e : Context) (r : Read) (t : Ty) (s : State) → IsStateOf g.types e s → IsRead e r t → IsOf g.types t (read_at g r t s)
  read_in e (Logical n) t s q h = q.logical n t h.1
  read_in e (Program (var.Global m x) r) t s q h = fit_in g.types i.inhabited t h.1 _
  read_in e (Program (var.Local x) r) t s q h = fit_in g.types i.inhabited t h.1 _
  read_in e (Program (var.Glob a) r) t s q h = at_type g.types (ty.Glob a) t (read_at g (Program (var.Glob a) r) t s) (sym h.1) (glob_in g.types i.inhabited (memory_of s r) a)

  -- a part means what its type says, and the denominator of a distribution is above 0
  abbrev IsPart : Context → Ty × Part → Type 0
  IsPart e x = ((s : State) → IsStateOf g.types e s → IsOf g.types x.0 (x.1.meaning s)) × (IsDistributionType x.0 → 0 < x.1.denominator)

  -- the same of each argument, the last in a context of its own
  abbrev AreParts : Context → Context → List (Ty × Part) → Type 0
  AreParts e d [] = Unit {0}
  AreParts e d (x ∷ []) = IsPart d x
  AreParts e d (x ∷ y ∷ xs) = IsPart e x × AreParts e d (y ∷ xs)

  abbrev tys : List (Ty × Part) → List Ty
  tys xs = map (λ x. x.0) xs

  abbrev ps : List (Ty × Part) → List Part
  ps xs = map (λ x. x.1) xs

  abbrev given : State → List (Ty × Part) → List (Ty × Argument)
  given s xs = map (λ x. (x.0, argument s x.1)) xs

  given_tys : (s : State) (xs : List (Ty × Part)) → tys xs ≡ map (λ x. x.0) (given s xs)
  given_tys s [] = refl
  given_tys s (x ∷ xs) = ap (λ z. x.0 ∷ z) (given_tys s xs)

  given_args : (s : State) (xs : List (Ty × Part)) → map (λ x. x.1) (given s xs) ≡ map (argument s) (ps xs)
  given_args s [] = refl
  given_args s (x ∷ xs) = ap (λ z. argument s x.1 ∷ z) (given_args s xs)

  are_given : (e : Context) (s : State) (xs : List (Ty × Part)) → IsStateOf g.types e s → AreParts e e xs → AreGiven g.types (given s xs)
  are_given e s [] q k = tt
  are_given e s (x ∷ []) q k = ((k.0 s q, k.1), tt)
  are_given e s (x ∷ y ∷ xs) q k = ((k.0.0 s q, k.0.1), are_given e s (y ∷ xs) q k.1)

  are_of : (e : Context) (s : State) (xs : List (Ty × Part)) → IsStateOf g.types e s → AreParts e e xs → AreOf g.types (tys xs) (map (λ x. x.meaning s) (ps xs))
  are_of e s [] q k = tt
  are_of e s (x ∷ []) q k = (k.0 s q, tt)
  are_of e s (x ∷ y ∷ xs) q k = (k.0.0 s q, are_of e s (y ∷ xs) q k.1)

  -- the state inside of a binder
  bound_more : (e : Context) (s : State) (b : Binder) (x : Binding) → IsStateOf g.types e s → FitsBinder g.types b x →
      IsStateOf g.types (record e { bound = b ∷ e.bound }) (under s x)
  bound_more e s b x q h = record { logical = q.logical; bound = (h, q.bound) }

  stated_every : (u : Ty) (qs : List Pair) → AreLiterals u qs → Every (λ w. has g.types u w ≡ true) (stated qs)
  stated_every u [] h = tt
  stated_every u (p ∷ qs) h = (literal_has u p.value h.0, stated_every u qs h.1)

  weights_in_type : (t : Ty) (d : WeightedList Value) → IsDistributionType t → Every (λ w. has g.types (outcome_type t) w ≡ true) d → IsOf g.types t (weights d)
  weights_in_type (ty.Distr' p x) d k h = (tt, h)
  weights_in_type _ d k h = absurd k

  sum_in : (e : Context) (q : ℕ) (x : Ty × Part) (s : State) → IsStateOf g.types e s → IsPart (record e { bound = index q ∷ e.bound }) x →
      (n : ℕ) → n < q → 0 < (fraction_in (x.1.meaning (under s (bound_value (of_number n))))).1
  sum_in e q x s w k n l = fraction_above g.types x.0 (x.1.meaning (under s (bound_value (of_number n)))) (k.0 _ (bound_more e s (index q) (bound_value (of_number n)) w (number_has q n l)))

  -- the image of a value of the outcomes
  image_in : (e : Context) (u : Ty) (x : Ty × Part) (s : State) → IsStateOf g.types e s → IsPart (record e { bound = value u ∷ e.bound }) x → IsFinite x.0 →
      (w : Value) → has g.types u w ≡ true → has g.types x.0 (value_in (at_value x.1 s w)) ≡ true
  image_in e u x s q k n w h = finite_has g.types x.0 (at_value x.1 s w) n (k.0 _ (bound_more e s (value u) (bound_value (finite w)) q h))

  head_in : (z : Term) (e : Context) → e.operator ≡ c.operator → (h : Head) (t : Ty) (xs : List (Ty × Part)) → AreParts e (inner e h (tys xs)) xs → IsHead e h (tys xs) t →
      (s : State) → IsStateOf g.types e s → IsOf g.types t (at_head g j z h (ps xs) t s)
  head_in z e o (head.Lit w) t [] k h s q = literal_has t w h
  head_in z e o (head.Whole n) t [] k h s q = at_type g.types ty.Int t (whole n) (sym h) tt
  head_in z e o (head.Read r) t [] k h s q = read_in e r t s q h
  head_in z e o (head.Bound n) t [] k h s q = bound_in e.bound s.bound n t q.bound h
  head_in z e o (head.Builtin p) t xs k h s q =
      subst (λ y. IsOf g.types t (operated g.types p t y)) (given_args s xs)
      (operated_in g.types i.inhabited p t (given s xs) (are_given e s xs q k) (subst (λ y. IsOperator p y t) (given_tys s xs) h))
  head_in z e o (head.User n) t xs k h s q = i.operators n (record { params = tys xs; result = t }) (ap (λ y. y n) (sym o) ∙ h) _ (are_of e s xs q k)
  head_in z e o (head.All u) t (x ∷ []) k h s q = bool_in g.types t _ h.1.1.0
  head_in z e o (head.Some u) t (x ∷ []) k h s q = bool_in g.types t _ h.1.1.0
  head_in z e o head.AllMemory t (x ∷ []) k h s q = bool_in g.types t _ h.1.0
  head_in z e o head.SomeMemory t (x ∷ []) k h s q = bool_in g.types t _ h.1.0
  head_in z e o (head.AllModule b) t (x ∷ []) k h s q = bool_in g.types t false h.1.0
  head_in z e o head.Mu t (x ∷ y ∷ []) k h s q =
      real_in g.types t (pos (weight (weights_in (x.1.meaning s)) (λ w. truth (at_value y.1 s w))), x.1.denominator) (k.0.1 h.0) h.2
  head_in z e o (head.Sum n) t (x ∷ []) k h s q =
      real_in g.types t (sum_below n (λ m. fraction_in (x.1.meaning (under s (bound_value (of_number m)))))) (sum_above n _ (sum_in e n x s q k)) h.1.1.0
  head_in z e o (head.Weights qs) t [] k h s q = weights_in_type t (stated qs) h.0 (stated_every (outcome_type t) qs h.1)
  head_in z e o head.Map t (x ∷ y ∷ []) k h s q =
      at_type g.types (distributions y.0) t (weights (dmap (λ w. value_in (at_value y.1 s w)) (weights_in (x.1.meaning s)))) (sym h.2) (
        tt,
        Every-dmap {P = λ w. has g.types (outcome_type x.0) w ≡ true} (λ w. has g.types y.0 w ≡ true) (λ w. value_in (at_value y.1 s w)) (weights_in (x.1.meaning s))
            (image_in e (outcome_type x.0) y s q k.1 h.1) (weights_have g.types x.0 (x.1.meaning s) (k.0.0 s q)),
      )
  head_in z e o head.Restrict t (x ∷ y ∷ []) k h s q =
      weights_in_type t (restricted (weights_in (x.1.meaning s)) (λ w. truth (at_value y.1 s w))) h.0
      (restricted_every (λ w. has g.types (outcome_type t) w ≡ true) (weights_in (x.1.meaning s)) (λ w. truth (at_value y.1 s w)) (weights_have g.types t (x.1.meaning s) (at_type g.types x.0 t (x.1.meaning s) h.1 (k.0.0 s q))))
  head_in z e o (head.Pr p r) t xs k h s q =
      real_in g.types t (j.probability p (map (λ x. value_in (x.meaning s)) (before_last (ps xs))) (memory_of s r) (λ n. truth ((last_of (ps xs)).meaning (at s n)))) (f p _ _ _) h.2
  head_in z e o (head.Glob (named a) r) t [] k h s q = at_type g.types (ty.Glob a) t (at_head g j z (head.Glob (named a) r) [] t s) (sym h.1) (glob_in g.types i.inhabited (memory_of s r) a)
  head_in z e o (head.Glob _ r) t [] k h s q = absurd h.1
  head_in z e o (head.Hoare b) t (x ∷ y ∷ []) k h s q = bool_in g.types t _ h.1.1.0
  head_in z e o (head.Phoare b r) t (x ∷ y ∷ w ∷ []) k h s q = bool_in g.types t _ h.0.1.1.0
  head_in z e o (head.Equiv a b) t (x ∷ y ∷ []) k h s q = bool_in g.types t _ h.1.1.0
  head_in z e o _ t xs k h s q = absurd h

  abbrev row_parts : {n : Count} → Row_of-Term n → List (Ty × Part)
  row_parts end_of-Term = []
  row_parts (more_of-Term t ts) = (type_of t, record { meaning = λ s. val g j t s; denominator = denominator g t }) ∷ row_parts ts

  row_tys : {n : Count} (ts : Row_of-Term n) → types_of ts ≡ tys (row_parts ts)
  row_tys end_of-Term = refl
  row_tys (more_of-Term t ts) = ap (λ z. type_of t ∷ z) (row_tys ts)

  row_ps : {n : Count} (ts : Row_of-Term n) → ps (row_parts ts) ≡ parts g j ts
  row_ps end_of-Term = refl
  row_ps (more_of-Term t ts) = ap (λ z. record { meaning = λ s. val g j t s; denominator = denominator g t } ∷ z) (row_ps ts)

  mutual
    pub term_in : (t : Term) (e : Context) → e.operator ≡ c.operator → IsTyped e t → (s : State) → IsStateOf g.types e s → IsOf g.types (type_of t) (val g j t s)
    term_in (Term' b (more_of-Head h end_of-Head) n ts t) e o w s q =
        subst (λ z. IsOf g.types t (at_head g j (Term' b (more_of-Head h end_of-Head) n ts t) h z t s)) (row_ps ts)
        (head_in _ e o h t (row_parts ts) (subst (λ z. AreParts e (inner e h z) (row_parts ts)) (row_tys ts) (row_in ts e (inner e h (types_of ts)) o o w.1))
        (subst (λ z. IsHead e h z t) (row_tys ts) w.0) s q)

    row_in : {n : Count} (ts : Row_of-Term n) (e d : Context) → e.operator ≡ c.operator → d.operator ≡ c.operator → AreTyped e d ts → AreParts e d (row_parts ts)
    row_in end_of-Term e d o r w = tt
    row_in (more_of-Term t end_of-Term) e d o r w = (term_in t d r w, λ k. (typed_distribution c g i t d r w k).positive)
    row_in (more_of-Term t (more_of-Term u ts)) e d o r w = ((term_in t e o w.0, λ k. (typed_distribution c g i t e o w.0 k).positive), row_in (more_of-Term u ts) e d o r w.1)

module _ (c : Context) (g : Setting) (i : IsSettingOf c g) (j : Speaks) (f : IsFractional j) (t : Term) (w : IsTyped c t) where
  pub typed_meaning : (s : State) → IsStateOf g.types c s → IsOf g.types (type_of t) (val g j t s)
  typed_meaning s q = term_in c g i j f t c refl w s q

  pub typed_value : IsFinite (type_of t) → (s : State) → IsStateOf g.types c s → val g j t s ≡ finite (value_in (val g j t s))
  typed_value n s q = finite_is g.types (type_of t) (val g j t s) n (typed_meaning s q)

  pub typed_has : IsFinite (type_of t) → (s : State) → IsStateOf g.types c s → has g.types (type_of t) (value_in (val g j t s)) ≡ true
  typed_has n s q = finite_has g.types (type_of t) (val g j t s) n (typed_meaning s q)
