-- Well-typed trees of distributions are trees of distributions.
use Rattle.std.proofs.Common.{◌≡◌, ◌⊎◌, inl, inr, Bool, true, false, ◌&&◌, ◌||◌, List, [], ◌∷◌, map, bytes_eq, refl, ap, sym, ◌∙◌, subst}
use Rattle.std.proofs.lemmas.Bool.{false≢true, and_from, and_parts, or_left, or_right, or_cases, lt-ltb}
use Rattle.std.proofs.lemmas.Slice.Eq.{bytes_eq-Decides}
use Rattle.gb_core.specs.declared.ty.Ty.{Ty, end_of-Ty, more_of-Ty}
use Rattle.gb_core.specs.declared.ty.Ty.TheVariants as ty
use Rattle.gb_core.specs.declared.value.Value.{Value}
use Rattle.gb_core.specs.declared.var.Var.TheVariants as var
use Rattle.gb_terms.specs.declared.op.Op.{Op}
use Rattle.gb_terms.specs.declared.op.Op.TheVariants as op
use Rattle.gb_terms.specs.declared.op.Read.TheVariants.{Logical, Program}
use Rattle.gb_terms.specs.declared.module.Mexp.TheVariants.{Name as named}
use Rattle.gb_terms.specs.declared.term.Term.{Term, Term', Row_of-Term, end_of-Term, more_of-Term, end_of-Head, more_of-Head}
use Rattle.gb_terms.specs.declared.term.Head.{Head}
use Rattle.gb_terms.specs.declared.term.Head.TheVariants as head
use Rattle.gb_meaning.specs.Values.{values}
use Rattle.gb_meaning.specs.Setting.{Setting}
use Rattle.gb_meaning.specs.Names.{Name}
use Rattle.gb_meaning.specs.Operators.{is_distribution}
use Rattle.gb_meaning.specs.Drawn.{Drawing, OperatorsDraw, operator_draws, head_draws, draws, each_draws}
use Rattle.gb_meaning.specs.Sound.{IsDistribution, IsFull}
use Rattle.gb_meaning.proofs.Drawn.{draws_distribution, draws_full}
use Rattle.gb_meaning.proofs.Types.{values_finite}
use Rattle.gb_laws.specs.Finite.{IsFinite, IsInhabited}
use Rattle.gb_laws.specs.Operators.{IsArithmetic, IsSigned, IsOfBits, IsDistributionType, IsOptionType, IsMapType, IsOperator}
use Rattle.gb_laws.specs.Typing.{Context, Binder, types_of, IsLiteral, IsBoundAt, IsHead, inner, IsTyped, AreTyped}
use Rattle.gb_meaning.specs.Written.{type_of}
use Rattle.gb_laws.specs.Typing.Binder.{value as of_value, index as of_index, memory as of_memory, program as of_program}
use Rattle.gb_laws.specs.Context.{gives_distributions, drawing, IsUnrestrictedHead, IsUnrestricted, AreUnrestricted, IsFullOperator, IsFullHead, NamesFull, AllNameFull, IsSettingOf}
use Rattle.gb_laws.proofs.Sizes.{finite_sized}
use mathlib.Core.Former.{Count}

-- Other types aren't of distributions.

finite_undrawn : (t : Ty) → IsFinite t → IsDistributionType t → ⊥
finite_undrawn (ty.Distr' p x) f d = f
finite_undrawn _ f d = d

arithmetic_undrawn : (t : Ty) → IsArithmetic t → IsDistributionType t → ⊥
arithmetic_undrawn (ty.Distr' p x) f d = f
arithmetic_undrawn _ f d = d

signed_undrawn : (t : Ty) → IsSigned t → IsDistributionType t → ⊥
signed_undrawn (ty.Distr' p x) f d = f
signed_undrawn _ f d = d

bits_undrawn : (t : Ty) → IsOfBits t → IsDistributionType t → ⊥
bits_undrawn (ty.Distr' p x) f d = f
bits_undrawn _ f d = d

option_undrawn : (t : Ty) → IsOptionType t → IsDistributionType t → ⊥
option_undrawn (ty.Distr' p x) f d = f
option_undrawn _ f d = d

map_undrawn : (t : Ty) → IsMapType t → IsDistributionType t → ⊥
map_undrawn (ty.Distr' p x) f d = f
map_undrawn _ f d = d

bound_undrawn : (b : Binder) (t : Ty) → IsBoundAt b t → IsDistributionType t → ⊥
bound_undrawn (of_value u) (ty.Distr' p x) h d = h.0
bound_undrawn (of_value u) _ h d = d
bound_undrawn (of_index q) (ty.Distr' p x) h d = h
bound_undrawn (of_index q) _ h d = d
bound_undrawn of_memory t h d = h
bound_undrawn of_program t h d = h

-- what is of a type that isn't of distributions
other : {A : Type 0} (t u : Ty) → t ≡ u → (IsDistributionType u → ⊥) → IsDistributionType t → A
other t u e n d = absurd (n (subst IsDistributionType e d))

restricting : (b : Bool) → (b ≡ false → ⊥) → b ≡ true
restricting true n = refl
restricting false n = absurd (n refl)

-- the operators of the script that give distributions in a term

abbrev head_names : Head → Ty → Name → Bool
head_names (head.User m) t x = is_distribution t && bytes_eq x m
head_names _ t x = false

abbrev mutual
  names : Term → Name → Bool
  names (Term' b (more_of-Head h end_of-Head) n ts t) x = head_names h t x || any_names ts x

  any_names : {n : Count} → Row_of-Term n → Name → Bool
  any_names end_of-Term x = false
  any_names (more_of-Term t ts) x = names t x || any_names ts x

-- with `drestrict`, or without it, and with these of the script's operators
module _ (c : Context) (g : Setting) (r : Bool) (f : Name → Bool) (i : IsInhabited g.types) where
  abbrev drawn : Drawing
  drawn = record { restricts = r; operators = λ n. f n && gives_distributions (c.operator n) }

  -- what is named is among these
  abbrev Among : (Name → Bool) → Type 0
  Among p = (x : Name) → p x ≡ true → f x ≡ true

  -- a distribution among these is said to be one
  abbrev Known : List (Ty × Bool) → Type 0
  Known [] = Unit {0}
  Known (x ∷ xs) = (IsDistributionType x.0 → x.1 ≡ true) × Known xs

  abbrev tys : List (Ty × Bool) → List Ty
  tys xs = map (λ x. x.0) xs

  abbrev bs : List (Ty × Bool) → List Bool
  bs xs = map (λ x. x.1) xs

  uniform_drawn : (t : Ty) → IsDistributionType t → operator_draws g.types op.Uniform t [] ≡ true
  uniform_drawn (ty.Distr' p (more_of-Ty u end_of-Ty)) d = lt-ltb 0 (values g.types u).size (finite_sized g.types i u d)
  uniform_drawn _ d = absurd d

  operator_drawn : (o : Op) (t : Ty) (xs : List (Ty × Bool)) → Known xs → IsOperator o (tys xs) t → IsDistributionType t → operator_draws g.types o t (bs xs) ≡ true
  operator_drawn op.Not t (x ∷ []) k h d = other t _ h.1.0 (λ z. z) d
  operator_drawn op.And t (x ∷ y ∷ []) k h d = other t _ h.1.1.0 (λ z. z) d
  operator_drawn op.Or t (x ∷ y ∷ []) k h d = other t _ h.1.1.0 (λ z. z) d
  operator_drawn op.Implies t (x ∷ y ∷ []) k h d = other t _ h.1.1.0 (λ z. z) d
  operator_drawn op.Iff t (x ∷ y ∷ []) k h d = other t _ h.1.1.0 (λ z. z) d
  operator_drawn op.Equal t (x ∷ y ∷ []) k h d = other t _ h.2 (λ z. z) d
  operator_drawn op.NotEqual t (x ∷ y ∷ []) k h d = other t _ h.2 (λ z. z) d
  operator_drawn op.Less t (x ∷ y ∷ []) k h d = other t _ h.2 (λ z. z) d
  operator_drawn op.AtMost t (x ∷ y ∷ []) k h d = other t _ h.2 (λ z. z) d
  operator_drawn op.Plus t (x ∷ y ∷ []) k h d = absurd (arithmetic_undrawn t h.0 d)
  operator_drawn op.Minus t (x ∷ y ∷ []) k h d = absurd (arithmetic_undrawn t h.0 d)
  operator_drawn op.Times t (x ∷ y ∷ []) k h d = absurd (arithmetic_undrawn t h.0 d)
  operator_drawn op.Negate t (x ∷ []) k h d = absurd (signed_undrawn t h.0 d)
  operator_drawn op.Xor t (x ∷ y ∷ []) k h d = absurd (bits_undrawn t h.0 d)
  operator_drawn op.Divide t (x ∷ y ∷ []) k h d = other t _ h.1.1.0 (λ z. z) d
  operator_drawn op.ToReal t (x ∷ []) k h d = other t _ h.1 (λ z. z) d
  operator_drawn op.Abs t (x ∷ []) k h d = other t _ h.1.0 (λ z. z) d
  operator_drawn op.If t (x ∷ y ∷ z ∷ []) k h d = and_from _ _ (k.1.0 (subst IsDistributionType (sym h.1.0) d)) (k.1.1.0 (subst IsDistributionType (sym h.1.1.0) d))
  operator_drawn op.Tuple t xs k h d = other t _ h.1 (λ z. z) d
  operator_drawn (op.Part j) t (x ∷ []) k h d = absurd (finite_undrawn t h.2 d)
  operator_drawn op.Some t (x ∷ []) k h d = other t _ h.1 (λ z. z) d
  operator_drawn op.None t [] k h d = absurd (option_undrawn t h d)
  operator_drawn op.Oget t (x ∷ []) k h d = absurd (finite_undrawn t h.0 d)
  operator_drawn op.Empty t [] k h d = absurd (map_undrawn t h d)
  operator_drawn op.Get t (x ∷ y ∷ []) k h d = other t _ h.2 (λ z. z) d
  operator_drawn op.Set t (x ∷ y ∷ z ∷ []) k h d = other t _ h.2.1.0 (λ z. z) d
  operator_drawn op.InMap t (x ∷ y ∷ []) k h d = other t _ h.2 (λ z. z) d
  operator_drawn op.InSupport t (x ∷ y ∷ []) k h d = other t _ h.2 (λ z. z) d
  operator_drawn op.Mu1 t (x ∷ y ∷ []) k h d = other t _ h.2 (λ z. z) d
  operator_drawn op.Coin t [] k h d = refl
  operator_drawn op.Uniform t [] k h d = uniform_drawn t d
  operator_drawn op.Dunit t (x ∷ []) k h d = refl
  operator_drawn op.Product t (x ∷ y ∷ []) k h d = and_from _ _ (k.0 h.0) (k.1.0 h.1)
  operator_drawn _ t xs k h d = absurd h

  of_distributions : (t : Ty) → IsDistributionType t → is_distribution t ≡ true
  of_distributions (ty.Distr' p x) d = refl
  of_distributions _ d = absurd d

  literal_undrawn : (t : Ty) (v : Value) → IsLiteral t v → IsDistributionType t → ⊥
  literal_undrawn (ty.Distr' p x) v h d = false≢true (subst (λ z. z.has v ≡ true) (sym (values_finite g.types (ty.Distr' p x) h.0)) h.1)
  literal_undrawn _ v h d = d

  head_drawn : (h : Head) (t : Ty) (xs : List (Ty × Bool)) → Known xs → (e : Context) → e.operator ≡ c.operator → IsHead e h (tys xs) t →
      (r ≡ false → IsUnrestrictedHead h) → Among (head_names h t) → IsDistributionType t →
      head_draws g drawn h t (bs xs) ≡ true
  head_drawn (head.Lit v) t [] k e q h u am d = absurd (literal_undrawn t v h d)
  head_drawn (head.Whole n) t [] k e q h u am d = other t _ h (λ z. z) d
  head_drawn (head.Read (Logical n)) t [] k e q h u am d = absurd (finite_undrawn t h.0 d)
  head_drawn (head.Read (Program (var.Global m x) z)) t [] k e q h u am d = absurd (finite_undrawn t h.1 d)
  head_drawn (head.Read (Program (var.Local x) z)) t [] k e q h u am d = absurd (finite_undrawn t h.1 d)
  head_drawn (head.Read (Program (var.Glob a) z)) t [] k e q h u am d = other t _ h.1 (λ z. z) d
  head_drawn (head.Bound n) t [] k e q h u am d = absurd (bound_undrawn _ t h d)
  head_drawn (head.Builtin o) t xs k e q h u am d = operator_drawn o t xs k h d
  head_drawn (head.User n) t xs k e q h u am d =
      and_from _ _ (of_distributions t d) (and_from _ _ (am n (and_from _ _ (of_distributions t d) ((bytes_eq-Decides n n).1 refl)))
      (ap gives_distributions (ap (λ z. z n) (sym q) ∙ h) ∙ of_distributions t d))
  head_drawn (head.All a) t (x ∷ []) k e q h u am d = other t _ h.1.1.0 (λ z. z) d
  head_drawn (head.Some a) t (x ∷ []) k e q h u am d = other t _ h.1.1.0 (λ z. z) d
  head_drawn head.AllMemory t (x ∷ []) k e q h u am d = other t _ h.1.0 (λ z. z) d
  head_drawn head.SomeMemory t (x ∷ []) k e q h u am d = other t _ h.1.0 (λ z. z) d
  head_drawn (head.AllModule b) t (x ∷ []) k e q h u am d = other t _ h.1.0 (λ z. z) d
  head_drawn head.Mu t (x ∷ y ∷ []) k e q h u am d = other t _ h.2 (λ z. z) d
  head_drawn (head.Sum n) t (x ∷ []) k e q h u am d = other t _ h.1.1.0 (λ z. z) d
  head_drawn (head.Weights ps) t [] k e q h u am d = h.2
  head_drawn head.Map t (x ∷ y ∷ []) k e q h u am d = k.0 h.0
  head_drawn head.Restrict t (x ∷ y ∷ []) k e q h u am d = and_from _ _ (restricting r u) (k.0 (subst IsDistributionType (sym h.1) d))
  head_drawn (head.Pr p z) t xs k e q h u am d = other t _ h.2 (λ z. z) d
  head_drawn (head.Glob (named a) z) t [] k e q h u am d = other t _ h.1 (λ z. z) d
  head_drawn (head.Glob _ z) t [] k e q h u am d = absurd h.1
  head_drawn (head.Hoare b) t (x ∷ y ∷ []) k e q h u am d = other t _ h.1.1.0 (λ z. z) d
  head_drawn (head.Phoare b z) t (x ∷ y ∷ w ∷ []) k e q h u am d = other t _ h.0.1.1.0 (λ z. z) d
  head_drawn (head.Equiv a b) t (x ∷ y ∷ []) k e q h u am d = other t _ h.1.1.0 (λ z. z) d
  head_drawn _ t xs k e q h u am d = absurd h

  abbrev row_pairs : {n : Count} → Row_of-Term n → List (Ty × Bool)
  row_pairs end_of-Term = []
  row_pairs (more_of-Term t ts) = (type_of t, draws g drawn t) ∷ row_pairs ts

  row_tys : {n : Count} (ts : Row_of-Term n) → types_of ts ≡ tys (row_pairs ts)
  row_tys end_of-Term = refl
  row_tys (more_of-Term t ts) = ap (λ z. type_of t ∷ z) (row_tys ts)

  row_bs : {n : Count} (ts : Row_of-Term n) → bs (row_pairs ts) ≡ each_draws g drawn ts
  row_bs end_of-Term = refl
  row_bs (more_of-Term t ts) = ap (λ z. draws g drawn t ∷ z) (row_bs ts)

  mutual
    pub term_drawn : (t : Term) (e : Context) → e.operator ≡ c.operator → IsTyped e t → (r ≡ false → IsUnrestricted t) → Among (names t) → IsDistributionType (type_of t) →
        draws g drawn t ≡ true
    term_drawn (Term' b (more_of-Head h end_of-Head) n ts t) e q w u a d =
        ap (head_draws g drawn h t) (sym (row_bs ts))
        ∙ head_drawn h t (row_pairs ts) (row_known ts e (inner e h (types_of ts)) q q w.1 (λ z. (u z).1) (λ x z. a x (or_right (head_names h t x) _ z))) e q (subst (λ z. IsHead e h z t) (row_tys ts) w.0)
        (λ z. (u z).0) (λ x z. a x (or_left _ (any_names ts x) z)) d

    row_known : {n : Count} (ts : Row_of-Term n) (e f : Context) → e.operator ≡ c.operator → f.operator ≡ c.operator → AreTyped e f ts →
        (r ≡ false → AreUnrestricted ts) → Among (any_names ts) → Known (row_pairs ts)
    row_known end_of-Term e f q o w u a = tt
    row_known (more_of-Term t end_of-Term) e f q o w u a = (term_drawn t f o w (λ z. (u z).0) (λ x z. a x (or_left _ false z)), tt)
    row_known (more_of-Term t (more_of-Term y ts)) e f q o w u a = (
      term_drawn t e q w.0 (λ z. (u z).0) (λ x z. a x (or_left _ (any_names (more_of-Term y ts) x) z)),
      row_known (more_of-Term y ts) e f q o w.1 (λ z. (u z).1) (λ x z. a x (or_right (names t x) _ z)),
    )

either : {A B C : Type 0} → (A → C) → (B → C) → A ⊎ B → C
either f h (inl x) = f x
either f h (inr y) = h y

-- an operator that a term names for a distribution is a full one, where each of these is
mutual
  named_full : (g : Setting) (t : Term) → NamesFull g t → (x : Name) → names t x ≡ true → IsFullOperator g x
  named_full g (Term' b (more_of-Head h end_of-Head) n ts t) k x e = either (head_full g h t k.0 x) (all_full g ts k.1 x) (or_cases (head_names h t x) (any_names ts x) e)

  all_full : {n : Count} (g : Setting) (ts : Row_of-Term n) → AllNameFull g ts → (x : Name) → any_names ts x ≡ true → IsFullOperator g x
  all_full g end_of-Term k x e = absurd (false≢true e)
  all_full g (more_of-Term t ts) k x e = either (named_full g t k.0 x) (all_full g ts k.1 x) (or_cases (names t x) (any_names ts x) e)

  head_full : (g : Setting) (h : Head) (t : Ty) → IsFullHead g h t → (x : Name) → head_names h t x ≡ true → IsFullOperator g x
  head_full g (head.User m) t k x e =
      let both = and_parts (is_distribution t) (bytes_eq x m) e in
      subst (IsFullOperator g) (sym ((bytes_eq-Decides x m).0 both.1)) (k both.0)
  head_full g _ t k x e = absurd (false≢true e)

module _ (c : Context) (g : Setting) (i : IsSettingOf c g) where
  -- a well-typed term of a type of distributions is a distribution or a sub-distribution in each state
  pub typed_distribution : (t : Term) (e : Context) → e.operator ≡ c.operator → IsTyped e t → IsDistributionType (type_of t) → IsDistribution g t
  typed_distribution t e q w d =
      draws_distribution g (drawing c) i.distributions t (term_drawn c g true (λ x. true) i.inhabited t e q w (λ z. absurd (false≢true (sym z))) (λ x z. refl) d)

  -- the operators of a term draw full distributions, where each that it names does so
  full_draw : (t : Term) → NamesFull g t → OperatorsDraw g (drawn c g false (names t) i.inhabited)
  full_draw t k n e =
      let both = and_parts (names t n) (gives_distributions (c.operator n)) e in
      let o = i.distributions n both.1 in
      record { positive = o.positive; entries = o.entries; bounded = o.bounded; full = λ z. named_full g t k n both.0 }

  -- of full weight, where nothing restricts and its operators are of full weight
  pub typed_full : (t : Term) → IsTyped c t → IsUnrestricted t → NamesFull g t → IsDistributionType (type_of t) → IsFull g t
  typed_full t w u k d = draws_full g (drawn c g false (names t) i.inhabited) (full_draw t k) refl t (term_drawn c g false (names t) i.inhabited t c refl w (λ z. u) (λ x z. z) d)
