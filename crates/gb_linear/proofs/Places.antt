-- The summand of a term among others.
use Rattle.std.proofs.Common.{◌≡◌, ℕ, suc, ◌<◌, Bool, true, false, if◌then◌else◌, List, [], ◌∷◌, Some, length, refl, sym, ap, ◌∙◌, subst, arith}
use Rattle.std.specs.List.{remove, slice_get}
use Rattle.gb_dist.specs.Fractions.{Fraction}
use Rattle.gb_terms.specs.declared.term.Term.{Term}
use Rattle.gb_closing.specs.declared.summands.Summand.{Summand}
use Rattle.gb_closing.specs.Numbers as numbers
use Rattle.gb_linear.specs.Forms.{coefficient, is_same, place_in, without}

abbrev place_by : Bool → ℕ → ℕ
place_by b n = if b then 0 else suc n

abbrev without_by : Bool → Summand → List Summand → List Summand → List Summand
without_by b x xs ys = if b then xs else x ∷ ys

abbrev coefficient_by : Bool → Fraction → Fraction → Fraction
coefficient_by b c d = if b then c else d

removed : (xs : List Summand) (t : Term) → place_in xs t < length xs → remove xs (place_in xs t) ≡ without xs t
removed [] t h = absurd (omega arith)
removed (x ∷ xs) t h = step (is_same x.term t) (removed xs t) h
  where
    step : (b : Bool) → (place_in xs t < length xs → remove xs (place_in xs t) ≡ without xs t) → place_by b (place_in xs t) < length (x ∷ xs) →
        remove (x ∷ xs) (place_by b (place_in xs t)) ≡ without_by b x xs (without xs t)
    step true f l = refl
    step false f l = ap (λ ys. x ∷ ys) (f (omega (arith, l)))

found : (xs : List Summand) (t : Term) (s : Summand) → slice_get xs (place_in xs t) ≡ Some s → s.coefficient ≡ coefficient xs t
found [] t s e = cc
found (x ∷ xs) t s e = step (is_same x.term t) (found xs t s) e
  where
    step : (b : Bool) → (slice_get xs (place_in xs t) ≡ Some s → s.coefficient ≡ coefficient xs t) → slice_get (x ∷ xs) (place_by b (place_in xs t)) ≡ Some s →
        s.coefficient ≡ coefficient_by b x.coefficient (coefficient xs t)
    step true f k = let same : s ≡ x = cc in ap (λ z. z.coefficient) same
    step false f k = f k

missing : (xs : List Summand) (t : Term) → (place_in xs t < length xs → ⊥) → (xs ≡ without xs t) × (numbers.zero ≡ coefficient xs t)
missing [] t n = (refl, refl)
missing (x ∷ xs) t n = step (is_same x.term t) (missing xs t) n
  where
    step : (b : Bool) → ((place_in xs t < length xs → ⊥) → (xs ≡ without xs t) × (numbers.zero ≡ coefficient xs t)) → (place_by b (place_in xs t) < length (x ∷ xs) → ⊥) →
        (x ∷ xs ≡ without_by b x xs (without xs t)) × (numbers.zero ≡ coefficient_by b x.coefficient (coefficient xs t))
    step true f k = absurd (k (omega arith))
    step false f k = let m = f (λ l. k (omega (arith, l))) in (ap (λ ys. x ∷ ys) m.0, m.1)

-- the same at the place that was found
module _ (xs : List Summand) (t : Term) (n : ℕ) (is : n ≡ place_in xs t) where
  pub taken_off : (ys : List Summand) → n < length xs → ys ≡ remove xs n → ys ≡ without xs t
  taken_off ys h e = e ∙ (ap (remove xs) is ∙ removed xs t (subst (λ m. m < length xs) is h))

  pub coefficient_at : (s : Summand) → slice_get xs n ≡ Some s → s.coefficient ≡ coefficient xs t
  coefficient_at s e = found xs t s (ap (slice_get xs) (sym is) ∙ e)

  pub none_taken : (n < length xs → ⊥) → xs ≡ without xs t
  none_taken f = (missing xs t (λ l. f (subst (λ m. m < length xs) (sym is) l))).0

  pub no_coefficient : (n < length xs → ⊥) → numbers.zero ≡ coefficient xs t
  no_coefficient f = (missing xs t (λ l. f (subst (λ m. m < length xs) (sym is) l))).1
