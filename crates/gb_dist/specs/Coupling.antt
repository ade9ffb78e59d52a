-- Couplings of two weighted lists, each over a denominator of its own.
-- Source: the lifting of a relation to distributions in G. Barthe, B. Grégoire, S. Heraud and
-- S. Zanella-Béguelin, "Computer-Aided Security Proofs for the Working Cryptographer", CRYPTO 2011.
use Rattle.std.specs.Prelude.{◌≡◌, ℕ, ◌*◌, ◌<◌, Bool, true}
use Rattle.gb_dist.specs.WeightedList.{WeightedList, mass, weight_at, indicator, On}

-- a test, read as a relation
abbrev pub Passes : {A B : Type 0} → (A → B → Bool) → A → B → Type 0
Passes r a b = r a b ≡ true

-- A coupling on Q of l1 over k1 and l2 over k2: weighted pairs in Q, over a denominator, whose two marginals are
-- the lists, as fractions. The marginals are compared under every function of one outcome.
pub record Coupling {A B : Type 0} (Q : A → B → Type 0)
    (l1 : WeightedList A) (k1 : ℕ) (l2 : WeightedList B) (k2 : ℕ) : Type 0 where
  pub denominator : ℕ
  pub positive : 0 < denominator
  pub pairs : WeightedList (A × B)
  pub related : On (λ p. Q p.0 p.1) pairs
  pub left : (f : A → ℕ) → mass pairs (λ p. f p.0) * k1 ≡ mass l1 f * denominator
  pub right : (f : B → ℕ) → mass pairs (λ p. f p.1) * k2 ≡ mass l2 f * denominator

-- The published form: the marginals are compared at every outcome.
pub record PointwiseCoupling {A B : Type 0} (da : Discrete A) (db : Discrete B) (Q : A → B → Type 0)
    (l1 : WeightedList A) (k1 : ℕ) (l2 : WeightedList B) (k2 : ℕ) : Type 0 where
  pub denominator : ℕ
  pub positive : 0 < denominator
  pub pairs : WeightedList (A × B)
  pub related : On (λ p. Q p.0 p.1) pairs
  pub left : (x : A) → mass pairs (λ p. indicator da x p.0) * k1 ≡ weight_at da l1 x * denominator
  pub right : (y : B) → mass pairs (λ p. indicator db y p.1) * k2 ≡ weight_at db l2 y * denominator
