-- Facts of the entries of coupled lists hold of the pairs of a coupling.
use Rattle.std.proofs.Common.{ℕ, ◌<◌}
use Rattle.gb_dist.specs.WeightedList.{WeightedList, mass, indicator, On}
use Rattle.gb_dist.specs.Coupling.{Coupling}
use Rattle.gb_dist.proofs.Entries.{On-weaken}
use Rattle.gb_dist.proofs.Indicators.{On-key, support_in}
use Rattle.gb_dist.proofs.Gluing.{factor_pos}
use Rattle.gb_dist.proofs.Basic.{coupling_weakening, coupling_symmetry}

pub coupling_fact_left : {A B : Type 0} (d : Discrete A) {Q : A → B → Type 0} {l1 : WeightedList A} {k1 : ℕ} {l2 : WeightedList B} {k2 : ℕ}
    (P : A → Type 0) → 0 < k1 → On P l1 → Coupling Q l1 k1 l2 k2 → Coupling (λ a b. Q a b × P a) l1 k1 l2 k2
coupling_fact_left d {Q} {l1} {k1} P h o c = record {
  denominator = c.denominator;
  positive = c.positive;
  pairs = c.pairs;
  left = c.left;
  right = c.right;
  related = On-weaken {P = λ p. Q p.0 p.1 × (0 < mass c.pairs (λ q. indicator d p.0 q.0))} {Q = λ p. Q p.0 p.1 × P p.0} c.pairs
      (λ p i. (i.0, support_in d P l1 p.0 o (factor_pos _ k1 _ c.denominator (c.left (indicator d p.0)) i.1 h)))
      (On-key d (λ p. Q p.0 p.1) c.pairs (λ p. p.0) c.related);
}

pub coupling_fact_right : {A B : Type 0} (d : Discrete B) {Q : A → B → Type 0} {l1 : WeightedList A} {k1 : ℕ} {l2 : WeightedList B} {k2 : ℕ}
    (P : B → Type 0) → 0 < k2 → On P l2 → Coupling Q l1 k1 l2 k2 → Coupling (λ a b. Q a b × P b) l1 k1 l2 k2
coupling_fact_right d P h o c = coupling_symmetry (coupling_fact_left d P h o (coupling_symmetry c))

-- both at once
pub coupling_facts : {A B : Type 0} (da : Discrete A) (db : Discrete B) {Q : A → B → Type 0} {l1 : WeightedList A} {k1 : ℕ} {l2 : WeightedList B} {k2 : ℕ}
    (P1 : A → Type 0) (P2 : B → Type 0) → 0 < k1 → 0 < k2 → On P1 l1 → On P2 l2 → Coupling Q l1 k1 l2 k2 →
    Coupling (λ a b. Q a b × P1 a × P2 b) l1 k1 l2 k2
coupling_facts da db {Q} P1 P2 h1 h2 o1 o2 c =
    coupling_weakening {Q = λ a b. (Q a b × P1 a) × P2 b} {R = λ a b. Q a b × P1 a × P2 b} (λ a b q. (q.0.0, q.0.1, q.1))
    (coupling_fact_right db P2 h2 o2 (coupling_fact_left da P1 h1 o1 c))
