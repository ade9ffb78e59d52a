-- Couplings of two coins that fall alike.
use Rattle.std.proofs.Common.{◌≡◌, ◌+◌, ◌*◌, ◌<◌, Bool, true, false, [], ◌∷◌, refl, ap, sym, ◌∙◌, subst, arith}
use Rattle.std.proofs.lemmas.Bool.{false≢true}
use Rattle.gb_core.specs.declared.ty.Ty.TheVariants.{Bool as truths}
use Rattle.gb_core.specs.declared.value.Value.{Value, out-Value}
use Rattle.gb_core.specs.declared.value.Value.TheVariants.{Num, Many}
use Rattle.gb_terms.specs.declared.term.Head.TheVariants.{Body}
use Rattle.gb_dist.specs.WeightedList.{mass, weight, bit, indicator, On}
use Rattle.gb_dist.specs.Coupling.{Coupling}
use Rattle.gb_dist.proofs.Entries.{On-weaken}
use Rattle.gb_dist.proofs.Gluing.{factor_pos}
use Rattle.gb_dist.proofs.Indicators.{On-key, support_in}
use Rattle.gb_meaning.specs.Values.{value_eq}
use Rattle.gb_meaning.specs.Memory.{Memory, value_or}
use Rattle.gb_meaning.specs.Setting.{Setting}
use Rattle.gb_meaning.specs.Setting.Meaning.{finite}
use Rattle.gb_meaning.specs.Meanings.{of_truth, truth, same}
use Rattle.gb_meaning.specs.State.{State, between}
use Rattle.gb_meaning.specs.Judgments.{Judge, IsFair, den, run_of, subject_denominator, IsTrueIn}
use Rattle.gb_meaning.specs.Examples.{x, number}
use Rattle.gb_meaning.proofs.Maps.{get-set_same}
use Rattle.gb_laws.specs.TruthExamples.{flip, alike, flips_are_alike, tossed, shows, CoinCoupling, ArePairsOfCoins}
use Rattle.gb_laws.proofs.Coins.{flip_sound, outcomes, run_is, denominator_is, reads}
use Rattle.gb_laws.proofs.Fair.{memory_discrete}
use Rattle.gb_meaning.proofs.Truths.{true_equiv}

equal : (v w : Value) → Bool
equal v w = truth (of_truth (same (finite v) (finite w)))

same_sides : (b : Bool) → equal (Num (bit b)) (Num (bit b)) ≡ true
unfolding equal out-Value denote.Hole.Carrier.out
same_sides true = refl
same_sides false = refl

only_same : (a b : Bool) → equal (Num (bit a)) (Num (bit b)) ≡ true → a ≡ b
unfolding equal out-Value denote.Hole.Carrier.out
only_same true true e = refl
only_same true false e = absurd (false≢true e)
only_same false true e = absurd (false≢true e)
only_same false false e = refl

shown : (m : Memory) (a b : Bool) → shows b (tossed m a) ≡ value_eq (Num (bit a)) (Num (bit b))
shown m a b = ap (λ o. value_eq (value_or o (Many [])) (Num (bit b))) (get-set_same m.frame (x ∷ []) (Num (bit a)))

-- the weight of one side of the coin
one_side : (m : Memory) (b : Bool) → weight (outcomes m) (shows b) ≡ 1
unfolding out-Value denote.Hole.Carrier.out
one_side m true = λ i. 1 * bit (shown m false true i) + (1 * bit (shown m true true i) + 0)
one_side m false = λ i. 1 * bit (shown m false false i) + (1 * bit (shown m true false i) + 0)

module _ (g : Setting) (j : Judge) (s : State) (m n : Memory) where
  sides : (a b : Bool) → den g j alike (between s (tossed m a) (tossed n b)) ≡ equal (Num (bit a)) (Num (bit b))
  unfolding equal
  sides a b = λ i. truth (of_truth (same (finite (reads g.types m a i)) (finite (reads g.types n b i))))

  abbrev Alike : Memory → Memory → Type 0
  Alike a b = den g j alike (between s a b) ≡ true

  -- one such coupling
  of_outcomes : Coupling Alike (outcomes m) 2 (outcomes n) 2
  of_outcomes = record {
    denominator = 2;
    positive = omega arith;
    pairs = ((tossed m false, tossed n false), 1) ∷ ((tossed m true, tossed n true), 1) ∷ [];
    related = (omega arith, sides false false ∙ same_sides false, (omega arith, sides true true ∙ same_sides true, tt));
    left = λ f. refl;
    right = λ f. refl;
  }

  -- the coupling that is written out
  pub written_out : (c : CoinCoupling g j s m n) × (c.denominator ≡ 2) × (c.pairs ≡ ((tossed m false, tossed n false), 1) ∷ ((tossed m true, tossed n true), 1) ∷ [])
  unfolding of_outcomes
  written_out = (
    record {
      denominator = 2;
      positive = of_outcomes.positive;
      pairs = of_outcomes.pairs;
      related = of_outcomes.related;
      left = λ f. ap (λ k. mass of_outcomes.pairs (λ p. f p.0) * k) (denominator_is g) ∙ of_outcomes.left f ∙ ap (λ l. mass l f * 2) (sym (run_is g s m));
      right = λ f. ap (λ k. mass of_outcomes.pairs (λ p. f p.1) * k) (denominator_is g) ∙ of_outcomes.right f ∙ ap (λ l. mass l f * 2) (sym (run_is g s n));
    },
    refl,
    refl,
  )

  abbrev IsToss : Memory → Memory → Type 0
  IsToss o a = (b : Bool) × (a ≡ tossed o b)

  tosses : (o : Memory) → On (IsToss o) (run_of g s (Body flip) o)
  tosses o = subst (On (IsToss o)) (sym (run_is g s o)) (omega arith, (false, refl), (omega arith, (true, refl), tt))

  denominator_positive : 0 < subject_denominator g (Body flip)
  denominator_positive = subst (λ k. 0 < k) (sym (denominator_is g)) (omega arith)

  module _ (c : CoinCoupling g j s m n) where
    left_toss : (a : Memory) → 0 < mass c.pairs (λ q. indicator memory_discrete a q.0) → IsToss m a
    left_toss a i = support_in memory_discrete (IsToss m) (run_of g s (Body flip) m) a (tosses m)
        (factor_pos _ (subject_denominator g (Body flip)) _ c.denominator (c.left (indicator memory_discrete a)) i denominator_positive)

    right_toss : (a : Memory) → 0 < mass c.pairs (λ q. indicator memory_discrete a q.1) → IsToss n a
    right_toss a i = support_in memory_discrete (IsToss n) (run_of g s (Body flip) n) a (tosses n)
        (factor_pos _ (subject_denominator g (Body flip)) _ c.denominator (c.right (indicator memory_discrete a)) i denominator_positive)

    both_toss : (p : Memory × Memory) → Alike p.0 p.1 → IsToss m p.0 → IsToss n p.1 → (b : Bool) × (p.0 ≡ tossed m b) × (p.1 ≡ tossed n b)
    both_toss p q l r =
        let e = only_same l.0 r.0 (sym (sides l.0 r.0) ∙ sym (λ i. den g j alike (between s (l.1 i) (r.1 i))) ∙ q) in
        (l.0, l.1, r.1 ∙ ap (tossed n) (sym e))

    -- each coupling is such a list
    pub pairs_of_coins : ArePairsOfCoins m n c.denominator c.pairs
    pairs_of_coins = record {
      positive = c.positive;
      entries = On-weaken {P = λ p. (Alike p.0 p.1 × (0 < mass c.pairs (λ q. indicator memory_discrete p.0 q.0))) × (0 < mass c.pairs (λ q. indicator memory_discrete p.1 q.1))}
          {Q = λ p. (b : Bool) × (p.0 ≡ tossed m b) × (p.1 ≡ tossed n b)} c.pairs
          (λ p i. both_toss p i.0.0 (left_toss p.0 i.0.1) (right_toss p.1 i.1))
          (On-key memory_discrete (λ p. Alike p.0 p.1 × (0 < mass c.pairs (λ q. indicator memory_discrete p.0 q.0))) c.pairs (λ p. p.1)
          (On-key memory_discrete (λ p. Alike p.0 p.1) c.pairs (λ p. p.0) c.related));
      halves = λ b.
          ap (λ k. weight c.pairs (λ p. shows b p.0) * k) (sym (denominator_is g)) ∙ c.left (λ a. bit (shows b a))
          ∙ ap (λ l. weight l (shows b) * c.denominator) (run_is g s m) ∙ ap (λ z. z * c.denominator) (one_side m b) ∙ omega arith;
    }

pub coins_alike : (g : Setting) (s : State) → IsTrueIn g flips_are_alike s
coins_alike g s j fair = (true_equiv g j fair (Body flip) (Body flip) (number 1 truths) alike s (flip_sound g) (flip_sound g)).1 (λ m n p. (written_out g j s m n).0)

-- what the truth of the equivalence gives
pub given_coupling : (g : Setting) (j : Judge) → IsFair g j → (s : State) → den g j flips_are_alike s ≡ true → (m n : Memory) → den g j (number 1 truths) (between s m n) ≡ true → CoinCoupling g j s m n
given_coupling g j fair s e m n p = (true_equiv g j fair (Body flip) (Body flip) (number 1 truths) alike s (flip_sound g) (flip_sound g)).0 e m n p
