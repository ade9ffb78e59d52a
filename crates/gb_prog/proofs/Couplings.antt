-- Couplings of runs, and runs that are one distribution.
use Rattle.std.proofs.Common.{◌≡◌, ℕ, ◌*◌, ◌<◌, Bool, true, false, not, pos, List, ◌++◌, refl, ap, sym, ◌∙◌, subst, arith}
use Rattle.std.proofs.lemmas.Bool.{false≢true}
use Rattle.std.proofs.Math.Nat.{eq_of_mul-eq-mul_right}
use Rattle.gb_terms.specs.declared.op.Rel.{Rel}
use Rattle.gb_terms.specs.declared.term.Instr.{Instr}
use Rattle.gb_dist.specs.WeightedList.{WeightedList, weight, bit, bind, scale, unit, On, Every, SameDistribution}
use Rattle.gb_dist.specs.Coupling.{Coupling}
use Rattle.gb_dist.proofs.Basic.{coupling_identity, coupling_weakening, coupling_product, coupling_left_alone, coupling_right_alone, coupling_same}
use Rattle.gb_dist.proofs.Distributions.{same_reflexive, same_symmetric, same_transitive, same_bind}
use Rattle.gb_dist.proofs.Entries.{On_of_Every, Every-weaken}
use Rattle.gb_dist.proofs.Facts.{coupling_facts}
use Rattle.gb_dist.proofs.Gluing.{coupling_gluing}
use Rattle.gb_dist.proofs.Masses.{mass-scale}
use Rattle.gb_dist.proofs.Sequence.{coupling_sequence}
use Rattle.gb_dist.proofs.Weights.{weight-every, weight-false}
use Rattle.gb_meaning.specs.Commands.{statements}
use Rattle.gb_meaning.specs.Fractions.{Fraction}
use Rattle.gb_meaning.specs.Judgments.{compares, chance}
use Rattle.gb_meaning.specs.Memory.{Memory}
use Rattle.gb_meaning.specs.Program.{Program}
use Rattle.gb_meaning.specs.Runs.{out, run_denominator}
use Rattle.gb_meaning.specs.Setting.{Setting}
use Rattle.gb_meaning.specs.Sound.{IsSound, Full}
use Rattle.gb_meaning.specs.State.{State}
use Rattle.gb_meaning.proofs.Runs.{run_positive, run_entries}
use Rattle.gb_meaning.proofs.Totals.{run_total}
use Rattle.gb_laws.proofs.Fair.{memory_discrete}
use Rattle.gb_typing.specs.Meaning.{run, denominator}
use Rattle.gb_typing.proofs.Chances.{chance_scaled}
use Rattle.gb_typing.proofs.Runs.{run_append, denominator_append}
use Rattle.gb_prog.specs.Loops.{RunAlike}
use Rattle.gb_prog.proofs.Loops.{weightless}

module _ (g : Setting) (s : State) where
  pub run_entries_in : (P : Memory → Type 0) (c : Program) → IsSound g c → (m : Memory) → Every P (out g s c m) → On P (out g s c m)
  run_entries_in P c h m k = On_of_Every P (out g s c m) (run_entries g s c h m) k

  -- statements that are coupled, followed by such
  pub runs_sequence : (is js ks ls : List Instr) (R Q : Memory → Memory → Type 0) (m n : Memory) →
      Coupling R (run g s is m) (denominator g is) (run g s js n) (denominator g js) →
      ((x y : Memory) → R x y → Coupling Q (run g s ks x) (denominator g ks) (run g s ls y) (denominator g ls)) →
      Coupling Q (run g s (is ++ ks) m) (denominator g (is ++ ks)) (run g s (js ++ ls) n) (denominator g (js ++ ls))
  runs_sequence is js ks ls R Q m n h k =
      subst (λ z. z) (λ i. Coupling Q (sym (run_append g s is ks m) i) (sym (denominator_append g is ks) i) (sym (run_append g s js ls n) i) (sym (denominator_append g js ls) i))
      (coupling_sequence Q (λ x. run g s ks x) (denominator g ks) (λ y. run g s ls y) (denominator g ls) R h k)

  -- a program with itself
  pub runs_identity : (c : Program) → IsSound g c → (P : Memory → Type 0) (m : Memory) → Every P (out g s c m) →
      Coupling (λ (x y : Memory). P x × (x ≡ y)) (out g s c m) (run_denominator g c) (out g s c m) (run_denominator g c)
  runs_identity c h P m k = coupling_identity P (out g s c m) (run_denominator g c) (run_positive g c h) (run_entries_in P c h m k)

  -- over a program between
  pub runs_gluing : (a b c : Program) → IsSound g b → (R Q S : Memory → Memory → Type 0) → ((x y z : Memory) → R x y → Q y z → S x z) → (m n o : Memory) →
      Coupling R (out g s a m) (run_denominator g a) (out g s b n) (run_denominator g b) → Coupling Q (out g s b n) (run_denominator g b) (out g s c o) (run_denominator g c) →
      Coupling S (out g s a m) (run_denominator g a) (out g s c o) (run_denominator g c)
  runs_gluing a b c h R Q S joins m n o k l =
      coupling_weakening {Q = λ x z. (y : Memory) × R x y × Q y z} {R = S} (λ x z p. joins x p.0 z p.1 p.2)
      (coupling_gluing memory_discrete R Q {l1 = out g s a m} {k1 = run_denominator g a} {l2 = out g s b n} {k2 = run_denominator g b} {l3 = out g s c o} {k3 = run_denominator g c} (run_positive g b h) k l)

  -- programs that lose no weight, related wherever their ends are
  pub runs_product : (a b : Program) → IsSound g a → IsSound g b → Full g a → Full g b → (P Q : Memory → Type 0) (R : Memory → Memory → Type 0) → ((x y : Memory) → P x → Q y → R x y) →
      (m n : Memory) → Every P (out g s a m) → Every Q (out g s b n) → Coupling R (out g s a m) (run_denominator g a) (out g s b n) (run_denominator g b)
  runs_product a b h k u v P Q R related m n x y =
      coupling_product P Q R related (out g s a m) (run_denominator g a) (out g s b n) (run_denominator g b) (run_entries_in P a h m x) (run_entries_in Q b k n y)
      (omega (arith, ap (λ z. z * run_denominator g b) (run_total g s a u m), ap (λ z. z * run_denominator g a) (run_total g s b v n)))
      (run_positive g a h) (run_positive g b k)

  -- a program that loses no weight, beside nothing
  pub run_left_alone : (c : Program) → IsSound g c → Full g c → (R : Memory → Memory → Type 0) (m n : Memory) → Every (λ x. R x n) (out g s c m) →
      Coupling R (out g s c m) (run_denominator g c) (unit n) 1
  run_left_alone c h u R m n k =
      coupling_left_alone (λ x. R x n) R (out g s c m) (run_denominator g c) n (run_positive g c h) (run_total g s c u m) (run_entries_in (λ x. R x n) c h m k) (λ x r. r)

  pub run_right_alone : (c : Program) → IsSound g c → Full g c → (R : Memory → Memory → Type 0) (m n : Memory) → Every (λ y. R m y) (out g s c n) →
      Coupling R (unit m) 1 (out g s c n) (run_denominator g c)
  run_right_alone c h u R m n k =
      coupling_right_alone (λ y. R m y) R (out g s c n) (run_denominator g c) m (run_positive g c h) (run_total g s c u n) (run_entries_in (λ y. R m y) c h n k) (λ y r. r)

  -- what holds of each end
  pub runs_facts : (a b : Program) → IsSound g a → IsSound g b → (P Q : Memory → Type 0) (R : Memory → Memory → Type 0) (m n : Memory) → Every P (out g s a m) → Every Q (out g s b n) →
      Coupling R (out g s a m) (run_denominator g a) (out g s b n) (run_denominator g b) →
      Coupling (λ x y. R x y × P x × Q y) (out g s a m) (run_denominator g a) (out g s b n) (run_denominator g b)
  runs_facts a b h k P Q R m n x y l =
      coupling_facts memory_discrete memory_discrete {Q = R} {l1 = out g s a m} {k1 = run_denominator g a} {l2 = out g s b n} {k2 = run_denominator g b} P Q (run_positive g a h) (run_positive g b k)
      (run_entries_in P a h m x) (run_entries_in Q b k n y) l

-- the chance of an event in lists that are one distribution
pub chance_same : (l : WeightedList Memory) (j : ℕ) (r : WeightedList Memory) (k : ℕ) → 0 < j → 0 < k → SameDistribution l j r k → (event : Memory → Bool) (o : Rel) (b : Fraction) →
    compares o (chance l j event) b ≡ compares o (chance r k event) b
chance_same l j r k p q e event o b =
    sym (chance_scaled k q l j event o b)
    ∙ (λ i. compares o (pos (weights i), turned i) b)
    ∙ chance_scaled j p r k event o b
  where
    turned : k * j ≡ j * k
    turned = omega arith

    weights : weight (scale k l) event ≡ weight (scale j r) event
    weights = omega (arith, mass-scale k l (λ a. bit (event a)), mass-scale j r (λ a. bit (event a)), e (λ a. bit (event a)))

module _ (g : Setting) (s : State) (a b : Program) (h : IsSound g a) (k : IsSound g b) (same : RunAlike g s a b) where
  -- programs that run alike have the same ends
  pub alike_ends : (I : Memory → Bool) (m : Memory) → Every (λ n. I n ≡ true) (out g s a m) → Every (λ n. I n ≡ true) (out g s b m)
  alike_ends I m x = Every-weaken {P = λ n. not (I n) ≡ false} (out g s b m) (λ n e. truth_of (I n) e) (weightless (out g s b m) (λ n. not (I n)) (run_entries g s b k m) none)
    where
      truth_of : (t : Bool) → not t ≡ false → t ≡ true
      truth_of true e = refl
      truth_of false e = absurd (false≢true (sym e))

      first : weight (out g s a m) (λ n. not (I n)) ≡ 0
      first = weight-every (out g s a m) (λ n. not (I n)) (λ n. false) (Every-weaken {P = λ n. I n ≡ true} (out g s a m) (λ n e. ap not e) x) ∙ weight-false (out g s a m)

      none : weight (out g s b m) (λ n. not (I n)) ≡ 0
      none = eq_of_mul-eq-mul_right (run_denominator g a) (run_positive g a h) _ _ (omega (arith, same m (λ n. bit (not (I n))), ap (λ z. z * run_denominator g b) first))

  -- the same chances
  pub alike_chances : (m : Memory) (event : Memory → Bool) (o : Rel) (x : Fraction) →
      compares o (chance (out g s a m) (run_denominator g a) event) x ≡ compares o (chance (out g s b m) (run_denominator g b) event) x
  alike_chances m event o x = chance_same (out g s a m) (run_denominator g a) (out g s b m) (run_denominator g b) (run_positive g a h) (run_positive g b k) (same m) event o x

  -- the same couplings
  pub alike_left : (R : Memory → Memory → Type 0) (r : WeightedList Memory) (d : ℕ) → 0 < d → (m : Memory) → Coupling R (out g s a m) (run_denominator g a) r d → Coupling R (out g s b m) (run_denominator g b) r d
  alike_left R r d p m l =
      coupling_same {Q = R} {l1 = out g s a m} {k1 = run_denominator g a} {l2 = r} {k2 = d} (out g s b m) (run_denominator g b) r d (run_positive g a h) p (same m) (same_reflexive r d) l

  pub alike_right : (R : Memory → Memory → Type 0) (r : WeightedList Memory) (d : ℕ) → 0 < d → (m : Memory) → Coupling R r d (out g s a m) (run_denominator g a) → Coupling R r d (out g s b m) (run_denominator g b)
  alike_right R r d p m l =
      coupling_same {Q = R} {l1 = r} {k1 = d} {l2 = out g s a m} {k2 = run_denominator g a} r d (out g s b m) (run_denominator g b) p (run_positive g a h) (same_reflexive r d) (same m) l

-- programs that run alike, in the middle of others
module _ (g : Setting) (s : State) where
  pub alike_between : (ks is js ls : List Instr) → RunAlike g s (statements g is) (statements g js) → RunAlike g s (statements g (ks ++ (is ++ ls))) (statements g (ks ++ (js ++ ls)))
  alike_between ks is js ls h m =
      subst (λ z. z) (λ i. SameDistribution (sym (whole_run is) i) (sym (whole_denominator is) i) (sym (whole_run js) i) (sym (whole_denominator js) i))
      (same_bind (run g s ks m) (denominator g ks) (run g s ks m) (denominator g ks) (λ n. bind (run g s is n) (λ o. run g s ls o)) (denominator g is * denominator g ls)
      (λ n. bind (run g s js n) (λ o. run g s ls o)) (denominator g js * denominator g ls) (same_reflexive (run g s ks m) (denominator g ks))
      (λ n. same_bind (run g s is n) (denominator g is) (run g s js n) (denominator g js) (λ o. run g s ls o) (denominator g ls) (λ o. run g s ls o) (denominator g ls) (h n)
      (λ o. same_reflexive (run g s ls o) (denominator g ls))))
    where
      whole_run : (is : List Instr) → run g s (ks ++ (is ++ ls)) m ≡ bind (run g s ks m) (λ n. bind (run g s is n) (λ o. run g s ls o))
      whole_run is = run_append g s ks (is ++ ls) m ∙ (λ i. bind (run g s ks m) (λ n. run_append g s is ls n i))

      whole_denominator : (is : List Instr) → denominator g (ks ++ (is ++ ls)) ≡ denominator g ks * (denominator g is * denominator g ls)
      whole_denominator is = denominator_append g ks (is ++ ls) ∙ ap (λ n. denominator g ks * n) (denominator_append g is ls)

  pub alike_joined : (a b c : Program) → IsSound g b → RunAlike g s a b → RunAlike g s b c → RunAlike g s a c
  alike_joined a b c h x y m = same_transitive (out g s a m) (run_denominator g a) (out g s b m) (run_denominator g b) (out g s c m) (run_denominator g c) (run_positive g b h) (x m) (y m)

  pub alike_back : (a b : Program) → RunAlike g s a b → RunAlike g s b a
  alike_back a b x m = same_symmetric (out g s a m) (run_denominator g a) (out g s b m) (run_denominator g b) (x m)
