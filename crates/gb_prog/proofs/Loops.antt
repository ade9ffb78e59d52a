-- A good loop runs as its unrolling; what its body keeps, it keeps.
use Rattle.std.proofs.Common.{◌≡◌, ℕ, suc, ◌+◌, ◌-◌, ◌*◌, ◌^◌, ◌<◌, ◌≤◌, Bool, true, false, if◌then◌else◌, not, ◌&&◌, [], ◌∷◌, refl, ap, sym, ◌∙◌, subst, arith}
use Rattle.std.proofs.Math.Nat.{pow-suc, pow-zero, mul-le-mul_left, eq_of_mul-eq-mul_right, le_of_mul-le-mul_right}
use Rattle.gb_dist.specs.WeightedList.{WeightedList, mass, weight, bit, scale, bind, unit, Every, IsPositive, SameDistribution}
use Rattle.gb_dist.specs.Coupling.{Coupling}
use Rattle.gb_dist.proofs.Basic.{coupling_same}
use Rattle.gb_dist.proofs.Distributions.{same_symmetric, same_transitive, same_bind, same_reflexive}
use Rattle.gb_dist.proofs.Masses.{mass-bind, mass-times, mass-every, mass-scale}
use Rattle.gb_dist.proofs.Monad.{bind-unit_right}
use Rattle.gb_dist.proofs.Entries.{Every-scale, Every-weaken, On_of_Every}
use Rattle.gb_dist.proofs.Facts.{coupling_facts, coupling_fact_left}
use Rattle.gb_dist.proofs.Weights.{weight-every, weight-false, weight-le_total}
use Rattle.gb_terms.specs.declared.term.Term.{Term}
use Rattle.gb_meaning.specs.Memory.{Memory}
use Rattle.gb_meaning.specs.Loops.{GoodFrom, IsGood}
use Rattle.gb_meaning.specs.Program.{Program, followed_by}
use Rattle.gb_meaning.specs.Program.Program.{done, loop}
use Rattle.gb_meaning.specs.Runs.{out, run_denominator, is_true, most_turns, turns_at, turns}
use Rattle.gb_meaning.specs.Setting.{Setting}
use Rattle.gb_meaning.specs.Sound.{IsSound}
use Rattle.gb_meaning.specs.State.{State}
use Rattle.gb_meaning.proofs.Runs.{pow-pos, run_positive, run_entries}
use Rattle.gb_meaning.proofs.Sequence.{followed_run, followed_denominator}
use Rattle.gb_meaning.proofs.Totals.{run_bounded}
use Rattle.gb_laws.proofs.Fair.{memory_discrete}
use Rattle.gb_prog.specs.Loops.{unrolled, RunAlike}
use Rattle.gb_prog.proofs.Turns.{Ended, ended_at_once, after_turn, turn_true, ended_later, ended_alike, every_both, turns_keep, turns_weigh, turns_coupled, turns_beside}

-- an event without weight is in no entry
pub weightless : {A : Type 0} (l : WeightedList A) (t : A → Bool) → IsPositive l → weight l t ≡ 0 → Every (λ a. t a ≡ false) l
weightless [] t p h = tt
weightless (e ∷ l) t p h = (at (t e.0) p.0 (omega (arith, h)), weightless l t p.2 (omega (arith, h)))
  where
    at : (b : Bool) → 0 < e.1 → e.1 * bit b ≡ 0 → b ≡ false
    at true q h = absurd (omega (arith, q, h))
    at false q h = refl

-- One good loop.

module _ (g : Setting) (s : State) (e v : Term) (a : Program) (good : IsGood g s e v a) (positive : 0 < run_denominator g a) where
  abbrev guard : Memory → Bool
  guard = is_true g s e

  abbrev body : Memory → WeightedList Memory
  body n = out g s a n

  abbrev k : ℕ
  k = run_denominator g a

  abbrev whole : Program
  whole = loop e v a done

  abbrev d : ℕ
  d = run_denominator g whole

  d_positive : 0 < d
  d_positive = omega (arith, pow-pos k (most_turns v) positive)

  -- after each number of turns after which it has ended
  pub loop_is : (i : ℕ) (m : Memory) → Ended guard body k i m → SameDistribution (out g s whole m) d (turns guard body k i m) (k ^ i)
  loop_is i m h =
      let f : GoodFrom g s e v a m = good m in
      same_transitive (out g s whole m) d (turns guard body k f.turns m) (k ^ f.turns) (turns guard body k i m) (k ^ i) (pow-pos k f.turns positive) f.same (ended_alike guard body k f.turns i m f.ended h)

  abbrev next : Program
  next = followed_by a whole

  -- where the guard is false
  stopped : (m : Memory) → guard m ≡ false → (f : Memory → ℕ) → mass (out g s whole m) f ≡ f m * d
  stopped m e f = omega (arith, loop_is 0 m (ended_at_once guard body k 0 m e) f, ap (λ z. mass (out g s whole m) f * z) (pow-zero k))

  -- where it is true
  turned : (m : Memory) → guard m ≡ true → (f : Memory → ℕ) → mass (out g s whole m) f * k ≡ mass (bind (body m) (λ n. out g s whole n)) f
  turned m e f =
      let i : GoodFrom g s _ v a m = good m in
      let j = i.turns in
      let h = after_turn guard body k j m e (ended_later guard body k j (suc j) m (omega arith) i.ended) in
      let one : mass (out g s whole m) f * k ^ suc j ≡ mass (turns guard body k (suc j) m) f * d = loop_is (suc j) m (ended_later guard body k j (suc j) m (omega arith) i.ended) f in
      let two : mass (turns guard body k (suc j) m) f ≡ mass (body m) (λ n. mass (turns guard body k j n) f) =
      ap (λ l. mass l f) (turn_true guard body k j m e) ∙ mass-bind (body m) (turns guard body k j) f in
      let three : mass (body m) (λ n. k ^ j * mass (out g s whole n) f) ≡ mass (body m) (λ n. d * mass (turns guard body k j n) f) =
      mass-every {P = Ended guard body k j} (body m) _ _ h (λ n x. omega (arith, loop_is j n x f)) in
      eq_of_mul-eq-mul_right (k ^ j) (pow-pos k j positive) _ _ (omega (
        arith,
        one,
        ap (λ z. z * d) two,
        ap (λ z. mass (out g s whole m) f * z) (pow-suc k j),
        three,
        mass-times (k ^ j) (body m) (λ n. mass (out g s whole n) f),
        mass-times d (body m) (λ n. mass (turns guard body k j n) f),
        ap (λ z. z * k ^ j) (mass-bind (body m) (λ n. out g s whole n) f),
      ))

  next_denominator : run_denominator g next ≡ k * d
  next_denominator = followed_denominator g a whole

  pub unrolls : RunAlike g s whole (unrolled e v a done)
  unrolls m f = by_test (guard m) refl
    where
      unroll_denominator : run_denominator g (unrolled e v a done) ≡ k * d
      unroll_denominator = omega (arith, next_denominator)

      by_test : (b : Bool) → guard m ≡ b →
          mass (out g s whole m) f * run_denominator g (unrolled e v a done) ≡
          mass (bind (if b then scale (run_denominator g done) (out g s next m) else scale (run_denominator g next) (out g s done m)) (λ n. out g s done n)) f * d
      by_test true t =
          let one : mass (bind (scale 1 (out g s next m)) (λ n. unit n)) f ≡ mass (bind (body m) (λ n. out g s whole n)) f =
          ap (λ l. mass l f) (bind-unit_right (scale 1 (out g s next m))) ∙ mass-scale 1 (out g s next m) f
          ∙ (let u : 1 * mass (out g s next m) f ≡ mass (out g s next m) f = omega arith in u) ∙ ap (λ l. mass l f) (followed_run g s a whole m) in
          omega (
            arith,
            ap (λ z. mass (out g s whole m) f * z) unroll_denominator,
            ap (λ z. z * d) one,
            ap (λ z. z * d) (turned m t f),
          )
      by_test false t =
          let one : mass (bind (scale (run_denominator g next) (unit m)) (λ n. unit n)) f ≡ run_denominator g next * f m =
          ap (λ l. mass l f) (bind-unit_right (scale (run_denominator g next) (unit m))) ∙ mass-scale (run_denominator g next) (unit m) f
          ∙ (let u : run_denominator g next * (1 * f m + 0) ≡ run_denominator g next * f m = omega arith in u) in
          omega (
            arith,
            ap (λ z. mass (out g s whole m) f * z) unroll_denominator,
            ap (λ z. z * d) one,
            ap (λ z. z * (k * d)) (stopped m t f),
            ap (λ z. z * f m * d) next_denominator,
          )

  -- the same with what follows
  pub unrolls_before : (c : Program) → RunAlike g s (loop e v a c) (unrolled e v a c)
  unrolls_before c m =
      subst (λ z. z) (λ i. SameDistribution (sym (followed_run g s whole c m) i) (sym (followed_denominator g whole c) i) (sym (followed_run g s (unrolled e v a done) c m) i) (sym (followed_denominator g (unrolled e v a done) c) i))
      (same_bind (out g s whole m) d (out g s (unrolled e v a done) m) (run_denominator g (unrolled e v a done)) (λ n. out g s c n) (run_denominator g c) (λ n. out g s c n) (run_denominator g c)
      (unrolls m) (λ n. same_reflexive (out g s c n) (run_denominator g c)))

  -- what each turn keeps, the loop keeps
  pub loop_keeps : (I : Memory → Type 0) → ((m : Memory) → I m → guard m ≡ true → Every I (body m)) → (m : Memory) → I m → Every I (out g s whole m)
  loop_keeps I keeps m x = subst (Every I) (sym (bind-unit_right (scale (k ^ (most_turns v - turns_at g s v m)) (turns guard body k (turns_at g s v m) m))))
      (Every-scale I (k ^ (most_turns v - turns_at g s v m)) (turns guard body k (turns_at g s v m) m) (turns_keep guard body k I keeps (turns_at g s v m) m x))

  module _ (sound : IsSound g a) where
    -- the guard is false where the loop ends
    pub loop_ends : (m : Memory) → Every (λ n. guard n ≡ false) (out g s whole m)
    loop_ends m = weightless (out g s whole m) guard (run_entries g s whole (sound, tt) m)
        (eq_of_mul-eq-mul_right (k ^ i.turns) (pow-pos k i.turns positive) _ _ (i.same (λ n. bit (guard n)) ∙ ap (λ z. z * d) none ∙ nothing d (k ^ i.turns)))
      where
        i : GoodFrom g s e v a m
        i = good m

        nothing : (x y : ℕ) → 0 * x ≡ 0 * y
        nothing x y = omega arith

        none : weight (turns guard body k i.turns m) guard ≡ 0
        none = weight-every (turns guard body k i.turns m) guard (λ n. false) i.ended ∙ weight-false (turns guard body k i.turns m)

    pub loop_invariant : (I : Memory → Type 0) → ((m : Memory) → I m → guard m ≡ true → Every I (body m)) → (m : Memory) → I m → Every (λ n. I n × (guard n ≡ false)) (out g s whole m)
    loop_invariant I keeps m x = every_both I (λ n. guard n ≡ false) (out g s whole m) (loop_keeps I keeps m x) (loop_ends m)

    -- an event that each turn keeps with certainty is certain after the loop
    pub loop_certain : (I : Memory → Bool) → ((m : Memory) → I m ≡ true → guard m ≡ true → weight (body m) I ≡ k) → (m : Memory) → I m ≡ true →
        weight (out g s whole m) (λ n. I n && not (guard n)) ≡ d
    loop_certain I keeps m x = weight-every (out g s whole m) _ I (Every-weaken {P = λ n. guard n ≡ false} (out g s whole m) (λ n e. ap (λ b. I n && not b) e ∙ always (I n)) (loop_ends m)) ∙ exact
      where
        always : (b : Bool) → (b && true) ≡ b
        always true = refl
        always false = refl

        i : GoodFrom g s e v a m
        i = good m

        above : d * k ^ i.turns ≤ weight (out g s whole m) I * k ^ i.turns
        above = omega (arith, i.same (λ n. bit (I n)), mul-le-mul_left d (turns_weigh guard body k I (λ m y t. omega (arith, keeps m y t)) i.turns m x))

        exact : weight (out g s whole m) I ≡ d
        exact = omega (arith, le_of_mul-le-mul_right {k = k ^ i.turns} above (pow-pos k i.turns positive), weight-le_total (out g s whole m) I, run_bounded g s whole (sound, tt) m)

    -- A loop whose body is coupled with nothing on an invariant is so itself.
    pub loop_beside : (R : Memory → Memory → Type 0) (n : Memory) → ((m : Memory) → R m n → guard m ≡ true → Coupling R (body m) k (unit n) 1) → (m : Memory) → R m n →
        Coupling (λ x y. R x y × (guard x ≡ false)) (out g s whole m) d (unit n) 1
    loop_beside R n keeps m r =
        let i : GoodFrom g s e v a m = good m in
        coupling_fact_left memory_discrete {Q = R} {l1 = out g s whole m} {k1 = d} {l2 = unit n} {k2 = 1} (λ x. guard x ≡ false) d_positive
        (On_of_Every (λ x. guard x ≡ false) (out g s whole m) (run_entries g s whole (sound, tt) m) (loop_ends m))
        (coupling_same {Q = R} {l1 = turns guard body k i.turns m} {k1 = k ^ i.turns} {l2 = unit n} {k2 = 1} (out g s whole m) d (unit n) 1 (pow-pos k i.turns positive) (omega arith)
        (same_symmetric (out g s whole m) d (turns guard body k i.turns m) (k ^ i.turns) i.same) (same_reflexive (unit n) 1) (turns_beside guard body k n R keeps i.turns m r))

-- Two good loops in lock step.

module _ (g : Setting) (s : State) (e1 v1 : Term) (a1 : Program) (good1 : IsGood g s e1 v1 a1) (sound1 : IsSound g a1)
    (e2 v2 : Term) (a2 : Program) (good2 : IsGood g s e2 v2 a2) (sound2 : IsSound g a2) where
  positive1 : 0 < run_denominator g a1
  positive1 = run_positive g a1 sound1

  positive2 : 0 < run_denominator g a2
  positive2 = run_positive g a2 sound2

  abbrev k1 : ℕ
  k1 = run_denominator g a1

  abbrev k2 : ℕ
  k2 = run_denominator g a2

  abbrev loop1 : Program
  loop1 = loop e1 v1 a1 done

  abbrev loop2 : Program
  loop2 = loop e2 v2 a2 done

  -- after this many turns both have ended
  abbrev enough : Memory → Memory → ℕ
  enough m n = (good1 m).turns + (good2 n).turns

  first_is : (m n : Memory) → SameDistribution (turns (is_true g s e1) (λ n. out g s a1 n) k1 (enough m n) m) (k1 ^ enough m n) (out g s loop1 m) (run_denominator g loop1)
  first_is m n = same_symmetric (out g s loop1 m) (run_denominator g loop1) (turns (is_true g s e1) (λ n. out g s a1 n) k1 (enough m n) m) (k1 ^ enough m n)
      (loop_is g s e1 v1 a1 good1 positive1 (enough m n) m
      (ended_later (is_true g s e1) (λ n. out g s a1 n) k1 (good1 m).turns (enough m n) m (more (good1 m).turns (good2 n).turns) (good1 m).ended))
    where
      more : (x y : ℕ) → x ≤ x + y
      more x y = omega arith

  second_is : (m n : Memory) → SameDistribution (turns (is_true g s e2) (λ n. out g s a2 n) k2 (enough m n) n) (k2 ^ enough m n) (out g s loop2 n) (run_denominator g loop2)
  second_is m n = same_symmetric (out g s loop2 n) (run_denominator g loop2) (turns (is_true g s e2) (λ n. out g s a2 n) k2 (enough m n) n) (k2 ^ enough m n)
      (loop_is g s e2 v2 a2 good2 positive2 (enough m n) n
      (ended_later (is_true g s e2) (λ n. out g s a2 n) k2 (good2 n).turns (enough m n) n (more (good1 m).turns (good2 n).turns) (good2 n).ended))
    where
      more : (x y : ℕ) → y ≤ x + y
      more x y = omega arith

  -- equal guards while the invariant is true, and bodies that are coupled on it where they are true
  pub loops_coupled : (R : Memory → Memory → Type 0) → ((m n : Memory) → R m n → is_true g s e1 m ≡ is_true g s e2 n) →
      ((m n : Memory) → R m n → is_true g s e1 m ≡ true → Coupling R (out g s a1 m) k1 (out g s a2 n) k2) →
      (m n : Memory) → R m n → Coupling (λ x y. R x y × (is_true g s e1 x ≡ false) × (is_true g s e2 y ≡ false)) (out g s loop1 m) (run_denominator g loop1) (out g s loop2 n) (run_denominator g loop2)
  loops_coupled R guards keeps m n r =
      coupling_facts memory_discrete memory_discrete {Q = R} {l1 = out g s loop1 m} {k1 = run_denominator g loop1} {l2 = out g s loop2 n} {k2 = run_denominator g loop2}
      (λ x. is_true g s e1 x ≡ false) (λ y. is_true g s e2 y ≡ false) (run_positive g loop1 (sound1, tt)) (run_positive g loop2 (sound2, tt))
      (On_of_Every (λ x. is_true g s e1 x ≡ false) (out g s loop1 m) (run_entries g s loop1 (sound1, tt) m) (loop_ends g s e1 v1 a1 good1 positive1 sound1 m))
      (On_of_Every (λ y. is_true g s e2 y ≡ false) (out g s loop2 n) (run_entries g s loop2 (sound2, tt) n) (loop_ends g s e2 v2 a2 good2 positive2 sound2 n))
      (coupling_same {Q = R} {l1 = turns (is_true g s e1) (λ n. out g s a1 n) k1 (enough m n) m} {k1 = k1 ^ enough m n} {l2 = turns (is_true g s e2) (λ n. out g s a2 n) k2 (enough m n) n} {k2 = k2 ^ enough m n}
      (out g s loop1 m) (run_denominator g loop1) (out g s loop2 n) (run_denominator g loop2) (pow-pos k1 (enough m n) positive1) (pow-pos k2 (enough m n) positive2)
      (first_is m n) (second_is m n)
      (turns_coupled (is_true g s e1) (is_true g s e2) (λ n. out g s a1 n) (λ n. out g s a2 n) k1 k2 R guards keeps (enough m n) m n r))
