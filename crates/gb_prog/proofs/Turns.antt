-- Turns of a loop: once it has ended, further turns change nothing.
use Rattle.std.proofs.Common.{◌≡◌, ℕ, zero, suc, ◌+◌, ◌*◌, ◌^◌, ◌≤◌, Bool, true, false, if◌then◌else◌, [], ◌∷◌, ◌++◌, refl, ap, sym, ◌∙◌, subst, arith}
use Rattle.std.proofs.lemmas.Bool.{false≢true}
use Rattle.std.proofs.Math.Nat.{pow-suc, pow-zero, mul-le-mul_left}
use Rattle.gb_dist.specs.WeightedList.{WeightedList, mass, weight, bit, scale, bind, unit, Every, SameDistribution}
use Rattle.gb_dist.specs.Coupling.{Coupling}
use Rattle.gb_dist.proofs.Masses.{mass-bind, mass-times, mass-every, mass-bind_ge}
use Rattle.gb_dist.proofs.Entries.{Every-bind}
use Rattle.gb_dist.proofs.Basic.{coupling_rescaling}
use Rattle.gb_dist.proofs.Sequence.{coupling_sequence}
use Rattle.gb_dist.proofs.Facts.{coupling_fact_right}
use Rattle.gb_laws.proofs.Fair.{memory_discrete}
use Rattle.gb_meaning.specs.Memory.{Memory}
use Rattle.gb_meaning.specs.Runs.{turns}

-- What holds of each entry of a list that was put together holds of each entry of its parts.

append_parts : {A : Type 0} (P : A → Type 0) (l r : WeightedList A) → Every P (l ++ r) → Every P l × Every P r
append_parts P [] r h = (tt, h)
append_parts P (e ∷ l) r h = let k = append_parts P l r h.1 in ((h.0, k.0), k.1)

scale_parts : {A : Type 0} (P : A → Type 0) (c : ℕ) (l : WeightedList A) → Every P (scale c l) → Every P l
scale_parts P c [] h = tt
scale_parts P c (e ∷ l) h = (h.0, scale_parts P c l h.1)

pub bind_parts : {A B : Type 0} (P : B → Type 0) (l : WeightedList A) (k : A → WeightedList B) → Every P (bind l k) → Every (λ a. Every P (k a)) l
bind_parts P [] k h = tt
bind_parts P (e ∷ l) k h =
    let x = append_parts P (scale e.1 (k e.0)) (bind l k) h in
    (scale_parts P e.1 (k e.0) x.0, bind_parts P l k x.1)

pub every_both : {A : Type 0} (P Q : A → Type 0) (l : WeightedList A) → Every P l → Every Q l → Every (λ a. P a × Q a) l
every_both P Q [] h k = tt
every_both P Q (e ∷ l) h k = ((h.0, k.0), every_both P Q l h.1 k.1)

module _ (guard : Memory → Bool) (body : Memory → WeightedList Memory) (k : ℕ) where
  -- the loop has ended after so many turns
  abbrev pub Ended : ℕ → Memory → Type 0
  Ended i m = Every (λ n. guard n ≡ false) (turns guard body k i m)

  pub ended_at_once : (i : ℕ) (m : Memory) → guard m ≡ false → Ended i m
  ended_at_once zero m e = (e, tt)
  ended_at_once (suc i) m e = step (guard m) e
    where
      step : (b : Bool) → b ≡ false → Every (λ n. guard n ≡ false) (if b then bind (body m) (turns guard body k i) else (m, k ^ suc i) ∷ [])
      step true h = absurd (false≢true (sym h))
      step false h = (e, tt)

  -- what is so after one more turn, where the guard is true
  pub after_turn : (i : ℕ) (m : Memory) → guard m ≡ true → Ended (suc i) m → Every (Ended i) (body m)
  after_turn i m e h = step (guard m) e h
    where
      step : (b : Bool) → b ≡ true → Every (λ n. guard n ≡ false) (if b then bind (body m) (turns guard body k i) else (m, k ^ suc i) ∷ []) → Every (Ended i) (body m)
      step true t h = bind_parts (λ n. guard n ≡ false) (body m) (turns guard body k i) h
      step false t h = absurd (false≢true t)

  pub turn_true : (i : ℕ) (m : Memory) → guard m ≡ true → turns guard body k (suc i) m ≡ bind (body m) (turns guard body k i)
  turn_true i m e = ap (λ b. if b then bind (body m) (turns guard body k i) else (m, k ^ suc i) ∷ []) e

  pub turn_false : (i : ℕ) (m : Memory) → guard m ≡ false → turns guard body k (suc i) m ≡ (m, k ^ suc i) ∷ []
  turn_false i m e = ap (λ b. if b then bind (body m) (turns guard body k i) else (m, k ^ suc i) ∷ []) e

  pub ended_later : (i j : ℕ) (m : Memory) → i ≤ j → Ended i m → Ended j m
  ended_later zero j m l h = ended_at_once j m h.0
  ended_later (suc i) zero m l h = absurd (let x : suc i ≤ zero = l in omega (arith, x))
  ended_later (suc i) (suc j) m l h = step (guard m) refl h (λ n x. ended_later i j n (omega (arith, l)) x)
    where
      step : (b : Bool) → guard m ≡ b → Every (λ n. guard n ≡ false) (if b then bind (body m) (turns guard body k i) else (m, k ^ suc i) ∷ []) →
          ((n : Memory) → Ended i n → Ended j n) → Every (λ n. guard n ≡ false) (if b then bind (body m) (turns guard body k j) else (m, k ^ suc j) ∷ [])
      step true e h go = Every-bind (Ended i) (λ n. guard n ≡ false) (body m) (turns guard body k j) (bind_parts (λ n. guard n ≡ false) (body m) (turns guard body k i) h) go
      step false e h go = (e, tt)

  -- a loop that has ended after i turns and after j is the same distribution after both
  pub ended_alike : (i j : ℕ) (m : Memory) → Ended i m → Ended j m → SameDistribution (turns guard body k i m) (k ^ i) (turns guard body k j m) (k ^ j)
  ended_alike zero zero m x y f = refl
  ended_alike zero (suc j) m x y f = equal ∙ sym (ap (λ l. mass l f * k ^ zero) (turn_false j m x.0))
    where
      equal : mass (unit m) f * k ^ suc j ≡ (k ^ suc j * f m + 0) * k ^ zero
      equal = omega (arith, ap (λ z. (k ^ suc j * f m + 0) * z) (pow-zero k))
  ended_alike (suc i) zero m x y f = ap (λ l. mass l f * k ^ zero) (turn_false i m y.0) ∙ equal
    where
      equal : (k ^ suc i * f m + 0) * k ^ zero ≡ mass (unit m) f * k ^ suc i
      equal = omega (arith, ap (λ z. (k ^ suc i * f m + 0) * z) (pow-zero k))
  ended_alike (suc i) (suc j) m x y f = step (guard m) refl x y (λ n a b. ended_alike i j n a b f)
    where
      step : (b : Bool) → guard m ≡ b → Every (λ n. guard n ≡ false) (if b then bind (body m) (turns guard body k i) else (m, k ^ suc i) ∷ []) →
          Every (λ n. guard n ≡ false) (if b then bind (body m) (turns guard body k j) else (m, k ^ suc j) ∷ []) →
          ((n : Memory) → Ended i n → Ended j n → mass (turns guard body k i n) f * k ^ j ≡ mass (turns guard body k j n) f * k ^ i) →
          mass (if b then bind (body m) (turns guard body k i) else (m, k ^ suc i) ∷ []) f * k ^ suc j ≡ mass (if b then bind (body m) (turns guard body k j) else (m, k ^ suc j) ∷ []) f * k ^ suc i
      step true e x y go =
          let both = every_both (Ended i) (Ended j) (body m) (bind_parts (λ n. guard n ≡ false) (body m) (turns guard body k i) x) (bind_parts (λ n. guard n ≡ false) (body m) (turns guard body k j) y) in
          let one = mass-times (k ^ j) (body m) (λ n. mass (turns guard body k i n) f) in
          let two = mass-times (k ^ i) (body m) (λ n. mass (turns guard body k j n) f) in
          let same : mass (body m) (λ n. k ^ j * mass (turns guard body k i n) f) ≡ mass (body m) (λ n. k ^ i * mass (turns guard body k j n) f) =
          mass-every {P = λ n. Ended i n × Ended j n} (body m) _ _ both (λ n p. omega (arith, go n p.0 p.1)) in
          omega (
            arith,
            ap (λ z. z * k ^ suc j) (mass-bind (body m) (turns guard body k i) f),
            ap (λ z. z * k ^ suc i) (mass-bind (body m) (turns guard body k j) f),
            ap (λ z. mass (body m) (λ n. mass (turns guard body k i n) f) * z) (pow-suc k j),
            ap (λ z. mass (body m) (λ n. mass (turns guard body k j n) f) * z) (pow-suc k i),
            ap (λ z. k * z) one,
            ap (λ z. k * z) two,
            ap (λ z. k * z) same,
          )
      step false e x y go = omega arith

  -- what each turn keeps from memories where the guard is true
  pub turns_keep : (I : Memory → Type 0) → ((m : Memory) → I m → guard m ≡ true → Every I (body m)) → (i : ℕ) (m : Memory) → I m → Every I (turns guard body k i m)
  turns_keep I keeps zero m x = (x, tt)
  turns_keep I keeps (suc i) m x = step (guard m) refl (turns_keep I keeps i)
    where
      step : (b : Bool) → guard m ≡ b → ((n : Memory) → I n → Every I (turns guard body k i n)) → Every I (if b then bind (body m) (turns guard body k i) else (m, k ^ suc i) ∷ [])
      step true e go = Every-bind I I (body m) (turns guard body k i) (keeps m x e) go
      step false e go = (x, tt)

  -- an event that each turn keeps with certainty has the whole weight
  pub turns_weigh : (I : Memory → Bool) → ((m : Memory) → I m ≡ true → guard m ≡ true → k ≤ weight (body m) I) → (i : ℕ) (m : Memory) → I m ≡ true → k ^ i ≤ weight (turns guard body k i m) I
  turns_weigh I keeps zero m x = omega (arith, pow-zero k, ap bit x)
  turns_weigh I keeps (suc i) m x = step (guard m) refl (λ n y. turns_weigh I keeps i n y)
    where
      within : (n : Memory) (b : Bool) → I n ≡ b → ((I n ≡ true) → k ^ i ≤ weight (turns guard body k i n) I) → k ^ i * bit b ≤ weight (turns guard body k i n) I
      within n true e go = omega (arith, go e)
      within n false e go = omega arith

      step : (b : Bool) → guard m ≡ b → ((n : Memory) → I n ≡ true → k ^ i ≤ weight (turns guard body k i n) I) →
          k ^ suc i ≤ weight (if b then bind (body m) (turns guard body k i) else (m, k ^ suc i) ∷ []) I
      step true e go = grown (keeps m x e)
          (mass-bind_ge {P = λ n. Unit {0}} (body m) (turns guard body k i) (λ n. bit (I n)) (λ n. k ^ i * bit (I n)) 1 (all (body m)) (λ n u. omega (arith, within n (I n) refl (go n))))
          (mass-times (k ^ i) (body m) (λ n. bit (I n)))
        where
          all : (l : WeightedList Memory) → Every (λ n. Unit {0}) l
          all [] = tt
          all (e ∷ l) = (tt, all l)

          grown : k ≤ weight (body m) I → mass (body m) (λ n. k ^ i * bit (I n)) ≤ weight (bind (body m) (turns guard body k i)) I * 1 →
              mass (body m) (λ n. k ^ i * bit (I n)) ≡ k ^ i * weight (body m) I → k ^ suc i ≤ weight (bind (body m) (turns guard body k i)) I
          grown a b c = omega (arith, pow-suc k i, a, b, c, mul-le-mul_left (k ^ i) a)
      step false e go = omega (arith, ap (λ b. k ^ suc i * bit b) x)

-- one outcome beside one, at any weights
pub units_coupled : (R : Memory → Memory → Type 0) (m n : Memory) → R m n → Coupling R (unit m) 1 (unit n) 1
units_coupled R m n r = record { denominator = 1; positive = omega arith; pairs = unit (m, n); related = (omega arith, r, tt); left = λ f. refl; right = λ f. refl }

stopped : (R : Memory → Memory → Type 0) (x y : ℕ) (m n : Memory) → R m n → Coupling R ((m, x) ∷ []) x ((n, y) ∷ []) y
stopped R x y m n r = subst (λ z. z) (λ i. Coupling R ((m, once x i) ∷ []) (once x i) ((n, once y i) ∷ []) (once y i)) (coupling_rescaling x y (units_coupled R m n r))
  where
    once : (n : ℕ) → n * 1 ≡ n
    once n = omega arith

-- two loops in lock step
module _ (guard1 guard2 : Memory → Bool) (body1 body2 : Memory → WeightedList Memory) (k1 k2 : ℕ) (R : Memory → Memory → Type 0)
    (guards : (m n : Memory) → R m n → guard1 m ≡ guard2 n)
    (keeps : (m n : Memory) → R m n → guard1 m ≡ true → Coupling R (body1 m) k1 (body2 n) k2) where
  pub turns_coupled : (i : ℕ) (m n : Memory) → R m n → Coupling R (turns guard1 body1 k1 i m) (k1 ^ i) (turns guard2 body2 k2 i n) (k2 ^ i)
  turns_coupled zero m n r = subst (λ z. z) (λ i. Coupling R (unit m) (sym (pow-zero k1) i) (unit n) (sym (pow-zero k2) i)) (units_coupled R m n r)
  turns_coupled (suc i) m n r = step (guard1 m) (guard2 n) refl (guards m n r) (turns_coupled i)
    where
      grown : Coupling R (bind (body1 m) (turns guard1 body1 k1 i)) (k1 * k1 ^ i) (bind (body2 n) (turns guard2 body2 k2 i)) (k2 * k2 ^ i) →
          Coupling R (bind (body1 m) (turns guard1 body1 k1 i)) (k1 ^ suc i) (bind (body2 n) (turns guard2 body2 k2 i)) (k2 ^ suc i)
      grown h = subst (λ z. z) (λ j. Coupling R (bind (body1 m) (turns guard1 body1 k1 i)) (power k1 j) (bind (body2 n) (turns guard2 body2 k2 i)) (power k2 j)) h
        where
          power : (k : ℕ) → k * k ^ i ≡ k ^ suc i
          power k = omega (arith, pow-suc k i)

      step : (b c : Bool) → guard1 m ≡ b → b ≡ c → ((m n : Memory) → R m n → Coupling R (turns guard1 body1 k1 i m) (k1 ^ i) (turns guard2 body2 k2 i n) (k2 ^ i)) →
          Coupling R (if b then bind (body1 m) (turns guard1 body1 k1 i) else (m, k1 ^ suc i) ∷ []) (k1 ^ suc i)
          (if c then bind (body2 n) (turns guard2 body2 k2 i) else (n, k2 ^ suc i) ∷ []) (k2 ^ suc i)
      step true true e h go = grown (coupling_sequence R (turns guard1 body1 k1 i) (k1 ^ i) (turns guard2 body2 k2 i) (k2 ^ i) R (keeps m n r e) go)
      step true false e h go = absurd (false≢true (sym h))
      step false true e h go = absurd (false≢true h)
      step false false e h go = stopped R (k1 ^ suc i) (k2 ^ suc i) m n r

-- one loop beside nothing
module _ (guard : Memory → Bool) (body : Memory → WeightedList Memory) (k : ℕ) (n : Memory) (R : Memory → Memory → Type 0)
    (keeps : (m : Memory) → R m n → guard m ≡ true → Coupling R (body m) k (unit n) 1) where
  pub turns_beside : (i : ℕ) (m : Memory) → R m n → Coupling R (turns guard body k i m) (k ^ i) (unit n) 1
  turns_beside zero m r = subst (λ z. Coupling R (unit m) z (unit n) 1) (sym (pow-zero k)) (units_coupled R m n r)
  turns_beside (suc i) m r = step (guard m) refl (turns_beside i)
    where
      grown : Coupling R (bind (body m) (turns guard body k i)) (k * k ^ i) (bind (unit n) (λ y. unit n)) (1 * 1) → Coupling R (bind (body m) (turns guard body k i)) (k ^ suc i) (unit n) 1
      grown h = subst (λ z. Coupling R (bind (body m) (turns guard body k i)) z (unit n) 1) (omega (arith, pow-suc k i)) h

      step : (b : Bool) → guard m ≡ b → ((m : Memory) → R m n → Coupling R (turns guard body k i m) (k ^ i) (unit n) 1) →
          Coupling R (if b then bind (body m) (turns guard body k i) else (m, k ^ suc i) ∷ []) (k ^ suc i) (unit n) 1
      step true e go = grown (coupling_sequence R (turns guard body k i) (k ^ i) (λ y. unit n) 1 (λ x y. R x y × (y ≡ n))
          (coupling_fact_right memory_discrete {Q = R} {l1 = body m} {k1 = k} {l2 = unit n} {k2 = 1} (λ y. y ≡ n) (omega arith) (omega arith, refl, tt) (keeps m r e))
          (λ x y h. go x (subst (R x) h.1 h.0)))
      step false e go = stopped R (k ^ suc i) 1 m n r
