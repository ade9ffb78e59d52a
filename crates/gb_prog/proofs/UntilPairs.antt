-- Runs that are coupled until an event of the right memory has come about. Once it has, the two runs go on side by side.
use Rattle.std.proofs.Common.{◌≡◌, ℕ, zero, suc, ◌*◌, ◌^◌, Bool, true, false, if◌then◌else◌, [], ◌∷◌, refl, ap, sym, ◌∙◌, subst, arith}
use Rattle.std.proofs.lemmas.Bool.{false≢true}
use Rattle.std.proofs.Math.Nat.{pow-suc, pow-zero}
use Rattle.gb_dist.specs.Coupling.{Coupling}
use Rattle.gb_dist.specs.WeightedList.{WeightedList, Every, bind, unit}
use Rattle.gb_dist.proofs.Basic.{coupling_product, coupling_rescaling}
use Rattle.gb_dist.proofs.Entries.{On_of_Every}
use Rattle.gb_dist.proofs.Sequence.{coupling_sequence}
use Rattle.gb_meaning.specs.Memory.{Memory}
use Rattle.gb_meaning.specs.Names.{Map}
use Rattle.gb_meaning.specs.Runs.{turns}
use Rattle.gb_prog.proofs.Turns.{turns_keep, units_coupled}
use Rattle.gb_prog.specs.Until.{Until}
use Rattle.gb_prog.proofs.Whole.{IsWhole, whole_turns}

module _ (B : Map → Bool) (A : Memory → Memory → Type 0) where
  abbrev U : Memory → Memory → Type 0
  U = Until B A

  abbrev pub HasCome : Memory → Type 0
  HasCome n = B n.globals ≡ true

  -- before the event
  abbrev pub Before : Memory → Memory → Type 0
  Before m n = (B n.globals ≡ false) × A m n

  -- each outcome has the event, from memories that have it
  abbrev pub KeepsEvent : (Memory → WeightedList Memory) → Type 0
  KeepsEvent run = (n : Memory) → HasCome n → Every HasCome (run n)

  module _ (f : Memory → WeightedList Memory) (k : ℕ) (h : Memory → WeightedList Memory) (l : ℕ) (left : IsWhole f k) (right : IsWhole h l) (keeps : KeepsEvent h) where
    -- both have the whole weight
    same_total : (m n : Memory) → k * l ≡ l * k
    same_total m n = omega arith

    -- any pair of outcomes is related
    pub after_event : (m n : Memory) → HasCome n → Coupling U (f m) k (h n) l
    after_event m n e =
        coupling_product (λ a. Unit {0}) HasCome U (λ a b p q z. absurd (false≢true (sym z ∙ q))) (f m) k (h n) l
        (left.entries m) (On_of_Every HasCome (h n) (right.entries n) (keeps n e))
        (ap (λ z. z * l) (left.whole m) ∙ same_total m n ∙ sym (ap (λ z. z * k) (right.whole n))) left.positive right.positive

    -- so it is enough to couple them before the event
    pub either : ((m n : Memory) → Before m n → Coupling U (f m) k (h n) l) → (m n : Memory) → U m n → Coupling U (f m) k (h n) l
    either before m n u = step (B n.globals) refl
      where
        step : (b : Bool) → B n.globals ≡ b → Coupling U (f m) k (h n) l
        step true e = after_event m n e
        step false e = before m n (e, u e)

  -- one outcome beside one, at any weights
  stopped : (x y : ℕ) (m n : Memory) → U m n → Coupling U ((m, x) ∷ []) x ((n, y) ∷ []) y
  stopped x y m n r = subst (λ z. z) (λ i. Coupling U ((m, once x i) ∷ []) (once x i) ((n, once y i) ∷ []) (once y i)) (coupling_rescaling x y (units_coupled U m n r))
    where
      once : (n : ℕ) → n * 1 ≡ n
      once n = omega arith

  -- Two loops, in lock step as long as the event hasn't come about.
  module _ (guard1 guard2 : Memory → Bool) (body1 body2 : Memory → WeightedList Memory) (k1 k2 : ℕ) (left : IsWhole body1 k1) (right : IsWhole body2 k2) (keeps : KeepsEvent body2)
      (guards : (m n : Memory) → Before m n → guard1 m ≡ guard2 n) (bodies : (m n : Memory) → U m n → Coupling U (body1 m) k1 (body2 n) k2) where
    turns_keep_event : (j : ℕ) → KeepsEvent (turns guard2 body2 k2 j)
    turns_keep_event j n e = turns_keep guard2 body2 k2 HasCome (λ m h t. keeps m h) j n e

    pub turns_until : (j : ℕ) (m n : Memory) → U m n → Coupling U (turns guard1 body1 k1 j m) (k1 ^ j) (turns guard2 body2 k2 j n) (k2 ^ j)
    turns_until zero m n u = subst (λ z. z) (λ i. Coupling U (unit m) (sym (pow-zero k1) i) (unit n) (sym (pow-zero k2) i)) (units_coupled U m n u)
    turns_until (suc j) m n u =
        either (turns guard1 body1 k1 (suc j)) (k1 ^ suc j) (turns guard2 body2 k2 (suc j)) (k2 ^ suc j)
        (whole_turns guard1 body1 k1 left (suc j)) (whole_turns guard2 body2 k2 right (suc j)) (turns_keep_event (suc j))
        (λ m n b. step m n b (guard1 m) (guard2 n) (guards m n b) (turns_until j)) m n u
      where
        grown : (m n : Memory) → Coupling U (bind (body1 m) (turns guard1 body1 k1 j)) (k1 * k1 ^ j) (bind (body2 n) (turns guard2 body2 k2 j)) (k2 * k2 ^ j) →
            Coupling U (bind (body1 m) (turns guard1 body1 k1 j)) (k1 ^ suc j) (bind (body2 n) (turns guard2 body2 k2 j)) (k2 ^ suc j)
        grown m n h = subst (λ z. z) (λ i. Coupling U (bind (body1 m) (turns guard1 body1 k1 j)) (power k1 i) (bind (body2 n) (turns guard2 body2 k2 j)) (power k2 i)) h
          where
            power : (k : ℕ) → k * k ^ j ≡ k ^ suc j
            power k = omega (arith, pow-suc k j)

        step : (m n : Memory) → Before m n → (b c : Bool) → b ≡ c → ((m n : Memory) → U m n → Coupling U (turns guard1 body1 k1 j m) (k1 ^ j) (turns guard2 body2 k2 j n) (k2 ^ j)) →
            Coupling U (if b then bind (body1 m) (turns guard1 body1 k1 j) else (m, k1 ^ suc j) ∷ []) (k1 ^ suc j)
            (if c then bind (body2 n) (turns guard2 body2 k2 j) else (n, k2 ^ suc j) ∷ []) (k2 ^ suc j)
        step m n r true true h go = grown m n (coupling_sequence U (turns guard1 body1 k1 j) (k1 ^ j) (turns guard2 body2 k2 j) (k2 ^ j) U (bodies m n (λ e. r.1)) go)
        step m n r true false h go = absurd (false≢true (sym h))
        step m n r false true h go = absurd (false≢true h)
        step m n r false false h go = stopped (k1 ^ suc j) (k2 ^ suc j) m n (λ e. r.1)
