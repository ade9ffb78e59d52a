-- A loop whose variant falls is good.
use Rattle.std.proofs.Common.{◌≡◌, ℕ, zero, suc, ◌+◌, ◌*◌, ◌-◌, ◌^◌, ◌<◌, ◌≤◌, Bool, true, false, if◌then◌else◌, [], ◌∷◌, refl, ap, sym, ◌∙◌, arith}
use Rattle.std.proofs.lemmas.Nat.{pow-add}
use Rattle.gb_dist.specs.WeightedList.{WeightedList, mass, scale, bind, Every, SameDistribution}
use Rattle.gb_dist.proofs.Masses.{mass-scale}
use Rattle.gb_dist.proofs.Monad.{bind-unit_right}
use Rattle.gb_dist.proofs.Entries.{Every-bind}
use Rattle.gb_terms.specs.declared.term.Term.{Term}
use Rattle.gb_meaning.specs.Memory.{Memory}
use Rattle.gb_meaning.specs.Program.{Program}
use Rattle.gb_meaning.specs.Program.Program.{done, loop}
use Rattle.gb_meaning.specs.Setting.{Setting}
use Rattle.gb_meaning.specs.State.{State}
use Rattle.gb_meaning.specs.Runs.{turns, variant_value, most_turns, turns_at, is_true, run_denominator, out, plain_loop}
use Rattle.gb_meaning.specs.Loops.{IsGood}

-- the loop ends within as many turns as its measure says
turns_end : (guard : Memory → Bool) (body : Memory → WeightedList Memory) (k : ℕ) (measure : Memory → ℕ) →
    ((m : Memory) → guard m ≡ true → 0 < measure m) → ((m : Memory) → guard m ≡ true → Every (λ n. measure n < measure m) (body m)) →
    (i : ℕ) (m : Memory) → measure m ≤ i → Every (λ n. guard n ≡ false) (turns guard body k i m)
turns_end guard body k measure low falls zero m h = (step (guard m) refl, tt)
  where
    step : (b : Bool) → guard m ≡ b → guard m ≡ false
    step true e = absurd (let l = low m e in omega (arith, l, h))
    step false e = e
turns_end guard body k measure low falls (suc i) m h = step (guard m) refl (λ n l. turns_end guard body k measure low falls i n l)
  where
    step : (b : Bool) → guard m ≡ b → ((n : Memory) → measure n ≤ i → Every (λ q. guard q ≡ false) (turns guard body k i n)) →
        Every (λ q. guard q ≡ false) (if b then bind (body m) (turns guard body k i) else (m, k ^ suc i) ∷ [])
    step true e go = Every-bind (λ n. measure n < measure m) (λ q. guard q ≡ false) (body m) (turns guard body k i) (falls m e) (λ n l. go n (omega (arith, l, h)))
    step false e go = (e, tt)

module _ (g : Setting) (s : State) (e v : Term) (a : Program) where
  same_as_plain : (m : Memory) → SameDistribution (out g s (loop e v a done) m) (run_denominator g (loop e v a done))
      (plain_loop g s e a (turns_at g s v m) m) (run_denominator g a ^ turns_at g s v m)
  same_as_plain m f =
      let l = turns (is_true g s e) (λ n. out g s a n) (run_denominator g a) (turns_at g s v m) m in
      let k = run_denominator g a in
      let i = turns_at g s v m in
      let one : mass (out g s (loop e v a done) m) f ≡ k ^ (most_turns v - i) * mass l f =
      ap (λ z. mass z f) (bind-unit_right (scale (k ^ (most_turns v - i)) l)) ∙ mass-scale (k ^ (most_turns v - i)) l f in
      let two : k ^ (most_turns v - i) * k ^ i ≡ k ^ most_turns v = sym (pow-add k (most_turns v - i) i) ∙ ap (λ z. k ^ z) (let w : most_turns v - i + i ≡ most_turns v = omega arith in w) in
      ap (λ z. z * k ^ i) one ∙ regrouped (k ^ (most_turns v - i)) (mass l f) (k ^ i) ∙ ap (λ z. mass l f * z) (two ∙ (let w : k ^ most_turns v ≡ k ^ most_turns v * 1 = omega arith in w))
    where
      regrouped : (x y z : ℕ) → x * y * z ≡ y * (x * z)
      regrouped x y z = omega arith

  pub good_of_falling : ((m : Memory) → variant_value g s v m ≤ most_turns v) → ((m : Memory) → is_true g s e m ≡ true → 0 < variant_value g s v m) →
      ((m : Memory) → is_true g s e m ≡ true → Every (λ n. variant_value g s v n < variant_value g s v m) (out g s a m)) → IsGood g s e v a
  good_of_falling typed low falls m = record {
    turns = turns_at g s v m;
    ended = turns_end (is_true g s e) (λ n. out g s a n) (run_denominator g a) (variant_value g s v) low falls (turns_at g s v m) m (let t = typed m in omega (arith, t));
    same = same_as_plain m;
  }
