-- Totals of runs: at most the denominator, and exactly the denominator where no sampling loses weight.
use Rattle.std.proofs.Common.{◌≡◌, ℕ, zero, suc, ◌+◌, ◌*◌, ◌-◌, ◌^◌, ◌≤◌, Bool, List, [], ◌∷◌, map, refl, ap, sym, ◌∙◌, subst, mul-le-mul_left, mul-le-mul_right, arith}
use Rattle.std.proofs.Math.Nat.{pow-suc, pow-zero}
use Rattle.std.proofs.lemmas.Nat.{pow-add}
use Rattle.gb_core.specs.declared.value.Value.{Value}
use Rattle.gb_dist.specs.WeightedList.{WeightedList, mass, total, scale, bind, Every}
use Rattle.gb_dist.proofs.Masses.{mass-scale, mass-dmap, mass-bind, mass-constant, mass-le_every, total-bind}
use Rattle.gb_terms.specs.declared.term.Term.{Term}
use Rattle.gb_meaning.specs.Names.{Map}
use Rattle.gb_meaning.specs.Memory.{Memory}
use Rattle.gb_meaning.specs.Program.{Program, Routine}
use Rattle.gb_meaning.specs.Program.Program.{done, assign, sample, branch, loop, call, ask}
use Rattle.gb_meaning.specs.Program.Routine.{routine}
use Rattle.gb_meaning.specs.Setting.{Setting}
use Rattle.gb_meaning.specs.State.{State, inside, closed}
use Rattle.gb_meaning.specs.Terms.{denominator, distribution}
use Rattle.gb_meaning.specs.Runs.{turns, most_turns, turns_at, is_true, run_denominator, routine_denominator, out, outcomes, returned, valued}
use Rattle.gb_meaning.specs.Sound.{IsSound, IsSoundRoutine, Full, FullRoutine}
use Rattle.gb_meaning.proofs.Runs.{cases_of}

total_scale : {A : Type 0} (c : ℕ) (l : WeightedList A) (k : ℕ) → total l ≡ k → total (scale c l) ≡ c * k
total_scale c l k h = mass-scale c l (λ a. 1) ∙ ap (λ z. c * z) h

-- the turns that a loop makes and those that are left
left_turns : (k most n : ℕ) → n ≤ most → k ^ (most - n) * k ^ n ≡ k ^ most
left_turns k most n h = sym (pow-add k (most - n) n) ∙ ap (λ z. k ^ z) (let e : most - n + n ≡ most = omega arith in e)

turns_at_most : (g : Setting) (s : State) (v : Term) (m : Memory) → turns_at g s v m ≤ most_turns v
turns_at_most g s v m = omega arith

total_bind : {A B : Type 0} (l : WeightedList A) (k : A → WeightedList B) (j c : ℕ) → total l ≡ j → ((a : A) → total (k a) ≡ c) → total (bind l k) ≡ j * c
total_bind l k j c e h = total-bind l k c h ∙ ap (λ z. z * c) e

turns_total : (guard : Memory → Bool) (body : Memory → WeightedList Memory) (k : ℕ) → ((m : Memory) → total (body m) ≡ k) →
    (n : ℕ) (m : Memory) → total (turns guard body k n m) ≡ k ^ n
turns_total guard body k h zero m = sym (pow-zero k)
turns_total guard body k h (suc n) m = cases_of (λ l. total l ≡ k ^ suc n) (guard m) _ _
    (total_bind (body m) (turns guard body k n) k (k ^ n) (h m) (turns_total guard body k h n) ∙ omega (arith, pow-suc k n)) (omega arith)

mutual
  pub run_total : (g : Setting) (s : State) (c : Program) → Full g c → (m : Memory) → total (out g s c m) ≡ run_denominator g c
  run_total g s done h m = refl
  run_total g s (assign xs e c) h m = run_total g s c h _
  run_total g s (sample x d c) h m = total_bind _ (λ n. out g s c n) (denominator g d) (run_denominator g c)
      (mass-dmap _ (distribution g d (inside s m)) (λ n. 1) ∙ h.0 (inside s m)) (λ n. run_total g s c h.1 n)
  run_total g s (branch e a b c) h m = total_bind _ (λ n. out g s c n) (run_denominator g a * run_denominator g b) (run_denominator g c)
      (cases_of (λ l. total l ≡ run_denominator g a * run_denominator g b) (is_true g s e m) _ _
      (omega (arith, total_scale (run_denominator g b) (out g s a m) _ (run_total g s a h.0 m)))
      (omega (arith, total_scale (run_denominator g a) (out g s b m) _ (run_total g s b h.1 m)))) (λ n. run_total g s c h.2 n)
  run_total g s (loop e v a c) h m = total_bind _ (λ n. out g s c n) (run_denominator g a ^ most_turns v) (run_denominator g c)
      (total_scale (run_denominator g a ^ (most_turns v - turns_at g s v m)) _ _
      (turns_total (is_true g s e) (λ n. out g s a n) (run_denominator g a) (λ n. run_total g s a h.0 n) (turns_at g s v m) m)
      ∙ left_turns (run_denominator g a) (most_turns v) (turns_at g s v m) (turns_at_most g s v m)) (λ n. run_total g s c h.1 n)
  run_total g s (call xs r es c) h m = total_bind _ (λ n. out g s c n) (routine_denominator g r) (run_denominator g c)
      (mass-dmap (returned g xs m) _ (λ n. 1) ∙ routine_total g r h.0 (map (λ e. valued g s e m) es) m.globals) (λ n. run_total g s c h.1 n)
  run_total g s (ask xs o es c) h m = run_total g s c h m

  pub routine_total : (g : Setting) (r : Routine) → FullRoutine g r → (vs : List Value) (globals : Map) → total (outcomes g r vs globals) ≡ routine_denominator g r
  routine_total g (routine ps ls c r) h vs globals = mass-dmap _ (out g closed c _) (λ n. 1) ∙ run_total g closed c h _

-- at most

pub at_most_scale : {A : Type 0} (c : ℕ) (l : WeightedList A) (k : ℕ) → total l ≤ k → total (scale c l) ≤ c * k
at_most_scale c l k h = let e : total (scale c l) ≡ c * total l = mass-scale c l (λ a. 1) in omega (arith, e, mul-le-mul_left c h)

up_to : (x : ℕ) {y z : ℕ} → y ≡ z → x ≤ y → x ≤ z
up_to x e h = omega (arith, e)

every_any : {A : Type 0} (l : WeightedList A) → Every (λ a. Unit {0}) l
every_any [] = tt
every_any (e ∷ l) = (tt, every_any l)

pub at_most_bind : {A B : Type 0} (l : WeightedList A) (k : A → WeightedList B) (j c : ℕ) → total l ≤ j → ((a : A) → total (k a) ≤ c) → total (bind l k) ≤ j * c
at_most_bind l k j c h b =
    let e : total (bind l k) ≡ mass l (λ a. total (k a)) = mass-bind l k (λ x. 1) in
    let f : mass l (λ a. total (k a)) ≤ mass l (λ a. c) = mass-le_every {P = λ a. Unit {0}} l (λ a. total (k a)) (λ a. c) (every_any l) (λ a u. b a) in
    let i : mass l (λ a. c) ≡ total l * c = mass-constant l c in
    omega (arith, e, f, i, mul-le-mul_right c h)

turns_bounded : (guard : Memory → Bool) (body : Memory → WeightedList Memory) (k : ℕ) → ((m : Memory) → total (body m) ≤ k) →
    (n : ℕ) (m : Memory) → total (turns guard body k n m) ≤ k ^ n
turns_bounded guard body k h zero m = omega (arith, pow-zero k)
turns_bounded guard body k h (suc n) m = cases_of (λ l. total l ≤ k ^ suc n) (guard m) _ _
    (let b = at_most_bind (body m) (turns guard body k n) k (k ^ n) (h m) (turns_bounded guard body k h n) in omega (arith, b, pow-suc k n)) (omega arith)

mutual
  pub run_bounded : (g : Setting) (s : State) (c : Program) → IsSound g c → (m : Memory) → total (out g s c m) ≤ run_denominator g c
  run_bounded g s done h m = omega arith
  run_bounded g s (assign xs e c) h m = run_bounded g s c h _
  run_bounded g s (sample x d c) h m = at_most_bind _ (λ n. out g s c n) (denominator g d) (run_denominator g c)
      (subst (λ z. z ≤ denominator g d) (sym (mass-dmap _ (distribution g d (inside s m)) (λ n. 1))) (h.0.total (inside s m))) (λ n. run_bounded g s c h.1 n)
  run_bounded g s (branch e a b c) h m = at_most_bind _ (λ n. out g s c n) (run_denominator g a * run_denominator g b) (run_denominator g c)
      (cases_of (λ l. total l ≤ run_denominator g a * run_denominator g b) (is_true g s e m) _ _
      (omega (arith, at_most_scale (run_denominator g b) (out g s a m) _ (run_bounded g s a h.0 m)))
      (omega (arith, at_most_scale (run_denominator g a) (out g s b m) _ (run_bounded g s b h.1 m)))) (λ n. run_bounded g s c h.2 n)
  run_bounded g s (loop e v a c) h m = at_most_bind _ (λ n. out g s c n) (run_denominator g a ^ most_turns v) (run_denominator g c)
      (up_to _ (left_turns (run_denominator g a) (most_turns v) (turns_at g s v m) (turns_at_most g s v m))
      (at_most_scale (run_denominator g a ^ (most_turns v - turns_at g s v m)) _ _
      (turns_bounded (is_true g s e) (λ n. out g s a n) (run_denominator g a) (λ n. run_bounded g s a h.0 n) (turns_at g s v m) m))) (λ n. run_bounded g s c h.1 n)
  run_bounded g s (call xs r es c) h m = at_most_bind _ (λ n. out g s c n) (routine_denominator g r) (run_denominator g c)
      (subst (λ z. z ≤ routine_denominator g r) (sym (mass-dmap (returned g xs m) _ (λ n. 1))) (routine_bounded g r h.0 (map (λ e. valued g s e m) es) m.globals)) (λ n. run_bounded g s c h.1 n)
  run_bounded g s (ask xs o es c) h m = run_bounded g s c h m

  pub routine_bounded : (g : Setting) (r : Routine) → IsSoundRoutine g r → (vs : List Value) (globals : Map) → total (outcomes g r vs globals) ≤ routine_denominator g r
  routine_bounded g (routine ps ls c r) h vs globals =
      subst (λ z. z ≤ run_denominator g c) (sym (mass-dmap _ (out g closed c _) (λ n. 1))) (run_bounded g closed c h _)
