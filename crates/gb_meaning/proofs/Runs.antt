-- Weights of runs: entries weigh at least 1, and the total is at most the denominator, for full programs the denominator.
use Rattle.std.proofs.Common.{ℕ, zero, suc, ◌-◌, ◌^◌, ◌<◌, Bool, true, false, if◌then◌else◌, List, map, arith}
use Rattle.std.proofs.Math.Nat.{mul-pos, pow-suc, pow-zero}
use Rattle.gb_core.specs.declared.value.Value.{Value}
use Rattle.gb_dist.specs.WeightedList.{WeightedList, IsPositive}
use Rattle.gb_dist.proofs.Entries.{On-scale, On-bind, On-dmap}
use Rattle.gb_meaning.specs.Names.{Map}
use Rattle.gb_meaning.specs.Memory.{Memory}
use Rattle.gb_meaning.specs.Program.{Program, Routine}
use Rattle.gb_meaning.specs.Program.Program.{done, assign, sample, branch, loop, call, ask}
use Rattle.gb_meaning.specs.Program.Routine.{routine}
use Rattle.gb_meaning.specs.Setting.{Setting}
use Rattle.gb_meaning.specs.State.{State, inside, closed}
use Rattle.gb_meaning.specs.Terms.{distribution}
use Rattle.gb_meaning.specs.Runs.{turns, most_turns, turns_at, is_true, run_denominator, routine_denominator, out, outcomes, returned, valued}
use Rattle.gb_meaning.specs.Sound.{IsSound, IsSoundRoutine}

pub pow-pos : (k j : ℕ) → 0 < k → 0 < k ^ j
pow-pos k zero h = omega (arith, pow-zero k)
pow-pos k (suc j) h = rw (pow-suc k j) (mul-pos (pow-pos k j h) h)

pub cases_of : {A : Type 0} (P : A → Type 0) (b : Bool) (x y : A) → P x → P y → P (if b then x else y)
cases_of P true x y p q = p
cases_of P false x y p q = q

mutual
  pub run_positive : (g : Setting) (c : Program) → IsSound g c → 0 < run_denominator g c
  run_positive g done h = omega arith
  run_positive g (assign xs e c) h = run_positive g c h
  run_positive g (sample x d c) h = mul-pos h.0.positive (run_positive g c h.1)
  run_positive g (branch e a b c) h = mul-pos (mul-pos (run_positive g a h.0) (run_positive g b h.1)) (run_positive g c h.2)
  run_positive g (loop e v a c) h = mul-pos (pow-pos (run_denominator g a) (most_turns v) (run_positive g a h.0)) (run_positive g c h.1)
  run_positive g (call xs r es c) h = mul-pos (routine_positive g r h.0) (run_positive g c h.1)
  run_positive g (ask xs o es c) h = run_positive g c h

  pub routine_positive : (g : Setting) (r : Routine) → IsSoundRoutine g r → 0 < routine_denominator g r
  routine_positive g (routine ps ls c r) h = run_positive g c h

-- any outcome
abbrev Any : {A : Type 0} → A → Type 0
Any a = Unit {0}

turns_entries : (guard : Memory → Bool) (body : Memory → WeightedList Memory) (k : ℕ) → 0 < k → ((m : Memory) → IsPositive (body m)) →
    (n : ℕ) (m : Memory) → IsPositive (turns guard body k n m)
turns_entries guard body k h b zero m = (omega arith, tt, tt)
turns_entries guard body k h b (suc n) m = cases_of IsPositive (guard m) _ _
    (On-bind Any Any (body m) (turns guard body k n) (b m) (λ q u. turns_entries guard body k h b n q)) (pow-pos k (suc n) h, tt, tt)

mutual
  pub run_entries : (g : Setting) (s : State) (c : Program) → IsSound g c → (m : Memory) → IsPositive (out g s c m)
  run_entries g s done h m = (omega arith, tt, tt)
  run_entries g s (assign xs e c) h m = run_entries g s c h _
  run_entries g s (sample x d c) h m =
      On-bind Any Any _ (λ n. out g s c n) (On-dmap {P = Any} Any _ (distribution g d (inside s m)) (λ v u. tt) (h.0.entries (inside s m))) (λ n u. run_entries g s c h.1 n)
  run_entries g s (branch e a b c) h m =
      On-bind Any Any _ (λ n. out g s c n) (cases_of IsPositive (is_true g s e m) _ _
      (On-scale Any (run_denominator g b) (out g s a m) (run_positive g b h.1) (run_entries g s a h.0 m))
      (On-scale Any (run_denominator g a) (out g s b m) (run_positive g a h.0) (run_entries g s b h.1 m))) (λ n u. run_entries g s c h.2 n)
  run_entries g s (loop e v a c) h m =
      On-bind Any Any _ (λ n. out g s c n) (On-scale Any (run_denominator g a ^ (most_turns v - turns_at g s v m)) _
      (pow-pos (run_denominator g a) (most_turns v - turns_at g s v m) (run_positive g a h.0))
      (turns_entries (is_true g s e) (λ n. out g s a n) (run_denominator g a) (run_positive g a h.0) (λ n. run_entries g s a h.0 n) (turns_at g s v m) m)) (λ n u. run_entries g s c h.1 n)
  run_entries g s (call xs r es c) h m =
      On-bind Any Any _ (λ n. out g s c n) (On-dmap {P = Any} Any (returned g xs m) _ (λ v u. tt) (routine_entries g r h.0 (map (λ e. valued g s e m) es) m.globals)) (λ n u. run_entries g s c h.1 n)
  run_entries g s (ask xs o es c) h m = run_entries g s c h m

  pub routine_entries : (g : Setting) (r : Routine) → IsSoundRoutine g r → (vs : List Value) (globals : Map) → IsPositive (outcomes g r vs globals)
  routine_entries g (routine ps ls c r) h vs globals = On-dmap {P = Any} Any _ (out g closed c _) (λ n u. tt) (run_entries g closed c h _)
