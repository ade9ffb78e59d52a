-- Programs whose runs from related memories are coupled.
use Rattle.std.proofs.Common.{◌≡◌, ℕ, ◌+◌, ◌-◌, ◌*◌, ◌^◌, ◌≤◌, Bool, true, false, if◌then◌else◌, List, map, ap, sym, ◌∙◌, subst, arith}
use Rattle.std.proofs.lemmas.Bool.{false≢true}
use Rattle.std.proofs.lemmas.Nat.{pow-add}
use Rattle.gb_core.specs.declared.value.Value.{Value}
use Rattle.gb_core.specs.declared.var.Var.{Var}
use Rattle.gb_dist.specs.Coupling.{Coupling}
use Rattle.gb_dist.specs.WeightedList.{WeightedList, scale}
use Rattle.gb_dist.proofs.Basic.{coupling_dmap, coupling_identity, coupling_rescaling}
use Rattle.gb_dist.proofs.Sequence.{coupling_sequence}
use Rattle.gb_terms.specs.declared.term.Term.{Term}
use Rattle.gb_meaning.specs.Memory.{Memory, assigned, write}
use Rattle.gb_meaning.specs.Program.{Program, Routine}
use Rattle.gb_meaning.specs.Program.Program.{done, assign, sample, branch, loop, call}
use Rattle.gb_meaning.specs.Runs.{is_true, most_turns, out, outcomes, returned, routine_denominator, run_denominator, turns, turns_at, valued}
use Rattle.gb_meaning.specs.Setting.{Setting}
use Rattle.gb_meaning.specs.Sound.{IsDistribution}
use Rattle.gb_meaning.specs.State.{State, inside}
use Rattle.gb_meaning.specs.Terms.{denominator, distribution}
use Rattle.gb_prog.proofs.Turns.{units_coupled}

module _ (g : Setting) (A : Memory → Memory → Type 0) (s : State) where
  abbrev pub AreBoth : Program → Program → Type 0
  AreBoth a b = (m n : Memory) → A m n → Coupling A (out g s a m) (run_denominator g a) (out g s b n) (run_denominator g b)

  pub both_done : AreBoth done done
  both_done m n r = units_coupled A m n r

-- The first statements run from memories in S, and what follows them from memories in A.
module _ (g : Setting) (S A : Memory → Memory → Type 0) (s : State) where
  abbrev pub AreFrom : Program → Program → Type 0
  AreFrom a b = (m n : Memory) → S m n → Coupling A (out g s a m) (run_denominator g a) (out g s b n) (run_denominator g b)

  -- what follows
  abbrev Follow : Program → Program → Type 0
  Follow a b = AreBoth g A s a b

  pub both_assign : (xs : List Var) (e : Term) (a b : Program) → ((m n : Memory) → S m n → A (assigned g.types m xs (valued g s e m)) (assigned g.types n xs (valued g s e n))) →
      Follow a b → AreFrom (assign xs e a) (assign xs e b)
  both_assign xs e a b writes k m n r = k (assigned g.types m xs (valued g s e m)) (assigned g.types n xs (valued g s e n)) (writes m n r)

  -- equal values are drawn on both sides
  abbrev Drawn : Value → Value → Type 0
  Drawn v w = Unit {0} × (v ≡ w)

  pub both_sample : (x : Var) (d : Term) (a b : Program) → IsDistribution g d → ((m n : Memory) → S m n → distribution g d (inside s m) ≡ distribution g d (inside s n)) →
      ((v : Value) (m n : Memory) → S m n → A (write g.types m x v) (write g.types n x v)) → Follow a b → AreFrom (sample x d a) (sample x d b)
  both_sample x d a b w drawn writes k m n r =
      coupling_sequence A (λ o. out g s a o) (run_denominator g a) (λ o. out g s b o) (run_denominator g b) A
      (coupling_dmap {Q = Drawn} A (write g.types m x) (write g.types n x) (λ v u p. subst (λ z. A (write g.types m x v) (write g.types n x z)) p.1 (writes v m n r))
      (subst (λ l. Coupling Drawn (distribution g d (inside s m)) (denominator g d) l (denominator g d)) (drawn m n r)
      (coupling_identity (λ v. Unit {0}) (distribution g d (inside s m)) (denominator g d) w.positive (w.entries (inside s m)))))
      k

  pub both_branch : (e : Term) (a b c x y z : Program) → ((m n : Memory) → S m n → is_true g s e m ≡ is_true g s e n) →
      AreFrom a x → AreFrom b y → Follow c z → AreFrom (branch e a b c) (branch e x y z)
  both_branch e a b c x y z guards h k l m n r =
      coupling_sequence A (λ o. out g s c o) (run_denominator g c) (λ o. out g s z o) (run_denominator g z) A (step (is_true g s e m) (is_true g s e n) (guards m n r)) l
    where
      swap : (i j : ℕ) → i * j ≡ j * i
      swap i j = omega arith

      step : (p q : Bool) → p ≡ q → Coupling A
          (if p then scale (run_denominator g b) (out g s a m) else scale (run_denominator g a) (out g s b m)) (run_denominator g a * run_denominator g b)
          (if q then scale (run_denominator g y) (out g s x n) else scale (run_denominator g x) (out g s y n)) (run_denominator g x * run_denominator g y)
      step true true e = subst (λ z. z) (λ i. Coupling A
          (scale (run_denominator g b) (out g s a m)) (swap (run_denominator g b) (run_denominator g a) i)
          (scale (run_denominator g y) (out g s x n)) (swap (run_denominator g y) (run_denominator g x) i))
          (coupling_rescaling (run_denominator g b) (run_denominator g y) (h m n r))
      step true false e = absurd (false≢true (sym e))
      step false true e = absurd (false≢true e)
      step false false e = coupling_rescaling (run_denominator g a) (run_denominator g x) (k m n r)

  -- the turns that a loop makes and those that are left
  left_turns : (k most j : ℕ) → j ≤ most → k ^ (most - j) * k ^ j ≡ k ^ most
  left_turns k most j h = sym (pow-add k (most - j) j) ∙ ap (λ z. k ^ z) (let e : most - j + j ≡ most = omega arith in e)

  turns_at_most : (v : Term) (m : Memory) → turns_at g s v m ≤ most_turns v
  turns_at_most v m = omega arith

  -- so many turns, at the denominator of the whole loop
  abbrev some_turns : Term → Term → Program → Memory → ℕ → WeightedList Memory
  some_turns e v a m j = scale (run_denominator g a ^ (most_turns v - j)) (turns (is_true g s e) (λ o. out g s a o) (run_denominator g a) j m)

  -- turns of two loops, as many on each side
  abbrev pub AreTurns : Term → Program → Program → Type 0
  AreTurns e a x = (j : ℕ) (m n : Memory) → S m n →
      Coupling A (turns (is_true g s e) (λ o. out g s a o) (run_denominator g a) j m) (run_denominator g a ^ j) (turns (is_true g s e) (λ o. out g s x o) (run_denominator g x) j n) (run_denominator g x ^ j)

  pub both_loop : (e v : Term) (a c x z : Program) → ((m n : Memory) → S m n → turns_at g s v m ≡ turns_at g s v n) → AreTurns e a x → Follow c z → AreFrom (loop e v a c) (loop e v x z)
  both_loop e v a c x z counts h l m n r =
      coupling_sequence A (λ o. out g s c o) (run_denominator g c) (λ o. out g s z o) (run_denominator g z) A
      (subst (λ j. Coupling A (some_turns e v a m (turns_at g s v m)) (run_denominator g a ^ most_turns v) (some_turns e v x n j) (run_denominator g x ^ most_turns v)) (counts m n r)
      (so_many (turns_at g s v m) (turns_at_most v m)))
      l
    where
      so_many : (j : ℕ) → j ≤ most_turns v → Coupling A (some_turns e v a m j) (run_denominator g a ^ most_turns v) (some_turns e v x n j) (run_denominator g x ^ most_turns v)
      so_many j u = subst (λ z. z)
          (λ i. Coupling A (some_turns e v a m j) (left_turns (run_denominator g a) (most_turns v) j u i) (some_turns e v x n j) (left_turns (run_denominator g x) (most_turns v) j u i))
          (coupling_rescaling (run_denominator g a ^ (most_turns v - j)) (run_denominator g x ^ (most_turns v - j)) (h j m n r))

  -- The outcomes of two procedures are in E, and lead the callers to memories in A.
  pub both_call : (E : Memory → Memory → Type 0) (xs : List Var) (p q : Routine) (es : List Term) (a b : Program) →
      ((m n : Memory) → S m n → Coupling E (outcomes g p (map (λ e. valued g s e m) es) m.globals) (routine_denominator g p) (outcomes g q (map (λ e. valued g s e n) es) n.globals) (routine_denominator g q)) →
      ((m n : Memory) → S m n → (o u : Memory) → E o u → A (returned g xs m o) (returned g xs n u)) → Follow a b → AreFrom (call xs p es a) (call xs q es b)
  both_call E xs p q es a b ends back k m n r =
      coupling_sequence A (λ o. out g s a o) (run_denominator g a) (λ o. out g s b o) (run_denominator g b) A
      (coupling_dmap {Q = E} A (returned g xs m) (returned g xs n) (back m n r) (ends m n r))
      k
