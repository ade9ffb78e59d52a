-- Runs of open programs that count the calls of an oracle.
use Rattle.std.specs.Prelude.{ℕ, zero, suc, ◌+◌, ◌-◌, ◌^◌, Bool, if◌then◌else◌, List, [], ◌∷◌, map, Option, Some, None}
use Rattle.gb_core.specs.declared.value.Value.{Value}
use Rattle.gb_core.specs.declared.var.Var.{Var}
use Rattle.gb_dist.specs.WeightedList.{WeightedList, unit, bind, dmap, scale, bit}
use Rattle.gb_meaning.specs.Names.{Map}
use Rattle.gb_meaning.specs.Memory.{Memory, assigned, write, outcome}
use Rattle.gb_meaning.specs.Program.{Program, Routine, Oracle}
use Rattle.gb_meaning.specs.Program.Program.{done, assign, sample, branch, loop, call, ask}
use Rattle.gb_meaning.specs.Program.Routine.{routine}
use Rattle.gb_meaning.specs.Setting.{Setting}
use Rattle.gb_meaning.specs.State.{closed, inside}
use Rattle.gb_meaning.specs.Terms.{distribution}
use Rattle.gb_meaning.specs.Runs.{most_turns, valued, is_true, turns_at, run_denominator, new_frame, returned, outcomes}
use Rattle.gb_meaning.specs.Linking.{Oracles, link}
use Rattle.gb_meaning.specs.Adversary.{oracle_eq}

-- a memory, with the number of calls so far
abbrev pub Tallied : Type 0
Tallied = Memory × ℕ

-- a tally that goes on from another one
abbrev pub added : ℕ → Tallied → Tallied
added k p = (p.0, k + p.1)

-- a run that goes on from a memory and a tally
abbrev pub further : (Memory → WeightedList Tallied) → Tallied → WeightedList Tallied
further run p = dmap (added p.1) (run p.0)

-- at most so many turns, whose tallies add up
abbrev pub counted_turns : (Memory → Bool) → (Memory → WeightedList Tallied) → ℕ → ℕ → Memory → WeightedList Tallied
counted_turns guard body k zero m = unit (m, 0)
counted_turns guard body k (suc n) m =
    if guard m then bind (body m) (further (counted_turns guard body k n)) else ((m, 0), k ^ suc n) ∷ []

-- what an oracle answers
abbrev pub answers : Setting → Option Routine → List Var → List Value → Memory → WeightedList Memory
answers g None xs vs m = unit m
answers g (Some r) xs vs m = dmap (returned g xs m) (outcomes g r vs m.globals)

-- The run of an open program with procedures that answer for its oracles, where each call of the oracle o by the program
-- raises the tally by one. Calls of o inside of what answers don't count.
abbrev mutual
  pub counted : Setting → Oracles → Oracle → Program → Memory → WeightedList Tallied
  counted g os o done m = unit (m, 0)
  counted g os o (assign xs e c) m = counted g os o c (assigned g.types m xs (valued g closed e m))
  counted g os o (sample x d c) m =
      bind (dmap (write g.types m x) (distribution g d (inside closed m))) (λ n. counted g os o c n)
  counted g os o (branch e a b c) m =
      bind (if is_true g closed e m
      then scale (run_denominator g (link os b)) (counted g os o a m)
      else scale (run_denominator g (link os a)) (counted g os o b m))
      (further (λ n. counted g os o c n))
  counted g os o (loop e v a c) m =
      bind (scale (run_denominator g (link os a) ^ (most_turns v - turns_at g closed v m))
      (counted_turns (is_true g closed e) (λ n. counted g os o a n) (run_denominator g (link os a)) (turns_at g closed v m) m))
      (further (λ n. counted g os o c n))
  counted g os o (call xs r es c) m =
      bind (dmap (λ p. (returned g xs m p.0, p.1)) (counted_outcomes g os o r (map (λ e. valued g closed e m) es) m.globals))
      (further (λ n. counted g os o c n))
  counted g os o (ask xs p es c) m =
      bind (dmap (λ n. (n, bit (oracle_eq o p))) (answers g (os p) xs (map (λ e. valued g closed e m) es) m))
      (further (λ n. counted g os o c n))

  -- the outcomes of a procedure of the program, with the calls that it made
  pub counted_outcomes : Setting → Oracles → Oracle → Routine → List Value → Map → WeightedList Tallied
  counted_outcomes g os o (routine ps ls c r) vs globals =
      dmap (λ p. (outcome p.0.globals (valued g closed r p.0), p.1))
      (counted g os o c (record { globals = globals; frame = new_frame g ps ls vs }))
