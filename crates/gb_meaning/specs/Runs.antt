-- Runs of programs, as weighted lists of the memories in which they end.
use Rattle.std.specs.Prelude.{ℕ, zero, suc, ◌-◌, ◌*◌, ◌^◌, min, Bool, if◌then◌else◌, List, [], ◌∷◌, map}
use Rattle.gb_core.specs.declared.ty.Ty.{Ty}
use Rattle.gb_core.specs.declared.ty.Ty.TheVariants as ty
use Rattle.gb_core.specs.declared.value.Value.{Value}
use Rattle.gb_core.specs.declared.var.Var.{Var}
use Rattle.gb_terms.specs.declared.decl.TypedName.{TypedName}
use Rattle.gb_terms.specs.declared.term.Term.{Term, Term'}
use Rattle.gb_dist.specs.WeightedList.{WeightedList, unit, bind, dmap, scale}
use Rattle.gb_meaning.specs.Names.{Map}
use Rattle.gb_meaning.specs.Memory.{Memory, assigned, write, first_values, arguments, outcome, result_in, read_local}
use Rattle.gb_meaning.specs.Program.{Program, Routine}
use Rattle.gb_meaning.specs.Program.Program.{done, assign, sample, branch, loop, call, ask}
use Rattle.gb_meaning.specs.Program.Routine.{routine}
use Rattle.gb_meaning.specs.Setting.{Setting}
use Rattle.gb_meaning.specs.Meanings.{value_in, number_in, truth}
use Rattle.gb_meaning.specs.State.{State, inside, closed}
use Rattle.gb_meaning.specs.Terms.{denominator, quiet, val, distribution}

-- a type's greatest number, where it is a type of numbers modulo a bound
abbrev pub greatest : Ty → ℕ
greatest (ty.Mod n) = n - 1
greatest _ = 0

-- the most turns that a loop with this variant may make
abbrev pub most_turns : Term → ℕ
most_turns (Term' p h n ts ty) = greatest ty

-- the value of a program's term, in the context and the program's memory
abbrev pub valued : Setting → State → Term → Memory → Value
valued g s e m = value_in (val g quiet e (inside s m))

abbrev pub is_true : Setting → State → Term → Memory → Bool
is_true g s e m = truth (val g quiet e (inside s m))

abbrev pub variant_value : Setting → State → Term → Memory → ℕ
variant_value g s v m = number_in (val g quiet v (inside s m))

-- how many turns a loop makes at most: the value of its variant
abbrev pub turns_at : Setting → State → Term → Memory → ℕ
turns_at g s v m = min (variant_value g s v m) (most_turns v)

-- At most so many turns of a loop, over the body's denominator to the power of this number: the body runs while the
-- guard is true, and nothing looks at a variant.
abbrev pub turns : (Memory → Bool) → (Memory → WeightedList Memory) → ℕ → ℕ → Memory → WeightedList Memory
turns guard body k zero m = unit m
turns guard body k (suc n) m = if guard m then bind (body m) (turns guard body k n) else (m, k ^ suc n) ∷ []

-- the denominator of a run: those of its samplings, multiplied, where a branch counts both sides and a loop all turns
abbrev mutual
  pub run_denominator : Setting → Program → ℕ
  run_denominator g done = 1
  run_denominator g (assign xs e c) = run_denominator g c
  run_denominator g (sample x d c) = denominator g d * run_denominator g c
  run_denominator g (branch e a b c) = run_denominator g a * run_denominator g b * run_denominator g c
  run_denominator g (loop e v a c) = run_denominator g a ^ most_turns v * run_denominator g c
  run_denominator g (call xs r es c) = routine_denominator g r * run_denominator g c
  run_denominator g (ask xs o es c) = run_denominator g c

  pub routine_denominator : Setting → Routine → ℕ
  routine_denominator g (routine ps ls c r) = run_denominator g c

-- a frame with the values of parameters, in which each local has the first value of its type
abbrev pub new_frame : Setting → List TypedName → List TypedName → List Value → Map
new_frame g ps ls vs = arguments (first_values g.types ls) ps vs

-- the caller's memory, after a call that ended in this outcome
abbrev pub returned : Setting → List Var → Memory → Memory → Memory
returned g xs m n = assigned g.types (record { globals = n.globals; frame = m.frame }) xs (result_in n)

-- A program runs from a memory, in a context. The chosen side of a branch is scaled by the denominator of the other
-- side, and a loop by that of the turns that are left. A call runs its procedure in a new frame, goes back to the
-- caller's frame and assigns the result. A call of an oracle that isn't linked does nothing.
abbrev mutual
  pub out : Setting → State → Program → Memory → WeightedList Memory
  out g s done m = unit m
  out g s (assign xs e c) m = out g s c (assigned g.types m xs (valued g s e m))
  out g s (sample x d c) m = bind (dmap (write g.types m x) (distribution g d (inside s m))) (λ n. out g s c n)
  out g s (branch e a b c) m =
      bind (if is_true g s e m then scale (run_denominator g b) (out g s a m) else scale (run_denominator g a) (out g s b m)) (λ n. out g s c n)
  out g s (loop e v a c) m =
      bind (scale (run_denominator g a ^ (most_turns v - turns_at g s v m)) (turns (is_true g s e) (λ n. out g s a n) (run_denominator g a) (turns_at g s v m) m)) (λ n. out g s c n)
  out g s (call xs r es c) m =
      bind (dmap (returned g xs m) (outcomes g r (map (λ e. valued g s e m) es) m.globals)) (λ n. out g s c n)
  out g s (ask xs o es c) m = out g s c m

  -- the outcomes of a procedure from arguments and globals: memories whose frame is the result alone
  pub outcomes : Setting → Routine → List Value → Map → WeightedList Memory
  outcomes g (routine ps ls c r) vs globals =
      dmap (λ n. outcome n.globals (valued g closed r n)) (out g closed c (record { globals = globals; frame = new_frame g ps ls vs }))

-- the values of parameters that a memory's frame holds
abbrev pub parameter_values : Setting → Routine → Memory → List Value
parameter_values g (routine ps ls c r) m = map (λ x. read_local g.types m x.name x.ty) ps

-- The plain loop: at most so many turns while the guard is true, without a variant.
abbrev pub plain_loop : Setting → State → Term → Program → ℕ → Memory → WeightedList Memory
plain_loop g s e a n m = turns (is_true g s e) (λ q. out g s a q) (run_denominator g a) n m
