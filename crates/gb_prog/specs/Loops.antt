-- Programs whose loops end.
use Rattle.std.specs.Prelude.{[], ◌∷◌, ◌++◌}
use Rattle.gb_dist.specs.WeightedList.{SameDistribution}
use Rattle.gb_terms.specs.declared.term.Cmd.{Cmd}
use Rattle.gb_terms.specs.declared.term.Head.TheVariants.{If, While}
use Rattle.gb_terms.specs.declared.term.Instr.{Instr}
use Rattle.gb_terms.specs.declared.term.Term.{Term}
use Rattle.gb_meaning.specs.Memory.{Memory}
use Rattle.gb_meaning.specs.Loops.{IsGood}
use Rattle.gb_meaning.specs.Program.{Program, Routine, followed_by}
use Rattle.gb_meaning.specs.Program.Program.{done, assign, sample, branch, loop, call, ask}
use Rattle.gb_meaning.specs.Program.Routine.{routine}
use Rattle.gb_meaning.specs.Runs.{out, run_denominator}
use Rattle.gb_meaning.specs.Setting.{Setting}
use Rattle.gb_meaning.specs.State.{State, closed}

abbrev mutual
  -- Each loop that a program reaches is good, those of the procedures that it calls among them. Programs see nothing of a state but
  -- the memory in which they run, so it's asked in the closed one.
  pub EachLoopIsGood : Setting → Program → Type 0
  EachLoopIsGood g done = Unit {0}
  EachLoopIsGood g (assign xs e c) = EachLoopIsGood g c
  EachLoopIsGood g (sample x d c) = EachLoopIsGood g c
  EachLoopIsGood g (branch e a b c) = EachLoopIsGood g a × EachLoopIsGood g b × EachLoopIsGood g c
  EachLoopIsGood g (loop e v a c) = IsGood g closed e v a × EachLoopIsGood g a × EachLoopIsGood g c
  EachLoopIsGood g (call xs r es c) = EachLoopOfIsGood g r × EachLoopIsGood g c
  EachLoopIsGood g (ask xs o es c) = EachLoopIsGood g c

  -- those that a procedure reaches
  pub EachLoopOfIsGood : Setting → Routine → Type 0
  EachLoopOfIsGood g (routine ps ls c r) = EachLoopIsGood g c

-- one turn of a loop, where its guard is true, and the loop again
abbrev pub unrolled : Term → Term → Program → Program → Program
unrolled e v a c = branch e (followed_by a (loop e v a done)) done c

-- the same of statements: a branch in place of a loop
abbrev pub unrolled_statement : Term → Term → Cmd → Instr
unrolled_statement e v b = If e (record { list = b.list ++ (While e v b ∷ []) }) (record { list = [] })

-- two programs run alike in a state: from each memory they end in the same distribution
abbrev pub RunAlike : Setting → State → Program → Program → Type 0
RunAlike g s c d = (m : Memory) → SameDistribution (out g s c m) (run_denominator g c) (out g s d m) (run_denominator g d)
