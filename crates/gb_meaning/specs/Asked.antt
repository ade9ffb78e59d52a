-- How many calls of an oracle the text of an open program allows at most.
use Rattle.std.specs.Prelude.{ℕ, ◌+◌, ◌*◌, ◌≤◌, max, List, [], ◌∷◌, Option, Some, None}
use Rattle.gb_terms.specs.declared.module.Bound.{Bound}
use Rattle.gb_dist.specs.WeightedList.{bit}
use Rattle.gb_meaning.specs.Names.{Name}
use Rattle.gb_meaning.specs.Program.{Program, Routine, Oracle}
use Rattle.gb_meaning.specs.Program.Program.{done, assign, sample, branch, loop, call, ask}
use Rattle.gb_meaning.specs.Program.Routine.{routine}
use Rattle.gb_meaning.specs.Runs.{most_turns}
use Rattle.gb_meaning.specs.Modules.{found}
use Rattle.gb_meaning.specs.Adversary.{Adversary, oracle_eq}
use Rattle.gb_meaning.specs.Bounds.{oracle_in}

-- The statements of a list add up, of two branches the larger number counts, and the body of a loop counts once for each
-- turn that its variant allows.
abbrev mutual
  pub most_asked : Oracle → Program → ℕ
  most_asked o done = 0
  most_asked o (assign xs e c) = most_asked o c
  most_asked o (sample x d c) = most_asked o c
  most_asked o (branch e a b c) = max (most_asked o a) (most_asked o b) + most_asked o c
  most_asked o (loop e v a c) = most_turns v * most_asked o a + most_asked o c
  most_asked o (call xs r es c) = most_asked_by o r + most_asked o c
  most_asked o (ask xs p es c) = bit (oracle_eq o p) + most_asked o c

  pub most_asked_by : Oracle → Routine → ℕ
  most_asked_by o (routine ps ls c r) = most_asked o c

-- the number of a procedure that may be missing
abbrev pub most_asked_if_there : Oracle → Option Routine → ℕ
most_asked_if_there o None = 0
most_asked_if_there o (Some r) = most_asked_by o r

-- the numbers of these procedures of a program, added
abbrev pub most_asked_by_all : Adversary → Oracle → List Name → ℕ
most_asked_by_all a o [] = 0
most_asked_by_all a o (f ∷ fs) = most_asked_if_there o (found a.procedures f) + most_asked_by_all a o fs

-- each bound is at least what the texts of its procedures allow together
abbrev pub IsBoundedByText : Adversary → List Bound → Type 0
IsBoundedByText a [] = Unit {0}
IsBoundedByText a (b ∷ bs) = (most_asked_by_all a (oracle_in b.oracle) b.procs ≤ b.most) × IsBoundedByText a bs
