-- What is so of the procedures that programs carry, at any depth.
use Rattle.gb_meaning.specs.Program.{Program, Routine}
use Rattle.gb_meaning.specs.Program.Program.{done, assign, sample, branch, loop, call, ask}
use Rattle.gb_meaning.specs.Program.Routine.{routine}

-- each procedure that a program carries is in P, and so is each that one of these carries
abbrev mutual
  pub EachCarried : (Routine → Type 0) → Program → Type 0
  EachCarried P done = Unit {0}
  EachCarried P (assign xs e c) = EachCarried P c
  EachCarried P (sample x d c) = EachCarried P c
  EachCarried P (branch e a b c) = EachCarried P a × EachCarried P b × EachCarried P c
  EachCarried P (loop e v a c) = EachCarried P a × EachCarried P c
  EachCarried P (call xs r es c) = P r × EachCarriedBy P r × EachCarried P c
  EachCarried P (ask xs o es c) = EachCarried P c

  pub EachCarriedBy : (Routine → Type 0) → Routine → Type 0
  EachCarriedBy P (routine ps ls c v) = EachCarried P c
