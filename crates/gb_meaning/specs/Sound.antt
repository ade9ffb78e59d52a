-- Programs that draw from distributions alone, and programs that never lose weight.
use Rattle.std.specs.Prelude.{◌≡◌, ◌<◌, ◌≤◌}
use Rattle.gb_dist.specs.WeightedList.{total, IsPositive}
use Rattle.gb_terms.specs.declared.term.Term.{Term}
use Rattle.gb_meaning.specs.Program.{Program, Routine}
use Rattle.gb_meaning.specs.Program.Program.{done, assign, sample, branch, loop, call, ask}
use Rattle.gb_meaning.specs.Program.Routine.{routine}
use Rattle.gb_meaning.specs.Setting.{Setting}
use Rattle.gb_meaning.specs.State.{State}
use Rattle.gb_meaning.specs.Terms.{denominator, distribution}

-- In each state the term is a distribution, or a sub-distribution: weights of at least 1, whose total is at most the
-- denominator, which is above 0.
pub record IsDistribution (g : Setting) (d : Term) : Type 0 where
  pub positive : 0 < denominator g d
  pub entries : (s : State) → IsPositive (distribution g d s)
  pub total : (s : State) → total (distribution g d s) ≤ denominator g d

-- the total is the denominator
abbrev pub IsFull : Setting → Term → Type 0
IsFull g d = (s : State) → total (distribution g d s) ≡ denominator g d

abbrev mutual
  -- each sampling is from a distribution or a sub-distribution
  pub IsSound : Setting → Program → Type 0
  IsSound g done = Unit {0}
  IsSound g (assign xs e c) = IsSound g c
  IsSound g (sample x d c) = IsDistribution g d × IsSound g c
  IsSound g (branch e a b c) = IsSound g a × IsSound g b × IsSound g c
  IsSound g (loop e v a c) = IsSound g a × IsSound g c
  IsSound g (call xs r es c) = IsSoundRoutine g r × IsSound g c
  IsSound g (ask xs o es c) = IsSound g c

  pub IsSoundRoutine : Setting → Routine → Type 0
  IsSoundRoutine g (routine ps ls c r) = IsSound g c

abbrev mutual
  -- no sampling loses weight
  pub Full : Setting → Program → Type 0
  Full g done = Unit {0}
  Full g (assign xs e c) = Full g c
  Full g (sample x d c) = IsFull g d × Full g c
  Full g (branch e a b c) = Full g a × Full g b × Full g c
  Full g (loop e v a c) = Full g a × Full g c
  Full g (call xs r es c) = FullRoutine g r × Full g c
  Full g (ask xs o es c) = Full g c

  pub FullRoutine : Setting → Routine → Type 0
  FullRoutine g (routine ps ls c r) = Full g c
