-- Procedures are finite: what goes over from all that they carry to them is so of each.
use Rattle.gb_meaning.specs.Program.{Program, Routine}
use Rattle.gb_meaning.specs.Program.Program.{done, assign, sample, branch, loop, call, ask}
use Rattle.gb_meaning.specs.Program.Routine.{routine}
use Rattle.gb_prog.specs.Carried.{EachCarried, EachCarriedBy}

module _ (P : Routine → Type 0) (step : (r : Routine) → EachCarriedBy P r → P r) where
  mutual
    pub each_carried : (c : Program) → EachCarried P c
    each_carried done = tt
    each_carried (assign xs e c) = each_carried c
    each_carried (sample x d c) = each_carried c
    each_carried (branch e a b c) = (each_carried a, each_carried b, each_carried c)
    each_carried (loop e v a c) = (each_carried a, each_carried c)
    each_carried (call xs r es c) = (step r (each_carried_by r), each_carried_by r, each_carried c)
    each_carried (ask xs o es c) = each_carried c

    pub each_carried_by : (r : Routine) → EachCarriedBy P r
    each_carried_by (routine ps ls c v) = each_carried c

  pub each_procedure : (r : Routine) → P r
  each_procedure r = step r (each_carried_by r)
