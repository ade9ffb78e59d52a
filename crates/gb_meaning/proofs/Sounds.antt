-- Well-typed programs, linked with procedures that draw from distributions, draw from distributions; and so on for full
-- weight.
use Rattle.std.proofs.Common.{List, Option, Some, None}
use Rattle.gb_core.specs.declared.var.Var.{Var}
use Rattle.gb_terms.specs.declared.term.Term.{Term}
use Rattle.gb_core.specs.declared.ty.Ty.{Ty}
use Rattle.gb_meaning.specs.Values.{Global}
use Rattle.gb_meaning.specs.Program.{Program, Routine, Oracle}
use Rattle.gb_meaning.specs.Program.Program.{done, assign, sample, branch, loop, call, ask}
use Rattle.gb_meaning.specs.Program.Routine.{routine}
use Rattle.gb_meaning.specs.Setting.{Setting}
use Rattle.gb_meaning.specs.Sound.{IsDistribution, IsSound, IsSoundRoutine, Full, FullRoutine}
use Rattle.gb_meaning.specs.Declared.{Signature}
use Rattle.gb_meaning.specs.Linking.{Oracles, link, link_routine, answered}
use Rattle.gb_meaning.specs.Typing.{Names, type_of, IsDistributionOver, IsTyped, IsTypedRoutine}
use Rattle.gb_meaning.specs.Programs.{IfThere}

is_distribution : (g : Setting) (n : Names) (t : Option Ty) (d : Term) → IsDistributionOver g n t d → IsDistribution g d
is_distribution g n None d h = absurd h
is_distribution g n (Some t) d h = h.1

sound_answer : (g : Setting) (r : Option Routine) (xs : List Var) (o : Oracle) (es : List Term) (c : Program) →
    IfThere (IsSoundRoutine g) r → IsSound g c → IsSound g (answered r xs o es c)
sound_answer g None xs o es c a h = h
sound_answer g (Some r) xs o es c a h = (a, h)

full_answer : (g : Setting) (r : Option Routine) (xs : List Var) (o : Oracle) (es : List Term) (c : Program) →
    IfThere (FullRoutine g) r → Full g c → Full g (answered r xs o es c)
full_answer g None xs o es c a h = h
full_answer g (Some r) xs o es c a h = (a, h)

module _ (g : Setting) (ss : Oracle → Option Signature) (os : Oracles) where
  module _ (all : (o : Oracle) → IfThere (IsSoundRoutine g) (os o)) where
    mutual
      pub typed_sound : (n : Names) (c : Program) → IsTyped g ss n c → IsSound g (link os c)
      typed_sound n done h = tt
      typed_sound n (assign xs e c) h = typed_sound n c h.2
      typed_sound n (sample x d c) h = (is_distribution g n (type_of n x) d h.0, typed_sound n c h.1)
      typed_sound n (branch e a b c) h = (typed_sound n a h.1, typed_sound n b h.2, typed_sound n c h.3)
      typed_sound n (loop e v a c) h = (typed_sound n a h.2, typed_sound n c h.3)
      typed_sound n (call xs r es c) h = (typed_sound_routine n.globals r h.0, typed_sound n c h.3)
      typed_sound n (ask xs o es c) h = sound_answer g (os o) xs o es (link os c) (all o) (typed_sound n c h.1)

      pub typed_sound_routine : (gs : List Global) (r : Routine) → IsTypedRoutine g ss gs r → IsSoundRoutine g (link_routine os r)
      typed_sound_routine gs (routine ps ls c r) h = typed_sound _ c h.1

module _ (g : Setting) (os : Oracles) (all : (o : Oracle) → IfThere (FullRoutine g) (os o)) where
  mutual
    pub full_link : (c : Program) → Full g c → Full g (link os c)
    full_link done h = tt
    full_link (assign xs e c) h = full_link c h
    full_link (sample x d c) h = (h.0, full_link c h.1)
    full_link (branch e a b c) h = (full_link a h.0, full_link b h.1, full_link c h.2)
    full_link (loop e v a c) h = (full_link a h.0, full_link c h.1)
    full_link (call xs r es c) h = (full_link_routine r h.0, full_link c h.1)
    full_link (ask xs o es c) h = full_answer g (os o) xs o es (link os c) (all o) (full_link c h)

    pub full_link_routine : (r : Routine) → FullRoutine g r → FullRoutine g (link_routine os r)
    full_link_routine (routine ps ls c r) h = full_link c h
