-- Linked programs.
use Rattle.std.proofs.Common.{◌≡◌, List, Option, Some, refl, sym, ap, subst}
use Rattle.gb_core.specs.declared.var.Var.{Var}
use Rattle.gb_terms.specs.declared.term.Term.{Term}
use Rattle.gb_meaning.specs.Program.{Program, Routine, Oracle, IsLinked, IsLinkedRoutine}
use Rattle.gb_meaning.specs.Program.Program.{done, assign, sample, branch, loop, call, ask}
use Rattle.gb_meaning.specs.Program.Routine.{routine}
use Rattle.gb_meaning.specs.Linking.{Oracles, link, link_routine, answered}

module _ (os : Oracles) where
  mutual
    pub link-linked : (c : Program) → IsLinked c → link os c ≡ c
    link-linked done h = refl
    link-linked (assign xs e c) h = ap (assign xs e) (link-linked c h)
    link-linked (sample x d c) h = ap (sample x d) (link-linked c h)
    link-linked (branch e a b c) h = λ i. branch e (link-linked a h.0 i) (link-linked b h.1 i) (link-linked c h.2 i)
    link-linked (loop e v a c) h = λ i. loop e v (link-linked a h.0 i) (link-linked c h.1 i)
    link-linked (call xs r es c) h = λ i. call xs (link_routine-linked r h.0 i) es (link-linked c h.1 i)
    link-linked (ask xs o es c) h = absurd h

    pub link_routine-linked : (r : Routine) → IsLinkedRoutine r → link_routine os r ≡ r
    link_routine-linked (routine ps ls c r) h = λ i. routine ps ls (link-linked c h i) r

  answered-linked : (o : Option Routine) (xs : List Var) (p : _) (es : List Term) (c : Program) →
      (r : Routine) × (o ≡ Some r) × IsLinkedRoutine r → IsLinked c → IsLinked (answered o xs p es c)
  answered-linked o xs p es c (r, e, h) k = subst (λ z. IsLinked (answered z xs p es c)) (sym e) (h, k)

  module _ (all : (o : Oracle) → (r : Routine) × (os o ≡ Some r) × IsLinkedRoutine r) where
    mutual
      pub linked-link : (c : Program) → IsLinked (link os c)
      linked-link done = tt
      linked-link (assign xs e c) = linked-link c
      linked-link (sample x d c) = linked-link c
      linked-link (branch e a b c) = (linked-link a, linked-link b, linked-link c)
      linked-link (loop e v a c) = (linked-link a, linked-link c)
      linked-link (call xs r es c) = (linked-link_routine r, linked-link c)
      linked-link (ask xs o es c) = answered-linked (os o) xs o es (link os c) (all o) (linked-link c)

      pub linked-link_routine : (r : Routine) → IsLinkedRoutine (link_routine os r)
      linked-link_routine (routine ps ls c r) = linked-link c
