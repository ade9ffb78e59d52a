-- What is asked of the open program of a module expression, and what it is related to where its parameters are given.
use Rattle.std.specs.Prelude.{◌≡◌, true, List, [], ◌∷◌, Option, Some}
use Rattle.gb_terms.specs.declared.module.Bind.{Bind}
use Rattle.gb_terms.specs.declared.module.Mexp.{Mexp}
use Rattle.gb_meaning.specs.Program.{Program, Routine, Oracle}
use Rattle.gb_meaning.specs.Program.Program.{done, assign, sample, branch, loop, call, ask}
use Rattle.gb_meaning.specs.Program.Routine.{routine}
use Rattle.gb_meaning.specs.Adversary.{Adversary, may_call, type_named}
use Rattle.gb_meaning.specs.Declared.{Declarations, Signature}
use Rattle.gb_meaning.specs.Linking.{Oracles, link_routine}
use Rattle.gb_meaning.specs.Modules.{found}
use Rattle.gb_meaning.specs.Programs.{AreFull, AreNamed, IfThere}
use Rattle.gb_meaning.specs.Settings.{Interpretation, setting}
use Rattle.gb_meaning.specs.Within.{KeepsOff}
use Rattle.gb_typing.specs.Modules.{ProcedureType}
use Rattle.gb_arguments.specs.Opened.{Callee, linked, open_to, open_program}

-- what is called where parameters are open, and the procedure that it is with these for the oracles
abbrev pub IsLinked : Oracles → Option Callee → Option Routine → Type 0
IsLinked os (Some (linked r)) (Some s) = link_routine os r ≡ s
IsLinked os (Some (open_to o)) (Some s) = os o ≡ Some s
IsLinked os _ _ = ⊥

-- .. of a procedure of any type
abbrev pub IsLinkedBy : Oracles → ProcedureType → Option Callee → Option Routine → Type 0
IsLinkedBy os t x y = IsLinked os x y

-- both are there, and the same
abbrev pub AreSame : ProcedureType → Option Routine → Option Routine → Type 0
AreSame t (Some r) (Some s) = r ≡ s
AreSame t _ _ = ⊥

abbrev mutual
  -- the program asks oracles in P alone, itself and in the procedures that it carries
  pub Asks : (Oracle → Type 0) → Program → Type 0
  Asks P done = Unit {0}
  Asks P (assign xs e c) = Asks P c
  Asks P (sample x d c) = Asks P c
  Asks P (branch e a b c) = Asks P a × Asks P b × Asks P c
  Asks P (loop e v a c) = Asks P a × Asks P c
  Asks P (call xs r es c) = RoutineAsks P r × Asks P c
  Asks P (ask xs o es c) = P o × Asks P c

  pub RoutineAsks : (Oracle → Type 0) → Routine → Type 0
  RoutineAsks P (routine ps ls c r) = Asks P c

-- each procedure of a signature asks those oracles alone that the signature names
abbrev pub AskNamed : Adversary → List Signature → Type 0
AskNamed a [] = Unit {0}
AskNamed a (s ∷ ss) = IfThere (RoutineAsks (λ o. may_call s.oracles o ≡ true)) (found a.procedures s.name) × AskNamed a ss

-- What `fits` finds out of a module expression for a binder, beside that it has the procedures of the type: their parameters have the
-- names of the signatures; they ask what these name alone, lose no weight, and leave alone what the binder excludes. No calls are bounded.
-- The binder is one over the first declarations, in whose interpretation k programs are chosen for the binders so far; the module expression
-- may name all declarations, which are interpreted by i.
pub record IsGivenFor (before ds : Declarations) (i k : Interpretation) (b : Bind) (m : Mexp) : Type 0 where
  pub named : AreNamed (open_program ds i (type_named before b.ty) m) (type_named before b.ty).signatures
  pub asks : AskNamed (open_program ds i (type_named before b.ty) m) (type_named before b.ty).signatures
  pub full : AreFull (setting ds i) (open_program ds i (type_named before b.ty) m) (type_named before b.ty).signatures
  pub apart : KeepsOff before k.programs (setting before k) (open_program ds i (type_named before b.ty) m).footprint b.minus
  pub unbounded : b.bounds ≡ []
