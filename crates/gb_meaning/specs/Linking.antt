-- Linking: each call carries the procedure that it names.
use Rattle.std.specs.Prelude.{List, [], ◌∷◌, Option, Some, None, if◌then◌else◌, bytes_eq}
use Rattle.gb_core.specs.declared.var.Var.{Var}
use Rattle.gb_terms.specs.declared.decl.Param.{Param}
use Rattle.gb_terms.specs.declared.module.ProcRef.{ProcRef}
use Rattle.gb_terms.specs.declared.term.Term.{Term}
use Rattle.gb_meaning.specs.Program.{Program, Routine, Oracle}
use Rattle.gb_meaning.specs.Program.Program.{done, assign, sample, branch, loop, call, ask}
use Rattle.gb_meaning.specs.Program.Routine.{routine}
use Rattle.gb_meaning.specs.Setting.{Setting}
use Rattle.gb_meaning.specs.Commands.{statements}
use Rattle.gb_meaning.specs.Modules.{Procedures, Reading, found}

-- the setting, where references to procedures mean these
abbrev pub calling : Setting → (ProcRef → Option Routine) → Setting
calling g callee = record g { procedure = callee }

-- A procedure is linked where it is known which procedures those are that it calls.
abbrev pub linked_procedure : Setting → Reading Routine
linked_procedure g callee p =
    routine p.params p.locals (statements (calling g callee) p.body.list) p.value

-- which procedure answers for each oracle
abbrev pub Oracles : Type 0
Oracles = Oracle → Option Routine

-- the call of the procedure that answers for the oracle; an oracle for which none answers stays open
abbrev pub answered : Option Routine → List Var → Oracle → List Term → Program → Program
answered None xs o es c = ask xs o es c
answered (Some r) xs o es c = call xs r es c

abbrev mutual
  -- the program in which each call of an oracle carries the procedure that answers for it
  pub link : Oracles → Program → Program
  link os done = done
  link os (assign xs e c) = assign xs e (link os c)
  link os (sample x d c) = sample x d (link os c)
  link os (branch e a b c) = branch e (link os a) (link os b) (link os c)
  link os (loop e v a c) = loop e v (link os a) (link os c)
  link os (call xs r es c) = call xs (link_routine os r) es (link os c)
  link os (ask xs o es c) = answered (os o) xs o es (link os c)

  pub link_routine : Oracles → Routine → Routine
  link_routine os (routine ps ls c r) = routine ps ls (link os c) r

-- what the argument for its parameter makes of an oracle
abbrev pub oracle_of : {X : Type 0} → List Param → List (Procedures X) → Oracle → Option X
oracle_of [] ms o = None
oracle_of (p ∷ ps) [] o = None
oracle_of (p ∷ ps) (m ∷ ms) o = if bytes_eq o.parameter p.name then found m o.name else oracle_of ps ms o
