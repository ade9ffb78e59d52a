-- Linking that leaves parameters open: what a module makes of modules that aren't given yet. A call of a procedure of such a module asks
-- it as an oracle; each other call carries the procedure, as it does where nothing is open.
use Rattle.std.specs.Prelude.{List, [], ◌∷◌, map, Option, Some, None}
use Rattle.gb_core.specs.declared.var.Var.{Var}
use Rattle.gb_terms.specs.declared.decl.Param.{Param}
use Rattle.gb_terms.specs.declared.module.Mexp.{Mexp}
use Rattle.gb_terms.specs.declared.module.ProcRef.{ProcRef}
use Rattle.gb_terms.specs.declared.term.Term.{Term}
use Rattle.gb_terms.specs.declared.term.Instr.{Instr, Row_of-Instr, end_of-Instr, more_of-Instr}
use Rattle.gb_terms.specs.declared.term.Head.TheVariants.{Assign, Sample, Call', If', While'}
use Rattle.gb_terms.specs.Rows.{terms_in}
use Rattle.gb_meaning.specs.Names.{Name}
use Rattle.gb_meaning.specs.Program.{Program, Routine, Oracle}
use Rattle.gb_meaning.specs.Program.Program.{done, assign, sample, branch, loop, call, ask}
use Rattle.gb_meaning.specs.Program.Routine.{routine}
use Rattle.gb_meaning.specs.Declared.{Declarations, ModuleType, Signature}
use Rattle.gb_meaning.specs.Linking.{oracle_of}
use Rattle.gb_meaning.specs.Modules.{Procedures, Applied, Modules, Reading, module_at, modules_of, no_module, with_module}
use Rattle.gb_meaning.specs.Adversary.{Adversary, type_named}
use Rattle.gb_meaning.specs.Settings.{Chosen, Interpretation, types_of}

-- what a call names: a procedure, which may ask oracles itself, or a procedure of a parameter that is open
pub data Callee : Type 0 where
  linked : Routine → Callee
  open_to : Oracle → Callee

-- a call that carries its procedure, or asks; a call of a procedure that there isn't is left out, as it is where nothing is open
abbrev pub carried : List Var → Option Callee → List Term → Program → Program
carried xs None es c = c
carried xs (Some (linked r)) es c = call xs r es c
carried xs (Some (open_to o)) es c = ask xs o es c

-- the program of a list of statements
abbrev pub program_over : {n : _} → (ProcRef → Option Callee) → Row_of-Instr n → Program
program_over f end_of-Instr = done
program_over f (more_of-Instr (Assign xs e) is) = assign xs e (program_over f is)
program_over f (more_of-Instr (Sample x d) is) = sample x d (program_over f is)
program_over f (more_of-Instr (Call' xs p n es) is) = carried xs (f p) (terms_in es) (program_over f is)
program_over f (more_of-Instr (If' e m a n b) is) = branch e (program_over f a) (program_over f b) (program_over f is)
program_over f (more_of-Instr (While' e v n a) is) = loop e v (program_over f a) (program_over f is)

-- the same of lists: a statement before a program, and the program of a list of statements
abbrev pub statement_over : (ProcRef → Option Callee) → Instr → Program → Program
statement_over f (Assign xs e) c = assign xs e c
statement_over f (Sample x d) c = sample x d c
statement_over f (Call' xs p n es) c = carried xs (f p) (terms_in es) c
statement_over f (If' e m a n b) c = branch e (program_over f a) (program_over f b) c
statement_over f (While' e v n a) c = loop e v (program_over f a) c

abbrev pub statements_over : (ProcRef → Option Callee) → List Instr → Program
statements_over f [] = done
statements_over f (i ∷ is) = statement_over f i (statements_over f is)

-- a procedure is linked where it is known what it calls
abbrev pub open_procedure : Reading Callee
open_procedure f p = linked (routine p.params p.locals (statements_over f p.body.list) p.value)

-- the call of what answers for an oracle, which may be open in its turn; an oracle for which none answers stays open
abbrev pub answered_by : Option Callee → List Var → Oracle → List Term → Program → Program
answered_by None xs o es c = ask xs o es c
answered_by (Some (linked r)) xs o es c = call xs r es c
answered_by (Some (open_to p)) xs o es c = ask xs p es c

abbrev mutual
  -- an open program, where procedures answer for its oracles, or oracles of other parameters
  pub relink : (Oracle → Option Callee) → Program → Program
  relink f done = done
  relink f (assign xs e c) = assign xs e (relink f c)
  relink f (sample x d c) = sample x d (relink f c)
  relink f (branch e a b c) = branch e (relink f a) (relink f b) (relink f c)
  relink f (loop e v a c) = loop e v (relink f a) (relink f c)
  relink f (call xs r es c) = call xs (relink_routine f r) es (relink f c)
  relink f (ask xs o es c) = answered_by (f o) xs o es (relink f c)

  pub relink_routine : (Oracle → Option Callee) → Routine → Routine
  relink_routine f (routine ps ls c r) = routine ps ls (relink f c) r

abbrev pub each_relinked : (Oracle → Option Callee) → Procedures Routine → Procedures Callee
each_relinked f [] = []
each_relinked f (p ∷ ps) = (p.0, linked (relink_routine f p.1)) ∷ each_relinked f ps

-- the program of an abstract module, with modules for its parameters
abbrev pub over_oracles : ModuleType → Adversary → Applied Callee
over_oracles t a args = each_relinked (oracle_of t.params (map (λ m. m []) args)) a.procedures

-- the programs of abstract modules, on top of others
abbrev pub with_open_programs : Declarations → List Chosen → Modules Callee → Modules Callee
with_open_programs ds [] ms = ms
with_open_programs ds (c ∷ cs) ms = with_module (with_open_programs ds cs ms) c.bind.name (over_oracles (type_named ds c.bind.ty) c.program)

-- all modules; the name of an abstract module of the context hides that of a declared one
abbrev pub open_modules : Declarations → List Chosen → Modules Callee
open_modules ds cs = with_open_programs ds cs (modules_of open_procedure (with_open_programs ds cs (λ n. no_module)) ds)

-- Parameters that are left open.

-- the procedures of a parameter, as its module type has them
abbrev pub asked_in : Name → List Signature → Procedures Callee
asked_in p [] = []
asked_in p (s ∷ ss) = (s.name, open_to (record { parameter = p; name = s.name })) ∷ asked_in p ss

abbrev pub asked_modules : Declarations → List Param → List (Procedures Callee)
asked_modules ds [] = []
asked_modules ds (p ∷ ps) = asked_in p.name (type_named ds p.ty).signatures ∷ asked_modules ds ps

-- the procedures among things that are called
abbrev pub routines_in : Procedures Callee → Procedures Routine
routines_in [] = []
routines_in ((n, linked r) ∷ ps) = (n, r) ∷ routines_in ps
routines_in ((n, open_to o) ∷ ps) = routines_in ps

-- The open program of a module expression, where it stands for a module of a module type: what the type's parameters are asked stays open.
abbrev pub open_program : Declarations → Interpretation → ModuleType → Mexp → Adversary
open_program ds i t m = record {
  footprint = (types_of ds i).footprint m;
  procedures = routines_in (module_at (open_modules ds i.programs) m (asked_modules ds t.params));
}
