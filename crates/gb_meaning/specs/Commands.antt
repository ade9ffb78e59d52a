-- The programs that the bodies of judgments are.
use Rattle.std.specs.Prelude.{List, [], ◌∷◌, Option, Some, None}
use Rattle.gb_core.specs.declared.var.Var.{Var}
use Rattle.gb_terms.specs.declared.term.Term.{Term}
use Rattle.gb_terms.specs.declared.term.Instr.{Instr, Row_of-Instr, end_of-Instr, more_of-Instr}
use Rattle.gb_terms.specs.declared.term.Head.TheVariants.{Assign, Sample, Call', If', While'}
pub use Rattle.gb_terms.specs.Rows.{terms_in}
use Rattle.gb_meaning.specs.Program.{Program, Routine}
use Rattle.gb_meaning.specs.Program.Program.{done, assign, sample, branch, loop, call}
use Rattle.gb_meaning.specs.Setting.{Setting}

-- a call carries the procedure; a call of a procedure that there isn't is left out
abbrev pub called : List Var → Option Routine → List Term → Program → Program
called xs (Some r) es c = call xs r es c
called xs None es c = c

-- the program of a list of statements
abbrev pub program_of : {n : _} → Setting → Row_of-Instr n → Program
program_of g end_of-Instr = done
program_of g (more_of-Instr (Assign xs e) is) = assign xs e (program_of g is)
program_of g (more_of-Instr (Sample x d) is) = sample x d (program_of g is)
program_of g (more_of-Instr (Call' xs p n es) is) = called xs (g.procedure p) (terms_in es) (program_of g is)
program_of g (more_of-Instr (If' e m a n b) is) = branch e (program_of g a) (program_of g b) (program_of g is)
program_of g (more_of-Instr (While' e v n a) is) = loop e v (program_of g a) (program_of g is)

-- The same of lists: a statement before a program, and the program of a list of statements.

abbrev pub statement : Setting → Instr → Program → Program
statement g (Assign xs e) c = assign xs e c
statement g (Sample x d) c = sample x d c
statement g (Call' xs p n es) c = called xs (g.procedure p) (terms_in es) c
statement g (If' e m a n b) c = branch e (program_of g a) (program_of g b) c
statement g (While' e v n a) c = loop e v (program_of g a) c

abbrev pub statements : Setting → List Instr → Program
statements g [] = done
statements g (i ∷ is) = statement g i (statements g is)

-- each procedure that a list of statements calls is one of the setting
abbrev pub IsThere : Option Routine → Type 0
IsThere (Some r) = Unit {0}
IsThere None = ⊥

abbrev pub CallsAreThere : {n : _} → Setting → Row_of-Instr n → Type 0
CallsAreThere g end_of-Instr = Unit {0}
CallsAreThere g (more_of-Instr (Assign xs e) is) = CallsAreThere g is
CallsAreThere g (more_of-Instr (Sample x d) is) = CallsAreThere g is
CallsAreThere g (more_of-Instr (Call' xs p n es) is) = IsThere (g.procedure p) × CallsAreThere g is
CallsAreThere g (more_of-Instr (If' e m a n b) is) = CallsAreThere g a × CallsAreThere g b × CallsAreThere g is
CallsAreThere g (more_of-Instr (While' e v n a) is) = CallsAreThere g a × CallsAreThere g is
