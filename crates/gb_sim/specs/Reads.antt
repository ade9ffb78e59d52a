-- What expressions, statements and procedures read, at the types at which they read it.
use Rattle.std.specs.Prelude.{ℕ, List, [], ◌∷◌, ◌++◌, Option, Some, None}
use Rattle.gb_core.specs.declared.ty.Ty.{Ty}
use Rattle.gb_core.specs.declared.ty.Ty.TheVariants as ty
use Rattle.gb_core.specs.declared.var.Var.{Var}
use Rattle.gb_core.specs.declared.var.Var.TheVariants.{Local, Glob}
use Rattle.gb_terms.specs.declared.decl.Proc.{Proc}
use Rattle.gb_terms.specs.declared.module.ProcRef.{ProcRef}
use Rattle.gb_terms.specs.declared.op.Read.TheVariants.{Program}
use Rattle.gb_terms.specs.declared.term.Term.{Term, Term', Row_of-Term, end_of-Term, more_of-Term, end_of-Head, more_of-Head}
use Rattle.gb_terms.specs.declared.term.Head.{Head}
use Rattle.gb_terms.specs.declared.term.Head.TheVariants as head
use Rattle.gb_terms.specs.declared.term.Head.TheVariants.{Assign, Sample, Call', If', While'}
use Rattle.gb_terms.specs.declared.term.Instr.{Instr, Row_of-Instr, end_of-Instr, more_of-Instr}
use Rattle.gb_goal.specs.Scope.{Declarations}
use Rattle.gb_mods.specs.declared.meant.Meant.{Meant}
use Rattle.gb_mods.specs.declared.meant.Meant.TheVariants.{Unknown, Declared, Any}
use Rattle.gb_mods.specs.Called.{all_reached}
use Rattle.gb_mods.specs.Meant.{in_front, meant_by}
use Rattle.gb_labels.specs.Reads.{Vars}

-- the variable that a head of this type reads itself
abbrev pub head_reads : Head → Ty → Vars
head_reads (head.Read (Program x r)) t = record { var = x; ty = t } ∷ []
head_reads h t = []

abbrev mutual
  -- the variables that an expression reads
  pub term_reads : Term → Vars
  term_reads (Term' b (more_of-Head h end_of-Head) n ts t) = head_reads h t ++ row_reads ts

  pub row_reads : {n : _} → Row_of-Term n → Vars
  row_reads end_of-Term = []
  row_reads (more_of-Term t ts) = term_reads t ++ row_reads ts

-- the same of lists
abbrev pub each_reads : List Term → Vars
each_reads [] = []
each_reads (t ∷ ts) = term_reads t ++ each_reads ts

abbrev mutual
  -- the variables that a statement reads itself, and the statements in it; what is called is looked at apart
  pub statement_reads : Instr → Vars
  statement_reads (Assign xs e) = term_reads e
  statement_reads (Sample x d) = term_reads d
  statement_reads (Call' xs p n es) = row_reads es
  statement_reads (If' e m a n b) = term_reads e ++ (body_reads a ++ body_reads b)
  statement_reads (While' e v n a) = term_reads e ++ (term_reads v ++ body_reads a)

  pub body_reads : {n : _} → Row_of-Instr n → Vars
  body_reads end_of-Instr = []
  body_reads (more_of-Instr i is) = statement_reads i ++ body_reads is

-- the same of lists
abbrev pub list_reads : List Instr → Vars
list_reads [] = []
list_reads (i ∷ is) = statement_reads i ++ list_reads is

abbrev pub unless_local : Var → Vars → Vars → Vars
unless_local (Local n) xs ys = ys
unless_local x xs ys = xs

-- the variables that are no locals
abbrev pub globals_among : Vars → Vars
globals_among [] = []
globals_among (x ∷ xs) = unless_local x.var (x ∷ globals_among xs) (globals_among xs)

-- the globals that a declared procedure reads itself
abbrev pub procedure_reads : Proc → Vars
procedure_reads f = globals_among (list_reads f.body.list ++ term_reads f.value)

-- all that is the own of the abstract module of this name, as one variable
abbrev pub whole : List ℕ → Vars
whole a = record { var = Glob a; ty = ty.Glob a } ∷ []

-- what a procedure reads itself, where it is known what it stands for; one of an abstract module reads all that is the module's own
abbrev pub reads_itself : Meant → Option Vars
reads_itself Unknown = None
reads_itself (Declared f) = Some (procedure_reads f)
reads_itself (Any a qs) = Some (whole a)

-- the globals that procedures read themselves, where it is known what each stands for
abbrev pub reads_by : Declarations → List ProcRef → Option Vars
reads_by ds [] = Some []
reads_by ds (p ∷ ps) = in_front (reads_itself (meant_by ds p)) (reads_by ds ps)

abbrev pub reads_if : Declarations → Option (List ProcRef) → Option Vars
reads_if ds None = None
reads_if ds (Some ps) = reads_by ds ps

-- The globals that procedures read, through every procedure that they call. They aren't known where it isn't known what one of these
-- stands for.
unfoldable pub reached_reads : Declarations → List ProcRef → Option Vars
reached_reads ds ps = reads_if ds (all_reached ds ps)
