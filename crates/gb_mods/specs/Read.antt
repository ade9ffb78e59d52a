-- Which variables statements and procedures read.
use Rattle.std.specs.Prelude.{List, [], ◌∷◌, ◌++◌, Option, Some, None}
use Rattle.std.specs.Option.{option_map}
use Rattle.gb_core.specs.declared.var.Var.{Var}
use Rattle.gb_core.specs.declared.var.Var.TheVariants.{Glob}
use Rattle.gb_terms.specs.declared.decl.Proc.{Proc}
use Rattle.gb_terms.specs.declared.module.ProcRef.{ProcRef}
use Rattle.gb_terms.specs.declared.term.Head.TheVariants.{Assign, Sample, Call', If', While'}
use Rattle.gb_terms.specs.declared.term.Instr.{Instr, Row_of-Instr, end_of-Instr, more_of-Instr}
use Rattle.gb_goal.specs.Scope.{Declarations}
use Rattle.gb_mods.specs.declared.meant.Meant.{Meant}
use Rattle.gb_mods.specs.declared.meant.Meant.TheVariants.{Unknown, Declared, Any}
use Rattle.gb_mods.specs.Meant.{in_front, meant_by}
use Rattle.gb_meaning.specs.Footprints.{globals_among, variables, variables_in}
use Rattle.gb_mods.specs.Called.{all_reached}
use Rattle.gb_mods.specs.Order.{joined}

abbrev mutual
  -- The variables that a statement reads itself, and those of the statements in it. A target isn't read.
  pub statement_read : Instr → List Var
  statement_read (Assign xs e) = variables e
  statement_read (Sample x d) = variables d
  statement_read (Call' xs p n es) = variables_in es
  statement_read (If' e m a n b) = variables e ++ row_read a ++ row_read b
  statement_read (While' e v n a) = variables e ++ variables v ++ row_read a

  pub row_read : {n : _} → Row_of-Instr n → List Var
  row_read end_of-Instr = []
  row_read (more_of-Instr i is) = statement_read i ++ row_read is

-- the same of lists
abbrev pub each_read : List Instr → List Var
each_read [] = []
each_read (i ∷ is) = statement_read i ++ each_read is

-- the globals that a declared procedure reads itself, in its body and in what it returns
abbrev pub read_in : Proc → List Var
read_in f = globals_among (each_read f.body.list ++ variables f.value)

-- What a procedure reads itself, where it is known what it stands for. One of an abstract module reads all that is the module's own.
abbrev pub read_itself : Meant → Option (List Var)
read_itself Unknown = None
read_itself (Declared f) = Some (read_in f)
read_itself (Any a qs) = Some (Glob a ∷ [])

-- the globals that procedures read themselves, where it is known what each stands for
abbrev pub read_by : Declarations → List ProcRef → Option (List Var)
read_by ds [] = Some []
read_by ds (p ∷ ps) = in_front (read_itself (meant_by ds p)) (read_by ds ps)

abbrev pub read_if : Declarations → Option (List ProcRef) → Option (List Var)
read_if ds None = None
read_if ds (Some ps) = option_map (λ xs. joined xs []) (read_by ds ps)

-- The globals that a procedure reads, through every procedure that it calls, in order. They aren't known where it isn't known what one
-- of these stands for.
unfoldable pub read : Declarations → ProcRef → Option (List Var)
read ds p = read_if ds (all_reached ds (p ∷ []))
