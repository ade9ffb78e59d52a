-- Which variables statements and procedures read or write.
use Rattle.std.specs.Prelude.{List, [], ◌∷◌, ◌++◌, Option, None}
use Rattle.gb_core.specs.declared.var.Var.{Var}
use Rattle.gb_core.specs.declared.var.Var.TheVariants.{Glob}
use Rattle.gb_terms.specs.declared.decl.Proc.{Proc}
use Rattle.gb_terms.specs.declared.module.ProcRef.{ProcRef}
use Rattle.gb_terms.specs.declared.term.Instr.{Instr}
use Rattle.gb_terms.specs.declared.term.Term.{Term}
use Rattle.gb_mods.specs.declared.meant.Meant.{Meant}
use Rattle.gb_mods.specs.declared.meant.Meant.TheVariants.{Unknown, Declared, Any}
use Rattle.gb_meaning.specs.Footprints.{body_touched, globals_among, touched, variables}

-- what is called is looked at apart
abbrev pub apart : ProcRef → Option (List Var)
apart p = None

-- the variables that a statement reads or writes itself, and those of the statements in it
abbrev pub statement_touched : Instr → List Var
statement_touched i = touched apart i

-- the same of lists
abbrev pub each_touched : List Instr → List Var
each_touched is = body_touched apart is

-- the variables that expressions read
abbrev pub each_variables : List Term → List Var
each_variables [] = []
each_variables (t ∷ ts) = variables t ++ each_variables ts

-- the globals that a declared procedure reads or writes itself
abbrev pub touched_in : Proc → List Var
touched_in f = globals_among (each_touched f.body.list ++ variables f.value)

-- the same of what a reference stands for; a procedure of an abstract module touches all that is the module's own
abbrev pub touched_itself : Meant → List Var
touched_itself Unknown = []
touched_itself (Declared f) = touched_in f
touched_itself (Any a qs) = Glob a ∷ []
