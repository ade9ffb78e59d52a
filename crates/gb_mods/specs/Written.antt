-- Which variables statements and procedures write.
use Rattle.std.specs.Prelude.{List, [], ◌∷◌, ◌++◌, Option, Some, None}
use Rattle.std.specs.Option.{option_map}
use Rattle.gb_core.specs.declared.var.Var.{Var}
use Rattle.gb_core.specs.declared.var.Var.TheVariants.{Glob}
use Rattle.gb_terms.specs.declared.module.ProcRef.{ProcRef}
use Rattle.gb_terms.specs.declared.term.Head.TheVariants.{Assign, Sample, Call', If', While'}
use Rattle.gb_terms.specs.declared.term.Instr.{Instr, Row_of-Instr, end_of-Instr, more_of-Instr}
use Rattle.gb_goal.specs.Scope.{Declarations}
use Rattle.gb_mods.specs.declared.meant.Meant.{Meant}
use Rattle.gb_mods.specs.declared.meant.Meant.TheVariants.{Unknown, Declared, Any}
use Rattle.gb_mods.specs.Meant.{in_front, meant_by}
use Rattle.gb_meaning.specs.Footprints.{globals_among}
use Rattle.gb_mods.specs.Called.{all_reached}
use Rattle.gb_mods.specs.Order.{joined}

abbrev mutual
  -- the variables that a statement assigns or samples itself, and those of the statements in it
  pub statement_targets : Instr → List Var
  statement_targets (Assign xs e) = xs
  statement_targets (Sample x d) = x ∷ []
  statement_targets (Call' xs p n es) = xs
  statement_targets (If' e m a n b) = row_targets a ++ row_targets b
  statement_targets (While' e v n a) = row_targets a

  pub row_targets : {n : _} → Row_of-Instr n → List Var
  row_targets end_of-Instr = []
  row_targets (more_of-Instr i is) = statement_targets i ++ row_targets is

-- the same of lists
abbrev pub targets : List Instr → List Var
targets [] = []
targets (i ∷ is) = statement_targets i ++ targets is

-- What a procedure writes itself, where it is known what it stands for. One of an abstract module writes all that is the module's own.
abbrev pub written_itself : Meant → Option (List Var)
written_itself Unknown = None
written_itself (Declared f) = Some (globals_among (targets f.body.list))
written_itself (Any a qs) = Some (Glob a ∷ [])

-- the globals that procedures write themselves, where it is known what each stands for
abbrev pub written_by : Declarations → List ProcRef → Option (List Var)
written_by ds [] = Some []
written_by ds (p ∷ ps) = in_front (written_itself (meant_by ds p)) (written_by ds ps)

abbrev pub written_if : Declarations → Option (List ProcRef) → Option (List Var)
written_if ds None = None
written_if ds (Some ps) = option_map (λ xs. joined xs []) (written_by ds ps)

-- The globals that a procedure writes, through every procedure that it calls, in order. They aren't known where it isn't known what one
-- of these stands for.
unfoldable pub written : Declarations → ProcRef → Option (List Var)
written ds p = written_if ds (all_reached ds (p ∷ []))
