-- What commands `type`, `op` and `module type` declare.
use Rattle.std.specs.Prelude.{List, [], ◌∷◌}
use Rattle.gb_core.specs.declared.place.Place.{Place}
use Rattle.gb_goal.specs.Answers.{Answer, ◌>>=◌, not_built}
use Rattle.gb_goal.specs.Answers.Answer.{given}
use Rattle.gb_goal.specs.Scope.{Declarations}
use Rattle.gb_script.specs.declared.head.Head.{Head}
use Rattle.gb_script.specs.declared.head.Head.TheVariants as head
use Rattle.gb_script.specs.declared.tree.Node.{Node}
use Rattle.gb_script.specs.Tree.{head_of, parts_of, place_of}
use Rattle.gb_elab_prog.specs.Fresh.{free}
use Rattle.gb_elab_prog.specs.Types.{only, type_entries}
use Rattle.gb_elab_prog.specs.ModuleTypes.{module_type_entries}
use Rattle.gb_elab_prog.specs.Operators.{operator_entry}

-- an operator of a new name
abbrev pub operator_entries : Declarations → Node → Node → Answer Declarations
operator_entries ds x d = do
  _ ← free ds x
  e ← operator_entry ds (head_of d) (parts_of d) (place_of d)
  given (only x e)

-- What a command declares, by its head and its parts. The last clause takes other trees, of which the reader builds none with these
-- heads, since each of its trees is well-sorted.
abbrev pub entries_by : Declarations → Head → List Node → Place → Answer Declarations
entries_by ds head.TypeDeclaration (x ∷ d ∷ []) p = do
  _ ← free ds x
  type_entries ds x (head_of d) (parts_of d) (place_of d)
entries_by ds head.OperatorDeclaration (x ∷ d ∷ []) p = operator_entries ds x d
entries_by ds head.ModuleType (x ∷ qs ∷ ss ∷ []) p = module_type_entries ds x (parts_of qs) (parts_of ss)
entries_by ds _ _ p = not_built p

-- what a command of a script declares
abbrev pub entries_given : Declarations → Node → Answer Declarations
entries_given ds t = entries_by ds (head_of t) (parts_of t) (place_of t)
