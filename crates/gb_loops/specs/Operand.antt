-- The procedure whose loops `termination` is about.
use Rattle.std.specs.Prelude.{List, ◌∷◌, None}
use Rattle.gb_core.specs.declared.place.Place.{Place}
use Rattle.gb_terms.specs.declared.decl.Proc.{Proc}
use Rattle.gb_goal.specs.Answers.{Answer, ◌>>=◌, given_or, not_built}
use Rattle.gb_goal.specs.Answers.Answer.{given, refused}
use Rattle.gb_goal.specs.Scope.{Declarations, proc_of}
use Rattle.gb_goal.specs.declared.scope.ProcName.{ProcName}
use Rattle.gb_script.specs.declared.head.Head.{Head}
use Rattle.gb_script.specs.declared.head.Head.TheVariants as head
use Rattle.gb_script.specs.declared.tree.Node.{Node}
use Rattle.gb_script.specs.Tree.{head_of, text_of, parts_of, place_of}
use Rattle.gb_names.specs.Environment.{Name}
use Rattle.gb_names.specs.Judgments.{Path, declared_module, procedure_path}
use Rattle.gb_names.specs.Names.{no_declared, no_procedure, unless_unproved}
use Rattle.gb_ended.specs.Ended.{first_unproved_in}

abbrev pub proc_name : Path → ProcName
proc_name f = record { «module» = f.0; name = text_of f.1 }

-- a procedure by its name, and what it is
abbrev pub Found : Type 0
Found = ProcName × Proc

-- the name of a procedure that names no other module than its own one but those that are ended
abbrev pub ended_at : Declarations → ProcName → Place → Answer ProcName
ended_at ds f p = do
  _ ← unless_unproved (first_unproved_in ds f) p
  given f

-- A procedure whose own module may have loops that aren't proved yet, but no other module that its body names.
unfoldable pub procedure_at : Declarations → Path → Place → Answer Found
procedure_at ds f p = do
  m ← declared_module None ds f.0 p
  d ← given_or (proc_of m.procs (text_of f.1)) (no_procedure m (text_of f.1)) (place_of f.1)
  n ← ended_at ds (proc_name f) p
  given (n, d)

-- a word alone names no procedure
abbrev pub operand_by : Declarations → Head → Name → List Node → Place → Answer Found
operand_by ds head.Path x (a ∷ b ∷ bs) p = procedure_at ds (procedure_path (text_of a) b bs) p
operand_by ds head.Name x ps p = refused (no_declared None ds x) p
operand_by ds h x ps p = not_built p

-- the operand of `termination`
abbrev pub operand : Declarations → Node → Answer Found
operand ds t = operand_by ds (head_of t) (text_of t) (parts_of t) (place_of t)
