-- Modules that are bound. Programs are found by the names of modules, so no module that stands has the name of one that is bound.
use Rattle.std.specs.Prelude.{ℕ, Bool, true, false, ◌||◌, if◌then◌else◌, List, Option, Some, None, bytes_eq}
use Rattle.gb_core.specs.declared.refusal.Why.TheVariants.{DoubleName}
use Rattle.gb_terms.specs.declared.decl.Param.{Param}
use Rattle.gb_goal.specs.Answers.{Answer}
use Rattle.gb_goal.specs.Answers.Answer.{given, refused}
use Rattle.gb_goal.specs.Scope.{Declarations, entry_of}
use Rattle.gb_goal.specs.declared.scope.Entry.{Entry}
use Rattle.gb_goal.specs.declared.scope.Entry.TheVariants as entry
use Rattle.gb_script.specs.declared.tree.Node.{Node}
use Rattle.gb_script.specs.Tree.{text_of, place_of}
use Rattle.gb_names.specs.Names.{is_parameter}

-- a module, or an abstract one
abbrev pub is_module : Option Entry → Bool
is_module (Some (entry.Module m)) = true
is_module (Some (entry.AbstractModule b)) = true
is_module _ = false

-- the name of a bound module, which no module has
abbrev pub apart : Declarations → Node → Answer (Unit {0})
apart ds x = if is_module (entry_of ds (text_of x)) then refused (DoubleName (text_of x)) (place_of x) else given tt

-- the name of the module that has a parameter; a module type's own name doesn't count
abbrev pub is_own : Option (List ℕ) → List ℕ → Bool
is_own None x = false
is_own (Some n) x = bytes_eq x n

-- the name of a parameter, which neither its module has, nor a parameter before it, nor another module
abbrev pub parameter_name : Declarations → Option (List ℕ) → List Param → Node → Answer (Unit {0})
parameter_name ds own qs x =
    if is_own own (text_of x) || is_parameter qs (text_of x) then refused (DoubleName (text_of x)) (place_of x) else apart ds x
