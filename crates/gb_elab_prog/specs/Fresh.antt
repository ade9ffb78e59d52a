-- Names that a command may declare.
use Rattle.std.specs.Prelude.{if◌then◌else◌, is_some}
use Rattle.gb_core.specs.declared.refusal.Why.TheVariants.{DoubleName}
use Rattle.gb_goal.specs.Answers.{Answer}
use Rattle.gb_goal.specs.Answers.Answer.{given, refused}
use Rattle.gb_goal.specs.Scope.{Declarations, entry_of}
use Rattle.gb_script.specs.declared.tree.Node.{Node}
use Rattle.gb_script.specs.Tree.{text_of, place_of}

-- a name that the script hasn't declared
abbrev pub free : Declarations → Node → Answer (Unit {0})
free ds x = if is_some (entry_of ds (text_of x)) then refused (DoubleName (text_of x)) (place_of x) else given tt
