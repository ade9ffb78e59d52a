-- Where a form stands.
use Rattle.std.specs.Prelude.{ℕ, Bool, true, false, List, [], Option, Some, None, bytes_eq}
use Rattle.std.specs.Option.{option_copied}
use Rattle.gb_terms.specs.declared.decl.Module.{Module}
use Rattle.gb_terms.specs.declared.decl.TypedName.{TypedName}
use Rattle.gb_terms.specs.declared.op.Side.{Side}
use Rattle.gb_terms.specs.declared.op.Side.TheVariants as side
use Rattle.gb_goal.specs.declared.sequent.Sequent.{Sequent}
use Rattle.gb_goal.specs.Scope.{Declarations}
use Rattle.gb_names.specs.declared.setting.Language.{Language}
use Rattle.gb_names.specs.declared.setting.Language.TheVariants.{Formula, Function, Program, Sampled, Operator}
use Rattle.gb_names.specs.declared.setting.Memories as of_memories
use Rattle.gb_names.specs.declared.setting.Memories.TheVariants as of
use Rattle.gb_names.specs.declared.setting.Setting.{Setting}
use Rattle.gb_names.specs.declared.setting.Variables.{Variables}
use Rattle.gb_names.specs.declared.setting.Variables.TheVariants.{Absent, Own, Sides}

abbrev pub Name : Type 0
Name = List ℕ

-- Of the named memories, those of the context and those that are bound in a form, the ones that it may read: all; all, but
-- none in the judgments in it; the one of a name; or none.
pub data Memories : Type 0 where
  every : Memories
  outside : Memories
  only : Name → Memories
  none : Memories

-- what the judgments in a form may read
abbrev pub in_judgments : Memories → Memories
in_judgments every = every
in_judgments _ = none

-- what the arguments of a probability from the memory of a name may read
abbrev pub in_arguments : Name → Memories → Memories
in_arguments x none = none
in_arguments x _ = only x

abbrev pub may_read : Memories → Name → Bool
may_read (only y) x = bytes_eq y x
may_read none x = false
may_read _ x = true

-- What the names of a form mean: the declarations of the script, the module around it as far as it is typed, the context of the
-- sequent around it, the program variables and the named memories that it may read, and the language that it is written in.
pub record Environment : Type 0 where
  pub declared : Declarations
  pub inside : Option Module
  pub sequent : Sequent
  pub variables : Variables
  pub memories : Memories
  pub language : Language

-- the same, of references
abbrev pub memories_seen : of_memories.Memories → Memories
memories_seen of.All = every
memories_seen of.Outside = outside
memories_seen (of.Only x) = only x.now
memories_seen of.None = none

abbrev pub environment : Setting → Environment
environment s = record {
  declared = s.scope.now;
  inside = option_copied s.inside;
  sequent = s.sequent.now;
  variables = s.variables;
  memories = memories_seen s.memories;
  language = s.language;
}

-- a form that may read other named memories
abbrev pub reading : Memories → Environment → Environment
reading m at = record at { memories = m }

-- a form of a proof step that reads no program variable
abbrev pub ambient : Declarations → Sequent → Environment
ambient ds s = record { declared = ds; inside = None; sequent = s; variables = Absent; memories = every; language = Formula }

-- .. on one program with these variables
abbrev pub unary : Declarations → Sequent → List TypedName → Environment
unary ds s vs = record { declared = ds; inside = None; sequent = s; variables = Own vs; memories = every; language = Formula }

-- .. on two programs with these variables
abbrev pub relational : Declarations → Sequent → List TypedName → List TypedName → Environment
relational ds s l r = record { declared = ds; inside = None; sequent = s; variables = Sides l r; memories = every; language = Formula }

-- the statement of a lemma
abbrev pub statement : Declarations → Sequent → Environment
statement ds s = reading outside (ambient ds s)

-- a function of a proof step, on two programs with these variables
abbrev pub of_function : Declarations → Sequent → List TypedName → List TypedName → Environment
of_function ds s l r = record { declared = ds; inside = None; sequent = s; variables = Sides l r; memories = every; language = Function }

-- the body of an operator
abbrev pub of_operator : Declarations → Sequent → Environment
of_operator ds s = record { declared = ds; inside = None; sequent = s; variables = Absent; memories = none; language = Operator }

-- an expression of a program of this module, which is typed so far, with these variables
abbrev pub program : Declarations → Module → Sequent → List TypedName → Environment
program ds m s vs = record { declared = ds; inside = Some m; sequent = s; variables = Own vs; memories = none; language = Program }

abbrev pub own_of : Variables → List TypedName
own_of (Own vs) = vs
own_of _ = []

-- the variables that are read by their names alone
abbrev pub own : Environment → List TypedName
own at = own_of at.variables

abbrev pub sides_of : Variables → Side → Option (List TypedName)
sides_of (Sides l r) side.Left = Some l
sides_of (Sides l r) side.Right = Some r
sides_of _ s = None

-- the variables of one of two programs
abbrev pub on_side : Environment → Side → Option (List TypedName)
on_side at s = sides_of at.variables s

abbrev pub sampled_in : Language → Language
sampled_in Program = Sampled
sampled_in l = l

abbrev pub valued_in : Language → Language
valued_in Sampled = Program
valued_in l = l

-- a form in another language
abbrev pub speaking : Language → Environment → Environment
speaking l at = record at { language = l }

-- a distribution that is sampled where the form is, of whatever type
abbrev pub sampled : Environment → Environment
sampled at = speaking (sampled_in at.language) at

-- a part that isn't sampled where the form is
abbrev pub valued : Environment → Environment
valued at = speaking (valued_in at.language) at
