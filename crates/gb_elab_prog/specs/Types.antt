-- What commands `type` declare.
use Rattle.std.specs.Prelude.{ℕ, suc, ◌||◌, if◌then◌else◌, List, [], ◌∷◌, ◌++◌, length, take, drop, is_some}
use Rattle.gb_core.specs.declared.place.Place.{Place}
use Rattle.gb_core.specs.declared.refusal.Why.TheVariants.{Argument, DoubleName}
use Rattle.gb_core.specs.declared.ty.Ty.{Ty}
use Rattle.gb_core.specs.declared.ty.Ty.TheVariants.{Enumeration}
use Rattle.gb_goal.specs.Answers.{Answer, ◌>>=◌, not_built}
use Rattle.gb_goal.specs.Answers.Answer.{given, refused}
use Rattle.gb_goal.specs.Scope.{Declarations, entry_of}
use Rattle.gb_goal.specs.declared.scope.Entry.{Entry}
use Rattle.gb_goal.specs.declared.scope.Entry.TheVariants as entry
use Rattle.gb_script.specs.declared.head.Head.{Head}
use Rattle.gb_script.specs.declared.head.Head.TheVariants as head
use Rattle.gb_script.specs.declared.tree.Node.{Node}
use Rattle.gb_script.specs.Tree.{text_of, place_of}
use Rattle.gb_names.specs.Types.{type_of}

-- a thing under the name that a word is
abbrev pub only : Node → Entry → Declarations
only x e = (text_of x, e) ∷ []

-- a name that nothing in scope has, and nothing that the command declares besides
abbrev pub new : Declarations → Declarations → Node → Answer (Unit {0})
new ds added x =
    if is_some (entry_of ds (text_of x)) || is_some (entry_of added (text_of x)) then refused (DoubleName (text_of x)) (place_of x) else given tt

-- constants of an enumeration behind what the command declares before them; the first one has this number
abbrev pub constants : Declarations → Ty → ℕ → Declarations → List Node → Answer Declarations
constants ds t i added [] = given added
constants ds t i added (x ∷ xs) = do
  _ ← new ds added x
  constants ds t (suc i) (added ++ only x (entry.Constant (record { ty = t; number = i }))) xs

-- what is declared, behind which no constant may stand
abbrev pub without : List Node → Declarations → Answer Declarations
without [] added = given added
without (x ∷ xs) added = refused Argument (place_of x)

-- the type of an enumeration of so many constants
abbrev pub enumeration_type : Node → ℕ → Ty
enumeration_type x n = Enumeration (text_of x) n

-- An enumeration, and its constants. It has at most 256; one more is refused once those before it are new.
abbrev pub enumeration : Declarations → Node → List Node → List Node → Answer Declarations
enumeration ds x cs more = do
  added ← constants ds (enumeration_type x (length cs)) 0 (only x (entry.Type (enumeration_type x (length cs)))) cs
  without more added

-- what a type's name stands for: any values, another type, or an enumeration
abbrev pub type_entries : Declarations → Node → Head → List Node → Place → Answer Declarations
type_entries ds x head.AbstractType ps p = given (only x entry.AbstractType)
type_entries ds x head.TypeAlias (t ∷ []) p = do
  u ← type_of ds t
  given (only x (entry.Type u))
type_entries ds x head.Enumeration (c ∷ cs) p = enumeration ds x (take 256 (c ∷ cs)) (drop 256 (c ∷ cs))
type_entries ds x _ ps p = not_built p
