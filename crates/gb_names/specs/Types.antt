-- The types of values that a script spells.
use Rattle.std.specs.Prelude.{ℕ, ◌==◌, ◌||◌, nat_lt, if◌then◌else◌, List, [], ◌∷◌, map, take, drop, Option, Some, None, codes, bytes_eq}
use Rattle.std.specs.Option.{option_map_or}
use Rattle.gb_core.specs.declared.place.Place.{Place}
use Rattle.gb_core.specs.declared.refusal.Why.TheVariants.{Argument, TypeMismatch}
use Rattle.gb_core.specs.declared.ty.Ty.{Ty}
use Rattle.gb_core.specs.declared.ty.Ty.TheVariants as ty
use Rattle.gb_script.specs.declared.head.Head.{Head}
use Rattle.gb_script.specs.declared.head.Head.TheVariants as head
use Rattle.gb_script.specs.declared.tree.Node.{Node, para-Node}
use Rattle.gb_script.specs.Tree.{place_of, text_of}
use Rattle.gb_limits.specs.Numbers.{number_of}
use Rattle.gb_goal.specs.Scope.{Declarations, type_named}
use Rattle.gb_goal.specs.Answers.{Answer, ◌>>=◌, given_or, not_built}
use Rattle.gb_goal.specs.Answers.Answer.{given, refused}
use Rattle.gb_names.specs.Names.{no_declared, path}

-- What a type means in the scope of declarations, where the whole type that is written stands at a place.
abbrev pub Spelling : Type 0
Spelling = Declarations → Place → Answer Ty

-- The type of a word. The third one, `real`, is no type of values.
abbrev pub plain_type : List ℕ → Place → Answer Ty
plain_type x p =
    if bytes_eq x (codes "unit") then given ty.Unit
    else if bytes_eq x (codes "bool") then given ty.Bool else refused TypeMismatch p

-- a number from 1 to a bound
abbrev pub up_to : ℕ → Node → Answer ℕ
up_to most n =
    if number_of (text_of n) == 0 || nat_lt most (number_of (text_of n)) then refused Argument (place_of n)
    else given (number_of (text_of n))

-- `bits n` has strings of 1 to 16 bits
abbrev pub bits_type : List (Node × Spelling) → Place → Answer Ty
bits_type (n ∷ []) p = do
  k ← up_to 16 n.0
  given (ty.Bits k)
bits_type _ p = not_built p

-- `int[n]` has the integers modulo a number from 1 to 65,536; `int` alone is no type of values
abbrev pub int_type : List (Node × Spelling) → Place → Answer Ty
int_type [] p = refused TypeMismatch p
int_type (n ∷ []) p = do
  k ← up_to 65536 n.0
  given (ty.Mod k)
int_type _ p = not_built p

-- A type in brackets is the one inside them.
abbrev pub bracketed_type : List (Node × Spelling) → Spelling
bracketed_type (a ∷ []) ds p = a.1 ds p
bracketed_type _ ds p = not_built p

-- `t option` has one value more than t
abbrev pub option_type : List (Node × Spelling) → Spelling
option_type (a ∷ []) ds p = do
  t ← a.1 ds p
  given (ty.Opt t)
option_type _ ds p = not_built p

-- `(t, u) fmap` has the maps from values of t to values of u
abbrev pub map_type : List (Node × Spelling) → Spelling
map_type (a ∷ b ∷ []) ds p = do
  t ← a.1 ds p
  u ← b.1 ds p
  given (ty.Map t u)
map_type _ ds p = not_built p

-- what each of them gives, or the first refusal
abbrev pub all_given : {A : Type 0} → List (Answer A) → Answer (List A)
all_given [] = given []
all_given (a ∷ rest) = do
  x ← a
  xs ← all_given rest
  given (x ∷ xs)

abbrev pub all_spelled : List (Node × Spelling) → Declarations → Place → Answer (List Ty)
all_spelled ps ds p = all_given (map (λ a. a.1 ds p) ps)

-- the tuple of these parts, behind which none may stand
abbrev pub tuple_of : List Ty → List (Node × Spelling) → Answer Ty
tuple_of ts [] = given (ty.Tuple ts)
tuple_of ts (a ∷ more) = refused Argument (place_of a.0)

-- a tuple has at most 8 parts; a ninth one is refused once the parts before it are typed
abbrev pub tuple_type : List (Node × Spelling) → Spelling
tuple_type ps ds p = do
  ts ← all_spelled (take 8 ps) ds p
  tuple_of ts (drop 8 ps)

-- the type that a name stands for, where the name stands at a place
abbrev pub declared_type : Declarations → List ℕ → Place → Answer Ty
declared_type ds x q = given_or (type_named ds x) (no_declared None ds x) q

-- parts without what they spell
abbrev pub words : List (Node × Spelling) → List Node
words ps = map (λ a. a.0) ps

-- The type that each type of a script spells, from those of its parts, from left to right, and its own place. Whatever part of it is no
-- type of values, the whole type that is written is refused.
unfoldable pub spelling : Head → List ℕ → List (Node × Spelling) → Place → Spelling
spelling head.PlainType x ps q ds p = plain_type x p
spelling head.BitsType x ps q ds p = bits_type ps p
spelling head.IntType x ps q ds p = int_type ps p
spelling head.BracketedType x ps q ds p = bracketed_type ps ds p
spelling head.OptionType x ps q ds p = option_type ps ds p
spelling head.MapType x ps q ds p = map_type ps ds p
spelling head.ProductType x ps q ds p = tuple_type ps ds p
spelling head.Name x ps q ds p = declared_type ds x q
spelling head.Path x ps q ds p = declared_type ds (path (words ps)) q
spelling _ x ps q ds p = not_built p

unfoldable pub spelled : Node → Spelling
spelled = para-Node Spelling (λ l. spelling l.head l.text l.parts l.place)

-- types of a script, each with what it spells
abbrev pub with_spellings : List Node → List (Node × Spelling)
with_spellings ts = map (λ t. (t, spelled t)) ts

-- the type that a type of a script spells
abbrev pub type_of : Declarations → Node → Answer Ty
type_of ds t = spelled t ds (place_of t)

abbrev pub inner_number : List (Node × Option Ty) → Option Ty
inner_number (a ∷ []) = a.1
inner_number _ = None

abbrev pub unbounded_int : List (Node × Option Ty) → Option Ty
unbounded_int [] = Some ty.Int
unbounded_int _ = None

-- `int` or `real` itself; brackets may stand round it
unfoldable pub number_typing : Head → List ℕ → List (Node × Option Ty) → Option Ty
number_typing head.PlainType x ps = if bytes_eq x (codes "real") then Some ty.Real else None
number_typing head.IntType x ps = unbounded_int ps
number_typing head.BracketedType x ps = inner_number ps
number_typing _ x ps = None

unfoldable pub number_type : Node → Option Ty
number_type = para-Node (Option Ty) (λ l. number_typing l.head l.text l.parts)

abbrev pub with_number_types : List Node → List (Node × Option Ty)
with_number_types ts = map (λ t. (t, number_type t)) ts

-- the type that a type of a script spells where `int` and `real` may stand too
abbrev pub type_or_number : Declarations → Node → Answer Ty
type_or_number ds t = option_map_or given (number_type t) (type_of ds t)
