-- The languages that are read.
use Rattle.std.specs.Prelude.{◌≡◌, ℕ, List, [], ◌∷◌, ◌⊎◌, nat_eq, if◌then◌else◌}
use Rattle.gb_script.specs.declared.table.Row.{Row}
use Rattle.gb_script.specs.declared.table.Symbol.{Symbol}
use Rattle.gb_script.specs.Check.{Claims}
use Rattle.gb_script.specs.Grammar.{Grammar, grammar_of}
use Rattle.gb_language.specs.declared.bodies.TheConstants.{SYMBOLS}
use Rattle.gb_language.specs.declared.rows.TheConstants.{SCRIPTS, GOALS, ROWS, PLACES, COMMAND, FORM, ENTRY, HYPOTHESIS}
use Rattle.gb_script.specs.declared.action.Rule.{Rule}
use Rattle.gb_language.specs.Claims.{claims}
use Rattle.gb_language.specs.Spelling.{spelling}
use Rattle.gb_language.specs.Sorts.{name_kind, number_kind, type_kind, command_sort, form_sort, bind_sort, hypothesis_sort, part_sorts, signatures}
use Rattle.gb_script.specs.declared.head.Head.{Head}
use Rattle.gb_script.specs.declared.text.Text.{Text}
use Rattle.gb_script.specs.declared.tree.Node.{Node}
use Rattle.gb_script.specs.Build.{IsTree}
use Rattle.gb_script.specs.Each.{Each}
use Rattle.gb_script.specs.Spelled.{IsSpelled}
use Rattle.gb_script.specs.Sorts.{Sort, Language, ValueSort, Is}

-- the rows of the table
unfoldable pub all_rows : List (Row Rule)
all_rows = ROWS

-- the bodies of the rows
unfoldable pub all_symbols : List Symbol
all_symbols = SYMBOLS

-- where the rows of each part begin
unfoldable pub all_places : List ℕ
all_places = PLACES

-- what is claimed of the parts that are read at a stage
unfoldable pub claimed : ℕ → Claims
claimed stage = claims stage

-- The grammar of the language.
unfoldable pub language : Grammar Rule
language = grammar_of SCRIPTS all_rows all_symbols

-- The grammar of what stands in goals.
unfoldable pub goal_language : Grammar Rule
goal_language = grammar_of GOALS all_rows all_symbols

-- The texts of the language are commands and forms.
abbrev pub IsPart : ℕ → Type 0
IsPart part = (part ≡ COMMAND) ⊎ (part ≡ FORM)

-- The lines of a goal are entries of its context, hypotheses and forms.
abbrev pub IsLine : ℕ → Type 0
IsLine part = (part ≡ ENTRY) ⊎ ((part ≡ HYPOTHESIS) ⊎ (part ≡ FORM))

-- The kinds of token spell this tree, as a text of a part of the language, or as a line of a goal.
abbrev pub IsTextTree : ℕ → List ℕ → Text → Node → Type 0
IsTextTree part kinds t x = IsTree language part kinds t x

abbrev pub IsLineTree : ℕ → List ℕ → Text → Node → Type 0
IsLineTree part kinds t x = IsTree goal_language part kinds t x

-- the sort of the trees of the parts that texts and lines are
abbrev pub tree_sort : ℕ → Sort
tree_sort part = if nat_eq part COMMAND then command_sort else if nat_eq part FORM then form_sort else if nat_eq part ENTRY then bind_sort else hypothesis_sort

-- the signatures of heads, and the sorts of parts
unfoldable pub node_signatures : Language
node_signatures = signatures

unfoldable pub value_sorts : ℕ → List ValueSort
value_sorts n = part_sorts n

-- The tree is well-sorted, as those of the part.
abbrev pub IsSorted : ℕ → Node → Type 0
IsSorted part x = Is node_signatures (tree_sort part) x

-- the kinds of token that spell the nodes of each head that has a text
unfoldable pub node_spelling : Head → List ℕ
node_spelling h = spelling h

-- Names, numbers and types of one word stand where their tokens do.
abbrev pub still_kinds : Sort
still_kinds = name_kind ∷ number_kind ∷ type_kind ∷ []

-- In a text with these kinds of token, the text of each node of the tree is that of a token of a kind of its head, and names,
-- numbers and types stand at the token's place.
abbrev pub IsTreeSpelled : List ℕ → Text → Node → Type 0
IsTreeSpelled kinds t x = Each (IsSpelled node_signatures node_spelling still_kinds kinds t) x

-- the part that a text is of, and its kinds of token
pub record Of : Type 0 where
  pub part : ℕ
  pub kinds : List ℕ
