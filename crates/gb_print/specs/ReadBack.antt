-- What printed text is read as.
use Rattle.std.specs.Prelude.{◌≡◌, ℕ, List, None, length}
use Rattle.gb_core.specs.declared.place.Place.{Place as TextPlace}
use Rattle.gb_script.specs.declared.table.Step.{Step}
use Rattle.gb_language.specs.declared.rows.TheConstants.{FORM}
use Rattle.gb_lex.specs.Lex.{tokens_of, fault_of}
use Rattle.gb_limits.specs.Lexeme.{text_at}
use Rattle.gb_limits.specs.Limits.{NoneTooDeep}
use Rattle.gb_read_script.specs.Reading.{IsText, SpellsForm, IsAllowed}
use Rattle.gb_script.specs.declared.action.Rule.{Rule}
use Rattle.gb_script.specs.declared.text.Text.{Text}
use Rattle.gb_script.specs.declared.tree.Node.{Node}
use Rattle.gb_print.specs.Nodes.{placeless}

-- the tokens of bytes that begin at a place of a text
abbrev pub tokens_at : List ℕ → TextPlace → Text
tokens_at bytes at = text_at bytes at (tokens_of bytes)

-- The text is a form within 64 levels.
abbrev pub IsShallow : Text → Type 0
IsShallow t = (steps : List (Step Rule)) → IsText FORM t steps → NoneTooDeep t steps (length t.lexemes)

-- The bytes spell a form, whose tree is this one but for its places, and they spell no other. No byte starts no token, and where the
-- form is within 64 levels, no other limit is passed: then what reads the tokens as a form finds this tree, if memory lasts.
pub record IsReadAs (bytes : List ℕ) (x : Node) : Type 0 where
  pub some : (at : TextPlace) → (y : Node) × SpellsForm (tokens_at bytes at) y × (placeless y ≡ x)
  pub only : (at : TextPlace) (y : Node) → SpellsForm (tokens_at bytes at) y → placeless y ≡ x
  pub faultless : fault_of bytes ≡ None
  pub allowed : (at : TextPlace) → IsShallow (tokens_at bytes at) → IsAllowed FORM (tokens_at bytes at)
