-- Tuples, types of tuples and what is written in trees that the readers make have their parts.
use Rattle.std.specs.Prelude.{ℕ, List}
use Rattle.gb_script.specs.declared.text.Text.{Text}
use Rattle.gb_script.specs.declared.tree.Node.{Node}
use Rattle.gb_language.specs.Language.{IsPart, IsLine, IsTextTree, IsLineTree}
use Rattle.gb_shown.specs.Trees.{IsFullTree}

-- in the tree of a text of the language
abbrev pub TextsAreFull : Type 0
TextsAreFull = (part : ℕ) (kinds : List ℕ) (t : Text) (x : Node) → IsPart part → IsTextTree part kinds t x → IsFullTree x

-- in that of a line of a goal
abbrev pub LinesAreFull : Type 0
LinesAreFull = (part : ℕ) (kinds : List ℕ) (t : Text) (x : Node) → IsLine part → IsLineTree part kinds t x → IsFullTree x
