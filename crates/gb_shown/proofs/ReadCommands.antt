-- A command that is read has names where names stand, and its tuples have their parts.
use Rattle.std.proofs.Common.{inl, ℕ, List, refl}
use Rattle.gb_core.specs.declared.place.Place.{Place}
use Rattle.gb_goal.specs.Answers.Answer.{given}
use Rattle.gb_language.specs.Language.{IsPart, IsSorted, IsTextTree}
use Rattle.gb_language.specs.declared.rows.TheConstants.{COMMAND}
use Rattle.gb_lex.specs.Lex.{tokens_of}
use Rattle.gb_limits.specs.Lexeme.{kinds_of, text_at}
use Rattle.gb_read_script.specs.Reading.{SpellsTree}
use Rattle.gb_read_script.specs.Words.{IsWord}
use Rattle.gb_script.specs.declared.text.Text.{Text}
use Rattle.gb_script.specs.declared.tree.Node.{Node}
use Rattle.gb_script.specs.Each.{Each}
use Rattle.gb_shown.proofs.Full.{text_full}
use Rattle.gb_shown.specs.Words.{IsReadTree}
use Rattle.gb_shown.proofs.ReadTrees.{command_read}
use Rattle.gb_shown.proofs.NamesOfTokens.{all_worded}
use Rattle.gb_theory.specs.Outcome.{IsReadAs}

command_is_part : IsPart COMMAND
command_is_part = inl refl

pub tree_read : ((part : ℕ) (t : Text) (x : Node) → SpellsTree part t x → Each (IsWord t) x) →
    ((part : ℕ) (kinds : List ℕ) (t : Text) (x : Node) → IsPart part → IsTextTree part kinds t x → IsSorted part x) →
    (piece : List ℕ) (at : Place) (c : Node) → IsReadAs piece at (given c) → IsReadTree c
tree_read words sorted piece at c e =
    let t = text_at piece at (tokens_of piece) in
    command_read c (sorted COMMAND (kinds_of t) t c command_is_part e.1) (all_worded piece at e.2.0 c (words COMMAND t c e.1)) (text_full COMMAND (kinds_of t) t c command_is_part e.1)
