-- Texts as trees are built of them.
use Rattle.std.specs.Prelude.{ℕ, ◌-◌, List, [], Option, Some, None, slice_get}
use Rattle.gb_core.specs.declared.place.Place.{Place}
use Rattle.gb_script.specs.declared.terminal.Terminal.{Terminal}
use Rattle.gb_script.specs.declared.terminal.Terminal.TheVariants.{Other}
use Rattle.gb_script.specs.declared.text.Lexeme.{Lexeme}
use Rattle.gb_script.specs.declared.text.Text.{Text}

abbrev pub name_or_none : Option Lexeme → List ℕ
name_or_none (Some l) = l.name
name_or_none None = []

-- the bytes of a token; none where there is no such token
abbrev pub name_at : Text → ℕ → List ℕ
name_at t at = name_or_none (slice_get t.lexemes at)

abbrev pub place_or_end : Option Lexeme → Place → Place
place_or_end (Some l) end = l.place
place_or_end None end = end

-- the place of a token; that of the end where there is no such token
abbrev pub place_at : Text → ℕ → Place
place_at t at = place_or_end (slice_get t.lexemes at) t.end

abbrev pub terminal_or_other : Option Lexeme → Terminal
terminal_or_other (Some l) = l.terminal
terminal_or_other None = Other

-- what a token is to the grammar
abbrev pub terminal_at : Text → ℕ → Terminal
terminal_at t at = terminal_or_other (slice_get t.lexemes at)

-- the place of the token before
abbrev pub place_before : Text → ℕ → Place
place_before t at = place_at t (at - 1)
