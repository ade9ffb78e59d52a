-- The places in a text.
use Rattle.std.specs.Prelude.{ℕ, ◌+◌, ◌==◌, List, fold, if◌then◌else◌}
use Rattle.gb_core.specs.declared.place.Place.{Place}

-- the place after a byte: a line feed begins a new line
abbrev pub next_place : Place → ℕ → Place
next_place p b =
    (if b == 10 then record { file = p.file; line = p.line + 1; col = 1 }
    else record { file = p.file; line = p.line; col = p.col + 1 })

-- the place after a text that begins at the place `p`
unfoldable pub place_after : Place → List ℕ → Place
place_after p text = fold next_place p text
