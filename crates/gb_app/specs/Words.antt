-- What the words after the program's name ask for.
use Rattle.std.specs.Prelude.{ℕ, Bool, false, not, ◌&&◌, ◌||◌, ◌==◌, nat_le, if◌then◌else◌, List, [], ◌∷◌, length, Option, Some, None, bytes_eq, codes}
use Rattle.std.specs.List.{prefix_len}
use Rattle.std.specs.Char.{is_ascii_digit}
use Rattle.gb_limits.specs.Numbers.{number_of}

-- a word that can name a file: it isn't empty, and it doesn't begin with `-`
abbrev pub names_file : List ℕ → Bool
names_file [] = false
names_file (b ∷ bs) = not (b == 45)

-- the file that the words ask to check; other lists of words ask for nothing
abbrev pub file_of : List (List ℕ) → Option (List ℕ)
file_of (verb ∷ file ∷ []) = if bytes_eq verb (codes "check") && names_file file then Some file else None
file_of _ = None

-- whether the words ask for a session
abbrev pub asks_for_session : List (List ℕ) → Bool
asks_for_session (verb ∷ []) = bytes_eq verb (codes "step")
asks_for_session _ = false

-- whether a word spells a number: digits, the first of which is 0 only if it is alone
abbrev pub spells_number : List ℕ → Bool
spells_number [] = false
spells_number (d ∷ ds) = (not (d == 48) || length ds == 0) && prefix_len is_ascii_digit (d ∷ ds) == length (d ∷ ds)

-- the number that a word spells, if it is 200 at most
abbrev pub script_number : List ℕ → Option ℕ
script_number word = if spells_number word && nat_le (number_of word) 200 then Some (number_of word) else None

-- the number of the script that the words ask to check
abbrev pub number_asked : List (List ℕ) → Option ℕ
number_asked (verb ∷ number ∷ []) = if bytes_eq verb (codes "selftest") then script_number number else None
number_asked _ = None
