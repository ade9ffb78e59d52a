-- Tokens that aren't left out, and numbers in range.
use Rattle.std.specs.Prelude.{ℕ, ◌^◌, Bool, true, false, not, ◌&&◌, ◌||◌, nat_eq, nat_le, nat_lt, List, codes}
use Rattle.std.specs.Str.{bytes_eq}
use Rattle.gb_limits.specs.declared.left_out.TheConstants.{LEFT_OUT}
use Rattle.gb_limits.specs.LeftOut.{is_word_of}
use Rattle.gb_limits.specs.Numbers.{number_of}

abbrev pub implies : Bool → Bool → Bool
implies true b = b
implies false b = true

-- the kinds of numbers
abbrev pub is_number_kind : ℕ → Bool
is_number_kind k = nat_eq k 3 || (nat_le 5 k && nat_le k 7)

-- A token of a kind with these bytes is no word that is left out, and not `proc`; `+` and `{` are of their kinds, and a number is in range.
unfoldable pub is_fine : ℕ → List ℕ → Bool
is_fine k n =
    not (is_word_of LEFT_OUT n)
    && (not (bytes_eq n (codes "proc"))
    && (implies (bytes_eq n (codes "+")) (nat_eq k 98)
    && (implies (bytes_eq n (codes "{")) (nat_eq k 86)
    && implies (is_number_kind k) (nat_lt (number_of n) (2 ^ 127)))))
