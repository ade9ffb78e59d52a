-- Words of the language that this prover leaves out.
use Rattle.std.specs.Prelude.{◌≡◌, ℕ, ◌<◌, zero, suc, Bool, true, false, ◌&&◌, ◌||◌, List, [], ◌∷◌, length, codes}
use Rattle.std.specs.Str.{bytes_eq}
use Rattle.gb_limits.specs.declared.left_out.TheConstants.{LEFT_OUT}
use Rattle.gb_script.specs.declared.text.Text.{Text}
use Rattle.gb_limits.specs.Lexeme.{spells}
use Rattle.gb_script.specs.Text.{name_at}

-- These bytes are one of the words.
unfoldable pub is_word_of : List (List ℕ) → List ℕ → Bool
is_word_of [] bytes = false
is_word_of (w ∷ ws) bytes = spells w bytes || is_word_of ws bytes

-- A token with these bytes is left out behind one with those: `+` behind `{`, and `*` behind `proc`.
abbrev pub is_left_out : List ℕ → List ℕ → Bool
is_left_out before name =
    is_word_of LEFT_OUT name || (bytes_eq name (codes "+") && bytes_eq before (codes "{")) || (bytes_eq name (codes "*") && bytes_eq before (codes "proc"))

-- the bytes of the token before a position, if there is one
abbrev pub name_before : Text → ℕ → List ℕ
name_before t zero = []
name_before t (suc i) = name_at t i

-- The token at a position is left out.
abbrev pub left_out_at : Text → ℕ → Bool
left_out_at t i = is_left_out (name_before t i) (name_at t i)

pub record IsFirstLeftOut (t : Text) (i : ℕ) : Type 0 where
  pub within : i < length t.lexemes
  pub here : left_out_at t i ≡ true
  pub first : (j : ℕ) → j < i → left_out_at t j ≡ false

abbrev pub NoneLeftOut : Text → Type 0
NoneLeftOut t = (j : ℕ) → j < length t.lexemes → left_out_at t j ≡ false
