-- The symbols of the language.
use Rattle.std.specs.Prelude.{ℕ, Bool, ◌==◌, List, [], ◌∷◌, codes, if◌then◌else◌, nat_eq}
use Rattle.std.specs.List.{list_any}
use Rattle.std.specs.Cmp.Lexicographic.{pointwise}

-- the symbols of one byte
abbrev pub singles : List ℕ
singles = codes "()[]{},;:|!?*+-/<>=~@&"

-- the symbols of two bytes
abbrev pub pairs : List (List ℕ)
pairs =
    codes "+^" ∷ codes "<-" ∷ codes "<$" ∷ codes "<@" ∷ codes "<:" ∷ codes "<=" ∷ codes "<>"
    ∷ codes ">=" ∷ codes "=>" ∷ codes "={" ∷ codes "->" ∷ codes "&&" ∷ codes "||" ∷ codes "/\\"
    ∷ codes "\\/" ∷ codes "//" ∷ codes "/#" ∷ codes "%r" ∷ codes ".[" ∷ codes ".`" ∷ codes "`|" ∷ []

-- the symbols of three bytes
abbrev pub triples : List (List ℕ)
triples = codes "<=>" ∷ codes "==>" ∷ codes "\\in" ∷ codes "`*`" ∷ []

abbrev pub is_single : ℕ → Bool
is_single a = list_any (λ s. s == a) singles

abbrev pub is_pair : ℕ → ℕ → Bool
is_pair a b = list_any (λ s. pointwise nat_eq s (a ∷ b ∷ [])) pairs

abbrev pub is_triple : ℕ → ℕ → ℕ → Bool
is_triple a b c = list_any (λ s. pointwise nat_eq s (a ∷ b ∷ c ∷ [])) triples

-- the size of the symbol `a`, or 0 where it is none
abbrev pub single_size : ℕ → ℕ
single_size a = (if is_single a then 1 else 0)

-- the size of the longest symbol at the front of these two bytes
abbrev pub pair_size : ℕ → ℕ → ℕ
pair_size a b = (if is_pair a b then 2 else single_size a)

-- the size of the longest symbol at the front of these three bytes
abbrev pub triple_size : ℕ → ℕ → ℕ → ℕ
triple_size a b c = (if is_triple a b c then 3 else pair_size a b)

-- the size of the longest symbol at the front of a text, or 0 where none stands there
unfoldable pub symbol_size : List ℕ → ℕ
symbol_size [] = 0
symbol_size (a ∷ []) = single_size a
symbol_size (a ∷ b ∷ []) = pair_size a b
symbol_size (a ∷ b ∷ c ∷ rest) = triple_size a b c
