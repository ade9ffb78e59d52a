-- Comments, which nest.
use Rattle.std.specs.Prelude.{ℕ, zero, suc, ◌+◌, ◌-◌, Bool, ◌==◌, ◌&&◌, ◌||◌, List, [], ◌∷◌, Option, Some, None, codes, if◌then◌else◌, nat_eq}
use Rattle.std.specs.List.{starts_with}

-- a comment opens here
abbrev pub opens_comment : List ℕ → Bool
opens_comment text = starts_with nat_eq text (codes "(*")

-- the bytes `(` and `*`
abbrev pub is_opening : ℕ → ℕ → Bool
is_opening a b = a == 40 && b == 42

-- the bytes `*` and `)`
abbrev pub is_closing : ℕ → ℕ → Bool
is_closing a b = a == 42 && b == 41

-- how many comments are open after the byte `b`, of `depth` before it; `last` is the byte before it
abbrev pub next_depth : ℕ → ℕ → ℕ → ℕ
next_depth depth last b =
    (if is_opening last b then depth + 1 else (if is_closing last b then depth - 1 else depth))

-- the byte with which the next one may open or close a comment: no byte belongs to two marks
abbrev pub next_last : ℕ → ℕ → ℕ
next_last last b = (if is_opening last b || is_closing last b then 0 else b)

-- the end of a comment whose depth after the byte at `at` is known, and its end if it isn't there
abbrev pub ended : ℕ → ℕ → Option ℕ → Option ℕ
ended zero at later = Some (at + 1)
ended (suc depth) at later = later

-- where the outermost of `depth` open comments ends, in a text that goes on at the offset `at`
unfoldable pub comment_end : ℕ → ℕ → ℕ → List ℕ → Option ℕ
comment_end depth last at [] = None
comment_end depth last at (b ∷ rest) =
    ended (next_depth depth last b) at
    (comment_end (next_depth depth last b) (next_last last b) (at + 1) rest)
