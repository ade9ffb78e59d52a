-- The spelling that bytes are, among those from a position of a table on.
use Rattle.std.proofs.Common.{◌≡◌, ℕ, ◌<◌, ◌≤◌, ◌+◌, Bool, true, false, List, Some, None, ap, ◌∙◌, get_or, drop, length, if◌then◌else◌}
use Rattle.std.proofs.lemmas.List.{drop_more, drop_all}
use Rattle.gb_limits.specs.declared.spelling.Spelling.{Spelling}
use Rattle.gb_limits.specs.Lexeme.{spells, spelled_in}

-- it is the first one, or one behind it
spelled_first : (ss : List Spelling) (i : ℕ) (d : Spelling) (bytes : List ℕ) (b : Bool) → i < length ss → spells (get_or ss i d).text bytes ≡ b
    → spelled_in (drop i ss) bytes ≡ (if b then Some (get_or ss i d).terminal else spelled_in (drop (i + 1) ss) bytes)
spelled_first ss i d bytes b h e =
    ap (λ (l : List Spelling). spelled_in l bytes) (drop_more ss i d h) ∙ ap (λ (x : Bool). if x then Some (get_or ss i d).terminal else spelled_in (drop (i + 1) ss) bytes) e

pub spelled_here : (ss : List Spelling) (i : ℕ) (d : Spelling) (bytes : List ℕ) → i < length ss → spells (get_or ss i d).text bytes ≡ true
    → spelled_in (drop i ss) bytes ≡ Some (get_or ss i d).terminal
spelled_here ss i d bytes h e = spelled_first ss i d bytes true h e

pub spelled_behind : (ss : List Spelling) (i : ℕ) (d : Spelling) (bytes : List ℕ) → i < length ss → spells (get_or ss i d).text bytes ≡ false
    → spelled_in (drop i ss) bytes ≡ spelled_in (drop (i + 1) ss) bytes
spelled_behind ss i d bytes h e = spelled_first ss i d bytes false h e

pub spelled_nowhere : (ss : List Spelling) (i : ℕ) (bytes : List ℕ) → length ss ≤ i → spelled_in (drop i ss) bytes ≡ None
spelled_nowhere ss i bytes h = ap (λ (l : List Spelling). spelled_in l bytes) (drop_all i ss h)
