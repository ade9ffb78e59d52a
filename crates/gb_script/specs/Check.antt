-- The test that a grammar can be read with one token of lookahead.
use Rattle.std.specs.Prelude.{◌≡◌, ℕ, zero, suc, ◌+◌, ◌<◌, List, [], ◌∷◌, Bool, true, false, not, ◌&&◌, Option, Some, None, nat_lt, nat_le, nat_eq, if◌then◌else◌, slice_index_or, length, take, drop, ◌-◌, ◌≤◌, ◌^◌, bit_and, bit_or}
use Rattle.gb_script.specs.declared.table.Symbol.{Symbol}
use Rattle.gb_script.specs.declared.table.Symbol.TheVariants.{Token, Part}
use Rattle.gb_script.specs.declared.table.Row.{Row}
use Rattle.gb_script.specs.Grammar.{has, Production, Grammar, grammar_of}

-- What is claimed of a part: whether it may be empty, the kinds of token that it may start with and those that may
-- follow it, a weight that falls when the part is opened, and a height that falls towards some text of the part.
pub record Claim : Type 0 where
  pub nullable : Bool
  pub first : ℕ
  pub follow : ℕ
  pub weight : ℕ
  pub height : ℕ

-- What is claimed of so many parts.
pub record Claims : Type 0 where
  pub count : ℕ
  pub at : ℕ → Claim

abbrev pub claim_of : Claims → ℕ → Claim
claim_of c n = c.at n

abbrev pub implies : Bool → Bool → Bool
implies true b = b
implies false b = true

abbrev pub all_below : ℕ → (ℕ → Bool) → Bool
all_below zero f = true
all_below (suc k) f = f k && all_below k f

-- A text of the symbol, or of all the symbols, may be empty.
abbrev pub symbol_nullable : Claims → Symbol → Bool
symbol_nullable c (Token k) = false
symbol_nullable c (Part n) = (claim_of c n).nullable

abbrev pub all_nullable : Claims → List Symbol → Bool
all_nullable c [] = true
all_nullable c (s ∷ ss) = symbol_nullable c s && all_nullable c ss

-- The kinds of the first set are all in the second.
abbrev pub within : ℕ → ℕ → Bool
within a b = nat_eq (bit_and a b) a

-- No kind is in both sets.
abbrev pub apart : ℕ → ℕ → Bool
apart a b = nat_eq (bit_and a b) 0

-- the kinds of token that a text of the symbol, or of the symbols together, may start with
abbrev pub symbol_first : Claims → Symbol → ℕ
symbol_first c (Token k) = 2 ^ k
symbol_first c (Part n) = (claim_of c n).first

abbrev pub all_first : Claims → List Symbol → ℕ
all_first c [] = 0
all_first c (s ∷ ss) = if symbol_nullable c s then bit_or (symbol_first c s) (all_first c ss) else symbol_first c s

abbrev pub symbol_weight : Claims → Symbol → ℕ
symbol_weight c (Token k) = 1
symbol_weight c (Part n) = (claim_of c n).weight

-- the weight up to and with the first symbol that is not nullable
abbrev pub lead_weight : Claims → List Symbol → ℕ
lead_weight c [] = 0
lead_weight c (s ∷ ss) = symbol_weight c s + (if symbol_nullable c s then lead_weight c ss else 0)

-- The parts among the symbols are below this height.
abbrev pub symbol_lower : Claims → ℕ → Symbol → Bool
symbol_lower c h (Token k) = true
symbol_lower c h (Part n) = nat_lt (claim_of c n).height h

abbrev pub all_lower : Claims → ℕ → List Symbol → Bool
all_lower c h [] = true
all_lower c h (s ∷ ss) = symbol_lower c h s && all_lower c h ss

-- The tokens are kinds of token within a text, and the parts are below this number.
abbrev pub symbol_known : ℕ → Symbol → Bool
symbol_known parts (Token k) = nat_lt 0 k && nat_lt k 128
symbol_known parts (Part n) = nat_lt n parts

abbrev pub all_known : ℕ → List Symbol → Bool
all_known parts [] = true
all_known parts (s ∷ ss) = symbol_known parts s && all_known parts ss

-- Where part `n` is these symbols, each part among them may be followed by what comes next.
abbrev pub symbol_follow_ok : Claims → ℕ → Symbol → List Symbol → Bool
symbol_follow_ok c n (Token k) ss = true
symbol_follow_ok c n (Part m) ss = within (all_first c ss) (claim_of c m).follow && implies (all_nullable c ss) (within (claim_of c n).follow (claim_of c m).follow)

abbrev pub follow_ok : Claims → ℕ → List Symbol → Bool
follow_ok c n [] = true
follow_ok c n (s ∷ ss) = symbol_follow_ok c n s ss && follow_ok c n ss

-- where the rows of the part begin
abbrev pub place_of : List ℕ → ℕ → ℕ
place_of places n = slice_index_or places n 0

-- The rows of the part end within these many rows, and not before they begin.
abbrev pub place_ok : List ℕ → ℕ → ℕ → Bool
place_ok places rows n = nat_le (place_of places n) (place_of places (n + 1)) && nat_le (place_of places (n + 1)) rows

module _ {R : Type 0} where
  -- What is tested of the sets of a row.
  abbrev pub sets_ok : Claims → ℕ → Production R → Bool
  sets_ok c n r =
      within (all_first c (r.body)) (claim_of c n).first
      && (within (all_first c (r.body)) r.starts
      && (implies (all_nullable c (r.body)) (within (claim_of c n).follow (bit_or r.starts r.stops))
      && (apart r.starts r.stops
      && follow_ok c n (r.body))))

  abbrev pub row_ok : ℕ → Claims → ℕ → Production R → Bool
  row_ok parts c n r =
      all_known parts (r.body)
      && (implies (all_nullable c (r.body)) (claim_of c n).nullable
      && (nat_lt (lead_weight c (r.body)) (claim_of c n).weight
      && (not (has r.stops 0)
      && sets_ok c n r)))

  abbrev pub rows_ok : ℕ → Claims → Grammar R → Bool
  rows_ok parts c [] = true
  rows_ok parts c (r ∷ rs) = row_ok parts c r.part r && rows_ok parts c rs

  -- The rows stand in the order of their parts, and of each part at most one row is chosen at each kind of token. They
  -- come after rows of part `n` that are chosen at the kinds `taken`.
  abbrev pub one_chosen : ℕ → ℕ → Grammar R → Bool
  one_chosen n taken [] = true
  one_chosen n taken (r ∷ rs) =
      if nat_eq n r.part then apart taken r.starts && one_chosen n (bit_or taken r.starts) rs
      else nat_lt n r.part && one_chosen r.part r.starts rs

  -- The row leads to a text of the part.
  abbrev pub leads : Claims → ℕ → Production R → Bool
  leads c n r = nat_eq r.part n && (nat_eq r.stops 0 && all_lower c (claim_of c n).height (r.body))

  -- Some row leads to a text of part `n`, a later one to a text of the next part, and so on up to the last part.
  abbrev pub all_led : Claims → ℕ → Grammar R → Bool
  all_led c n [] = nat_le c.count n
  all_led c n (r ∷ rs) = if leads c n r then all_led c (n + 1) rs else all_led c n rs

  -- the production that is chosen at a kind of token
  abbrev pub pick_of : Grammar R → ℕ → ℕ → Option (Production R)
  pick_of [] n t = None
  pick_of (r ∷ rs) n t = if nat_eq r.part n && has r.starts t then Some r else pick_of rs n t

  -- The claims are true of all productions, and one token decides each choice.
  abbrev pub productions_ok : Claims → Grammar R → Bool
  productions_ok c g =
      rows_ok c.count c g && (one_chosen 0 0 g && all_led c 0 g)

  -- Each row, the first of them at place `i`, stands between the places of its part and of the next one.
  abbrev pub rows_placed : List ℕ → ℕ → List (Row R) → Bool
  rows_placed places i [] = true
  rows_placed places i (r ∷ rs) = nat_le (place_of places r.part) i && (nat_lt i (place_of places (r.part + 1)) && rows_placed places (i + 1) rs)

  -- The rows of each of the first parts stand together, from its place up to that of the next part.
  abbrev pub places_ok : List ℕ → ℕ → List (Row R) → Bool
  places_ok places parts g = nat_le (parts + 1) (length places) && (all_below parts (place_ok places (length g)) && rows_placed places 0 g)

  -- Up to the stage the claims are true, one token decides each choice, and the places are those of the rows. The rows
  -- up to the stage are of the parts that are claimed of, which come first.
  abbrev pub grammar_ok : ℕ → Claims → List ℕ → List (Row R) → List Symbol → Bool
  grammar_ok stage c places rows symbols = productions_ok c (grammar_of stage rows symbols) && places_ok places c.count rows

  -- the row that is chosen at a kind of token
  abbrev pub pick_row : ℕ → List (Row R) → ℕ → ℕ → Option (Row R)
  pick_row stage [] n t = None
  pick_row stage (r ∷ rs) n t = if nat_le r.stage stage && (nat_eq r.part n && has r.starts t) then Some r else pick_row stage rs n t

-- where the rows of the part are looked for
abbrev pub rows_of : {R : Type 0} → List (Row R) → List ℕ → ℕ → List (Row R)
rows_of g places n = take (place_of places (n + 1) - place_of places n) (drop (place_of places n) g)

-- The rows of the part are all found at its places.
pub record IsPlaced {R : Type 0} (stage : ℕ) (g : List (Row R)) (places : List ℕ) (n : ℕ) : Type 0 where
  pub known : n + 1 < length places
  pub ordered : place_of places n ≤ place_of places (n + 1)
  pub within : place_of places (n + 1) ≤ length g
  pub all : (t : ℕ) → pick_row stage (rows_of g places n) n t ≡ pick_row stage g n t

-- The part is one that a text may be, with the end after it.
abbrev pub is_start : Claims → ℕ → Bool
is_start c n = nat_lt n c.count && has (claim_of c n).follow 0
