-- What is known of the levels of a text in front of its parts and behind them: how many operands their chains have.
use Rattle.std.specs.Prelude.{ℕ, ◌≡◌, ◌+◌, ◌≤◌, Bool, true, false, not, ◌&&◌, if◌then◌else◌, nat_eq, nat_le, max, List, [], ◌∷◌, ◌++◌, Option, Some, None}
use Rattle.std.specs.List.{list_any}
use Rattle.gb_script.specs.declared.table.Symbol.{Symbol}
use Rattle.gb_script.specs.declared.table.Symbol.TheVariants.{Token, Part}
use Rattle.gb_script.specs.Grammar.{Production}
use Rattle.gb_limits.specs.declared.level.Bracket.{Bracket}
use Rattle.gb_limits.specs.declared.level.Bracket.TheVariants.{Opens, Closes, Neither}
use Rattle.gb_limits.specs.declared.level.Level.{Level}
use Rattle.gb_limits.specs.declared.level.Opening.{Opening}
use Rattle.gb_limits.specs.declared.level.Opening.TheVariants as by
use Rattle.gb_limits.specs.Level.{counted, nested, is_long, top_is_long}
use Rattle.gb_script.specs.declared.action.Mark.{Mark}
use Rattle.gb_script.specs.declared.action.Rule.{Rule}
use Rattle.gb_script.specs.declared.head.Head.{Head}
use Rattle.gb_script.specs.declared.head.Head.TheVariants as head
use Rattle.gb_script.specs.declared.terminal.Terminal.{Terminal}
use Rattle.gb_script.specs.declared.tree.Node.{Node}
use Rattle.gb_script.specs.declared.value.Value.{Value}
use Rattle.gb_script.specs.declared.value.Value.TheVariants.{Tree, Trees}
use Rattle.gb_script.specs.Tree.{head_of}
use Rattle.gb_script.specs.Value.{trees_of}

-- Levels.

-- the levels with what a mark begins in the innermost one, behind this token
abbrev pub begun_by : Mark → Terminal → List Level → List Level
begun_by m b [] = []
begun_by m b (l ∷ ls) = counted m b l ∷ ls

-- Prefixes `-` that are open in a level: none; some, of which the innermost has no operand yet; or any.
pub data Open : Type 0 where
  shut : Open
  awaits : Open
  any : Open

-- What is known of a level: whether a bracket opened it or not, whether prefixes `-` are open in it, and how many operands its chains have at most.
pub record Known : Type 0 where
  pub bracket : Bool
  pub minuses : Open
  pub implied : ℕ
  pub disjuncts : ℕ
  pub conjuncts : ℕ
  pub sums : ℕ

abbrev pub opening_of : Bool → Opening
opening_of true = by.Bracket
opening_of false = by.Form

-- a level in which nothing has begun
abbrev pub new : Bool → Known
new b = record { bracket = b; minuses = shut; implied = 0; disjuncts = 0; conjuncts = 0; sums = 0 }

-- a level of short chains
abbrev pub low : Bool → Known
low b = record { bracket = b; minuses = shut; implied = 100; disjuncts = 100; conjuncts = 100; sums = 100 }

abbrev pub is_shut : Open → Bool
is_shut shut = true
is_shut awaits = false
is_shut any = false

abbrev pub is_minus : Opening → Bool
is_minus by.Minus = true
is_minus by.BoundedMinus = true
is_minus by.Form = false
is_minus by.Bracket = false

-- a level is as is known
pub record Within (a : Known) (l : Level) : Type 0 where
  pub opening : l.opening ≡ opening_of a.bracket
  pub implied : l.implied ≤ a.implied
  pub disjuncts : l.disjuncts ≤ a.disjuncts
  pub conjuncts : l.conjuncts ≤ a.conjuncts
  pub summands : l.summands ≤ a.sums
  pub factors : l.factors ≤ a.sums
  pub short : is_long l ≡ false

-- the level of a prefix `-`, with so many operands at most
pub record IsMinus (n : ℕ) (l : Level) : Type 0 where
  pub opening : is_minus l.opening ≡ true
  pub implied : l.implied ≡ 0
  pub disjuncts : l.disjuncts ≡ 0
  pub conjuncts : l.conjuncts ≡ 0
  pub summands : l.summands ≤ n
  pub factors : l.factors ≤ n

pub data AreMinus : List Level → Type 0 where
  no_minus : AreMinus []
  one_minus : {l : Level} {ls : List Level} → IsMinus 1 l → AreMinus ls → AreMinus (l ∷ ls)

pub data Minuses : Open → List Level → Type 0 where
  none_open : Minuses shut []
  awaiting : {l : Level} {ls : List Level} → IsMinus 0 l → AreMinus ls → Minuses awaits (l ∷ ls)
  any_open : {ls : List Level} → AreMinus ls → Minuses any ls

-- All of these levels have short chains.
pub data Short : List Level → Type 0 where
  short_none : Short []
  short_more : {l : Level} {ls : List Level} → is_long l ≡ false → Short ls → Short (l ∷ ls)

-- Levels in front of others are as is known.
pub data Fits (rest : List Level) : List Known → List Level → Type 0 where
  unknown : Short rest → Fits rest [] rest
  known : {a : Known} {xs : List Known} {ms ls all : List Level} {l : Level} → all ≡ ms ++ (l ∷ ls) → Minuses a.minuses ms → Within a l → Fits rest xs ls → Fits rest (a ∷ xs) all

-- Operands that stand in lists of items.

abbrev pub is_joined : Head → Bool
is_joined head.Implies = true
is_joined head.Iff = true
is_joined head.Or = true
is_joined head.And = true
is_joined head.Product = true
is_joined head.Quotient = true
is_joined head.PowerProduct = true
is_joined head.Sum = true
is_joined head.Difference = true
is_joined head.Xor = true
is_joined head.Bounded = true
is_joined _ = false

abbrev pub one_if : Bool → ℕ
one_if true = 1
one_if false = 0

abbrev pub joined_in : List Node → ℕ
joined_in [] = 0
joined_in (x ∷ xs) = one_if (is_joined (head_of x)) + joined_in xs

abbrev pub joined_behind : List Value → ℕ
joined_behind [] = 0
joined_behind (v ∷ vs) = joined_in (trees_of v) + joined_behind vs

-- how many operands stand in lists among values, or behind the first one
abbrev pub operands_in : List Value → ℕ
operands_in [] = 0
operands_in (Tree x ∷ vs) = joined_behind vs
operands_in (Trees xs ∷ vs) = joined_in xs + joined_behind vs

-- Parts.

-- What a part of the grammar does to levels.
pub data Class : Type 0 where
  plain : Class  -- leaves them
  whole : Class  -- has chains of its own in the innermost level
  begins : Class
  ends : Class
  closes : Class  -- closes a bracket
  closes_function : Class  -- ends a level and closes a bracket
  closes_variant : Class  -- closes a bracket, behind which the variant of a loop goes on
  disjunction : Class
  implications : Class
  conjunction : Class
  disjuncts : Class
  negation : Class
  conjuncts : Class
  sum : Class
  comparison : Class
  operand : Class
  run : Class
  bound : Class  -- the bound of a judgment
  braced : Class  -- a run behind what closes a bracket

abbrev is_among : List ℕ → ℕ → Bool
is_among ns n = list_any (λ m. nat_eq m n) ns

abbrev chain_class : ℕ → Class
chain_class n =
    if nat_eq n 127 then disjunction
    else if nat_eq n 128 then disjuncts
    else if nat_eq n 129 then conjunction
    else if nat_eq n 130 then conjuncts
    else if nat_eq n 131 then negation
    else if nat_eq n 132 then comparison
    else if nat_eq n 133 then sum
    else if nat_eq n 134 then operand
    else if nat_eq n 137 then braced
    else if is_among (135 ∷ 136 ∷ []) n then run
    else if nat_eq n 139 then bound
    else implications

abbrev pub class_of : ℕ → Class
class_of n =
    if is_among (54 ∷ 55 ∷ 56 ∷ 57 ∷ 58 ∷ 59 ∷ 60 ∷ 61 ∷ 62 ∷ 63 ∷ 64 ∷ 66 ∷ 120 ∷ 122 ∷ 152 ∷ 153 ∷ 154 ∷ 253 ∷ []) n then whole
    else if is_among (72 ∷ 81 ∷ 82 ∷ 96 ∷ 119 ∷ 142 ∷ 149 ∷ 150 ∷ []) n then closes
    else if nat_eq n 151 then closes_function
    else if is_among (65 ∷ 67 ∷ []) n then closes_variant
    else if nat_eq n 249 then begins
    else if nat_eq n 250 then ends
    else if is_among (123 ∷ 124 ∷ 125 ∷ 126 ∷ 127 ∷ 128 ∷ 129 ∷ 130 ∷ 131 ∷ 132 ∷ 133 ∷ 134 ∷ 135 ∷ 136 ∷ 137 ∷ 139 ∷ []) n then chain_class n
    else plain

-- Levels of which the innermost known one passes a test, and what becomes of it.
pub record Becomes (test : Known → Bool) (f : Known → Known) (xs bs : List Known) : Type 0 where
  pub first : Known
  pub more : List Known
  pub is : xs ≡ first ∷ more
  pub fits : test first ≡ true
  pub becomes : bs ≡ f first ∷ more

-- .. where it ends
pub record Ends (test : Known → Bool) (xs bs : List Known) : Type 0 where
  pub first : Known
  pub is : xs ≡ first ∷ bs
  pub fits : test first ≡ true

-- .. where the innermost one ends, and something becomes of the next
pub record EndsAnd (end test : Known → Bool) (f : Known → Known) (xs bs : List Known) : Type 0 where
  pub first : Known
  pub middle : List Known
  pub is : xs ≡ first ∷ middle
  pub fits : end first ≡ true
  pub behind : Becomes test f middle bs

abbrev pub is_low : Known → Bool
is_low a = is_shut a.minuses && (nat_le a.implied 100 && (nat_le a.disjuncts 100 && (nat_le a.conjuncts 100 && nat_le a.sums 100)))

abbrev pub is_low_bracket : Known → Bool
is_low_bracket a = a.bracket && is_low a

abbrev pub is_low_form : Known → Bool
is_low_form a = not a.bracket && is_low a

abbrev pub may_imply : ℕ → Known → Bool
may_imply k a = is_shut a.minuses && (nat_le (a.implied + k) 200 && (nat_le a.disjuncts 100 && (nat_le a.conjuncts 100 && nat_le a.sums 100)))

abbrev pub may_disjoin : ℕ → Known → Bool
may_disjoin k a = is_shut a.minuses && (nat_le a.implied 200 && (nat_le (a.disjuncts + k) 200 && (nat_le a.conjuncts 100 && nat_le a.sums 100)))

abbrev pub may_conjoin : ℕ → Known → Bool
may_conjoin k a = is_shut a.minuses && (nat_le a.implied 200 && (nat_le a.disjuncts 200 && (nat_le (a.conjuncts + k) 200 && nat_le a.sums 100)))

abbrev pub may_sum : Known → Bool
may_sum a = is_shut a.minuses && (nat_le a.implied 200 && (nat_le a.disjuncts 200 && nat_le a.conjuncts 200))

abbrev pub may_compare : Known → Bool
may_compare a = may_sum a && nat_le a.sums 100

-- no operand stands behind others where prefixes `-` are open
abbrev pub is_free_open : ℕ → Open → Bool
is_free_open c shut = true
is_free_open c awaits = nat_eq c 0
is_free_open c any = nat_eq c 0

abbrev pub not_any : Open → Bool
not_any shut = true
not_any awaits = true
not_any any = false

abbrev pub may_operate : ℕ → ℕ → Known → Bool
may_operate c k a = is_free_open c a.minuses && (nat_le a.implied 200 && (nat_le a.disjuncts 200 && (nat_le a.conjuncts 200 && nat_le (a.sums + k) 200)))

abbrev pub implying : ℕ → Known → Known
implying k a = record { bracket = a.bracket; minuses = shut; implied = a.implied + k; disjuncts = 100; conjuncts = 100; sums = 100 }

abbrev pub disjoining : ℕ → Known → Known
disjoining k a = record { bracket = a.bracket; minuses = shut; implied = a.implied; disjuncts = a.disjuncts + k; conjuncts = 100; sums = 100 }

abbrev pub conjoining : ℕ → Known → Known
conjoining k a = record { bracket = a.bracket; minuses = shut; implied = a.implied; disjuncts = a.disjuncts; conjuncts = a.conjuncts + k; sums = 100 }

abbrev pub summed : ℕ → Known → Known
summed n a = record { bracket = a.bracket; minuses = shut; implied = a.implied; disjuncts = a.disjuncts; conjuncts = a.conjuncts; sums = n }

-- how many operands an operand adds
abbrev pub added_by : ℕ → Open → ℕ
added_by c shut = 1 + c
added_by c awaits = 0
added_by c any = 0

abbrev pub may_begin : ℕ → Known → Bool
may_begin c a = not_any a.minuses && may_operate c (added_by c a.minuses) a

abbrev pub operating : ℕ → Known → Known
operating k a = summed (max (a.sums + k) 60) a

abbrev pub beginning : ℕ → Known → Known
beginning c a = operating (added_by c a.minuses) a

-- What a part of a class makes of what is known, where lists have so many operands at most.
abbrev pub Effect : Class → ℕ → List Known → List Known → Type 0
Effect plain c xs bs = bs ≡ xs
Effect whole c xs bs = Becomes is_low (λ a. low a.bracket) xs bs
Effect begins c xs bs = bs ≡ new false ∷ xs
Effect ends c xs bs = Ends is_low_form xs bs
Effect closes c xs bs = Ends is_low_bracket xs bs
Effect closes_function c xs bs = (ms : List Known) × Ends is_low_form xs ms × Ends is_low_bracket ms bs
Effect closes_variant c xs bs = EndsAnd is_low_bracket is_low (λ a. low a.bracket) xs bs
Effect disjunction c xs bs = Becomes (may_imply 1) (implying 1) xs bs
Effect implications c xs bs = Becomes (may_imply c) (implying c) xs bs
Effect conjunction c xs bs = Becomes (may_disjoin 1) (disjoining 1) xs bs
Effect disjuncts c xs bs = Becomes (may_disjoin c) (disjoining c) xs bs
Effect negation c xs bs = Becomes (may_conjoin 1) (conjoining 1) xs bs
Effect conjuncts c xs bs = Becomes (may_conjoin c) (conjoining c) xs bs
Effect sum c xs bs = Becomes may_sum (summed 60) xs bs
Effect comparison c xs bs = Becomes may_compare (summed 100) xs bs
Effect operand c xs bs = Becomes (may_begin c) (beginning c) xs bs
Effect run c xs bs = Becomes (may_operate c c) (operating c) xs bs
Effect bound c xs bs = Becomes (λ a. is_shut a.minuses && may_operate c c a) (operating c) xs bs
Effect braced c xs bs = EndsAnd is_low_bracket (may_operate c c) (operating c) xs bs

-- what a token of a kind does to brackets
abbrev pub bracket_kind : ℕ → Bracket
bracket_kind k = if is_among (82 ∷ 84 ∷ 86 ∷ 88 ∷ 89 ∷ []) k then Opens else if is_among (83 ∷ 85 ∷ 87 ∷ []) k then Closes else Neither

abbrev pub over_bracket : Bracket → List Known → Option (List Known)
over_bracket Opens xs = Some (new true ∷ xs)
over_bracket Closes [] = None
over_bracket Closes (a ∷ xs) = if is_low_bracket a then Some xs else None
over_bracket Neither xs = Some xs

-- What symbols make of what is known.
pub data Effects (c : ℕ) : List Symbol → List Known → List Known → Type 0 where
  nothing : {xs : List Known} → Effects c [] xs xs
  over_token : {k : ℕ} {ss : List Symbol} {xs bs cs : List Known} → over_bracket (bracket_kind k) xs ≡ Some bs → Effects c ss bs cs → Effects c (Token k ∷ ss) xs cs
  over_part : {n : ℕ} {ss : List Symbol} {xs bs cs : List Known} → Effect (class_of n) c xs bs → Effects c ss bs cs → Effects c (Part n ∷ ss) xs cs

-- By a production with so many operands in the lists of its body, levels that fit pass to such as fit what its part makes of them.
pub record Passes (r : Production Rule) (operands : ℕ) (b : Terminal) (rest : List Level) (bs : List Known) (all : List Level) : Type 0 where
  pub short : top_is_long (begun_by r.rule.mark b all) ≡ false
  pub credit : ℕ
  pub enough : operands ≤ credit
  pub below : List Level
  pub known_before : List Known
  pub known_behind : List Known
  pub fits : Fits below known_before (nested r.rule.mark (begun_by r.rule.mark b all))
  pub effects : Effects credit r.body known_before known_behind
  pub within : (ls : List Level) → Fits below known_behind ls → Fits rest bs ls

-- A production does to levels what its part does, with so many operands in the lists of its body and of what it makes.
abbrev pub Conforms : Production Rule → ℕ → ℕ → Type 0
Conforms r operands made = (c : ℕ) → made ≤ c → (b : Terminal) (rest : List Level) (xs bs : List Known) (all : List Level)
    → Effect (class_of r.part) c xs bs → Fits rest xs all → Passes r operands b rest bs all
