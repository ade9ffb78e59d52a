-- Numerals.
use Rattle.std.specs.Prelude.{ℕ, ◌^◌, min, pos, nat_lt, Bool, false, ◌&&◌, if◌then◌else◌, List, [], ◌∷◌, map, Option, Some, None}
use Rattle.std.specs.Option.{option_map_or}
use Rattle.gb_core.specs.declared.place.Place.{Place}
use Rattle.gb_core.specs.declared.refusal.Why.TheVariants.{Argument}
use Rattle.gb_core.specs.declared.ty.Ty.{Ty, out-Ty}
use Rattle.gb_core.specs.declared.ty.Ty.TheOpen as layer
use Rattle.gb_core.specs.declared.ty.Ty.TheVariants as ty
use Rattle.gb_core.specs.declared.value.Value.TheVariants.{Num}
use Rattle.gb_limits.specs.Numbers.{number_of}
use Rattle.gb_terms.specs.declared.term.Term.{Term}
use Rattle.gb_terms.specs.declared.term.Head.TheVariants.{Lit, Whole}
use Rattle.gb_terms.specs.Make.{node}
use Rattle.gb_script.specs.declared.head.Head.{Head}
use Rattle.gb_script.specs.declared.head.Head.TheVariants as head
use Rattle.gb_script.specs.declared.tree.Node.{Node, para-Node}
use Rattle.gb_goal.specs.Answers.{Answer, ◌>>=◌, not_built}
use Rattle.gb_goal.specs.Answers.Answer.{given, refused}
use Rattle.gb_names.specs.Environment.{Name, Environment}
use Rattle.gb_names.specs.Allowed.{stands}

abbrev pub holds_layer : ℕ → layer.Ty-F Ty → Bool
holds_layer n (layer.Mod m) = nat_lt n m
holds_layer n (layer.Bits k) = nat_lt n (min (2 ^ k) (2 ^ 63))
holds_layer n _ = false

-- `int[n]` and `bits n` hold the numbers below their sizes; numbers of values are below 2^63
abbrev pub holds : ℕ → Ty → Bool
holds n t = holds_layer n (out-Ty t)

-- a whole number
abbrev pub as_whole : Environment → ℕ → Option Ty → Place → Answer Term
as_whole at n w p = do
  _ ← stands at w p ty.Int
  given (node (Whole (pos n)) [] ty.Int)

-- a number of a wanted type that holds it, else a whole number
abbrev pub number : Environment → ℕ → Option Ty → Place → Answer Term
number at n None p = as_whole at n None p
number at n (Some t) p = if nat_lt n (2 ^ 63) && holds n t then given (node (Lit (Num n)) [] t) else as_whole at n (Some t) p

-- a numeral; the readers pass none from 2^127 on
abbrev pub numeral : Environment → Name → Option Ty → Place → Answer Term
numeral at x w p = if nat_lt (number_of x) (2 ^ 127) then number at (number_of x) w p else not_built p

abbrev pub inner : {A : Type 0} → List (Node × Option A) → Option A
inner (a ∷ []) = a.1
inner _ = None

-- the number that a numeral is; brackets may stand round it
unfoldable pub numbering : Head → Name → List (Node × Option ℕ) → Option ℕ
numbering head.Number x ps = if nat_lt (number_of x) (2 ^ 127) then Some (number_of x) else None
numbering head.Bracketed x ps = inner ps
numbering _ x ps = None

unfoldable pub number_in : Node → Option ℕ
number_in = para-Node (Option ℕ) (λ l. numbering l.head l.text l.parts)

abbrev pub with_numbers : List Node → List (Node × Option ℕ)
with_numbers ts = map (λ t. (t, number_in t)) ts

abbrev pub inner_place : List (Node × Place) → Place → Place
inner_place (a ∷ []) p = a.1
inner_place _ p = p

-- the place of a form; brackets round it are passed over
unfoldable pub placing : Head → List (Node × Place) → Place → Place
placing head.Bracketed ps p = inner_place ps p
placing _ ps p = p

unfoldable pub place_inside : Node → Place
place_inside = para-Node Place (λ l. placing l.head l.parts l.place)

abbrev pub with_places : List Node → List (Node × Place)
with_places ts = map (λ t. (t, place_inside t)) ts

-- a number from 1 to 65,536, below which a sum counts
abbrev pub is_bound : ℕ → Bool
is_bound n = nat_lt 0 n && nat_lt n 65537

abbrev pub bound_of : Node → Answer ℕ
bound_of q = option_map_or (λ n. if is_bound n then given n else refused Argument (place_inside q)) (number_in q) (refused Argument (place_inside q))

abbrev pub divisor : List (Node × Option ℕ) → Option ℕ
divisor (a ∷ []) = number_in a.0
divisor _ = None

-- the number of a divisor, a numeral as a fraction; brackets may stand round it
unfoldable pub dividing : Head → List (Node × Option ℕ) → Option ℕ
dividing head.ToReal ps = divisor ps
dividing head.Bracketed ps = inner ps
dividing _ ps = None

unfoldable pub divisor_in : Node → Option ℕ
divisor_in = para-Node (Option ℕ) (λ l. dividing l.head l.parts)

abbrev pub with_divisors : List Node → List (Node × Option ℕ)
with_divisors ts = map (λ t. (t, divisor_in t)) ts

-- a fraction is divided by a literal above 0
abbrev pub is_divisor : Node → Bool
is_divisor n = option_map_or (nat_lt 0) (divisor_in n) false

-- the number of a part of a tuple as trees have it; no part has the number 0
abbrev pub part_number : Name → ℕ
part_number x = if nat_lt (number_of x) 256 then number_of x else 0
