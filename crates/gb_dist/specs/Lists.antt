-- Distributions over values, as weighted lists.
use Rattle.std.specs.Prelude.{ℕ, zero, suc, ◌<◌, Bool, true, false, ◌&&◌, nat_lt, if◌then◌else◌, List, [], ◌∷◌, ◌++◌}
use Rattle.gb_core.specs.declared.value.Value.{Value}
use Rattle.gb_core.specs.declared.value.Value.TheVariants.{Num, Many}
use Rattle.gb_core.specs.Numbering.{Numbering}
use Rattle.gb_dist.specs.WeightedList.{WeightedList, bind, dmap, scale}

-- the fair coin, over 2
abbrev pub coin : WeightedList Value
coin = (Num 0, 1) ∷ (Num 1, 1) ∷ []

-- the values at the places below n, each of weight 1
abbrev pub values_below : Numbering → ℕ → WeightedList Value
values_below t zero = []
values_below t (suc n) = values_below t n ++ (t.at n, 1) ∷ []

-- the uniform distribution of a type, over its size
abbrev pub uniform : Numbering → WeightedList Value
uniform t = values_below t t.size

-- the pairs of an outcome with those of a list, with products of weights
abbrev pub paired : Value × ℕ → WeightedList Value → WeightedList Value
paired x e = scale x.1 (dmap (λ w. Many (x.0 ∷ w ∷ [])) e)

-- pairs of independent outcomes, over the product
abbrev pub product : WeightedList Value → WeightedList Value → WeightedList Value
product d e = bind d (λ v. dmap (λ w. Many (v ∷ w ∷ [])) e)

-- the entries that pass a test, given by its truth at each entry in order
abbrev pub kept : List Bool → WeightedList Value → WeightedList Value
kept (true ∷ bs) (e ∷ d) = e ∷ kept bs d
kept (false ∷ bs) (e ∷ d) = kept bs d
kept _ _ = []

-- the entries whose outcomes pass a test
abbrev pub restricted : WeightedList Value → (Value → Bool) → WeightedList Value
restricted [] p = []
restricted (e ∷ d) p = if p e.0 then e ∷ restricted d p else restricted d p

-- each outcome's image in its place, given in order
abbrev pub imaged : List Value → WeightedList Value → WeightedList Value
imaged (v ∷ vs) (e ∷ d) = (v, e.1) ∷ imaged vs d
imaged _ _ = []

-- each weight is above 0
abbrev pub is_positive : WeightedList Value → Bool
is_positive [] = true
is_positive (e ∷ l) = nat_lt 0 e.1 && is_positive l

-- the numbers increase, from above this one on
abbrev pub IsAbove : ℕ → List ℕ → Type 0
IsAbove k [] = Unit {0}
IsAbove k (n ∷ ns) = (k < n) × IsAbove n ns

abbrev pub IsIncreasing : List ℕ → Type 0
IsIncreasing [] = Unit {0}
IsIncreasing (n ∷ ns) = IsAbove n ns
