-- Distributions over values, as weighted lists: what each form of distribution gives its outcomes.
use Rattle.std.specs.Prelude.{ℕ, zero, suc, ◌+◌, Bool, if◌then◌else◌, List, [], ◌∷◌, ◌++◌, map}
use Rattle.gb_core.specs.declared.value.Value.{Value}
use Rattle.gb_core.specs.declared.value.Value.TheVariants.{Num, Many}
use Rattle.gb_core.specs.Numbering.{Numbering}
use Rattle.gb_terms.specs.declared.term.Pair.{Pair}
use Rattle.gb_dist.specs.WeightedList.{WeightedList, bind, dmap}

-- the fair coin, over 2
abbrev pub coin : WeightedList Value
coin = (Num 0, 1) ∷ (Num 1, 1) ∷ []

-- the values at the places below n, each of weight 1
abbrev pub values_below : Numbering → ℕ → WeightedList Value
values_below t zero = []
values_below t (suc n) = values_below t n ++ (t.at n, 1) ∷ []

-- the uniform distribution of a type, over its size
abbrev pub uniform : Numbering → WeightedList Value
uniform t = values_below t t.size

-- the stated weights, over their sum
abbrev pub stated : List Pair → WeightedList Value
stated ps = map (λ p. (p.value, p.weight)) ps

abbrev pub sum_of_weights : List Pair → ℕ
sum_of_weights [] = 0
sum_of_weights (p ∷ ps) = p.weight + sum_of_weights ps

-- pairs of independent outcomes, over the product
abbrev pub product : WeightedList Value → WeightedList Value → WeightedList Value
product d e = bind d (λ v. dmap (λ w. Many (v ∷ w ∷ [])) e)

-- the entries that pass a test, over the same denominator: a sub-distribution
abbrev pub restricted : WeightedList Value → (Value → Bool) → WeightedList Value
restricted [] p = []
restricted (e ∷ d) p = if p e.0 then e ∷ restricted d p else restricted d p
