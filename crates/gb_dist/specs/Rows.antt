-- Rows: values with their weights.
use Rattle.std.specs.Prelude.{ℕ, ◌+◌, Bool, List, [], ◌∷◌, ◌++◌, map, pos}
use Rattle.gb_core.specs.declared.value.Value.{Value}
use Rattle.gb_dist.specs.WeightedList.{WeightedList, total}
use Rattle.gb_dist.specs.Operations.{Operation, product_of, sum_of}
use Rattle.gb_dist.specs.declared.row.Row.{Row}
use Rattle.gb_dist.specs.Lists.{is_positive}

-- the weighted list that rows are
abbrev pub entries : List Row → WeightedList Value
entries rs = map (λ r. (r.value, r.weight)) rs

-- the sum of the weights
abbrev pub weight_of : List Row → ℕ
weight_of rs = total (entries rs)

abbrev pub are_positive : List Row → Bool
are_positive rs = is_positive (entries rs)

-- the products of the weights of a list with a number
abbrev pub scaling_steps : WeightedList Value → ℕ → List Operation
scaling_steps [] c = []
scaling_steps (e ∷ l) c = product_of (pos e.1) (pos c) ∷ scaling_steps l c

-- the products of a number with the weights of a list
abbrev pub pairing_steps : ℕ → WeightedList Value → List Operation
pairing_steps c [] = []
pairing_steps c (e ∷ l) = product_of (pos c) (pos e.1) ∷ pairing_steps c l

-- the products of the weights of two lists
abbrev pub product_steps : WeightedList Value → WeightedList Value → List Operation
product_steps [] e = []
product_steps (x ∷ d) e = pairing_steps x.1 e ++ product_steps d e

-- the sum of the weights of a list, one by one, onto a number
abbrev pub adding_steps : ℕ → WeightedList Value → List Operation
adding_steps n [] = []
adding_steps n (e ∷ l) = sum_of (pos n) (pos e.1) ∷ adding_steps (n + e.1) l
