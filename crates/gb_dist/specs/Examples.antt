-- Small lists, on which the definitions are tried.
use Rattle.std.specs.Prelude.{ℕ, zero, suc, Bool, true, false, not, ◌||◌, [], ◌∷◌}
use Rattle.gb_dist.specs.WeightedList.{WeightedList}

-- a fair coin, over 2
abbrev pub coin : WeightedList Bool
coin = (true, 1) ∷ (false, 1) ∷ []

-- a coin that is true with a probability of one third, over 3
abbrev pub unfair_coin : WeightedList Bool
unfair_coin = (true, 1) ∷ (false, 2) ∷ []

-- a fair die with four sides, over 4
abbrev pub four_sided_die : WeightedList ℕ
four_sided_die = (1, 1) ∷ (2, 1) ∷ (3, 1) ∷ (4, 1) ∷ []

abbrev pub is_even : ℕ → Bool
is_even zero = true
is_even (suc n) = not (is_even n)

abbrev pub implies : Bool → Bool → Bool
implies a b = not a || b
