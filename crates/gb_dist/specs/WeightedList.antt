-- Weighted lists: finite distributions and sub-distributions, over a denominator that stands beside the list.
use Rattle.std.specs.Prelude.{◌≡◌, ℕ, ◌+◌, ◌*◌, ◌<◌, Bool, true, false, List, [], ◌∷◌, ◌++◌, map}

-- outcomes, each with its weight; an outcome may stand in several entries
abbrev pub WeightedList : Type 0 → Type 0
WeightedList A = List (A × ℕ)

-- the sum of weight times f over the entries
abbrev pub mass : {A : Type 0} → WeightedList A → (A → ℕ) → ℕ
mass [] f = 0
mass (e ∷ l) f = e.1 * f e.0 + mass l f

-- the sum of the weights
abbrev pub total : {A : Type 0} → WeightedList A → ℕ
total l = mass l (λ a. 1)

-- 1 for true, 0 for false
abbrev pub bit : Bool → ℕ
bit true = 1
bit false = 0

-- the weight of an event, which is given by a test of outcomes
abbrev pub weight : {A : Type 0} → WeightedList A → (A → Bool) → ℕ
weight l event = mass l (λ a. bit (event a))

-- 1 where two outcomes are equal, else 0
abbrev pub bit_of_decision : {A : Type 0} → Dec A → ℕ
bit_of_decision (yes p) = 1
bit_of_decision (no n) = 0

-- the function that is 1 at x and 0 elsewhere
abbrev pub indicator : {A : Type 0} → Discrete A → A → A → ℕ
indicator d x y = bit_of_decision (d x y)

-- the weight of one outcome
abbrev pub weight_at : {A : Type 0} → Discrete A → WeightedList A → A → ℕ
weight_at d l x = mass l (indicator d x)

-- x has some weight
abbrev pub IsInSupport : {A : Type 0} → Discrete A → WeightedList A → A → Type 0
IsInSupport d l x = 0 < weight_at d l x

-- all weights times c
abbrev pub scale : {A : Type 0} → ℕ → WeightedList A → WeightedList A
scale c [] = []
scale c (e ∷ l) = (e.0, c * e.1) ∷ scale c l

-- one outcome, of weight 1
abbrev pub unit : {A : Type 0} → A → WeightedList A
unit a = (a, 1) ∷ []

-- the list k a in place of each outcome a, with products of weights
abbrev pub bind : {A B : Type 0} → WeightedList A → (A → WeightedList B) → WeightedList B
bind [] k = []
bind (e ∷ l) k = scale e.1 (k e.0) ++ bind l k

-- the outcome g a in place of each outcome a
abbrev pub dmap : {A B : Type 0} → (A → B) → WeightedList A → WeightedList B
dmap g l = map (λ e. (g e.0, e.1)) l

-- each entry has a weight of at least 1, and its outcome is in P
abbrev pub On : {A : Type 0} → (A → Type 0) → WeightedList A → Type 0
On P [] = Unit {0}
On P (e ∷ l) = (0 < e.1) × P e.0 × On P l

-- each outcome is in P, whatever its weight
abbrev pub Every : {A : Type 0} → (A → Type 0) → WeightedList A → Type 0
Every P [] = Unit {0}
Every P (e ∷ l) = P e.0 × Every P l

-- each entry has a weight of at least 1
abbrev pub IsPositive : {A : Type 0} → WeightedList A → Type 0
IsPositive l = On (λ a. Unit {0}) l

-- l1 over k1 and l2 over k2 give each function the same expectation: they are one distribution
abbrev pub SameDistribution : {A : Type 0} → WeightedList A → ℕ → WeightedList A → ℕ → Type 0
SameDistribution {A} l1 k1 l2 k2 = (f : A → ℕ) → mass l1 f * k2 ≡ mass l2 f * k1
