-- The weights of events of one list.
use Rattle.std.proofs.Common.{◌≡◌, ◌+◌, ◌<◌, ◌≤◌, Bool, true, false, not, ◌&&◌, ◌||◌, [], ◌∷◌, refl, ap, sym, ◌∙◌, arith}
use Rattle.gb_dist.specs.WeightedList.{WeightedList, total, bit, weight, Every}
use Rattle.gb_dist.proofs.Masses.{mass-times, mass-plus, mass-same, mass-every, mass-le_every}

pub bit-le : (s t : Bool) → (s ≡ true → t ≡ true) → bit s ≤ bit t
bit-le false t h = omega arith
bit-le true false h = absurd (grind (arith, h refl))
bit-le true true h = omega arith

pub bit-le_one : (s : Bool) → bit s ≤ 1
bit-le_one true = omega arith
bit-le_one false = omega arith

pub bit_pos : (s : Bool) → 0 < bit s → s ≡ true
bit_pos true h = refl
bit_pos false h = absurd (omega arith)

pub weight-le_every : {A : Type 0} (l : WeightedList A) (s t : A → Bool) → Every (λ x. s x ≡ true → t x ≡ true) l →
    weight l s ≤ weight l t
weight-le_every l s t o =
    mass-le_every {P = λ x. s x ≡ true → t x ≡ true} l (λ x. bit (s x)) (λ x. bit (t x)) o (λ x h. bit-le (s x) (t x) h)

pub weight-every : {A : Type 0} (l : WeightedList A) (s t : A → Bool) → Every (λ x. s x ≡ t x) l → weight l s ≡ weight l t
weight-every l s t o = mass-every {P = λ x. s x ≡ t x} l (λ x. bit (s x)) (λ x. bit (t x)) o (λ x h. ap bit h)

pub weight-le : {A : Type 0} (l : WeightedList A) (s t : A → Bool) → ((x : A) → s x ≡ true → t x ≡ true) → weight l s ≤ weight l t
weight-le l s t h = weight-le_every l s t (every l)
  where
    every : (l : WeightedList _) → Every (λ x. s x ≡ true → t x ≡ true) l
    every [] = tt
    every (e ∷ l) = (h e.0, every l)

pub weight-le_total : {A : Type 0} (l : WeightedList A) (s : A → Bool) → weight l s ≤ total l
weight-le_total l s = weight-le l s (λ x. true) (λ x h. refl)

pub weight-false : {A : Type 0} (l : WeightedList A) → weight l (λ x. false) ≡ 0
weight-false l = mass-times 0 l (λ x. 0) ∙ omega arith

pub weight-not : {A : Type 0} (l : WeightedList A) (s : A → Bool) → weight l s + weight l (λ x. not (s x)) ≡ total l
weight-not l s = sym (mass-plus l (λ x. bit (s x)) (λ x. bit (not (s x)))) ∙ mass-same l _ (λ x. 1) (λ x. at (s x))
  where
    at : (v : Bool) → bit v + bit (not v) ≡ 1
    at true = refl
    at false = refl

pub weight-or : {A : Type 0} (l : WeightedList A) (s t : A → Bool) →
    weight l (λ x. s x || t x) + weight l (λ x. s x && t x) ≡ weight l s + weight l t
weight-or l s t =
    sym (mass-plus l (λ x. bit (s x || t x)) (λ x. bit (s x && t x)))
    ∙ mass-same l _ (λ x. bit (s x) + bit (t x)) (λ x. at (s x) (t x))
    ∙ mass-plus l (λ x. bit (s x)) (λ x. bit (t x))
  where
    at : (v w : Bool) → bit (v || w) + bit (v && w) ≡ bit v + bit w
    at true w = refl
    at false w = omega arith

pub weight-parts : {A : Type 0} (l : WeightedList A) (s t : A → Bool) →
    weight l s ≡ weight l (λ x. s x && t x) + weight l (λ x. s x && not (t x))
weight-parts l s t =
    mass-same l (λ x. bit (s x)) (λ x. bit (s x && t x) + bit (s x && not (t x))) (λ x. at (s x) (t x))
    ∙ mass-plus l (λ x. bit (s x && t x)) (λ x. bit (s x && not (t x)))
  where
    at : (v w : Bool) → bit v ≡ bit (v && w) + bit (v && not w)
    at true true = refl
    at true false = refl
    at false w = refl
