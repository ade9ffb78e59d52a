-- Meanings of a type.
use Rattle.std.specs.Prelude.{◌≡◌, ◌<◌, true, List, [], ◌∷◌}
use Rattle.gb_core.specs.declared.ty.Ty.{Ty}
use Rattle.gb_core.specs.declared.ty.Ty.TheVariants as ty
use Rattle.gb_dist.specs.WeightedList.{Every}
use Rattle.gb_meaning.specs.Values.{Types, has}
use Rattle.gb_meaning.specs.Setting.{Meaning}
use Rattle.gb_meaning.specs.Setting.Meaning.{finite, whole, fraction, weights}
use Rattle.gb_meaning.specs.Operators.{Argument, outcome_type}
use Rattle.gb_laws.specs.Operators.{IsDistributionType}

abbrev pub IsInt : Ty → Type 0
IsInt ty.Int = Unit {0}
IsInt _ = ⊥

abbrev pub IsReal : Ty → Type 0
IsReal ty.Real = Unit {0}
IsReal _ = ⊥

abbrev pub IsOfDistributions : Ty → Type 0
IsOfDistributions (ty.Distr' p x) = Unit {0}
IsOfDistributions _ = ⊥

-- A meaning of a type: one of its values; a whole number of type `int`; a fraction of type `real`, with a denominator
-- above 0; or weights of values, of a type of distributions.
abbrev pub IsOf : Types → Ty → Meaning → Type 0
IsOf ts t (finite v) = has ts t v ≡ true
IsOf ts t (whole n) = IsInt t
IsOf ts t (fraction a) = IsReal t × (0 < a.1)
IsOf ts t (weights d) = IsOfDistributions t × Every (λ v. has ts (outcome_type t) v ≡ true) d

-- Each argument of an operator is of its type, and a distribution among them has a denominator above 0.
abbrev pub AreGiven : Types → List (Ty × Argument) → Type 0
AreGiven ts [] = Unit {0}
AreGiven ts (x ∷ xs) = (IsOf ts x.0 x.1.meaning × (IsDistributionType x.0 → 0 < x.1.denominator)) × AreGiven ts xs
