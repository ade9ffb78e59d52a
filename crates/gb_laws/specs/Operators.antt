-- The types of the built-in operators.
use Rattle.std.specs.Prelude.{◌≡◌, ℕ, zero, suc, pred, ◌<◌, List, [], ◌∷◌, Option, Some, None}
use Rattle.sqlite_items.specs.formers.items.Items.{the_former}
use Rattle.gb_core.specs.declared.ty.Ty.{Ty, Row_of-Ty, end_of-Ty, more_of-Ty}
use Rattle.gb_core.specs.declared.ty.Ty.TheVariants as ty
use Rattle.gb_terms.specs.declared.op.Op.{Op}
use Rattle.gb_terms.specs.declared.op.Op.TheVariants as op
use Rattle.gb_meaning.specs.Operators.{only_type, outcome_type, key_type}
use Rattle.gb_meaning.specs.Trees.{distributions, options}
use Rattle.gb_laws.specs.Finite.{IsFinite}
use mathlib.Core.Former.{arity, this}

abbrev pub places : List Ty → List (Unit {0})
places [] = []
places (t ∷ ts) = tt ∷ places ts

abbrev pub row : (ts : List Ty) → Row_of-Ty (arity (the_former (this {0})) (places ts))
row [] = end_of-Ty
row (t ∷ ts) = more_of-Ty t (row ts)

-- the type of tuples of these parts
abbrev pub tuples : List Ty → Ty
tuples ts = ty.Tuple' (places ts) (row ts)

-- the type of maps from keys of one type to values of another
abbrev pub maps : Ty → Ty → Ty
maps k t = ty.Map' tt (more_of-Ty k end_of-Ty) tt (more_of-Ty t end_of-Ty)

abbrev pub items : {n : _} → Row_of-Ty n → List Ty
items end_of-Ty = []
items (more_of-Ty t r) = t ∷ items r

-- the types of the parts of a tuple
abbrev pub parts_in : Ty → List Ty
parts_in (ty.Tuple' n ts) = items ts
parts_in _ = []

-- the type of a part, counted from 0
abbrev pub item : List Ty → ℕ → Option Ty
item [] i = None
item (t ∷ ts) zero = Some t
item (t ∷ ts) (suc i) = item ts i

-- these types are all one type
abbrev pub Are : List Ty → Ty → Type 0
Are [] t = Unit {0}
Are (a ∷ ts) t = (a ≡ t) × Are ts t

abbrev pub AreFinite : List Ty → Type 0
AreFinite [] = Unit {0}
AreFinite (t ∷ ts) = IsFinite t × AreFinite ts

-- a type that isn't one of distributions
abbrev pub IsNoDistribution : Ty → Type 0
IsNoDistribution (ty.Distr' p x) = ⊥
IsNoDistribution _ = Unit {0}

-- `int[n]`, texts of bits, whole numbers and fractions are in order
abbrev pub IsOrdered : Ty → Type 0
IsOrdered (ty.Mod n) = Unit {0}
IsOrdered (ty.Bits n) = Unit {0}
IsOrdered ty.Int = Unit {0}
IsOrdered ty.Real = Unit {0}
IsOrdered _ = ⊥

-- there are sums of `int[n]`, of whole numbers and of fractions
abbrev pub IsArithmetic : Ty → Type 0
IsArithmetic (ty.Mod n) = 0 < n
IsArithmetic ty.Int = Unit {0}
IsArithmetic ty.Real = Unit {0}
IsArithmetic _ = ⊥

-- whole numbers and fractions have signs
abbrev pub IsSigned : Ty → Type 0
IsSigned ty.Int = Unit {0}
IsSigned ty.Real = Unit {0}
IsSigned _ = ⊥

-- what exclusive or combines
abbrev pub IsOfBits : Ty → Type 0
IsOfBits ty.Bool = Unit {0}
IsOfBits (ty.Bits n) = Unit {0}
IsOfBits _ = ⊥

-- whole numbers, and those below a bound, are reals too
abbrev pub IsOfNumbers : Ty → Type 0
IsOfNumbers (ty.Mod n) = Unit {0}
IsOfNumbers ty.Int = Unit {0}
IsOfNumbers _ = ⊥

abbrev pub IsDistributionType : Ty → Type 0
IsDistributionType (ty.Distr' p (more_of-Ty t end_of-Ty)) = IsFinite t
IsDistributionType _ = ⊥

-- the type of the values of a map
abbrev pub entry_type : Ty → Ty
entry_type (ty.Map' p k q x) = only_type x
entry_type _ = ty.Unit

abbrev pub IsOptionType : Ty → Type 0
IsOptionType (ty.Opt' p (more_of-Ty t end_of-Ty)) = IsFinite t
IsOptionType _ = ⊥

abbrev pub IsMapType : Ty → Type 0
IsMapType (ty.Map' p (more_of-Ty k end_of-Ty) q (more_of-Ty t end_of-Ty)) = IsFinite k × IsFinite t
IsMapType _ = ⊥

-- The table: an operator, the types of its arguments, and the type of its result.
abbrev pub IsOperator : Op → List Ty → Ty → Type 0
IsOperator op.Not (a ∷ []) t = Are (a ∷ t ∷ []) ty.Bool
IsOperator op.And (a ∷ b ∷ []) t = Are (a ∷ b ∷ t ∷ []) ty.Bool
IsOperator op.Or (a ∷ b ∷ []) t = Are (a ∷ b ∷ t ∷ []) ty.Bool
IsOperator op.Implies (a ∷ b ∷ []) t = Are (a ∷ b ∷ t ∷ []) ty.Bool
IsOperator op.Iff (a ∷ b ∷ []) t = Are (a ∷ b ∷ t ∷ []) ty.Bool
IsOperator op.Equal (a ∷ b ∷ []) t = IsNoDistribution a × (a ≡ b) × (t ≡ ty.Bool)
IsOperator op.NotEqual (a ∷ b ∷ []) t = IsNoDistribution a × (a ≡ b) × (t ≡ ty.Bool)
IsOperator op.Less (a ∷ b ∷ []) t = IsOrdered a × (a ≡ b) × (t ≡ ty.Bool)
IsOperator op.AtMost (a ∷ b ∷ []) t = IsOrdered a × (a ≡ b) × (t ≡ ty.Bool)
IsOperator op.Plus (a ∷ b ∷ []) t = IsArithmetic t × Are (a ∷ b ∷ []) t
IsOperator op.Minus (a ∷ b ∷ []) t = IsArithmetic t × Are (a ∷ b ∷ []) t
IsOperator op.Times (a ∷ b ∷ []) t = IsArithmetic t × Are (a ∷ b ∷ []) t
IsOperator op.Negate (a ∷ []) t = IsSigned t × (a ≡ t)
IsOperator op.Xor (a ∷ b ∷ []) t = IsOfBits t × Are (a ∷ b ∷ []) t
IsOperator op.Divide (a ∷ b ∷ []) t = Are (a ∷ b ∷ t ∷ []) ty.Real
IsOperator op.ToReal (a ∷ []) t = IsOfNumbers a × (t ≡ ty.Real)
IsOperator op.Abs (a ∷ []) t = Are (a ∷ t ∷ []) ty.Real
IsOperator op.If (a ∷ b ∷ c ∷ []) t = (a ≡ ty.Bool) × Are (b ∷ c ∷ []) t
IsOperator op.Tuple ts t = AreFinite ts × (t ≡ tuples ts)
IsOperator (op.Part i) (a ∷ []) t = (0 < i) × (item (parts_in a) (pred i) ≡ Some t) × IsFinite t
IsOperator op.Some (a ∷ []) t = IsFinite a × (t ≡ options a)
IsOperator op.None [] t = IsOptionType t
IsOperator op.Oget (a ∷ []) t = IsFinite t × (a ≡ options t)
IsOperator op.Empty [] t = IsMapType t
IsOperator op.Get (a ∷ b ∷ []) t = IsMapType a × (b ≡ key_type a) × (t ≡ options (entry_type a))
IsOperator op.Set (a ∷ b ∷ c ∷ []) t = IsFinite b × IsFinite c × Are (a ∷ t ∷ []) (maps b c)
IsOperator op.InMap (a ∷ b ∷ []) t = IsMapType b × (a ≡ key_type b) × (t ≡ ty.Bool)
IsOperator op.InSupport (a ∷ b ∷ []) t = IsFinite a × (b ≡ distributions a) × (t ≡ ty.Bool)
IsOperator op.Mu1 (a ∷ b ∷ []) t = IsFinite b × (a ≡ distributions b) × (t ≡ ty.Real)
IsOperator op.Coin [] t = t ≡ distributions ty.Bool
IsOperator op.Uniform [] t = IsDistributionType t
IsOperator op.Dunit (a ∷ []) t = IsFinite a × (t ≡ distributions a)
IsOperator op.Product (a ∷ b ∷ []) t = IsDistributionType a × IsDistributionType b × (t ≡ distributions (tuples (outcome_type a ∷ outcome_type b ∷ [])))
IsOperator _ ts t = ⊥
