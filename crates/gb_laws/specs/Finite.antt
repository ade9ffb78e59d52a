-- The finite types.
use Rattle.std.specs.Prelude.{◌≡◌, ◌<◌, Bool, true, false, List, [], ◌∷◌}
use Rattle.gb_core.specs.declared.ty.Ty.{Ty, Row_of-Ty, end_of-Ty, more_of-Ty}
use Rattle.gb_core.specs.declared.ty.Ty.TheVariants as ty
use Rattle.gb_terms.specs.declared.module.Mexp.{Mexp}
use Rattle.gb_meaning.specs.Names.{Name}
use Rattle.gb_meaning.specs.Values.{Global, Types}

abbrev mutual
  -- A type whose parts are neither whole numbers, nor fractions, nor distributions, and of which each bound is above 0.
  -- It is told whether types `glob A` may stand in it.
  pub IsFiniteWith : Bool → Ty → Type 0
  IsFiniteWith globs ty.Unit = Unit {0}
  IsFiniteWith globs ty.Bool = Unit {0}
  IsFiniteWith globs (ty.Bits n) = Unit {0}
  IsFiniteWith globs (ty.Mod n) = 0 < n
  IsFiniteWith globs (ty.Enumeration name n) = 0 < n
  IsFiniteWith globs (ty.Tuple' n ts) = AreFiniteWith globs ts
  IsFiniteWith globs (ty.Opt' p x) = AreFiniteWith globs x
  IsFiniteWith globs (ty.Map' p k q x) = AreFiniteWith globs k × AreFiniteWith globs x
  IsFiniteWith globs (ty.Abstract name) = Unit {0}
  IsFiniteWith globs (ty.Glob name) = globs ≡ true
  IsFiniteWith globs (ty.Distr' p x) = ⊥
  IsFiniteWith globs ty.Int = ⊥
  IsFiniteWith globs ty.Real = ⊥

  pub AreFiniteWith : {n : _} → Bool → Row_of-Ty n → Type 0
  AreFiniteWith globs end_of-Ty = Unit {0}
  AreFiniteWith globs (more_of-Ty t r) = IsFiniteWith globs t × AreFiniteWith globs r

-- a type that variables may have
abbrev pub IsVariableType : Ty → Type 0
IsVariableType = IsFiniteWith false

-- a type of values: that of a variable, or with the globals of modules in it
abbrev pub IsFinite : Ty → Type 0
IsFinite = IsFiniteWith true

abbrev pub AreVariables : List Global → Type 0
AreVariables [] = Unit {0}
AreVariables (x ∷ xs) = IsVariableType x.ty × AreVariables xs

-- each abstract type has a value, and the globals of each module have types of variables
pub record IsInhabited (t : Types) : Type 0 where
  pub sizes : (n : Name) → 0 < t.size n
  pub globals : (m : Mexp) → AreVariables (t.footprint m)
