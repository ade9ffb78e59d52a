-- Of which modules' globals a type speaks.
use Rattle.gb_core.specs.declared.ty.Ty.{Ty, Row_of-Ty, end_of-Ty, more_of-Ty}
use Rattle.gb_core.specs.declared.ty.Ty.TheVariants as ty
use Rattle.gb_meaning.specs.Names.{Name}

abbrev mutual
  -- each module whose globals the type speaks of is in P
  pub EachGlob : (Name → Type 0) → Ty → Type 0
  EachGlob P (ty.Tuple' n ts) = EachGlobIn P ts
  EachGlob P (ty.Opt' p x) = EachGlobIn P x
  EachGlob P (ty.Map' p k q x) = EachGlobIn P k × EachGlobIn P x
  EachGlob P (ty.Distr' p x) = EachGlobIn P x
  EachGlob P (ty.Glob a) = P a
  EachGlob P _ = Unit {0}

  pub EachGlobIn : {n : _} → (Name → Type 0) → Row_of-Ty n → Type 0
  EachGlobIn P end_of-Ty = Unit {0}
  EachGlobIn P (more_of-Ty t r) = EachGlob P t × EachGlobIn P r

-- the type speaks of no module's globals
abbrev pub IsGlobless : Ty → Type 0
IsGlobless t = EachGlob (λ m. ⊥) t
