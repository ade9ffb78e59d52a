-- Values of modules' globals in one setting, each paired with one in another setting.
use Rattle.std.specs.Prelude.{◌≡◌, ◌⊎◌, true, List, [], ◌∷◌}
use Rattle.gb_core.specs.declared.ty.Ty.TheVariants as ty
use Rattle.gb_core.specs.declared.value.Value.{Value}
use Rattle.gb_core.specs.Numbering.{Numbering}
use Rattle.gb_meaning.specs.Names.{Name}
use Rattle.gb_meaning.specs.Values.{Types, values}

-- pairs of the values of each module's globals
abbrev pub Pairs : Type 0
Pairs = Name → List (Value × Value)

-- the two values are one of the pairs
abbrev pub IsPair : List (Value × Value) → Value → Value → Type 0
IsPair [] v w = ⊥
IsPair (p ∷ ps) v w = ((p.0 ≡ v) × (p.1 ≡ w)) ⊎ IsPair ps v w

-- neither value stands in one of the pairs
abbrev pub AreNew : List (Value × Value) → Value → Value → Type 0
AreNew [] v w = Unit {0}
AreNew (p ∷ ps) v w = ((p.0 ≡ v → ⊥) × (p.1 ≡ w → ⊥)) × AreNew ps v w

-- pairs of values of two types, each value in one of them at most
abbrev pub AreMatched : Numbering → Numbering → List (Value × Value) → Type 0
AreMatched a b [] = Unit {0}
AreMatched a b (p ∷ ps) = ((a.has p.0 ≡ true) × (b.has p.1 ≡ true)) × AreNew ps p.0 p.1 × AreMatched a b ps

-- the values of a module's globals are matched one to one, as far as they are paired
pub record Pairing (t u : Types) : Type 0 where
  pub pairs : Pairs
  pub matched : (m : Name) → AreMatched (values t (ty.Glob m)) (values u (ty.Glob m)) (pairs m)
