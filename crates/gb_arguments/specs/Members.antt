-- What is in lists.
use Rattle.std.specs.Prelude.{◌≡◌, ◌⊎◌, List, [], ◌∷◌}

-- z is one of these
abbrev pub Has : {A : Type 0} → List A → A → Type 0
Has [] z = ⊥
Has (x ∷ xs) z = (x ≡ z) ⊎ Has xs z
