-- Numbers of labels up to greatest ones.
use Rattle.std.specs.Prelude.{◌≡◌, ◌<◌, ◌≤◌, min, [], ◌∷◌, map}
use Rattle.gb_core.specs.declared.ty.Ty.TheVariants as ty
use Rattle.gb_meaning.specs.Values.{Types, values}
use Rattle.gb_labels.specs.Labels.{Labels}

-- for each module a number of labels from 1 up to its greatest one
abbrev pub AreUpTo : Labels → Labels → Type 0
AreUpTo [] [] = Unit {0}
AreUpTo (m ∷ most) (l ∷ ls) = ((l.name ≡ m.name) × (0 < l.count) × (l.count ≤ m.count)) × AreUpTo most ls
AreUpTo _ _ = ⊥

-- each number is above 0
abbrev pub AreAbove : Labels → Type 0
AreAbove [] = Unit {0}
AreAbove (l ∷ ls) = (0 < l.count) × AreAbove ls

-- for each module as many labels as its globals have values, but no more than its greatest number
abbrev pub chosen : Types → Labels → Labels
chosen t most = map (λ m. record { name = m.name; count = min m.count (values t (ty.Glob m.name)).size }) most
