-- The values of every type: places and values are inverse.
use Rattle.std.proofs.Common.{◌≡◌, ◌^◌, List, [], ◌∷◌, map, subst, sym}
use Rattle.gb_core.specs.declared.ty.Ty.{Ty}
use Rattle.gb_core.specs.declared.ty.Ty.TheOpen as t
use Rattle.gb_core.specs.declared.ty.Ty.TheFolds.{fold-roll-Ty, ind-Ty, map-Ty}
use Rattle.gb_core.specs.Numbering.{Numbering}
use Rattle.gb_core.specs.Types.{numbering_step, numbering}
use Rattle.gb_core.proofs.Lawful.{Lawful, AllLawful, Lawful-numbers, Lawful-uncounted, Lawful-tuple, Lawful-option}
use Rattle.gb_core.proofs.Maps.{Lawful-map}

-- a type with the laws of its values
abbrev Told : Type 0
Told = (ty : Ty) × Lawful (numbering ty)

each : (ys : List Told) → AllLawful (map numbering (map (λ e. e.0) ys))
each [] = tt
each (y ∷ ys) = (y.1, each ys)

layer : (y : t.Ty-F Told) → Lawful (numbering_step (map-Ty Ty Numbering numbering (map-Ty Told Ty (λ e. e.0) y)))
layer t.Unit = Lawful-numbers 1
layer t.Bool = Lawful-numbers 2
layer (t.Bits n) = Lawful-numbers (2 ^ n)
layer (t.Mod n) = Lawful-numbers n
layer (t.Enumeration name n) = Lawful-numbers n
layer (t.Tuple ys) = Lawful-tuple _ (each ys)
layer (t.Opt y) = Lawful-option _ y.1
layer (t.Map k x) = Lawful-map _ _ k.1 x.1
layer (t.Abstract name) = Lawful-uncounted
layer (t.Glob name) = Lawful-uncounted
layer (t.Distr y) = Lawful-uncounted
layer t.Int = Lawful-uncounted
layer t.Real = Lawful-uncounted

pub lawful : (ty : Ty) → Lawful (numbering ty)
lawful = ind-Ty (λ ty. Lawful (numbering ty)) (λ x y is.
    subst (λ (n : Numbering). Lawful n) (sym (fold-roll-Ty Numbering numbering_step x))
    (subst (λ (z : t.Ty-F Ty). Lawful (numbering_step (map-Ty Ty Numbering numbering z))) is (layer y)))

-- the values of each type of a list
pub all_lawful : (ts : List Ty) → AllLawful (map numbering ts)
all_lawful [] = tt
all_lawful (ty ∷ ts) = (lawful ty, all_lawful ts)
