-- Places and values of a type are inverse, whatever abstract types and footprints are.
use Rattle.std.proofs.Common.{◌≡◌, ℕ, Bool, true, false, if◌then◌else◌, List, [], ◌∷◌, map, Some, ap}
use Rattle.gb_core.specs.declared.ty.Ty.{Ty, Row_of-Ty, end_of-Ty, more_of-Ty}
use Rattle.gb_core.specs.declared.ty.Ty.TheVariants as ty
use Rattle.gb_core.specs.declared.value.Value.{Value}
use Rattle.gb_core.specs.Numbering.{Numbering, numbers, uncounted}
use Rattle.gb_core.proofs.Lawful.{Lawful, AllLawful, Lawful-numbers, Lawful-uncounted, Lawful-tuple, Lawful-option}
use Rattle.gb_core.proofs.Maps.{Lawful-map}
use Rattle.gb_meaning.specs.Names.{Name}
use Rattle.gb_meaning.specs.Values.{Global, Types, values_by, all_values_by, boxed_values_by, values, first, has, fit}
use mathlib.Core.Former.{Count}

module _ (a g : Name → Numbering) (la : (n : Name) → Lawful (a n)) (lg : (n : Name) → Lawful (g n)) where
  mutual
    values_lawful : (t : Ty) → Lawful (values_by a g t)
    values_lawful ty.Unit = Lawful-numbers 1
    values_lawful ty.Bool = Lawful-numbers 2
    values_lawful (ty.Bits n) = Lawful-numbers _
    values_lawful (ty.Mod n) = Lawful-numbers n
    values_lawful (ty.Enumeration name n) = Lawful-numbers n
    values_lawful (ty.Tuple' n ts) = Lawful-tuple (all_values_by a g ts) (all_lawful ts)
    values_lawful (ty.Opt' p x) = Lawful-option (boxed_values_by a g x) (boxed_lawful x)
    values_lawful (ty.Map' p k q x) = Lawful-map (boxed_values_by a g k) (boxed_values_by a g x) (boxed_lawful k) (boxed_lawful x)
    values_lawful (ty.Abstract name) = la name
    values_lawful (ty.Glob name) = lg name
    values_lawful (ty.Distr' p x) = Lawful-uncounted
    values_lawful ty.Int = Lawful-uncounted
    values_lawful ty.Real = Lawful-uncounted

    all_lawful : {n : Count} (r : Row_of-Ty n) → AllLawful (all_values_by a g r)
    all_lawful end_of-Ty = tt
    all_lawful (more_of-Ty t r) = (values_lawful t, all_lawful r)

    boxed_lawful : {n : Count} (r : Row_of-Ty n) → Lawful (boxed_values_by a g r)
    boxed_lawful end_of-Ty = Lawful-uncounted
    boxed_lawful (more_of-Ty t r) = values_lawful t

footprint_lawful : (size : Name → ℕ) (xs : List Global) → AllLawful (map (λ x. values_by (λ n. numbers (size n)) (λ n. uncounted) x.ty) xs)
footprint_lawful size [] = tt
footprint_lawful size (x ∷ xs) = (values_lawful _ _ (λ n. Lawful-numbers (size n)) (λ n. Lawful-uncounted) x.ty, footprint_lawful size xs)

pub lawful : (t : Types) (ty : Ty) → Lawful (values t ty)
lawful t ty = values_lawful _ _ (λ n. Lawful-numbers (t.size n)) (λ m. Lawful-tuple _ (footprint_lawful t.size _)) ty

-- a value of the type fits
pub fit_has : (t : Types) (ty : Ty) (v : Value) → has t ty v ≡ true → fit t ty (Some v) ≡ v
fit_has t ty v h = ap (λ (b : Bool). if b then v else first t ty) h

pub fit_other : (t : Types) (ty : Ty) (v : Value) → has t ty v ≡ false → fit t ty (Some v) ≡ first t ty
fit_other t ty v h = ap (λ (b : Bool). if b then v else first t ty) h
