-- The values of types.
use Rattle.std.specs.Prelude.{ℕ, ◌^◌, Bool, true, false, ◌&&◌, ◌==◌, if◌then◌else◌, List, [], ◌∷◌, map, Option, Some, None}
use Rattle.gb_core.specs.declared.ty.Ty.{Ty, Row_of-Ty, end_of-Ty, more_of-Ty}
use Rattle.gb_core.specs.declared.ty.Ty.TheVariants as ty
use Rattle.gb_core.specs.declared.value.Value.{Value, Row_of-Value, end_of-Value, more_of-Value}
use Rattle.gb_core.specs.declared.value.Value.TheVariants.{Num, Many'}
use Rattle.gb_core.specs.Numbering.{Numbering, numbers, uncounted, tuple_of, option_of, map_of}
use Rattle.gb_terms.specs.declared.module.Mexp.{Mexp}
use Rattle.gb_terms.specs.declared.module.Mexp.TheVariants.{Name as named}
use Rattle.gb_meaning.specs.Names.{Name}

-- a global of a module, with its type
pub record Global : Type 0 where
  pub parent : Name
  pub name : Name
  pub ty : Ty

-- A world: the globals that there are, in order.
abbrev pub World : Type 0
World = List Global

-- What the types of a script stand for: the sizes of its abstract types, and the footprints of its modules, which
-- are the globals that a module reads or writes, in the order of the world.
pub record Types : Type 0 where
  pub size : Name → ℕ
  pub footprint : Mexp → List Global

-- The values of a type, in order, where abstract types and the globals of modules have these values.
abbrev mutual
  pub values_by : (Name → Numbering) → (Name → Numbering) → Ty → Numbering
  values_by a g ty.Unit = numbers 1
  values_by a g ty.Bool = numbers 2
  values_by a g (ty.Bits n) = numbers (2 ^ n)
  values_by a g (ty.Mod n) = numbers n
  values_by a g (ty.Enumeration name n) = numbers n
  values_by a g (ty.Tuple' n ts) = tuple_of (all_values_by a g ts)
  values_by a g (ty.Opt' p x) = option_of (boxed_values_by a g x)
  values_by a g (ty.Map' p k q x) = map_of (boxed_values_by a g k) (boxed_values_by a g x)
  values_by a g (ty.Abstract name) = a name
  values_by a g (ty.Glob name) = g name
  values_by a g (ty.Distr' p x) = uncounted
  values_by a g ty.Int = uncounted
  values_by a g ty.Real = uncounted

  pub all_values_by : {n : _} → (Name → Numbering) → (Name → Numbering) → Row_of-Ty n → List Numbering
  all_values_by a g end_of-Ty = []
  all_values_by a g (more_of-Ty t r) = values_by a g t ∷ all_values_by a g r

  pub boxed_values_by : {n : _} → (Name → Numbering) → (Name → Numbering) → Row_of-Ty n → Numbering
  boxed_values_by a g end_of-Ty = uncounted
  boxed_values_by a g (more_of-Ty t r) = values_by a g t

-- the values of all globals of a footprint, as a tuple; no global has a type with `glob`
abbrev pub footprint_values : (Name → ℕ) → List Global → Numbering
footprint_values size xs = tuple_of (map (λ x. values_by (λ n. numbers (size n)) (λ n. uncounted) x.ty) xs)

-- the values of a type, in order
abbrev pub values : Types → Ty → Numbering
values t = values_by (λ n. numbers (t.size n)) (λ m. footprint_values t.size (t.footprint (named m)))

-- the first value of a type
abbrev pub first : Types → Ty → Value
first t ty = (values t ty).at 0

-- whether the value is one of the type
abbrev pub has : Types → Ty → Value → Bool
has t ty v = (values t ty).has v

-- the value, or the first one of the type where there is none of this type
abbrev pub fit : Types → Ty → Option Value → Value
fit t ty None = first t ty
fit t ty (Some v) = if has t ty v then v else first t ty

-- whether two values are the same
abbrev mutual
  pub value_eq : Value → Value → Bool
  value_eq (Num i) (Num j) = i == j
  value_eq (Many' m r) (Many' n q) = values_eq r q
  value_eq _ _ = false

  pub values_eq : {m n : _} → Row_of-Value m → Row_of-Value n → Bool
  values_eq end_of-Value end_of-Value = true
  values_eq (more_of-Value x r) (more_of-Value y q) = value_eq x y && values_eq r q
  values_eq _ _ = false
