-- The values that memories give variables.
use Rattle.std.specs.Prelude.{◌≡◌, ◌<◌, true, false, List, [], ◌∷◌, map}
use Rattle.gb_core.specs.declared.ty.Ty.{Ty}
use Rattle.gb_core.specs.declared.ty.Ty.TheVariants as ty
use Rattle.gb_core.specs.declared.value.Value.{Value}
use Rattle.gb_core.specs.declared.var.Var.{Var}
use Rattle.gb_core.specs.declared.var.Var.TheVariants.{Glob}
use Rattle.gb_terms.specs.declared.module.Mexp.TheVariants.{Name as named}
use Rattle.gb_meaning.specs.Values.{Global, Types, has, values}
use Rattle.gb_meaning.specs.Memory.{Memory, read, write}
use Rattle.gb_walk.specs.Clash.{Exclusions, clashes}
use Rattle.gb_meaning.specs.Globs.{IsGlobless}
use Rattle.gb_meaning.specs.Programs.{AreOnce}
use Rattle.gb_labels.specs.declared.held.Held.{Held}
use Rattle.gb_labels.specs.Reads.{Vars}

-- the values that a memory gives these variables
abbrev pub read_all : Types → Memory → Vars → List Value
read_all t m xs = map (λ x. read t m x.var x.ty) xs

-- a value of its type for each
abbrev pub AreOf : Types → Vars → List Value → Type 0
AreOf t [] [] = Unit {0}
AreOf t (x ∷ xs) (v ∷ vs) = (has t x.ty v ≡ true) × AreOf t xs vs
AreOf t _ _ = ⊥

-- their types speak of no module's globals
abbrev pub AreGlobless : List Global → Type 0
AreGlobless [] = Unit {0}
AreGlobless (x ∷ xs) = IsGlobless x.ty × AreGlobless xs

-- Memories give the variable all values of the type, and no others: all globals of a module are read at a type with the same values,
-- and each of them stands once among them, at a type without `glob`.
abbrev pub IsReadable : Types → Var → Ty → Type 0
IsReadable t (Glob a) b = AreOnce (t.footprint (named a)) × AreGlobless (t.footprint (named a)) × (values t b ≡ values t (ty.Glob a))
IsReadable t x b = Unit {0}

abbrev pub AreReadable : Types → Vars → Type 0
AreReadable t [] = Unit {0}
AreReadable t (x ∷ xs) = IsReadable t x.var x.ty × AreReadable t xs

-- a write of a variable leaves what is read of each other one that doesn't clash with it
abbrev pub AreKeptApart : Exclusions → Types → Type 0
AreKeptApart es t = (x y : Var) → clashes es x y ≡ false → (b : Ty) (m : Memory) (v : Value) → read t (write t m x v) y b ≡ read t m y b

-- each type has values
abbrev pub HaveValues : Types → Vars → Type 0
HaveValues t [] = Unit {0}
HaveValues t (x ∷ xs) = (0 < (values t x.ty).size) × HaveValues t xs

-- a memory gives each variable this value
abbrev pub IsHeldBy : Types → Memory → List Held → Type 0
IsHeldBy t m [] = Unit {0}
IsHeldBy t m (h ∷ hs) = (read t m h.var h.ty ≡ h.value) × IsHeldBy t m hs
