-- Reading after writing.
use Rattle.std.proofs.Common.{◌≡◌, ◌≢◌, true, [], ◌∷◌, ap, ◌∙◌}
use Rattle.gb_core.specs.declared.ty.Ty.{Ty}
use Rattle.gb_core.specs.declared.value.Value.{Value}
use Rattle.gb_meaning.specs.Names.{Name, Path}
use Rattle.gb_meaning.specs.Values.{Global, Types, has, fit}
use Rattle.gb_meaning.specs.Memory.{Memory, read_global, read_local, write_global, write_local}
use Rattle.gb_meaning.proofs.Maps.{get-set_same, get-set_other}
use Rattle.gb_meaning.proofs.Numberings.{fit_has}

-- the path of a global
abbrev pub global_path : Name → Name → Path
global_path p x = p ∷ x ∷ []

pub read-write_global : (t : Types) (m : Memory) (x : Global) (v : Value) → has t x.ty v ≡ true → read_global t (write_global m x.parent x.name v) x ≡ v
read-write_global t m x v h = ap (fit t x.ty) (get-set_same m.globals (global_path x.parent x.name) v) ∙ fit_has t x.ty v h

pub read-write_other_global : (t : Types) (m : Memory) (x : Global) (p n : Name) (v : Value) → global_path x.parent x.name ≢ global_path p n →
    read_global t (write_global m p n v) x ≡ read_global t m x
read-write_other_global t m x p n v h = ap (fit t x.ty) (get-set_other m.globals (global_path p n) v (global_path x.parent x.name) h)

pub read-write_local : (t : Types) (m : Memory) (x : Name) (ty : Ty) (v : Value) → has t ty v ≡ true → read_local t (write_local m x v) x ty ≡ v
read-write_local t m x ty v h = ap (fit t ty) (get-set_same m.frame (x ∷ []) v) ∙ fit_has t ty v h

pub read-write_other_local : (t : Types) (m : Memory) (x y : Name) (ty : Ty) (v : Value) → (x ∷ []) ≢ (y ∷ []) →
    read_local t (write_local m y v) x ty ≡ read_local t m x ty
read-write_other_local t m x y ty v h = ap (fit t ty) (get-set_other m.frame (y ∷ []) v (x ∷ []) h)
