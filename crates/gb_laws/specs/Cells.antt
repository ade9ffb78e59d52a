-- What memories hold for variables at types, and memories that agree on some of it.
use Rattle.std.specs.Prelude.{◌≡◌, List, [], ◌∷◌, map, ◌⊎◌, Option}
use Rattle.gb_core.specs.declared.ty.Ty.{Ty}
use Rattle.gb_core.specs.declared.var.Var.{Var}
use Rattle.gb_core.specs.declared.var.Var.TheVariants as var
use Rattle.gb_core.specs.declared.value.Value.{Value}
use Rattle.gb_terms.specs.declared.module.Mexp.TheVariants.{Name as named}
use Rattle.gb_meaning.specs.Names.{Path, Map, get, set}
use Rattle.gb_meaning.specs.Values.{Global, Types, fit}
use Rattle.gb_meaning.specs.Memory.{Memory}

-- a place of a memory: that of a global, or of a local
pub data Key : Type 0 where
  global local : Path → Key
  deriving Discrete as Key-discrete

-- what a key names, at a type
pub record Cell : Type 0 where
  pub key : Key
  pub ty : Ty

abbrev pub get_at : Memory → Key → Option Value
get_at m (global p) = get m.globals p
get_at m (local p) = get m.frame p

abbrev pub set_at : Memory → Key → Value → Memory
set_at m (global p) v = record m { globals = set m.globals p v }
set_at m (local p) v = record m { frame = set m.frame p v }

abbrev pub look : Types → Memory → Cell → Value
look t m c = fit t c.ty (get_at m c.key)

abbrev pub Cells : Type 0
Cells = List Cell

-- the cell is one of these
abbrev pub In : Cell → Cells → Type 0
In c [] = ⊥
In c (d ∷ l) = (c ≡ d) ⊎ In c l

-- all of these cells are in F
abbrev pub Covers : (Cell → Type 0) → Cells → Type 0
Covers F l = (c : Cell) → In c l → F c

-- the memories hold the same in these cells
abbrev pub Agree : Types → (Cell → Type 0) → Memory → Memory → Type 0
Agree t F m n = (c : Cell) → F c → look t m c ≡ look t n c

-- the globals hold the same in these cells
abbrev pub GlobalsAgree : Types → (Cell → Type 0) → Map → Map → Type 0
GlobalsAgree t F m n = (p : Path) (ty : Ty) → F (record { key = global p; ty = ty }) → fit t ty (get m p) ≡ fit t ty (get n p)

-- the cell is one of the list
abbrev pub Among : Cells → Cell → Type 0
Among l c = In c l

abbrev pub global_cell : Global → Cell
global_cell x = record { key = global (x.parent ∷ x.name ∷ []); ty = x.ty }

-- the cells that a read reads
abbrev pub cells_of : Types → Var → Ty → Cells
cells_of t (var.Global p n) ty = global_cell (record { parent = p; name = n; ty = ty }) ∷ []
cells_of t (var.Local x) ty = record { key = local (x ∷ []); ty = ty } ∷ []
cells_of t (var.Glob a) ty = map global_cell (t.footprint (named a))
