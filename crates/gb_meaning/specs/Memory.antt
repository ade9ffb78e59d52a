-- Memories.
use Rattle.std.specs.Prelude.{List, [], ◌∷◌, map, Option, Some, None}
use Rattle.gb_core.specs.declared.ty.Ty.{Ty}
use Rattle.gb_core.specs.declared.var.Var.{Var}
use Rattle.gb_core.specs.declared.var.Var.TheVariants as var
use Rattle.gb_core.specs.declared.value.Value.{Value}
use Rattle.gb_core.specs.declared.value.Value.TheVariants.{Many}
use Rattle.gb_core.specs.Numbering.{parts_of}
use Rattle.gb_terms.specs.declared.module.Mexp.TheVariants.{Name as named}
use Rattle.gb_terms.specs.declared.decl.TypedName.{TypedName}
use Rattle.gb_meaning.specs.Names.{Name, Map, empty, get, set}
use Rattle.gb_meaning.specs.Values.{Global, Types, first, fit}

-- A memory: the values of globals, and of the locals of the procedure that runs, which are its frame.
pub record Memory : Type 0 where
  pub globals : Map
  pub frame : Map

-- A variable is read at a type. Where the memory has no value of this type for it, the first value of the type is read.

abbrev pub read_global : Types → Memory → Global → Value
read_global t m x = fit t x.ty (get m.globals (x.parent ∷ x.name ∷ []))

-- the values of all these globals
abbrev pub read_globals : Types → Memory → List Global → Value
read_globals t m xs = Many (map (read_global t m) xs)

abbrev pub read_local : Types → Memory → Name → Ty → Value
read_local t m x ty = fit t ty (get m.frame (x ∷ []))

abbrev pub read : Types → Memory → Var → Ty → Value
read t m (var.Global parent name) ty = read_global t m (record { parent = parent; name = name; ty = ty })
read t m (var.Local x) ty = read_local t m x ty
read t m (var.Glob a) ty = read_globals t m (t.footprint (named a))

abbrev pub write_global : Memory → Name → Name → Value → Memory
write_global m parent name v = record m { globals = set m.globals (parent ∷ name ∷ []) v }

abbrev pub write_local : Memory → Name → Value → Memory
write_local m x v = record m { frame = set m.frame (x ∷ []) v }

-- the globals with these values, in order
abbrev pub write_globals : Memory → List Global → List Value → Memory
write_globals m [] vs = m
write_globals m (x ∷ xs) [] = m
write_globals m (x ∷ xs) (v ∷ vs) = write_globals (write_global m x.parent x.name v) xs vs

abbrev pub write : Types → Memory → Var → Value → Memory
write t m (var.Global parent name) v = write_global m parent name v
write t m (var.Local x) v = write_local m x v
write t m (var.Glob a) v = write_globals m (t.footprint (named a)) (parts_of v)

abbrev pub write_each : Types → Memory → List Var → List Value → Memory
write_each t m [] vs = m
write_each t m (x ∷ xs) [] = m
write_each t m (x ∷ xs) (v ∷ vs) = write_each t (write t m x v) xs vs

-- the memory after an assignment to no variable, to one, or to a tuple of variables at once
abbrev pub assigned : Types → Memory → List Var → Value → Memory
assigned t m [] v = m
assigned t m (x ∷ []) v = write t m x v
assigned t m (x ∷ y ∷ xs) v = write_each t m (x ∷ y ∷ xs) (parts_of v)

-- the frame with first values for these locals
abbrev pub first_values : Types → List TypedName → Map
first_values t [] = empty
first_values t (x ∷ xs) = set (first_values t xs) (x.name ∷ []) (first t x.ty)

-- the frame with these values for parameters, over another frame
abbrev pub arguments : Map → List TypedName → List Value → Map
arguments f [] vs = f
arguments f (x ∷ xs) [] = f
arguments f (x ∷ xs) (v ∷ vs) = set (arguments f xs vs) (x.name ∷ []) v

-- `res`
abbrev pub result_name : Name
result_name = 114 ∷ 101 ∷ 115 ∷ []

-- an outcome of a procedure: the globals, and a frame that holds the result alone
abbrev pub outcome : Map → Value → Memory
outcome globals v = record { globals = globals; frame = set empty (result_name ∷ []) v }

abbrev pub value_or : Option Value → Value → Value
value_or None d = d
value_or (Some v) d = v

-- the result that an outcome holds
abbrev pub result_in : Memory → Value
result_in m = value_or (get m.frame (result_name ∷ [])) (Many [])
