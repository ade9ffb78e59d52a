-- Readings that collect what procedures have of their own, through every procedure that they call.
use Rattle.std.specs.Prelude.{List, [], ◌∷◌, ◌++◌, map, Option}
use Rattle.gb_core.specs.declared.var.Var.{Var}
use Rattle.gb_terms.specs.declared.decl.Param.{Param}
use Rattle.gb_terms.specs.declared.decl.Proc.{Proc}
use Rattle.gb_terms.specs.declared.module.Bind.{Bind}
use Rattle.gb_terms.specs.declared.module.ProcRef.{ProcRef}
use Rattle.gb_meaning.specs.Footprints.{of_callee}
use Rattle.gb_meaning.specs.Modules.{Modules, Procedures, Reading, with_module}
use Rattle.gb_mods.specs.Called.{calls}
use Rattle.gb_mods.specs.Meets.{open_name}

-- what procedures have together
abbrev pub values : (ProcRef → Option (List Var)) → List ProcRef → List Var
values h [] = []
values h (q ∷ qs) = of_callee (h q) ++ values h qs

abbrev pub collect : (Proc → List Var) → Reading (List Var)
collect own h p = own p ++ values h (calls p.body.list)

-- what is so of each of some procedures
abbrev pub Each : (ProcRef → Type 0) → List ProcRef → Type 0
Each P [] = Unit {0}
Each P (q ∷ qs) = P q × Each P qs

-- a parameter that is left open, as a module of a goal
abbrev pub open_binder : Param → Bind
open_binder q = record { name = open_name q.name; ty = q.ty; minus = []; bounds = [] }

abbrev pub open_binders : List Param → List Bind
open_binders qs = map open_binder qs

-- modules, and procedures of those that are left open
abbrev pub with_open : {X : Type 0} → (Param → Procedures X) → List Param → Modules X → Modules X
with_open v [] ms = ms
with_open v (q ∷ qs) ms = with_module (with_open v qs ms) (open_name q.name) (λ args. v q)
