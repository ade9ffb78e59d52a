-- What module expressions stand for. Each procedure stands for a thing of a type X: its linked tree, or the variables
-- that it reads and writes. The declarations are gone through in order, so that nothing is recursive.
use Rattle.std.specs.Prelude.{List, [], ◌∷◌, ◌++◌, map, Option, if◌then◌else◌, bytes_eq}
use Rattle.gb_terms.specs.declared.decl.Param.{Param}
use Rattle.gb_terms.specs.declared.decl.Proc.{Proc}
use Rattle.gb_terms.specs.declared.decl.Module.{Module}
use Rattle.gb_terms.specs.declared.module.Mexp.{Mexp, Row_of-Mexp, end_of-Mexp, more_of-Mexp}
use Rattle.gb_terms.specs.declared.module.Mexp.TheVariants.{Name as named, Apply'}
use Rattle.gb_terms.specs.declared.module.ProcRef.{ProcRef}
pub use Rattle.gb_goal.specs.Interfaces.{Procedures, found}
use Rattle.gb_meaning.specs.Names.{Name}
use Rattle.gb_meaning.specs.Declared.{Declarations, concrete_module}

-- a module that lacks modules, each without parameters
abbrev pub Functor : Type 0 → Type 0
Functor X = List (Procedures X) → Procedures X

-- a module that is given modules in place of all its parameters
abbrev pub Applied : Type 0 → Type 0
Applied X = List (Functor X) → Procedures X

-- what each module name stands for
abbrev pub Modules : Type 0 → Type 0
Modules X = Name → Applied X

-- a module that lacks none
abbrev pub closed : {X : Type 0} → Procedures X → Functor X
closed m lacking = m

abbrev mutual
  -- what a module expression stands for: what its arguments leave open it lacks
  pub module_at : {X : Type 0} → Modules X → Mexp → Functor X
  module_at ms (named m) lacking = ms m (map closed lacking)
  module_at ms (Apply' m n args) lacking = ms m (modules_at ms args ++ map closed lacking)

  pub modules_at : {X : Type 0} {n : _} → Modules X → Row_of-Mexp n → List (Functor X)
  modules_at ms end_of-Mexp = []
  modules_at ms (more_of-Mexp m r) = module_at ms m ∷ modules_at ms r

-- the procedure that a reference means
abbrev pub procedure_at : {X : Type 0} → Modules X → ProcRef → Option X
procedure_at ms p = found (module_at ms p.module []) p.name

-- a module without procedures
abbrev pub no_module : {X : Type 0} → Applied X
no_module args = []

-- the modules, and a further one of this name
abbrev pub with_module : {X : Type 0} → Modules X → Name → Applied X → Modules X
with_module ms n m k = if bytes_eq k n then m else ms k

-- an argument, which is given its own ones where it is used
abbrev pub argument : {X : Type 0} → Functor X → Applied X
argument f args = f (map (λ a. a []) args)

-- the modules, and the arguments under the names of the parameters
abbrev pub with_params : {X : Type 0} → Modules X → List Param → List (Functor X) → Modules X
with_params ms [] fs = ms
with_params ms (p ∷ ps) [] = with_module (with_params ms ps []) p.name no_module
with_params ms (p ∷ ps) (f ∷ fs) = with_module (with_params ms ps fs) p.name (argument f)

-- how a procedure is read, where it is known what the procedures that it may call stand for
abbrev pub Reading : Type 0 → Type 0
Reading X = (ProcRef → Option X) → Proc → X

-- A procedure may call the procedures of the modules before, those of its module's parameters, and the earlier ones of
-- its own module.
abbrev pub with_procedure : {X : Type 0} → Reading X → Modules X → Module → Applied X → Proc → Applied X
with_procedure read ms m earlier p args =
    earlier args ++ (p.name, read (procedure_at (with_params (with_module ms m.name earlier) m.params args)) p) ∷ []

-- its procedures, one after another
abbrev pub with_procedures : {X : Type 0} → Reading X → Modules X → Module → Applied X → List Proc → Applied X
with_procedures read ms m earlier [] = earlier
with_procedures read ms m earlier (p ∷ ps) = with_procedures read ms m (with_procedure read ms m earlier p) ps

-- a declared module
abbrev pub module_read : {X : Type 0} → Reading X → Modules X → Module → Applied X
module_read read ms m = with_procedures read ms m no_module m.procs

-- the declared modules, on top of the abstract ones
abbrev pub modules_of : {X : Type 0} → Reading X → Modules X → Declarations → Modules X
modules_of read ms [] = ms
modules_of read ms ((n, concrete_module m) ∷ ds) = modules_of read (with_module ms n (module_read read ms m)) ds
modules_of read ms (d ∷ ds) = modules_of read ms ds
