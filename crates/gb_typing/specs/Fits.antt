-- Settings and states that fit a context.
use Rattle.std.specs.Prelude.{◌≡◌, true, List, Some}
use Rattle.gb_core.specs.declared.value.Value.{Value}
use Rattle.gb_dist.specs.WeightedList.{Every}
use Rattle.gb_terms.specs.declared.module.Mexp.TheVariants.{Name as named}
use Rattle.gb_terms.specs.declared.module.ProcRef.{ProcRef}
use Rattle.gb_meaning.specs.Names.{Name, Map}
use Rattle.gb_meaning.specs.Memory.{Memory, result_in}
use Rattle.gb_meaning.specs.Program.{Routine}
use Rattle.gb_meaning.specs.Runs.{outcomes}
use Rattle.gb_meaning.specs.Setting.{Setting}
use Rattle.gb_meaning.specs.Sound.{IsSoundRoutine}
use Rattle.gb_meaning.specs.State.{State}
use Rattle.gb_meaning.specs.Values.{has}
use Rattle.gb_meaning.specs.Written.{params_of, result_type}
use Rattle.gb_laws.specs.Context as typed
use Rattle.gb_meaning.specs.Programs.{AreOnce}
use Rattle.gb_typing.specs.Modules.{ProcedureType}
use Rattle.gb_typing.specs.Context.{Context, procedure, erased}

-- the outcome has a result of the type
abbrev pub HasResult : Setting → ProcedureType → Memory → Type 0
HasResult g p m = has g.types p.result (result_in m) ≡ true

-- A procedure of this type: it draws from distributions, and all its results are of its result's type. It needn't be typed
-- itself, since adversaries are any programs with results of their types.
pub record IsOfType (g : Setting) (p : ProcedureType) (r : Routine) : Type 0 where
  pub params : params_of r ≡ p.params
  pub result : result_type r ≡ p.result
  pub sound : IsSoundRoutine g r
  pub results : (vs : List Value) (globals : Map) → Every (HasResult g p) (outcomes g r vs globals)

-- The setting has what the context names, of the types that it gives, and each footprint has its globals once.
pub record IsSettingOf (c : Context) (g : Setting) : Type 0 where
  pub types : typed.IsSettingOf (erased c) g
  pub once : (a : Name) → AreOnce (g.types.footprint (named a))
  pub procedures : (p : ProcRef) (t : ProcedureType) → procedure c p ≡ Some t → (r : Routine) × (g.procedure p ≡ Some r) × IsOfType g t r

-- the values of logical and bound variables are of their types
abbrev pub IsStateOf : Context → Setting → State → Type 0
IsStateOf c g s = typed.IsStateOf g.types (erased c) s
