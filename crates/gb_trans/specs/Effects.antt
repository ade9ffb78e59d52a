-- What statements write and touch, through every procedure that they call.
use Rattle.std.specs.Prelude.{Bool, List, Option, Some, None}
use Rattle.std.specs.List.{filter, list_any}
use Rattle.gb_core.specs.declared.var.Var.{Var}
use Rattle.gb_terms.specs.declared.module.ProcRef.{ProcRef}
use Rattle.gb_terms.specs.declared.term.Instr.{Instr}
use Rattle.gb_walk.specs.Clash.{Exclusions, clashes, least, least_from}
use Rattle.gb_goal.specs.Scope.{Declarations}
use Rattle.gb_mods.specs.Called.{all_reached, calls}
use Rattle.gb_forms.specs.Effects.{effects_by}
use Rattle.gb_forms.specs.declared.effects.Effects.{Effects}

abbrev pub effects_if : Declarations → List Instr → Option (List ProcRef) → Option Effects
effects_if ds is None = None
effects_if ds is (Some ps) = effects_by ds is ps

-- The variables that statements write, and those that they read or write, through every procedure that they call. They aren't known
-- where it isn't known what one of these stands for.
unfoldable pub effects_of : Declarations → List Instr → Option Effects
effects_of ds is = effects_if ds is (all_reached ds (calls is))

-- one of these variables clashes with x
abbrev pub meets : Exclusions → List Var → Var → Bool
meets es ys x = list_any (λ y. clashes es x y) ys

-- the least variable that one of two parts writes and with which another one clashes that the other part reads or writes
abbrev pub crossing : Exclusions → Effects → Effects → Option Var
crossing es a b = least_from (least (filter (meets es b.touched) a.written)) (filter (meets es a.touched) b.written)
