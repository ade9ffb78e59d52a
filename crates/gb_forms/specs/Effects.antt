-- What statements write and touch that call procedures.
use Rattle.std.specs.Prelude.{List, ◌++◌, Option}
use Rattle.std.specs.Option.{option_map}
use Rattle.gb_terms.specs.declared.module.ProcRef.{ProcRef}
use Rattle.gb_terms.specs.declared.term.Instr.{Instr}
use Rattle.gb_goal.specs.Scope.{Declarations}
use Rattle.gb_mods.specs.Footprint.{touched}
use Rattle.gb_mods.specs.Touched.{each_touched}
use Rattle.gb_mods.specs.Written.{targets, written_by}
use Rattle.gb_forms.specs.declared.effects.Effects.{Effects}

-- the effects of statements that call these procedures, through all of them
abbrev pub effects_by : Declarations → List Instr → List ProcRef → Option Effects
effects_by ds is ps = option_map (λ xs. record { written = targets is ++ xs; touched = each_touched is ++ touched ds ps }) (written_by ds ps)
