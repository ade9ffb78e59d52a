use Rattle.std.proofs.Common.{List, ◌≡◌, ◌++◌, length}
use Rattle.gb_script.specs.declared.table.Step.{Step}
use Rattle.gb_script.specs.declared.action.Rule.{Rule}
use Rattle.gb_script.specs.Build.{built}
use Rattle.gb_script.proofs.build.built.Given as goal

abbrev pub invariant-loop-step : goal.invariant-loop-step
invariant-loop-step l = (rest : List (Step Rule)) × (l.left.items ++ rest ≡ l.fn.steps.items) × (l.stack ≡ built l.text rest)

abbrev pub decreases-loop-step : goal.decreases-loop-step
decreases-loop-step l = length l.left.items
