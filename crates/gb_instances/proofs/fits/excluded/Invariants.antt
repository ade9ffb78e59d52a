use Rattle.std.proofs.Common.{◌≡◌, ◌++◌, drop, List}
use Rattle.std.specs.Option.{option_map}
use Rattle.gb_core.specs.declared.var.Var.{Var}
use Rattle.gb_instances.specs.Fits.{excluded}
use Rattle.gb_instances.proofs.fits.excluded.Given as goal

abbrev pub invariant-loop-name : goal.invariant-loop-name
invariant-loop-name l = option_map (λ (xs : List Var). l.all ++ xs) (excluded l.scope (drop l.name-index l.list)) ≡ excluded l.scope l.list
