use Rattle.std.proofs.Common.{◌≡◌, ◌++◌, drop, List}
use Rattle.std.specs.Option.{option_map}
use Rattle.gb_core.specs.declared.var.Var.{Var}
use Rattle.gb_mods.specs.Read.{read_by}
use Rattle.gb_mods.proofs.read.read_by.Given as goal

abbrev pub invariant-loop-x : goal.invariant-loop-x
invariant-loop-x l = option_map (λ (xs : List Var). l.all ++ xs) (read_by l.scope (drop l.x-index l.list)) ≡ read_by l.scope l.list
