use Rattle.std.proofs.Common.{◌≡◌, drop}
use Rattle.gb_names.specs.Environment.{environment}
use Rattle.gb_elab.specs.Equalities.{with_equalities}
use Rattle.gb_elab.proofs.equalities.with_equalities.Given as goal

abbrev pub invariant-loop-x : goal.invariant-loop-x
invariant-loop-x l = with_equalities (environment l.at) l.bound l.form (drop l.x-index l.list) ≡ with_equalities (environment l.at) l.bound l.fn.first l.list
