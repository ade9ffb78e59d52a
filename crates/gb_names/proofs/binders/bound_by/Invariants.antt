use Rattle.std.proofs.Common.{◌≡◌, [], drop}
use Rattle.gb_names.specs.Binders.{bound_by}
use Rattle.gb_names.specs.Environment.{environment}
use Rattle.gb_names.proofs.binders.bound_by.Given as goal

abbrev pub invariant-loop-bind : goal.invariant-loop-bind
invariant-loop-bind l = bound_by (environment l.at) l.all (drop l.bind-index l.binds) ≡ bound_by (environment l.at) [] l.binds
