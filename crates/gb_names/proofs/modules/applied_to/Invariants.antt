use Rattle.std.proofs.Common.{◌≡◌, [], ◌∷◌, drop}
use Rattle.gb_names.specs.Environment.{environment}
use Rattle.gb_names.specs.Modules.{all_given, given_seen, with_modules}
use Rattle.gb_names.proofs.modules.applied_to.Given as goal

abbrev pub invariant-loop-tree : goal.invariant-loop-tree
invariant-loop-tree l = all_given (environment l.at) l.bound (given_seen l.given) (with_modules (drop l.tree-index l.more)) ≡ all_given (environment l.at) l.bound ([], l.interface.lacks.now) (with_modules (l.first ∷ l.more))
