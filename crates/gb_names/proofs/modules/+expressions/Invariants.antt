use Rattle.std.proofs.Common.{◌≡◌, ◌+◌, ◌*◌, [], drop}
use Rattle.gb_names.specs.Environment.{environment}
use Rattle.gb_names.specs.Modules.{all_given, given_seen, with_modules}
use Rattle.gb_names.proofs.modules.+expressions.Given as goal

abbrev pub decreases-module_at : goal.decreases-module_at
decreases-module_at l = 4 * goal.size-module_at l

abbrev pub decreases-give : goal.decreases-give
decreases-give l = 4 * goal.size-give l + 1

abbrev pub decreases-applied : goal.decreases-applied
decreases-applied l = 4 * goal.size-applied l + 2

abbrev pub decreases-bracketed : goal.decreases-bracketed
decreases-bracketed l = 4 * goal.size-bracketed l + 3

abbrev pub decreases-expression : goal.decreases-expression
decreases-expression l = 4 * goal.size-expression l + 3

abbrev pub invariant-applied-loop-tree : goal.invariant-applied-loop-tree
invariant-applied-loop-tree l = all_given (environment l.at) l.bound (given_seen l.given) (with_modules (drop l.tree-index l.arguments)) ≡ all_given (environment l.at) l.bound ([], l.interface.lacks.now) (with_modules l.arguments)
