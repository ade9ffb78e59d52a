-- What the patterns that are left add to the names comes to what all of them add.
use Rattle.std.proofs.Common.{◌≡◌, [], drop}
use Rattle.gb_theory.specs.Patterns.{all_added}
use Rattle.gb_theory.specs.Tactics.{each_adds}
use Rattle.gb_theory.proofs.names.+names.Given as goal

abbrev pub invariant-all_added-loop-pattern : goal.invariant-all_added-loop-pattern
invariant-all_added-loop-pattern l =
    all_added (each_adds l.scope l.goal (drop l.pattern-index l.patterns)) l.used l.names ≡ all_added (each_adds l.scope l.goal l.patterns) l.used []
