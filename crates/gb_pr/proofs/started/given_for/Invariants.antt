use Rattle.std.proofs.Common.{◌≡◌, ◌++◌, drop}
use Rattle.gb_pr.specs.Started.{given_for}
use Rattle.gb_pr.proofs.started.given_for.Given as goal

abbrev pub invariant-loop-i : goal.invariant-loop-i
invariant-loop-i l = l.changes ++ given_for l.side (drop l.i l.params) (drop l.i l.arguments) ≡ l.fn.before ++ given_for l.side l.params l.arguments
