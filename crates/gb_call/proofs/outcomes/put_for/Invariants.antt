use Rattle.std.proofs.Common.{◌≡◌, ◌++◌, drop}
use Rattle.gb_call.specs.Outcomes.{put_for}
use Rattle.gb_call.proofs.outcomes.put_for.Given as goal

abbrev pub invariant-loop-i : goal.invariant-loop-i
invariant-loop-i l = l.changes ++ put_for l.side (drop l.i l.params) (drop l.i l.arguments) ≡ l.fn.before ++ put_for l.side l.params l.arguments
