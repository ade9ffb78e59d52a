use Rattle.std.proofs.Common.{length, ◌-◌}
use Rattle.gb_script.proofs.machine.+push_body.Given as goal

abbrev pub decreases-push_body : goal.decreases-push_body
decreases-push_body l = length l.symbols.now - l.start
