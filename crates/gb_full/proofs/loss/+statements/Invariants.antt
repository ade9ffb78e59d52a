use Rattle.std.proofs.Common.{◌≡◌, drop, map}
use Rattle.gb_full.specs.Loss.{body_loss, known_seen}
use Rattle.gb_full.proofs.loss.+statements.Given as goal

abbrev pub invariant-body_loss-loop-statement : goal.invariant-body_loss-loop-statement
invariant-body_loss-loop-statement l = body_loss l.scope l.full (map known_seen l.known) (drop l.statement-index l.list) ≡ body_loss l.scope l.full (map known_seen l.known) l.list
