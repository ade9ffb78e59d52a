-- Goals behind references.
use Rattle.gb_goal.specs.declared.goal.Code as code
use Rattle.gb_goal.specs.declared.goal.Goal as goal
use Rattle.gb_goal.specs.declared.goal.Code.TheVariants as of
use Rattle.gb_goal.specs.declared.goal.Goal.TheVariants as seen
use Rattle.gb_goal.specs.Goal.{Code, Goal}
use Rattle.gb_goal.specs.Goal.Code.{body, procedure}
use Rattle.gb_goal.specs.Goal.Goal.{hoare, phoare, equiv, ambient}

abbrev pub code_seen : code.Code → Code
code_seen (of.Body is) = body is.now
code_seen (of.Procedure p) = procedure p.now

abbrev pub goal_seen : goal.Goal → Goal
goal_seen (seen.Hoare a p q) = hoare (code_seen a) p.now q.now
goal_seen (seen.Phoare a r p q b) = phoare (code_seen a) r p.now q.now b.now
goal_seen (seen.Equiv a b p q) = equiv (code_seen a) (code_seen b) p.now q.now
goal_seen (seen.Ambient f) = ambient f.now
