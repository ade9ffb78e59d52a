use Rattle.std.proofs.Common.{◌≡◌, drop}
use Rattle.gb_closing.specs.Summands.{behind}
use Rattle.gb_linear.specs.Forms.{merged}
use Rattle.gb_linear.proofs.forms.merged.Given as goal

abbrev pub invariant-loop-x : goal.invariant-loop-x
invariant-loop-x l = behind l.out (merged l.sign (drop l.x-index l.first) l.left) ≡ merged l.sign l.first l.second
