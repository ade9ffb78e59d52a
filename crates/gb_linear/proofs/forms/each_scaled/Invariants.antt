use Rattle.std.proofs.Common.{◌≡◌, drop}
use Rattle.gb_closing.specs.Summands.{behind}
use Rattle.gb_linear.specs.Forms.{each_scaled}
use Rattle.gb_linear.proofs.forms.each_scaled.Given as goal

abbrev pub invariant-loop-x : goal.invariant-loop-x
invariant-loop-x l = behind l.out (each_scaled l.on l.factor (drop l.x-index l.list)) ≡ each_scaled l.on l.factor l.list
