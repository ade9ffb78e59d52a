use Rattle.std.proofs.Common.{◌≡◌, drop}
use Rattle.gb_linear.specs.Closing.{all_assumed}
use Rattle.gb_linear.proofs.Gathered.{joined}
use Rattle.gb_linear.proofs.apply.all_assumed.Given as goal

abbrev pub invariant-loop-multiple : goal.invariant-loop-multiple
invariant-loop-multiple l = all_assumed l.equal l.hyps l.multiples ≡ joined l.out (all_assumed l.equal l.hyps (drop l.multiple-index l.multiples))
