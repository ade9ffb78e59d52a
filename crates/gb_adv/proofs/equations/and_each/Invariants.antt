use Rattle.std.proofs.Common.{◌≡◌, drop}
use Rattle.gb_adv.specs.Equations.{and_each}
use Rattle.gb_adv.proofs.equations.and_each.Given as goal

abbrev pub invariant-loop-form : goal.invariant-loop-form
invariant-loop-form l = and_each l.all (drop l.form-index l.others) ≡ and_each l.fn.first l.others
