use Rattle.std.proofs.Common.{◌≡◌, ◌++◌, drop}
use Rattle.gb_forms.specs.Firsts.{firsts}
use Rattle.gb_forms.proofs.firsts.with_firsts.Given as goal

abbrev pub invariant-loop-local : goal.invariant-loop-local
invariant-loop-local l = l.all ++ firsts (drop l.local-index l.list) ≡ l.fn.found ++ firsts l.list
