use Rattle.std.proofs.Common.{◌≡◌, ◌++◌, drop}
use Rattle.gb_ended.specs.Named.{all_names_in}
use Rattle.gb_ended.proofs.named.+names_in.Given as goal

abbrev pub invariant-all_names_in-loop-m : goal.invariant-all_names_in-loop-m
invariant-all_names_in-loop-m l = l.all ++ all_names_in (drop l.m-index l.list) ≡ l.fn.found ++ all_names_in l.list
