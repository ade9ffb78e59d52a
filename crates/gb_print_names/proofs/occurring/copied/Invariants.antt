use Rattle.std.proofs.Common.{◌≡◌, take}
use Rattle.gb_print_names.proofs.occurring.copied.Given as goal

abbrev pub invariant-loop-name : goal.invariant-loop-name
invariant-loop-name l = l.names ≡ take l.name-index l.list
