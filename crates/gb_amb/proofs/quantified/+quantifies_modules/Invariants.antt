use Rattle.std.proofs.Common.{◌≡◌, drop}
use Rattle.std.specs.List.{list_any}
use Rattle.gb_amb.specs.Quantified.{quantifies_modules}
use Rattle.gb_amb.proofs.quantified.+quantifies_modules.Given as goal

abbrev pub invariant-quantify_modules-loop-t : goal.invariant-quantify_modules-loop-t
invariant-quantify_modules-loop-t l =
    list_any quantifies_modules (drop l.t-index l.list) ≡ list_any quantifies_modules l.list
