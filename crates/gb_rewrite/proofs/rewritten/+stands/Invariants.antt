use Rattle.std.proofs.Common.{◌≡◌, drop}
use Rattle.std.specs.List.{list_any}
use Rattle.gb_rewrite.specs.Rewritten.{stands}
use Rattle.gb_rewrite.proofs.rewritten.+stands.Given as goal

abbrev pub invariant-stands_in_any-loop-t : goal.invariant-stands_in_any-loop-t
invariant-stands_in_any-loop-t l =
    list_any (stands l.sought) (drop l.t-index l.list) ≡ list_any (stands l.sought) l.list
