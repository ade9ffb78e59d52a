use Rattle.gb_inline.proofs.FreshSteps.{IsUnderway}
use Rattle.gb_inline.proofs.fresh.new_names.Given as goal

abbrev pub invariant-loop-local : goal.invariant-loop-local
invariant-loop-local l = IsUnderway l.used l.list l.local-index l.all l.taken l.next
