use Rattle.std.proofs.Common.{◌≡◌, ◌-◌, ◌^◌}
use Rattle.gb_inline.specs.Asking.{once_asked}
use Rattle.gb_inline.specs.Inlined.{repeated, without_calls}
use Rattle.gb_inline.proofs.inlined.without_calls.Given as goal

abbrev pub invariant-loop-round : goal.invariant-loop-round
invariant-loop-round l = repeated (2 ^ 32 - l.round) (once_asked l.asks) l.all ≡ without_calls (once_asked l.asks) l.fn.list
