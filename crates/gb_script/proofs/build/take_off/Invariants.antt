use Rattle.std.proofs.Common.{◌≡◌, ◌++◌, take, drop, ◌-◌}
use Rattle.gb_script.proofs.build.take_off.Given as goal

abbrev pub invariant-loop-i : goal.invariant-loop-i
invariant-loop-i l = record {
  taken : l.taken ++ take (l.fn.count - l._i) l.stack ≡ take l.fn.count l.fn.stack;
  dropped : drop (l.fn.count - l._i) l.stack ≡ drop l.fn.count l.fn.stack;
}
