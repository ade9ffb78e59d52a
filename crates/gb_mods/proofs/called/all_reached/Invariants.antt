use Rattle.std.proofs.Common.{◌≡◌, ◌≤◌, ◌-◌, ◌^◌, length}
use Rattle.gb_mods.specs.Called.{all_reached, called, reached}
use Rattle.gb_mods.proofs.called.all_reached.Given as goal

abbrev pub invariant-loop-level : goal.invariant-loop-level
invariant-loop-level l = record {
  within : l.followed ≤ length l.all;
  goes_on : reached (2 ^ 32 - l.level) (called l.scope) l.followed l.all ≡ all_reached l.scope l.fn.first;
}
