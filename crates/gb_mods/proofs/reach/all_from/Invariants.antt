use Rattle.std.proofs.Common.{◌≡◌, ◌≤◌, ◌-◌, ◌^◌, length}
use Rattle.std.specs.Option.{option_copied}
use Rattle.gb_mods.specs.Called.{reached}
use Rattle.gb_mods.specs.Reach.{all_from, called_from_all}
use Rattle.gb_mods.proofs.reach.all_from.Given as goal

abbrev pub invariant-loop-level : goal.invariant-loop-level
invariant-loop-level l = record {
  within : l.followed ≤ length l.all;
  goes_on : reached (2 ^ 32 - l.level) (called_from_all l.scope (option_copied l.around)) l.followed l.all ≡ all_from l.scope (option_copied l.around) l.fn.first;
}
