use Rattle.std.proofs.Common.{◌≡◌, ◌<◌, ◌^◌, take}
use Rattle.gb_limits.specs.Numbers.{number_of}
use Rattle.gb_limits.proofs.numbers.number.Given as goal

abbrev pub invariant-loop-digit : goal.invariant-loop-digit
invariant-loop-digit l = record {
  number : l.number ≡ number_of (take l.digit-index l.digits);
  in_range : l.number < 2 ^ 127;
}
