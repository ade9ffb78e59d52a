use Rattle.std.proofs.Common.{◌≡◌, drop}
use Rattle.std.specs.Option.{option_copied}
use Rattle.gb_mods.specs.Meets.{each_calls_named}
use Rattle.gb_mods.proofs.meets.each_calls_named.Given as goal

abbrev pub invariant-loop-s : goal.invariant-loop-s
invariant-loop-s l = each_calls_named l.scope (option_copied l.around) l.«module» l.ty.params (drop l.s-index l.ty.signatures) l.place ≡ each_calls_named l.scope (option_copied l.around) l.«module» l.ty.params l.ty.signatures l.place
