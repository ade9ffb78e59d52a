use Rattle.std.proofs.Common.{◌≡◌, drop}
use Rattle.gb_names.specs.Names.{is_parameter}
use Rattle.gb_names.proofs.globals.is_parameter.Given as goal

abbrev pub invariant-loop-q : goal.invariant-loop-q
invariant-loop-q l = is_parameter (drop l.q-index l.params) l.name ≡ is_parameter l.params l.name
