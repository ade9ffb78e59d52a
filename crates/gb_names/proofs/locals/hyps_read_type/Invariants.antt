use Rattle.std.proofs.Common.{◌≡◌, drop}
use Rattle.gb_names.specs.Locals.{hyps_read_type}
use Rattle.gb_names.proofs.locals.hyps_read_type.Given as goal

abbrev pub invariant-loop-hyp : goal.invariant-loop-hyp
invariant-loop-hyp l = hyps_read_type l.side l.name (drop l.hyp-index l.list) ≡ hyps_read_type l.side l.name l.list
