use Rattle.std.proofs.Common.{◌≡◌, drop}
use Rattle.gb_script.specs.Check.{pick_row}
use Rattle.gb_script.proofs.machine.pick_among.Given as goal

abbrev pub invariant-loop-row : goal.invariant-loop-row
invariant-loop-row g l = pick_row l.stage (drop l.row-index l.rows) l.part l.kind ≡ pick_row l.stage l.rows l.part l.kind
