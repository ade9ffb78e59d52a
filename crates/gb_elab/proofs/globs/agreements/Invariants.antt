use Rattle.std.proofs.Common.{◌≡◌, drop, None}
use Rattle.gb_elab.specs.Globs.{agreements}
use Rattle.gb_elab.proofs.globs.agreements.Given as goal

abbrev pub invariant-loop-variable : goal.invariant-loop-variable
invariant-loop-variable l = agreements l.scope l.left l.right l.form (drop l.variable-index l.list) ≡ agreements l.scope l.left l.right None l.list
