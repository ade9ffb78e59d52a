use Rattle.std.proofs.Common.{◌≡◌, map, take}
use Rattle.std.specs.Prelude.{string_bytes}
use Rattle.gb_app.specs.Report.{lemma_line}
use Rattle.gb_app.proofs.report.accepted.Given as goal

abbrev pub invariant-loop-name : goal.invariant-loop-name
invariant-loop-name l = map string_bytes l.report.items ≡ map lemma_line (take l.name-index l.name-items)
