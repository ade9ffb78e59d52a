use Rattle.std.proofs.Common.{◌≤◌, map, take}
use Rattle.std.specs.Prelude.{string_bytes}
use Rattle.std.specs.List.{concat}
use Rattle.std.specs.Io.KnownBytes.{Appends}
use Rattle.gb_app.proofs.report.write.Given as goal

-- the lines so far were written
abbrev pub invariant-loop-line : goal.invariant-loop-line
invariant-loop-line g l =
    (g.K.Sink.faults l.fn.out ≤ g.K.Sink.faults l.out)
    × Appends (g.K.Sink.written l.fn.out) (g.K.Sink.written l.out) (concat (map string_bytes (take l.line-index l.report)))
