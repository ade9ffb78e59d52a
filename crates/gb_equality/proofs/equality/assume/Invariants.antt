use Rattle.std.proofs.Common.{◌≡◌, take, length, All}
use Rattle.gb_closing.specs.Labels.{label_at}
use Rattle.gb_equality.proofs.Assuming.{KeepReadings}
use Rattle.gb_equality.proofs.equality.assume.Given as goal

abbrev pub invariant-loop-place : goal.invariant-loop-place
invariant-loop-place l = record {
  rows : length l.labels ≡ length l.initial.labels;
  assumed : All (λ p. label_at l.labels p ≡ 1) (take l.place-index l.hyps);
  reads : KeepReadings l.hyps l.conclusion l.initial.labels l.labels;
}
