use Rattle.std.proofs.Common.{◌≡◌, length}
use Rattle.gb_core.specs.declared.value.Card.TheVariants.{Exact}
use Rattle.gb_core.specs.Types.{card_of}
use Rattle.gb_smt.specs.declared.assign.Found.TheVariants.{True}
use Rattle.gb_smt.specs.Assign.{assignments, found_before}
use Rattle.gb_smt.proofs.assign.try_all.Given as goal

abbrev pub invariant-loop-at : goal.invariant-loop-at
invariant-loop-at l = record {
  exact : card_of (assignments l.claim) ≡ Exact l.count;
  each : length l.reads ≡ length l.claim.variables;
  before : found_before l.scope l.at l.claim ≡ True;
}
