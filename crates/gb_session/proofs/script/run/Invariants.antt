use Rattle.std.proofs.Common.{◌≡◌, ◌+◌, ◌-◌, ◌≤◌, false, length, drop}
use Rattle.gb_session.proofs.Outcomes.{LeadsOn}
use Rattle.gb_session.proofs.script.run.Given as goal

-- The place lies no further on than the bytes so far, and what the rest comes to is what the text comes to.
abbrev pub invariant-loop-to : goal.invariant-loop-to
invariant-loop-to l = record {
  within : l.from ≤ length l.text;
  line : l.at.line ≤ l.from + 1;
  column : l.at.col ≤ l.from + 1;
  keeps : l.session.keeps ≡ false;
  rest : LeadsOn l.text l.session.present.session l.at (drop l.from l.text);
}

abbrev pub decreases-loop-to : goal.decreases-loop-to
decreases-loop-to l = length l.initial.text - l.from
