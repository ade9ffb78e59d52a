use Rattle.std.proofs.Common.{ap}
use Rattle.gb_goal.specs.declared.sequent.Sequent.{Sequent}
use Rattle.gb_forms.proofs.hypotheses.with_hypotheses.Goals as goal

pub returns : goal.returns
returns c = ap (λ (s : Sequent). record s { hyps = c.args.hyps }) c.in_ok-other.ensures
