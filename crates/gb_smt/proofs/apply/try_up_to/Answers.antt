use Rattle.std.proofs.Common.{sym, ◌∙◌}
use Rattle.gb_smt.proofs.Trials.{tried}
use Rattle.gb_smt.proofs.apply.try_up_to.Goals as goal

pub returns : goal.returns
returns c =
    tried c.args.scope.now c.args.most.now c.args.claim.now c.in_ok-widest.widest c.in_ok-width.width c.in_ok-found.found c.trial_at.result c.in_ok-widest.ensures c.in_ok-width.ensures (sym c.is_tried.ensures ∙ c.if-not-is_tried.false) c.in_ok-found.ensures c.trial_at.ensures
