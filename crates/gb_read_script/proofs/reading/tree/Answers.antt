use Rattle.std.proofs.Common.{Err, ap, sym, subst, inr}
use Rattle.gb_core.specs.declared.refusal.Refused.{Refused}
use Rattle.gb_script.specs.declared.text.Text.{Text}
use Rattle.gb_limits.specs.LeftOut.{NoneLeftOut}
use Rattle.gb_read_script.specs.Reading.{IsFault}
use Rattle.gb_read_script.proofs.reading.tree.Goals as goal

pub returns-in_err-steps-clause-refused : goal.returns-in_err-steps-clause-refused
returns-in_err-steps-clause-refused g c = λ why place e.
    let same = c.in_ok-text.ensures.text in
    let fault : IsFault c.args.part c.in_ok-text.text why place = c.in_err-steps.ensures.fault why place (let h = rw e at c.from_residual-in_err-steps.ensures.1 in ap (λ (r : Refused). Err r) (sym h)) in
    inr (subst NoneLeftOut same c.in_ok-text.ensures.none, subst (λ (t : Text). IsFault c.args.part t why place) same fault)
