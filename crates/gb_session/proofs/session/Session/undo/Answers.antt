-- One command after the other is taken off.
use Rattle.std.proofs.Common.{◌∙◌, arith}
use Rattle.gb_session.proofs.Stages.{undone_more, undone_all, one_less}
use Rattle.gb_session.proofs.session.Session.undo.Goals as goal

pub returns-then-not-back-clause-session : goal.returns-then-not-back-clause-session
returns-then-not-back-clause-session c =
    undone_all c.args.n c.loop-count.count c.loop-count.self c.back.new.self c.if-not-back.ensures.done c.if-not-back.ensures.session ∙ c.loop-count.invariant.left

pub loop-count-preserved : goal.loop-count-preserved
loop-count-preserved c =
    let less = one_less c.loop-count.self c.back.new.self c.if-not-back.ensures.done c.if-not-back.ensures.session in
    record {
      within = omega arith;
      left = undone_more c.args.n c.loop-count.count c.loop-count.self c.back.new.self (omega arith) c.if-not-back.ensures.session ∙ c.loop-count.invariant.left;
      length = omega (arith, c.loop-count.invariant.length, less);
    }
