use Rattle.std.proofs.Common.{rules}
use Rattle.gb_call.specs.Outcomes.{outcome_seen}
use Rattle.gb_call_both.proofs.BothSteps.{both_as_read}
use Rattle.gb_call_both.proofs.both.after_both.Goals as goal

pub returns : goal.returns
returns c =
    let e =
    both_as_read (outcome_seen c.args.left.now) (outcome_seen c.args.right.now) c.args.said.now c.args.form.now c.args.left_reads.now.said c.args.left_reads.now.after
    c.args.right_reads.now.said c.args.right_reads.now.after c.requires.left_said c.requires.left_later c.requires.right_said c.requires.right_later in
    search (rules, e)
