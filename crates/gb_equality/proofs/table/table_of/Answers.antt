use Rattle.gb_equality.proofs.Rows.{table_made}
use Rattle.gb_equality.proofs.table.table_of.Goals as goal

pub returns : goal.returns
returns c =
    table_made c.new-nodes.result c.add_first.new.nodes c.add.new.nodes c.args.hyps.now c.args.conclusion.now c.in_ok-hyps.hyps c.in_ok-conclusion.conclusion c.new-nodes.ensures c.in_ok-hyps.ensures.added c.in_ok-hyps.ensures.places
    c.in_ok-conclusion.ensures.added c.in_ok-conclusion.ensures.place
