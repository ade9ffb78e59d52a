use Rattle.gb_smt.proofs.ByEquality.{many_deny}
use Rattle.gb_smt.proofs.by_equality.closes_by_equality.Goals as goal

pub returns-then-branch-gt-MOST : goal.returns-then-branch-gt-MOST
returns-then-branch-gt-MOST c =
    many_deny c.args.whole.now c.args.leaf.now c.requires c.in_ok-number_of_atoms.field-0 c.in_ok-number_of_atoms.ensures c.if-branch-gt-MOST.true
