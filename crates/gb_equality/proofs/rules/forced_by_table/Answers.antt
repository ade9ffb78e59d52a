use Rattle.gb_equality.proofs.Tables.{own_forced, left_forced, right_match}
use Rattle.gb_equality.proofs.rules.forced_by_table.Goals as goal

pub returns-in-Some : goal.returns-in-Some
returns-in-Some c =
    own_forced c.args.connective c.args.own c.args.left c.args.right c.requires c.is_possible-own_false.result c.is_possible-own_true.result c.in-Some.equation c.in-Some.ensures c.is_possible-own_false.ensures c.is_possible-own_true.ensures

pub returns-in-Some-forced : goal.returns-in-Some-forced
returns-in-Some-forced c =
    left_forced c.args.connective c.args.own c.args.left c.args.right c.requires c.is_possible-left_false.result c.is_possible-left_true.result c.in-Some-forced.equation c.in-Some-forced.ensures c.is_possible-left_false.ensures c.is_possible-left_true.ensures

pub returns : goal.returns
returns c =
    right_match c.args.connective c.args.own c.args.left c.args.right c.requires c.is_possible-right_false.result c.is_possible-right_true.result c.forced-3.result c.forced-3.ensures c.is_possible-right_false.ensures c.is_possible-right_true.ensures
