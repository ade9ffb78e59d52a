use Rattle.std.proofs.Common.{refl}
use Rattle.std.proofs.lemmas.Bool.Decides.{not_from_Decides}
use Rattle.gb_equality.proofs.Tables.{none_possible}
use Rattle.gb_equality.proofs.Implied.{table_match}
use Rattle.gb_equality.proofs.rules.implied_by_table.Goals as goal

pub returns-then-not-is_possible : goal.returns-then-not-is_possible
returns-then-not-is_possible c =
    none_possible c.args.connective c.args.own c.args.left c.args.right c.requires (not_from_Decides c.is_possible.result c.is_possible.ensures c.if-not-is_possible.true) _ refl refl

pub returns : goal.returns
returns c =
    table_match c.args.connective c.args.own c.args.left c.args.right c.forced_by_table.result c.requires (c.is_possible.ensures.0 c.if-not-is_possible.false) c.forced_by_table.ensures
