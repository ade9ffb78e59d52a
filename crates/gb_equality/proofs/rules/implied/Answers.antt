use Rattle.gb_equality.proofs.Implied.{at_equal, at_unequal, at_other, over_forms}
use Rattle.gb_equality.proofs.rules.implied.Goals as goal

pub returns-in-Other : goal.returns-in-Other
returns-in-Other c = at_other c.args.connective c.args.own c.args.left c.args.right c.in-Other.is

pub returns-in-Equal : goal.returns-in-Equal
returns-in-Equal c = at_equal c.args.connective c.args.own c.args.left c.args.right c.implied_by_equation.result c.in-Equal.is c.implied_by_equation.ensures

pub returns-in-NotEqual : goal.returns-in-NotEqual
returns-in-NotEqual c = at_unequal c.args.connective c.args.own c.args.left c.args.right c.implied_by_equation-in-NotEqual.result c.in-NotEqual.is c.implied_by_equation-in-NotEqual.ensures

pub implied_by_table-requires : goal.implied_by_table-requires
implied_by_table-requires c = over_forms c.args.connective c.in_default.not-Other c.in_default.not-Equal c.in_default.not-NotEqual
