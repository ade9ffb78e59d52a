use Rattle.std.proofs.Common.{rules, append-nil}
use Rattle.gb_print.proofs.layout.put_opening.Goals as goal

pub returns-in-Lit : goal.returns-in-Lit
returns-in-Lit c = let e = append-nil c.args.text.now in search (rules, e)

pub returns-in-Whole : goal.returns-in-Whole
returns-in-Whole c = let e = append-nil c.args.text.now in search (rules, e)

pub returns-in-Read : goal.returns-in-Read
returns-in-Read c = let e = append-nil c.args.text.now in search (rules, e)

pub returns-in-Bound : goal.returns-in-Bound
returns-in-Bound c = let e = append-nil c.args.text.now in search (rules, e)

pub returns-in_default : goal.returns-in_default
returns-in_default c = let e = append-nil c.args.text.now in search (rules, e)
