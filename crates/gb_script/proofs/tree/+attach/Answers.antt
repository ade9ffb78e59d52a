use Rattle.std.proofs.Common.{sym, ◌∙◌}
use Rattle.gb_script.proofs.Attach.{stayed, went_inside, went_nowhere}
use Rattle.gb_script.proofs.tree.+attach.Goals as goal

pub returns-then-not-goes_under : goal.returns-then-not-goes_under
returns-then-not-goes_under t c = stayed c.args.before c.args.item c.behind.result (sym c.goes_under.ensures ∙ c.if-not-goes_under.true) c.behind.ensures

pub returns-in-None : goal.returns-in-None
returns-in-None t c = went_nowhere c.args.before c.args.item c.into_fields-head.result c.pop.new.self (sym c.goes_under.ensures ∙ c.if-not-goes_under.false) c.into_fields-head.ensures c.in-None.ensures.0 c.in-None.ensures.1

pub returns-in_ok-push-in-Some : goal.returns-in_ok-push-in-Some
returns-in_ok-push-in-Some t c = went_inside c.args.before c.args.item c.in-Some.last c.in_ok-longer-in-Some.longer c.into_fields-head.result c.pop.new.self c.push.new.self (sym c.goes_under.ensures ∙ c.if-not-goes_under.false) c.into_fields-head.ensures c.in-Some.ensures c.in_ok-longer-in-Some.ensures c.in_ok-push-in-Some.ensures.ok
