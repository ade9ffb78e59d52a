use Rattle.gb_script.proofs.Stacks.{extends}
use Rattle.gb_script.proofs.build.extended.Goals as goal

pub returns-in-Some : goal.returns-in-Some
returns-in-Some c = extends c.args.place c.args.values c.pop.new.self c.in-Some.last c.into.result c.in-Some.ensures c.into.ensures
