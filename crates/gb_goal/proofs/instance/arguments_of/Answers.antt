use Rattle.std.proofs.Common.{ap, sym, ◌∙◌}
use Rattle.gb_goal.specs.Instances.{arguments_of}
use Rattle.gb_goal.proofs.Instances.{arguments_are}
use Rattle.gb_goal.proofs.instance.arguments_of.Goals as goal

pub returns-in-Apply : goal.returns-in-Apply
returns-in-Apply c = let x = c.in-Apply in c.as_slice.ensures ∙ sym (ap arguments_of x.is ∙ arguments_are x.field-0 x.args)
