use Rattle.gb_closing_laws.proofs.Choices.{choice_is}
use Rattle.gb_closing_laws.proofs.setting_laws.each_choice.Goals as goal

pub returns : goal.returns
returns c = choice_is
