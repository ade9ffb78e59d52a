use Rattle.gb_meaning.proofs.InSetting.{in_setting}
use Rattle.gb_meaning.proofs.module_laws.procedure_in_setting.Goals as goal

pub returns : goal.returns
returns c = λ before after m ps qs p i plain place fresh last free calls. in_setting before after m ps qs p i plain place fresh last free calls
