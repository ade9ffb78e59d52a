use Rattle.gb_meaning.proofs.SettingTypes.{setting-types}
use Rattle.gb_meaning.proofs.truth_laws.types.Goals as goal

pub returns : goal.returns
returns c = λ ds i. setting-types ds i
