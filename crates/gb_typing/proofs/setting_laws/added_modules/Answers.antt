use Rattle.gb_meaning.specs.Settings.{types_of}
use Rattle.gb_meaning.specs.Holds.{interpretation}
use Rattle.gb_typing.proofs.PlainGlobals.{plain_world}
use Rattle.gb_typing.proofs.WithModules.{later_agrees}
use Rattle.gb_typing.proofs.setting_laws.added_modules.Goals as goal

pub returns : goal.returns
returns c = λ ds es s e w size table h. later_agrees ds es s e w size table (plain_world (types_of ds (interpretation w size table)) w h)
