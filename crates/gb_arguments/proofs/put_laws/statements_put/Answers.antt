use Rattle.gb_arguments.proofs.PutSettings.{statements}
use Rattle.gb_arguments.proofs.put_laws.statements_put.Goals as goal

pub returns : goal.returns
returns c = λ ds ps es all i types d procedures t kinds w u k s. statements ds ps es all i types d procedures t kinds w u k s
