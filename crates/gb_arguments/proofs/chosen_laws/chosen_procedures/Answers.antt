use Rattle.gb_arguments.proofs.Given.{arguments_same}
use Rattle.gb_arguments.proofs.chosen_laws.chosen_procedures.Goals as goal

pub returns : goal.returns
returns c = λ before later scoped none i chosen g h bs w es fit u r t e. arguments_same before later scoped none i chosen g h bs w es fit u r t e
