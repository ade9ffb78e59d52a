use Rattle.gb_meaning.proofs.Later.{same_body}
use Rattle.gb_meaning.proofs.module_laws.program_of_body.Goals as goal

pub returns : goal.returns
returns c = λ g h is e. same_body g h is e
