use Rattle.gb_meaning.proofs.Later.{later}
use Rattle.gb_meaning.proofs.module_laws.later_declarations.Goals as goal

pub returns : goal.returns
returns X c = λ read ms ds es m h. later read ms ds es m h
