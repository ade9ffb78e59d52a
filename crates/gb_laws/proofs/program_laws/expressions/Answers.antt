use Rattle.gb_laws.proofs.Running.{closed_meaning, closed_has}
use Rattle.gb_laws.proofs.program_laws.expressions.Goals as goal

pub returns : goal.returns
returns x = record { meaning = λ c g. closed_meaning g c; value = λ c g. closed_has g c }
