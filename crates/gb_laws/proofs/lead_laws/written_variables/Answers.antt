use Rattle.gb_laws.proofs.Writing.{led_written}
use Rattle.gb_laws.proofs.lead_laws.written_variables.Goals as goal

pub returns : goal.returns
returns c = λ g j x r t v s K o i m u n. led_written g j x r t v s K o i m u n
