use Rattle.gb_laws.proofs.Writing.{led_all_written}
use Rattle.gb_laws.proofs.lead_laws.variables_written_at_once.Goals as goal

pub returns : goal.returns
returns c = led_all_written
