use Rattle.gb_prog.proofs.Certain.{chance_one, chance_at_least_one, chance_zero, certain_everywhere}
use Rattle.gb_prog.proofs.chance_laws.certain_events.Goals as goal

pub returns : goal.returns
returns x = record { exact = chance_one; at_least = chance_at_least_one; impossible = chance_zero; every = certain_everywhere }
