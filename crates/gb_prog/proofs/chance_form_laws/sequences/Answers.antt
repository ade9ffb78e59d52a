use Rattle.gb_prog.proofs.Chances.{after_full, after_less}
use Rattle.gb_prog.proofs.chance_form_laws.sequences.Goals as goal

pub returns : goal.returns
returns x = record { full = after_full; less = after_less }
