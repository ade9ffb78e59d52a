use Rattle.gb_laws.proofs.Agreeing.{left_to_binder, right_to_binder}
use Rattle.gb_laws.proofs.lead_laws.bound_sides.Goals as goal

pub returns : goal.returns
returns c = record { left = left_to_binder; right = right_to_binder }
