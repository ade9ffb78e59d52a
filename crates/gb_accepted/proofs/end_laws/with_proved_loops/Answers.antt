use Rattle.gb_meaning.specs.Declared.{declared}
use Rattle.gb_inline.specs.Proved.{ProvedEnd}
use Rattle.gb_accepted.proofs.LiftedEnd.{by_known_rule}
use Rattle.gb_accepted.proofs.end_laws.with_proved_loops.Goals as goal

pub returns : goal.returns
returns x =
    λ ds scope q t truth ls rs w known row law qs e.
    by_known_rule (declared ds) scope q t truth ls rs w (ProvedEnd ds) known row (λ Gs r. (let z = law Gs r in (z.typed, z.implies, z.ends))) qs e
