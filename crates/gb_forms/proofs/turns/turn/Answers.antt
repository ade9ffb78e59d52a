use Rattle.std.proofs.Common.{refl}
use Rattle.gb_forms.proofs.turns.turn.Goals as goal

pub returns : goal.returns
returns c = rw (c.in_ok-guard.ensures, c.in_ok-body.ensures, c.in_ok-nothing.ensures, c.new.ensures) refl
