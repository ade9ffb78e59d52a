use Rattle.gb_call_both.proofs.CallIsSound.{sound}
use Rattle.gb_call_both.proofs.call.call_is_sound.Goals as goal

pub returns : goal.returns
returns x = sound
