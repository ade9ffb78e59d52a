use Rattle.gb_call.proofs.CallIsSound.{sound}
use Rattle.gb_call.proofs.call.call_is_sound.Goals as goal

pub returns : goal.returns
returns x = sound
