use Rattle.gb_laws.proofs.Shapes.{formed_changed, sound_changed}
use Rattle.gb_laws.proofs.shape_laws.shapes.Goals as goal

pub returns : goal.returns
returns c = record { formed = formed_changed; sound = sound_changed }
