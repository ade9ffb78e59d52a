use Rattle.gb_prog.proofs.Frames.{covers_all, covers_read, frame_form}
use Rattle.gb_prog.proofs.write_laws.frames.Goals as goal

pub returns : goal.returns
returns x = record { forms = frame_form; all = covers_all; read = covers_read }
