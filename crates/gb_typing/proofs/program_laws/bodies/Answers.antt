use Rattle.gb_typing.proofs.Drawing.{body_sound}
use Rattle.gb_typing.proofs.program_laws.bodies.Goals as goal

pub returns : goal.returns
returns x = λ c g f ls is w. body_sound c g f ls is w.statements
