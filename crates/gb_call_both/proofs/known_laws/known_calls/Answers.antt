use Rattle.gb_call_both.proofs.KnownIsSound.{leads}
use Rattle.gb_call_both.proofs.known_laws.known_calls.Goals as goal

pub returns : goal.returns
returns x = λ ds scoped q t a f w known place qs. leads ds scoped q t a f w known place qs
