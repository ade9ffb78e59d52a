use Rattle.gb_typing.proofs.Exact.{exact}
use Rattle.gb_typing.proofs.goal_laws.truth.Goals as goal

pub returns : goal.returns
returns x = λ c g f j a s ls rs G w. exact c g f j a s ls rs G w
