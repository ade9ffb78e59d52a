use Rattle.gb_typing.proofs.Once.{types_inhabited}
use Rattle.gb_typing.proofs.Operators.{scope_operators}
use Rattle.gb_typing.proofs.Settings.{scope_fits, goal_fits}
use Rattle.gb_typing.proofs.scope_laws.settings.Goals as goal

pub returns : goal.returns
returns x = record {
  scope = λ ds i w f r u k. scope_fits ds i w (scope_operators ds i w (types_inhabited ds i f) r) u k f.once;
  goal = λ ds i w f r u k q b m fs. goal_fits ds i w (scope_operators ds i w (types_inhabited ds i f) r) u k f.once q b m fs;
}
