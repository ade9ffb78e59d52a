use Rattle.gb_typing.proofs.ScopesAlike.{scope_alike, scope_closed, script_alike}
use Rattle.gb_typing.proofs.alike_laws.closed_scopes.Goals as goal
use Rattle.gb_meaning.specs.Declared.{declared}
use Rattle.gb_typing.specs.Scopes.{nothing}

pub returns : goal.returns
returns X c = record {
  alike = λ read looks ds w ks ls a. scope_alike read looks ks ls ds w a;
  closed = λ read looks ds w base a final h. scope_closed read looks ds w base a final h;
  scripts = λ read looks ds w none base final h. scope_closed read looks (declared ds) w base (script_alike ds none nothing base base) final h;
}
