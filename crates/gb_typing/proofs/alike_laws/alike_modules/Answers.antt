use Rattle.gb_typing.proofs.ReadingsAlike.{module_alike, own_alike}
use Rattle.gb_typing.proofs.alike_laws.alike_modules.Goals as goal

pub returns : goal.returns
returns X c = record {
  whole = λ read looks c m w ks ls s fs gs k. module_alike read looks c m ks ls s w fs gs k;
  own = λ read looks c m w ps qs e ks ls s. own_alike read looks c m ks ls s w ps qs e;
}
