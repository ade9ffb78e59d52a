use Rattle.gb_elab_laws.proofs.Models.{model, no_section, no_falsehood}
use Rattle.gb_elab_laws.proofs.promise_laws.typed_scopes_have_models.Goals as goal

pub returns : goal.returns
returns c = record { model = model; no_section = no_section; no_falsehood = no_falsehood }
