use Rattle.gb_elab_laws.proofs.Judged.{called_is, known_there, named_is}
use Rattle.gb_elab_laws.proofs.form_laws.named_procedures.Goals as goal

pub returns : goal.returns
returns x = record {
  judged = λ globs c at vs fit judges h ns p n e. (known_there c at vs fit judges n.0 n.1 (named_is at vs h ns p n e)).there;
  called = λ globs c at vs fit judges h ns p n e. (known_there c at vs fit judges n.0 n.1 (called_is at vs h ns p n e)).there;
}
