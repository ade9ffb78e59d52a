use Rattle.std.proofs.Common.{◌∙◌}
use Rattle.gb_typing.proofs.Substituted.{substituted, reads_any}
use Rattle.gb_typing.proofs.Puts.{substituted_typed}
use Rattle.gb_typing.proofs.change_laws.substitution.Goals as goal

pub returns : goal.returns
returns x = record {
  meaning = substituted;
  reads = reads_any;
  typed = λ c f w ws h. let m = substituted_typed c f w.typed ws h in record { typed = m.typed; truth = m.written ∙ w.truth };
}
