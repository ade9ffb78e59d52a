use Rattle.gb_typing.proofs.ClosedSettings.{touched_is}
use Rattle.gb_typing.proofs.KeptPrograms.{linked_is}
use Rattle.gb_typing.proofs.alike_laws.modules_of_settings.Goals as goal

pub returns : goal.returns
returns c = record { linked = λ ds g cs u n. linked_is ds g cs u n; touched = λ ds cs u n. touched_is ds cs u n }
