use Rattle.gb_meaning.proofs.Lists.{declared-append, declared-module}
use Rattle.gb_meaning.proofs.linking_laws.declarations.Goals as goal

pub returns : goal.returns
returns c = record { gained = λ ds es. declared-append ds es; modules = λ ds n. declared-module ds n }
