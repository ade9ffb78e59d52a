use Rattle.gb_typing.proofs.Anywhere.{value_anywhere}
use Rattle.gb_typing.proofs.RunsAnywhere.{run_anywhere}
use Rattle.gb_typing.proofs.program_laws.states.Goals as goal

pub returns : goal.returns
returns x = record { value = value_anywhere; run = λ c g ls is w s q m. run_anywhere g c ls g is w.statements s q m }
