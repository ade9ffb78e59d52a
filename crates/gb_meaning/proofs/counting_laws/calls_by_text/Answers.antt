use Rattle.gb_meaning.proofs.Asking.{bounded, bounded_by}
use Rattle.gb_meaning.proofs.counting_laws.calls_by_text.Goals as goal

pub returns : goal.returns
returns c = record {
  of_program = λ g os o p m. bounded g os o p m;
  of_procedure = λ g os o r vs globals. bounded_by g os o r vs globals;
}
