use Rattle.gb_meaning.proofs.Counting.{forget-counted, forget-outcomes}
use Rattle.gb_meaning.proofs.counting_laws.run_without_tallies.Goals as goal

pub returns-clause-of_program : goal.returns-clause-of_program
returns-clause-of_program c = λ g os o p m. forget-counted g os o p m

pub returns-clause-of_procedure : goal.returns-clause-of_procedure
returns-clause-of_procedure c = λ g os o r vs globals. forget-outcomes g os o r vs globals
