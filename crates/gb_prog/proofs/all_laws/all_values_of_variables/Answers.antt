use Rattle.gb_prog.proofs.AllValues.{all_values_typed, ends_in_one, ends_in_two, ends_of_body}
use Rattle.gb_prog.proofs.all_laws.all_values_of_variables.Goals as goal

pub returns : goal.returns
returns x = record { typed = all_values_typed; one = ends_in_one; two = ends_in_two; ends = ends_of_body }
