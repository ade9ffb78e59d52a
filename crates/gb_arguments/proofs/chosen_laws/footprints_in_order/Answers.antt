use Rattle.gb_arguments.proofs.Filtered.{footprint_ordered, footprint_in}
use Rattle.gb_arguments.proofs.chosen_laws.footprints_in_order.Goals as goal

pub returns : goal.returns
returns c = record { ordered = λ w f xs. footprint_ordered w f xs; known = λ w o f xs. footprint_in w o f xs }
