use Rattle.gb_typing.proofs.Follows.{linking_follows, footprint_follows}
use Rattle.gb_typing.proofs.linked_laws.readings.Goals as goal

pub returns : goal.returns
returns c = record { linking = λ g. linking_follows g; footprints = footprint_follows }
