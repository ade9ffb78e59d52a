use Rattle.gb_print.proofs.Steps.{made_of_parts}
use Rattle.gb_print.proofs.laws.terms_are_made_of_parts.Goals as goal

pub returns : goal.returns
returns c = made_of_parts
