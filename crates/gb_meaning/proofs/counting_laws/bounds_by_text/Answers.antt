use Rattle.gb_meaning.proofs.Groups.{bounded_by_text}
use Rattle.gb_meaning.proofs.counting_laws.bounds_by_text.Goals as goal

pub returns : goal.returns
returns c = λ ds g w t a bs h. bounded_by_text ds g w t a bs h
