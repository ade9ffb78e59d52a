use Rattle.gb_laws.proofs.Terms.{typed_meaning, typed_value, typed_has}
use Rattle.gb_laws.proofs.type_laws.terms.Goals as goal

pub returns : goal.returns
returns x = record { meaning = λ c g i j f t w. typed_meaning c g i j f t w; value = λ c g i j f t w. typed_value c g i j f t w; value_of_type = λ c g i j f t w. typed_has c g i j f t w }
