use Rattle.gb_laws.proofs.Denominators.{denominator_one}
use Rattle.gb_laws.proofs.Terms.{typed_meaning, typed_value, typed_has}
use Rattle.gb_typing.specs.Context.{erased}
use Rattle.gb_typing.proofs.Erased.{erased_typed}
use Rattle.gb_typing.proofs.term_laws.meanings.Goals as goal

pub returns : goal.returns
returns x = record {
  meaning = λ c g f j p t w s q. typed_meaning (erased c) g f.types j p t (erased_typed c t w) s q;
  value = λ c g f j p t w k s q. typed_value (erased c) g f.types j p t (erased_typed c t w) k s q;
  value_of_type = λ c g f j p t w k s q. typed_has (erased c) g f.types j p t (erased_typed c t w) k s q;
  denominator = λ c g t w k. denominator_one g (erased c) t (erased_typed c t w) k;
}
