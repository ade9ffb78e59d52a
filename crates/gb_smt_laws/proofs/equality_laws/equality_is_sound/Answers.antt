use Rattle.gb_laws.proofs.Denominators.{denominator_one}
use Rattle.gb_laws.proofs.Terms.{typed_meaning}
use Rattle.gb_typing.specs.Context.{erased}
use Rattle.gb_typing.proofs.Erased.{erased_typed}
use Rattle.gb_smt_laws.proofs.EqualityIsSound.{holds}
use Rattle.gb_smt_laws.proofs.equality_laws.equality_is_sound.Goals as goal

pub returns : goal.returns
returns x = λ c g fits respects j p s q hyps v t w.
    holds c g j s respects (λ u k. typed_meaning (erased c) g fits.types j p u (erased_typed c u k) s q) (λ u k n. denominator_one g (erased c) u (erased_typed c u k) n) hyps t v w
