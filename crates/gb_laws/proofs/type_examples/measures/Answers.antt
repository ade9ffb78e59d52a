use Rattle.std.proofs.Common.{◌≡◌, refl}
use Rattle.gb_core.specs.declared.ty.Ty.TheVariants as ty
use Rattle.gb_laws.proofs.type_examples.measures.Goals as goal

pub returns : goal.returns
returns x = record { event = λ c. ((tt, refl, refl), ((refl, tt), ((tt, refl), tt))); real = λ c w. different w.0.1 }
  where
    different : ty.Real ≡ ty.Bool → ⊥
    different e = cc
