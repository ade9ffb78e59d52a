-- `skip` is sound.
use Rattle.std.proofs.Common.{[], ◌∷◌, Some, refl, arith}
use Rattle.gb_core.specs.declared.refusal.Why.TheVariants.{Shape}
use Rattle.gb_dist.specs.WeightedList.{unit}
use Rattle.gb_dist.specs.Coupling.{Coupling}
use Rattle.gb_meaning.specs.Memory.{Memory}
use Rattle.gb_meaning.specs.State.{at, between}
use Rattle.gb_meaning.specs.Judgments.{IsTrueUnder}
use Rattle.gb_typing.specs.Context.{Context}
use Rattle.gb_typing.specs.Sequents.{one, two}
use Rattle.gb_goal.specs.Goal.Code.{body, procedure}
use Rattle.gb_goal.specs.Goal.Goal.{hoare, phoare, equiv, ambient}
use Rattle.gb_typing.specs.Forms.{implies_form}
use Rattle.gb_typing.specs.Rules.{IsSoundRule, no_arguments}
use Rattle.gb_typing.proofs.Ambient.{one_typed, one_meaning, pair_typed, pair_meaning}
use Rattle.gb_typing.proofs.Forms.{implies_typed, implies_use}
use Rattle.gb_typing.proofs.Given.{refused_given, sound_given}
use Rattle.gb_prog.specs.Compared.{certain_or_not}
use Rattle.gb_prog.proofs.Bound.{bound_made, met}
use Rattle.gb_prog.proofs.Comparing.{certain_typed}
use Rattle.gb_bodies.specs.Skip.{skip_row}

single : (Q : Memory → Memory → Type 0) (m n : Memory) → Q m n → Coupling Q (unit m) 1 (unit n) 1
single Q m n q = record { denominator = 1; positive = omega arith; pairs = unit (m, n); related = (omega arith, q, tt); left = λ f. refl; right = λ f. refl }

module _ (c : Context) where
  pub sound : IsSoundRule c skip_row no_arguments
  sound outer ls rs (hoare (body []) p q) w y Gs e =
      let f = implies_typed (one c ls) p q w.1 w.2 in
      sound_given c (hoare (body []) p q) _ Gs (
        ((ls, ls, one_typed c outer (Some ls) ls refl (implies_form p q) f), tt),
        λ g fits j fair s fit h m x. (implies_use g j p q (at s m) (one_meaning c outer (Some ls) ls refl (implies_form p q) f g fits j fair s h.0 m) x, tt),
      ) e
  sound outer ls rs (phoare (body []) r p q b) w y Gs e =
      let f = implies_typed (one c ls) p (certain_or_not r q b) w.1 (certain_typed (one c ls) r q b w.2 (bound_made c b w.3 w.4 ls)) in
      sound_given c (phoare (body []) r p q b) _ Gs (
        ((ls, ls, one_typed c outer (Some ls) ls refl (implies_form p (certain_or_not r q b)) f), tt),
        λ g fits j fair s fit h m x. met c b w.3 w.4 g fits j fair s fit r q m
            (implies_use g j p (certain_or_not r q b) (at s m) (one_meaning c outer (Some ls) ls refl (implies_form p (certain_or_not r q b)) f g fits j fair s h.0 m) x),
      ) e
  sound outer ls rs (equiv (body []) (body []) p q) w y Gs e =
      let f = implies_typed (two c ls rs) p q w.3 w.4 in
      sound_given c (equiv (body []) (body []) p q) _ Gs (
        ((ls, rs, pair_typed c outer (Some ls) (Some rs) ls rs refl refl (implies_form p q) f), tt),
        λ g fits j fair s fit h m n x. single (λ a b. IsTrueUnder g j q (between s a b)) m n
            (implies_use g j p q (between s m n) (pair_meaning c outer (Some ls) (Some rs) ls rs refl refl (implies_form p q) f g fits j fair s h.0 m n) x),
      ) e
  sound outer ls rs (hoare (body (i ∷ is)) p q) w y Gs e = refused_given Shape Gs e
  sound outer ls rs (hoare (procedure a) p q) w y Gs e = refused_given Shape Gs e
  sound outer ls rs (phoare (body (i ∷ is)) r p q b) w y Gs e = refused_given Shape Gs e
  sound outer ls rs (phoare (procedure a) r p q b) w y Gs e = refused_given Shape Gs e
  sound outer ls rs (equiv (body []) (body (j ∷ js)) p q) w y Gs e = refused_given Shape Gs e
  sound outer ls rs (equiv (body (i ∷ is)) b p q) w y Gs e = refused_given Shape Gs e
  sound outer ls rs (equiv (body []) (procedure b) p q) w y Gs e = refused_given Shape Gs e
  sound outer ls rs (equiv (procedure a) b p q) w y Gs e = refused_given Shape Gs e
  sound outer ls rs (ambient f) w y Gs e = refused_given Shape Gs e
