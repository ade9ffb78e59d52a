-- The loop that makes no turn is good.
use Rattle.std.proofs.Common.{refl}
use Rattle.gb_core.specs.declared.value.Value.{out-Value}
use Rattle.gb_meaning.specs.Holds.{IsSound}
use Rattle.gb_meaning.specs.Idling.{idling_is_proved}

pub sound : IsSound idling_is_proved
unfolding out-Value denote.Hole.Carrier.out
sound = (tt, ((λ w size table model. ((λ m. record { turns = 0; ended = (refl, tt); same = λ f. refl }), tt, tt)), tt))
