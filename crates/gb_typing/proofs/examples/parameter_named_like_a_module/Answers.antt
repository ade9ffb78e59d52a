use Rattle.std.proofs.Common.{◌≡◌, Some, None}
use Rattle.gb_typing.specs.Modules.{Interface}
use Rattle.gb_typing.proofs.examples.parameter_named_like_a_module.Goals as goal

known : (i : Interface) → Some i ≡ None → ⊥
known i e = absurd (cc)

pub returns : goal.returns
returns x = λ w. known _ w.params.0.1
