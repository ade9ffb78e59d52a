-- What the code evaluates in.
use Rattle.std.proofs.Common.{◌≡◌, length, refl}
use Rattle.gb_goal.specs.Scope.{Declarations}
use Rattle.gb_eval.specs.declared.env.Env.{Env}
use Rattle.gb_eval.specs.declared.script.Script.{Script}
use Rattle.gb_eval.specs.Eval.{environment, operators_at, operators_in, operators_of}

pub in_is : (s : Script) → operators_in s ≡ operators_at s.scope.now s.depth
unfolding operators_in
in_is s = refl

pub of_is : (ds : Declarations) → operators_of ds ≡ operators_at ds (length ds)
unfolding operators_of
of_is ds = refl

pub environment_is : (e : Env) → environment e ≡ record { operators = operators_in e.script; reads = e.reads.now; exclusions = e.exclusions.now }
unfolding environment
environment_is e = refl
