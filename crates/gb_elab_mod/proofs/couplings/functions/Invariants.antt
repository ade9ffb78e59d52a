use Rattle.std.proofs.Common.{◌≡◌, ◌∷◌, drop}
use Rattle.gb_goal.specs.Answers.{◌>>=◌}
use Rattle.gb_goal.specs.Answers.Answer.{given}
use Rattle.gb_names.specs.Environment.{environment}
use Rattle.gb_elab_mod.specs.OnPrograms.{functions}
use Rattle.gb_elab_stmt.proofs.Gathered.{behind}
use Rattle.gb_elab_mod.proofs.couplings.functions.Given as goal

abbrev pub invariant-loop-f : goal.invariant-loop-f
invariant-loop-f l = behind l.typed (functions (environment l.at) (drop l.f-index l.forms) l.from l.to) ≡ (functions (environment l.at) l.forms l.from l.to >>= λ ts. given (l.fn.first ∷ ts))
