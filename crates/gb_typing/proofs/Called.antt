-- The run of a procedure is that of its body.
use Rattle.std.proofs.Common.{◌≡◌, Some, ap, ◌∙◌}
use Rattle.gb_dist.specs.WeightedList.{dmap}
use Rattle.gb_terms.specs.declared.decl.Proc.{Proc}
use Rattle.gb_terms.specs.declared.module.ProcRef.{ProcRef}
use Rattle.gb_meaning.specs.Commands.{statements}
use Rattle.gb_meaning.specs.Memory.{Memory}
use Rattle.gb_meaning.specs.Program.Routine.{routine}
use Rattle.gb_meaning.specs.Setting.{Setting}
use Rattle.gb_meaning.specs.State.{State, closed}
use Rattle.gb_meaning.specs.Judgments.{from_frame, outcome_denominator}
use Rattle.gb_typing.specs.Context.{Context}
use Rattle.gb_typing.specs.Programs.{IsProcedure, locals_of}
use Rattle.gb_typing.proofs.RunsAnywhere.{run_anywhere}
use Rattle.gb_goal.specs.Goal.Code.{procedure}
use Rattle.gb_typing.specs.Calls.{start, ended}
use Rattle.gb_typing.specs.Meaning.{run, denominator, run_of, denominator_of}

module _ (c : Context) (g : Setting) (r : ProcRef) (p : Proc) (w : IsProcedure c p) (linked : g.procedure r ≡ Some (routine p.params p.locals (statements g p.body.list) p.value)) where
  pub called_run : (s : State) (m : Memory) → run_of g s (procedure r) m ≡ dmap (ended g p) (run g s p.body.list (start g p m))
  called_run s m = ap (λ o. from_frame g o m) linked ∙ ap (dmap (ended g p)) (run_anywhere g c (locals_of p) g p.body.list (let b = w.body in b.statements) closed s (start g p m))

  pub called_denominator : denominator_of g (procedure r) ≡ denominator g p.body.list
  called_denominator = ap (outcome_denominator g) linked
