-- Where what is called may lose weight, the step is refused.
use Rattle.std.proofs.Common.{rules, ◌≡◌, false, Option, Some, None, is_some, ap, ◌∙◌, subst}
use Rattle.std.specs.Option.{option_copied}
use Rattle.std.specs.Prelude.{Result}
use Rattle.gb_core.specs.declared.refusal.Refused.{Refused}
use Rattle.gb_terms.specs.declared.module.ProcRef.{ProcRef}
use Rattle.gb_terms.specs.declared.term.Subject.{Proc}
use Rattle.gb_terms.specs.declared.term.Term.{Term}
use Rattle.gb_goal.specs.Answers.{Answers}
use Rattle.gb_goal.specs.Goal.{code_of}
use Rattle.gb_goal.specs.Goal.Code.{procedure}
use Rattle.gb_goal.specs.Scope.{Declarations}
use Rattle.gb_typing.proofs.Shapes.{code_back}
use Rattle.gb_full.specs.Loss.{code_loss}
use Rattle.gb_full.specs.Lossless.{full}
use Rattle.gb_call_both.specs.OneSide.{lost}
use Rattle.gb_call_both.proofs.one_side.full_call.Goals as goal

by_code : (ds : Declarations) (o : Option Term) (f g : ProcRef) (r : Result (Unit {0}) Refused) → is_some o ≡ false → g ≡ f → Answers (full (code_loss ds (code_of (Proc g)))) r → Answers (full (lost ds o f)) r
by_code ds None f g r e h k = subst (λ c. Answers (full (code_loss ds c)) r) (code_back (procedure g) ∙ ap procedure h) k
by_code ds (Some b) f g r e h k = absurd (cc)

pub returns : goal.returns
returns c =
    by_code c.args.scope.now (option_copied c.args.surely) c.args.procedure.now c.in_ok-share.field-0 c.full.result (search rules) (search rules)
    (subst (λ l. Answers (full l) c.full.result) c.in_ok-subject_loss.ensures c.full.ensures)
