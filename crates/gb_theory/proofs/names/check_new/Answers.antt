use Rattle.std.proofs.Common.{List, ℕ, [], ap, sym, ◌∙◌, subst}
use Rattle.std.proofs.lemmas.Result.{err_from_is_err_and}
use Rattle.std.specs.Prelude.{Err}
use Rattle.gb_goal.specs.Answers.{Answers}
use Rattle.gb_goal.specs.Answers.Answer.{given}
use Rattle.gb_names.proofs.Answers.{fails_as, leads_on, passes}
use Rattle.gb_theory.specs.Patterns.{all_added, all_new}
use Rattle.gb_theory.specs.Tactics.{each_adds}
use Rattle.gb_theory.proofs.Named.{all_is}
use Rattle.gb_theory.proofs.names.check_new.Goals as goal

pub returns-in_err-all_added : goal.returns-in_err-all_added
returns-in_err-all_added c =
    let ds = c.args.scope.now in
    let q = c.args.goal.now in
    let ts = c.args.patterns.now in
    let e = err_from_is_err_and c.from_residual.result c.from_residual.ensures.1 in
    subst (Answers (all_new ds q ts)) (sym (e.1 ∙ ap Err e.2))
    (fails_as _ _ c.in_err-all_added.field-0.0 (all_is ds q ts)
    (passes (all_added (each_adds ds q ts) [] []) (λ (_ : List (List ℕ)). given (tt {0})) c.in_err-all_added.field-0.0 c.in_err-all_added.ensures))

pub returns : goal.returns
returns c =
    let ds = c.args.scope.now in
    let q = c.args.goal.now in
    let ts = c.args.patterns.now in
    all_is ds q ts ∙ leads_on (all_added (each_adds ds q ts) [] []) (λ (_ : List (List ℕ)). given (tt {0})) c.in_ok-all_added.field-0 c.in_ok-all_added.ensures
