use Rattle.std.proofs.Common.{◌≡◌, ◌∙◌, List, Option, Some, ap, sym, subst}
use Rattle.std.specs.Prelude.{Result}
use Rattle.gb_core.specs.declared.refusal.Refused.{Refused}
use Rattle.gb_core.specs.declared.var.Var.{Var}
use Rattle.gb_terms.specs.declared.term.Term.{Term}
use Rattle.gb_steps.specs.declared.step.Until.{Until}
use Rattle.gb_goal.specs.Answers.{Answers}
use Rattle.gb_goal.specs.Rows.{each_concluding}
use Rattle.gb_goal.specs.Scope.{Declarations}
use Rattle.gb_goal.specs.declared.sequent.Sequent.{Sequent}
use Rattle.gb_mods.specs.Exclusions.{exclusions}
use Rattle.gb_call.specs.Call.{unless_clash}
use Rattle.gb_adv.specs.Abstract.{AbstractCall, abstract_seen}
use Rattle.gb_adv.specs.Call.{clash_of_both}
use Rattle.gb_adv.specs.Oracles.{meeting_both}
use Rattle.gb_adv.specs.Until.{as_long, by_full, by_writes_until, end_until}
use Rattle.gb_adv.proofs.until.by_known.Goals as goal

-- of what is said of both ends, and of what oracles write, once each is known
known : (ds : Declarations) (q : Sequent) (u : Until) (k l : AbstractCall) (p f s : Term) (T U : List Var) (x y : Option (List Var)) (r : Result (List Sequent) Refused) → s ≡ end_until u k.called → Some T ≡ x → Some U ≡ y →
    Answers (each_concluding q (unless_clash (meeting_both (exclusions ds) k.called.owner (as_long u u.kept) T U) (unless_clash (clash_of_both (exclusions ds) k l s f T U) (by_full ds u s k l p f T U)))) r →
    Answers (each_concluding q (by_writes_until ds u k l p f x y)) r
known ds q u k l p f s T U x y r said left right h =
    subst (λ z. z) (λ i. Answers (each_concluding q (by_writes_until ds u k l p f (left i) (right i))) r)
    (subst (λ (t : Term). Answers (each_concluding q (unless_clash (meeting_both (exclusions ds) k.called.owner (as_long u u.kept) T U) (unless_clash (clash_of_both (exclusions ds) k l t f T U) (by_full ds u t k l p f T U)))) r) said h)

pub returns : goal.returns
returns c =
    let z = c.args.keeping.now in
    known z.scope.now z.goal.now c.args.until.now (abstract_seen c.args.left.now) (abstract_seen c.args.right.now) z.pre.now z.post.now c.in_ok-ends.ends c.as_slice-written.result.now c.as_slice-others.result.now _ _
    c.by_writes.result c.in_ok-ends.ensures (ap Some c.as_slice-written.ensures ∙ sym c.in-Some.is ∙ c.in_ok-written.ensures) (ap Some c.as_slice-others.ensures ∙ sym c.in-Some-2.is ∙ c.in_ok-others.ensures) c.by_writes.ensures
