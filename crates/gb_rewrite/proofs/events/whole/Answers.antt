-- All that a procedure may come to, by the weight that it may lose.
use Rattle.std.proofs.Common.{◌≡◌, List, true, refl, ap, sym, subst, ◌∙◌}
use Rattle.std.proofs.lemmas.Bool.{false≢true}
use Rattle.std.specs.Prelude.{IfOk}
use Rattle.gb_terms.specs.Make.{truth_literal}
use Rattle.gb_terms.specs.declared.module.ProcRef.{ProcRef}
use Rattle.gb_terms.specs.declared.op.Side.{Side}
use Rattle.gb_terms.specs.declared.term.Term.{Term}
use Rattle.gb_goal.specs.Goal.Code.{procedure}
use Rattle.gb_full.specs.Loss.{Loss, code_loss}
use Rattle.gb_full.specs.Loss.Loss.{nowhere, sampled, called}
use Rattle.gb_rewrite.specs.Events.{chance, whole_by}
use Rattle.gb_rewrite.proofs.events.whole.Goals as goal

some_lost : (l : Loss) (p : ProcRef) (r : Side) (bs : List Term) → (l ≡ nowhere → ⊥) → chance p r bs (truth_literal true) ≡ whole_by l p r bs
some_lost nowhere p r bs h = absurd (h refl)
some_lost (sampled x) p r bs h = refl
some_lost called p r bs h = refl

pub returns-then-branch : goal.returns-then-branch
returns-then-branch c =
    let none : code_loss c.args.scope.now (procedure c.args.start.procedure.now) ≡ nowhere = c.in_ok-loses_nothing.ensures.0 c.if-branch.true in
    subst (λ (l : Loss). IfOk c.number.result (λ made. made ≡ whole_by l c.args.start.procedure.now c.args.start.memory c.args.start.arguments.now)) (sym none) c.number.ensures

pub returns : goal.returns
returns c =
    let p = c.args.start.procedure.now in
    let some = some_lost (code_loss c.args.scope.now (procedure p)) p c.args.start.memory c.args.start.arguments.now
    (λ e. false≢true (sym c.if-branch.false ∙ c.in_ok-loses_nothing.ensures.1 e)) in
    subst (λ (t : Term). IfOk c.chance.result (λ made. made ≡ t)) (ap (chance p c.args.start.memory c.args.start.arguments.now) c.in_ok-always.ensures ∙ some) c.chance.ensures
