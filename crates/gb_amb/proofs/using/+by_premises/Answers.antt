use Rattle.std.proofs.Common.{rules, ◌≡◌, length, refl, sym, ◌∙◌, subst}
use Rattle.std.proofs.lemmas.Bool.{false≢true}
use Rattle.gb_amb.specs.Steps.{Returns}
use Rattle.gb_amb.specs.Uses.{IsByPremises}
use Rattle.gb_amb.proofs.UsedPremises.{returned_by_nothing, returned_under}
use Rattle.gb_amb.proofs.Shapes.{no_implication, of_layer, other_parts, two_parts}
use Rattle.gb_amb.proofs.using.+by_premises.Goals as goal
use Rattle.gb_amb.proofs.using.+by_premises.Goals.{in_default-via-then-as_slice-lt2, in_default-via-else-as_slice-lt2+else-this-lt3}

pub returns-then-not-is_implication : goal.returns-then-not-is_implication
returns-then-not-is_implication t c =
    returned_by_nothing c.args.goals c.args.form.now c.args.place c.args.goal.now (λ e. false≢true (c.if-same.ensures.1 e))
    (of_layer c.args.form.now c.get.result.now _ c.get.ensures refl ∙ no_implication c.get.result.now _ (sym c.if-not-is_implication.ensures)) c.no_shape.result c.no_shape.ensures

pub returns-in_ok-goals-in-len2 : goal.returns-in_ok-goals-in-len2
returns-in_ok-goals-in-len2 t c =
    let said = c.said-item.result in
    let parts = two_parts c.get.result.now c.as_slice.result.now c.premise-item.result said (sym c.if-not-is_implication.ensures) c.in-len2.len_at_least c.in-len2.len_below c.premise-item.is c.said-item.is in
    returned_under c.args.goals c.args.form.now c.premise-item.result said c.args.place c.args.goal.now (λ e. false≢true (c.if-same.ensures.1 e))
    (of_layer c.args.form.now c.get.result.now c.as_slice.result.now c.get.ensures c.as_slice.ensures ∙ parts) c.by_premises.result
    (subst (λ b. Returns (IsByPremises b said c.args.place c.args.goal.now) c.by_premises.result) c.in_ok-goals-in-len2.ensures c.by_premises.ensures)

pub returns-in_default : goal.returns-in_default
returns-in_default t c =
    let other : length c.as_slice.result.now ≡ 2 → ⊥ = elim c.in_default.branch [ in_default-via-then-as_slice-lt2 w ↦ λ e. search (rules, e) | in_default-via-else-as_slice-lt2+else-this-lt3 w ↦ λ e. search (rules, e) ] in
    returned_by_nothing c.args.goals c.args.form.now c.args.place c.args.goal.now (λ e. false≢true (c.if-same.ensures.1 e))
    (of_layer c.args.form.now c.get.result.now c.as_slice.result.now c.get.ensures c.as_slice.ensures ∙ other_parts c.get.result.now c.as_slice.result.now other) c.no_shape-in_default.result c.no_shape-in_default.ensures
