use Rattle.std.proofs.Common.{◌≡◌, ◌<◌, ◌++◌, true, false, List, length, ap, subst, ◌∙◌, arith}
use Rattle.std.specs.Prelude.{IfOk}
use Rattle.gb_terms.specs.declared.decl.Param.{Param}
use Rattle.gb_terms.specs.declared.module.ProcRef.{ProcRef}
use Rattle.gb_mods.specs.Asked.{asked_by}
use Rattle.gb_mods.specs.Reach.{called_declared}
use Rattle.gb_mods.proofs.ReachSteps.{inside_end, inside_next}
use Rattle.gb_mods.proofs.reach.called_inside.Goals as goal

pub returns-then-same_name : goal.returns-then-same_name
returns-then-same_name c =
    let a = c.args in
    let l = c.loop-q in
    let items = c.as_slice-q-items.ensures in
    let within : l.q-index < length a.around.now.params = omega (arith, ap (λ (ps : List Param). length ps) items, c.loop-q-test.true) in
    let e = inside_next a.scope.now a.around.now a.around.now.params l.q-index c.q-item.result a.module.now a.args.now a.name.now within (rw items at c.q-item.is) _ true c.same_name.ensures c.if-same_name.true in
    subst (λ (rs : List ProcRef). IfOk c.asked_by.result (λ made. made ≡ a.found ++ rs)) (ap (λ t. asked_by a.scope.now t a.args.now a.name.now) c.module_type.ensures ∙ e ∙ l.invariant) c.asked_by.ensures

pub loop-q-preserved : goal.loop-q-preserved
loop-q-preserved c =
    let a = c.args in
    let l = c.loop-q in
    let items = c.as_slice-q-items.ensures in
    let within : l.q-index < length a.around.now.params = omega (arith, ap (λ (ps : List Param). length ps) items, c.loop-q-test.true) in
    inside_next a.scope.now a.around.now a.around.now.params l.q-index c.q-item.result a.module.now a.args.now a.name.now within (rw items at c.q-item.is) _ false c.same_name.ensures c.if-same_name.false ∙ l.invariant

pub returns-then-same_name-2 : goal.returns-then-same_name-2
returns-then-same_name-2 c =
    let a = c.args in
    let l = c.loop-q in
    let items = c.as_slice-q-items.ensures in
    let e = inside_end a.scope.now a.around.now a.around.now.params l.q-index a.module.now a.args.now a.name.now (λ k. omega (arith, k, ap (λ (ps : List Param). length ps) items, c.loop-q-test.false)) _ true c.same_name-2.ensures c.if-same_name-2.true in
    subst (λ (rs : List ProcRef). IfOk c.calls_of.result (λ made. made ≡ a.found ++ rs)) (e ∙ l.invariant) c.calls_of.ensures

pub returns-else-same_name-2 : goal.returns-else-same_name-2
returns-else-same_name-2 c =
    let a = c.args in
    let l = c.loop-q in
    let items = c.as_slice-q-items.ensures in
    let e = inside_end a.scope.now a.around.now a.around.now.params l.q-index a.module.now a.args.now a.name.now (λ k. omega (arith, k, ap (λ (ps : List Param). length ps) items, c.loop-q-test.false)) _ false c.same_name-2.ensures c.if-same_name-2.false in
    subst (λ (rs : List ProcRef). IfOk c.called_declared.result (λ made. made ≡ a.found ++ rs)) (ap (λ t. called_declared a.scope.now t a.args.now a.name.now) c.entry.ensures ∙ e ∙ l.invariant) c.called_declared.ensures
