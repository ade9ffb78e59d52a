use Rattle.std.proofs.Common.{◌+◌, if◌then◌else◌, Bool, Some, ap, arith, drop, sym, ◌∙◌}
use Rattle.std.specs.Option.{option_map}
use Rattle.gb_goal.specs.Interfaces.{of_declared, of_inner, of_module, of_type}
use Rattle.gb_goal.specs.Entries.{module_type_of}
use Rattle.gb_goal.proofs.Interfaces.{inner_end, inner_next}
use Rattle.gb_goal.proofs.interface.of_inner.Goals as goal

pub returns-then-same_name : goal.returns-then-same_name
returns-then-same_name c =
    let ds = c.args.scope.now in
    let m = c.args.module.now in
    let ps = c.args.params.now in
    let n = c.args.name.now in
    let p = c.p-item.result in
    let l = c.loop-p in
    let e = inner_next ds m ps l.p-index p n c.loop-p-test.true c.p-item.is c.same_name.result c.same_name.ensures in
    c.of_asked.ensures ∙ ap (option_map of_type) c.module_type.ensures
    ∙ sym (ap (λ (b : Bool). if b then option_map of_type (module_type_of ds p.ty) else of_inner ds m (drop (l.p-index + 1) ps) n) c.if-same_name.true) ∙ sym e ∙ l.invariant

pub loop-p-preserved : goal.loop-p-preserved
loop-p-preserved c =
    let ds = c.args.scope.now in
    let m = c.args.module.now in
    let ps = c.args.params.now in
    let n = c.args.name.now in
    let p = c.p-item.result in
    let l = c.loop-p in
    let e = inner_next ds m ps l.p-index p n c.loop-p-test.true c.p-item.is c.same_name.result c.same_name.ensures in
    sym (e ∙ ap (λ (b : Bool). if b then option_map of_type (module_type_of ds p.ty) else of_inner ds m (drop (l.p-index + 1) ps) n) c.if-same_name.false) ∙ l.invariant

pub returns-then-same_name-2 : goal.returns-then-same_name-2
returns-then-same_name-2 c =
    let ds = c.args.scope.now in
    let m = c.args.module.now in
    let ps = c.args.params.now in
    let n = c.args.name.now in
    let l = c.loop-p in
    let e = inner_end ds m ps l.p-index n (λ k. omega (arith, k, c.loop-p-test.false)) c.same_name-2.result c.same_name-2.ensures in
    ap Some c.of_module.ensures ∙ sym (ap (λ (b : Bool). if b then Some (of_module m) else of_declared ds n) c.if-same_name-2.true) ∙ sym e ∙ l.invariant

pub returns-else-same_name-2 : goal.returns-else-same_name-2
returns-else-same_name-2 c =
    let ds = c.args.scope.now in
    let m = c.args.module.now in
    let ps = c.args.params.now in
    let n = c.args.name.now in
    let l = c.loop-p in
    let e = inner_end ds m ps l.p-index n (λ k. omega (arith, k, c.loop-p-test.false)) c.same_name-2.result c.same_name-2.ensures in
    c.of_declared.ensures ∙ sym (ap (λ (b : Bool). if b then Some (of_module m) else of_declared ds n) c.if-same_name-2.false) ∙ sym e ∙ l.invariant
