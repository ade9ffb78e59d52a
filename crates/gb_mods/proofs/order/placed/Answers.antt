use Rattle.std.proofs.Common.{◌≡◌, ◌+◌, ◌++◌, [], ◌∷◌, false, append_assoc, drop, rules, ap, sym, subst, ◌∙◌}
use Rattle.std.specs.Prelude.{IfOk}
use Rattle.gb_terms.specs.Equal.{var_eq}
use Rattle.gb_terms.proofs.Equality.{var_test}
use Rattle.gb_walk.specs.Clash.{comes_before}
use Rattle.gb_mods.specs.Order.{placed}
use Rattle.gb_mods.proofs.OrderSteps.{placed_later, placed_same}
use Rattle.gb_mods.proofs.order.placed.Goals as goal

pub returns-then-same_var : goal.returns-then-same_var
returns-then-same_var c =
    let y = c.index-list-i.result in
    let b : comes_before c.args.variable.now y ≡ false = search (rules, c.comes_before.ensures, c.if-comes_before.false) in
    let s : c.args.variable.now ≡ y = search (rules, c.same_var.ensures, c.if-same_var.true) in
    let e = ap (λ l. c.loop-i.before ++ l) (sym (placed_same c.args.variable.now c.args.list.now c.loop-i.i y c.loop-i-test.true c.index-list-i.is b s)) ∙ c.loop-i.invariant in
    subst (λ q. IfOk c.with_variables-then-same_var.result (λ made. made ≡ q)) e c.with_variables-then-same_var.ensures

pub loop-i-preserved : goal.loop-i-preserved
loop-i-preserved c =
    let y = c.index-list-i.result in
    let b : comes_before c.args.variable.now y ≡ false = search (rules, c.comes_before.ensures, c.if-comes_before.false) in
    let s : var_eq c.args.variable.now y ≡ false = search (rules, var_test _ c.args.variable.now y c.same_var.ensures, c.if-same_var.false) in
    let e =
    append_assoc c.loop-i.before (y ∷ []) (placed c.args.variable.now (drop (c.loop-i.i + 1) c.args.list.now))
    ∙ ap (λ l. c.loop-i.before ++ l) (sym (placed_later c.args.variable.now c.args.list.now c.loop-i.i y c.loop-i-test.true c.index-list-i.is b s)) ∙ c.loop-i.invariant in
    search (rules, e)
