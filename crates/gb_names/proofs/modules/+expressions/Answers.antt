use Rattle.std.proofs.Common.{rules, ◌≡◌, [], true, drop, ap, sym, ◌∙◌, arith}
use Rattle.std.proofs.lemmas.List.{drop_all}
use Rattle.gb_core.specs.declared.refusal.Why.TheVariants.{Argument}
use Rattle.gb_goal.specs.Answers.Answer.{given}
use Rattle.gb_goal.specs.Seen.{seen}
use Rattle.gb_mods.specs.Meets.{known_seen}
use Rattle.gb_script.specs.declared.head.Head.TheVariants as head
use Rattle.gb_script.specs.declared.tree.Node.{size-Node}
use Rattle.gb_script.specs.Tree.{head_of, place_of}
use Rattle.gb_names.specs.Environment.{environment}
use Rattle.gb_names.specs.Modules.{all_given, applied, bracketed, expression, fitting, given_seen, module_at, names, with_modules, with_readings}
use Rattle.gb_names.specs.Names.{spelled_by}
use Rattle.gb_names.proofs.Answers.{fails_as, gives_as, leads_on, passes, refuses_as}
use Rattle.gb_names.proofs.Applied.{applied_is, applied_ungiven, applied_unnamed, fitted, next_is, no_more, none_given, one_given, then_fitted, too_many}
use Rattle.gb_names.proofs.Expressions.{application_is, expression_is, name_is, no_module, path_is}
use Rattle.gb_names.proofs.Parts.{rest, rest_is, rest_most, two}
use Rattle.gb_names.proofs.modules.+expressions.Goals as goal

pub expression-applied-requires : goal.expression-applied-requires
expression-applied-requires t c =
    let h = rest_most size-Node c.args.parts.now in
    omega arith

pub expression-returns-in_ok-name-in-len1-up : goal.expression-returns-in_ok-name-in-len1-up
expression-returns-in_ok-name-in-len1-up t c =
    let at = environment c.args.at.now in
    let bound = c.args.bound.now in
    let ts = c.args.parts.now in
    let m = c.first-item.result in
    gives_as known_seen _ _ c.applied-in-len1-up.result
    (ap (λ h. expression h c.args.text.now (with_readings ts) c.args.place at bound) c.in-ModuleExpression.is
    ∙ expression_is c.args.text.now c.args.place at bound ts m c.in-len1-up.len_at_least c.first-item.is
    ∙ ap (λ us. applied (spelled_by m) (place_of m) (with_modules us) at bound) (sym (rest_is ts))
    ∙ ap (λ x. applied x (place_of m) (with_modules (rest ts)) at bound) (sym c.in_ok-name-in-len1-up.ensures))
    c.applied-in-len1-up.ensures

pub expression-returns-in_ok-name-in-len2 : goal.expression-returns-in_ok-name-in-len2
expression-returns-in_ok-name-in-len2 t c =
    let at = environment c.args.at.now in
    let bound = c.args.bound.now in
    let p = c.args.place in
    let m = c.first-item-then-parts-lt3.result in
    let b = c.behind-item.result in
    let is_name : names (head_of m) ≡ true = sym c.names.ensures ∙ c.if-names.true in
    gives_as known_seen _ _ c.bracketed.result
    (ap (λ h. expression h c.args.text.now (with_readings c.args.parts.now) p at bound) c.in-Apply.is
    ∙ ap (λ ts. expression head.Apply c.args.text.now (with_readings ts) p at bound)
    (two c.args.parts.now m b c.in-len2.len_at_least c.in-len2.len_below c.first-item-then-parts-lt3.is c.behind-item.is)
    ∙ application_is c.args.text.now p at bound m b is_name
    ∙ ap (λ ts. bracketed (spelled_by m) (head_of b) (with_modules ts) p at bound) (sym c.as_slice-arguments.ensures)
    ∙ ap (λ x. bracketed x (head_of b) (with_modules c.as_slice-arguments.result.now) p at bound) (sym c.in_ok-name-in-len2.ensures))
    c.bracketed.ensures

pub expression-returns-in-Name : goal.expression-returns-in-Name
expression-returns-in-Name t c =
    let at = environment c.args.at.now in
    let bound = c.args.bound.now in
    let ts = c.args.parts.now in
    gives_as known_seen _ _ c.applied.result
    (ap (λ h. expression h c.args.text.now (with_readings ts) c.args.place at bound) c.in-Name.is ∙ name_is c.args.text.now c.args.place at bound ts)
    c.applied.ensures

pub expression-returns-in_ok-name-in-Path : goal.expression-returns-in_ok-name-in-Path
expression-returns-in_ok-name-in-Path t c =
    let at = environment c.args.at.now in
    let bound = c.args.bound.now in
    let ts = c.args.parts.now in
    gives_as known_seen _ _ c.applied-in-Path.result
    (ap (λ h. expression h c.args.text.now (with_readings ts) c.args.place at bound) c.in-Path.is
    ∙ path_is c.args.text.now c.args.place at bound ts
    ∙ ap (λ x. applied x c.args.place [] at bound) (sym c.in_ok-name-in-Path.ensures))
    c.applied-in-Path.ensures

pub expression-returns-in_default : goal.expression-returns-in_default
expression-returns-in_default t c =
    let d = c.in_default in
    refuses_as _ c.argument-in_default.result Argument c.args.place
    (no_module c.args.text.now c.args.place (environment c.args.at.now) c.args.bound.now c.args.head (with_readings c.args.parts.now) d.not-Name d.not-Path d.not-ModuleExpression d.not-Apply)
    c.argument-in_default.ensures

pub applied-loop-tree-init : goal.applied-loop-tree-init
applied-loop-tree-init t c =
    ap (λ ms. all_given (environment c.args.at.now) c.args.bound.now (ms, c.in_ok-interface.interface.lacks.now) (with_modules c.args.arguments.now)) c.new.ensures

pub applied-returns-in_err-interface : goal.applied-returns-in_err-interface
applied-returns-in_err-interface t c =
    let fails = applied_unnamed (environment c.args.at.now) c.args.bound.now c.args.name.now c.args.place (with_modules c.args.arguments.now) _ c.in_err-interface.ensures in
    search rules

pub applied-returns-in_err-give : goal.applied-returns-in_err-give
applied-returns-in_err-give t c =
    let at = environment c.args.at.now in
    let bound = c.args.bound.now in
    let xs = c.args.arguments.now in
    let none = none_given at bound (given_seen c.loop-tree.given) xs c.loop-tree.tree-index c.tree-item.result _ c.loop-tree-test.true c.tree-item.is c.in_err-give.ensures in
    let fails =
    applied_ungiven at bound c.args.name.now c.args.place (with_modules xs) (seen c.in_ok-interface.interface) _ c.in_ok-interface.ensures
    (fails_as _ _ _ (sym c.loop-tree.invariant) none) in
    search rules

pub applied-loop-tree-preserved : goal.applied-loop-tree-preserved
applied-loop-tree-preserved t c =
    one_given (environment c.args.at.now) c.args.bound.now (given_seen c.loop-tree.given) (given_seen c.give.new.given) c.args.arguments.now c.loop-tree.tree-index c.tree-item.result
    c.loop-tree-test.true c.tree-item.is c.in_ok-give.ensures
    ∙ c.loop-tree.invariant

pub applied-returns : goal.applied-returns
applied-returns t c =
    let at = environment c.args.at.now in
    let bound = c.args.bound.now in
    let xs = c.args.arguments.now in
    let g = given_seen c.loop-tree.given in
    let all =
    sym c.loop-tree.invariant
    ∙ ap (λ us. all_given at bound g (with_modules us)) (drop_all c.loop-tree.tree-index xs c.loop-tree-test.false)
    ∙ no_more at bound g in
    let is = applied_is at bound c.args.name.now c.args.place (with_modules xs) (seen c.in_ok-interface.interface) g c.in_ok-interface.ensures all in
    search (rules, is)

pub give-returns-in_default : goal.give-returns-in_default
give-returns-in_default t c =
    let held = c.args.given.now in
    let x = c.args.tree.now in
    refuses_as _ c.argument.result Argument (place_of x) (too_many (environment c.args.at.now) c.args.bound.now held.modules held.left.now x c.in_default.len_below) c.argument.ensures

pub give-returns-in_err-known : goal.give-returns-in_err-known
give-returns-in_err-known t c =
    let at = environment c.args.at.now in
    let bound = c.args.bound.now in
    let ms = c.args.given.now.modules in
    let qs = c.args.given.now.left.now in
    let x = c.args.tree.now in
    let q = c.param-item.result in
    let fails =
    fails_as _ _ _ (next_is at bound ms qs q x c.in-len1-up.len_at_least c.param-item.is)
    (passes (module_at x at bound) (then_fitted at bound ms qs q x) _ c.in_err-known.ensures) in
    search rules

pub give-returns-in_err-module : goal.give-returns-in_err-module
give-returns-in_err-module t c =
    let at = environment c.args.at.now in
    let bound = c.args.bound.now in
    let ms = c.args.given.now.modules in
    let qs = c.args.given.now.left.now in
    let x = c.args.tree.now in
    let q = c.param-item.result in
    let k = known_seen c.in_ok-known.known in
    let fails =
    fails_as _ _ _
    (next_is at bound ms qs q x c.in-len1-up.len_at_least c.param-item.is ∙ leads_on (module_at x at bound) (then_fitted at bound ms qs q x) k c.in_ok-known.ensures)
    (passes (fitting at q k (place_of x)) (fitted at bound ms qs) _ c.in_err-module.ensures) in
    search rules

pub give-returns : goal.give-returns
give-returns t c =
    let at = environment c.args.at.now in
    let bound = c.args.bound.now in
    let ms = c.args.given.now.modules in
    let qs = c.args.given.now.left.now in
    let x = c.args.tree.now in
    let q = c.param-item.result in
    let k = known_seen c.in_ok-known.known in
    let m = c.in_ok-module.«module» in
    next_is at bound ms qs q x c.in-len1-up.len_at_least c.param-item.is
    ∙ leads_on (module_at x at bound) (then_fitted at bound ms qs q x) k c.in_ok-known.ensures
    ∙ leads_on (fitting at q k (place_of x)) (fitted at bound ms qs) m c.in_ok-module.ensures
    ∙ ap (λ zs. given (zs, drop 1 qs)) (sym c.in_ok-push.ensures.ok)
    ∙ ap (λ rs. given (c.push.new.self, rs)) (sym (rest_is qs))
