use Rattle.std.proofs.Common.{rules, ◌∷◌, ap, sym, ◌∙◌}
use Rattle.std.proofs.lemmas.List.{drop_all}
use Rattle.gb_goal.specs.Seen.{seen}
use Rattle.gb_names.specs.Environment.{environment}
use Rattle.gb_names.specs.Modules.{all_given, given_seen, with_modules}
use Rattle.gb_names.proofs.Answers.{fails_as}
use Rattle.gb_names.proofs.Applied.{applied_is, applied_ungiven, applied_unnamed, no_more, none_given, one_given}
use Rattle.gb_names.proofs.modules.applied_to.Goals as goal

pub returns-in_err-interface : goal.returns-in_err-interface
returns-in_err-interface c =
    let fails = applied_unnamed (environment c.args.at.now) c.args.bound.now c.args.name.now c.args.place (with_modules (c.args.first.now ∷ c.args.more.now)) _ c.in_err-interface.ensures in
    search rules

pub loop-tree-preserved : goal.loop-tree-preserved
loop-tree-preserved c =
    one_given (environment c.args.at.now) c.args.bound.now (given_seen c.loop-tree.given) (given_seen c.give-in-loop-tree.new.given) c.args.more.now c.loop-tree.tree-index c.tree-item.result
    c.loop-tree-test.true c.tree-item.is c.in_ok-give-2.ensures
    ∙ c.loop-tree.invariant

pub returns-in_err-give-2 : goal.returns-in_err-give-2
returns-in_err-give-2 c =
    let at = environment c.args.at.now in
    let bound = c.args.bound.now in
    let none = none_given at bound (given_seen c.loop-tree.given) c.args.more.now c.loop-tree.tree-index c.tree-item.result _ c.loop-tree-test.true c.tree-item.is c.in_err-give-2.ensures in
    let fails =
    applied_ungiven at bound c.args.name.now c.args.place (with_modules (c.args.first.now ∷ c.args.more.now)) (seen c.in_ok-interface.interface) _ c.in_ok-interface.ensures
    (fails_as _ _ _ (sym c.loop-tree.invariant) none) in
    search rules

pub returns : goal.returns
returns c =
    let at = environment c.args.at.now in
    let bound = c.args.bound.now in
    let xs = c.args.more.now in
    let g = given_seen c.loop-tree.given in
    let all =
    sym c.loop-tree.invariant
    ∙ ap (λ us. all_given at bound g (with_modules us)) (drop_all c.loop-tree.tree-index xs c.loop-tree-test.false)
    ∙ no_more at bound g in
    let is = applied_is at bound c.args.name.now c.args.place (with_modules (c.args.first.now ∷ xs)) (seen c.in_ok-interface.interface) g c.in_ok-interface.ensures all in
    search (rules, is)
