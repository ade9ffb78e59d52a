use Rattle.std.proofs.Common.{rules, ◌≡◌, ◌<◌, ◌≤◌, length, [], ◌∷◌, Some, sym, subst}
use Rattle.gb_goal.specs.Answers.{Answers}
use Rattle.gb_goal.specs.Answers.Answer.{given}
use Rattle.gb_goal.specs.Goal.{goal_of}
use Rattle.gb_script.specs.Tree.{parts_of, place_of}
use Rattle.gb_names.specs.Environment.{ambient}
use Rattle.gb_names.specs.Judgments.{functor_procedure, named_seen}
use Rattle.gb_names.proofs.Parts.{rest, rest_is}
use Rattle.gb_elab_mod.specs.OnPrograms.{contracts, procedures_of}
use Rattle.gb_elab_mod.proofs.Betweens.{by_functor, five}
use Rattle.gb_elab_mod.proofs.between.between_functor.Goals as goal

pub returns : goal.returns
returns c =
    let ds = c.args.scope.now in
    let q = c.args.goal.now in
    let xs = c.args.words.now in
    let ps = c.args.parts.now in
    let x = c.first-item.result in
    let g = c.argument-item.result in
    let h = c.others-item.result in
    let f = c.name-item.result in
    let k = c.one-item.result in
    let l = c.other-item.result in
    let s = c.in-Some.said in
    let o : contracts (parts_of k) (parts_of l) ≡ Some ((s.first.pre.now, s.first.post.now), (s.second.pre.now, s.second.post.now)) = search rules in
    let w = c.in-Some-procedures_of in
    let z : procedures_of (goal_of q.conclusion) ≡ Some (w.left.now, w.right.now) = search rules in
    let a : functor_procedure (ambient ds q) [] x (rest xs) (g ∷ parts_of h) f (place_of x) ≡ given (named_seen c.in_ok-named.named) = search rules in
    let i : 1 ≤ length xs = search rules in
    let u : 5 ≤ length ps = search rules in
    let v : length ps < 6 = search rules in
    let all = five ps g h f k l u v c.argument-item.is c.others-item.is c.name-item.is c.one-item.is c.other-item.is in
    let e = by_functor ds q c.args.place _ _ _ xs (rest xs) ps x g h f k l i c.first-item.is (rest_is xs) all o z a in
    subst (λ r. Answers r c.between_of.result) (sym e) c.between_of.ensures
