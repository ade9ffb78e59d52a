use Rattle.std.proofs.Common.{rules, ◌≡◌, ◌<◌, ◌≤◌, length, [], take, Some, sym, subst}
use Rattle.gb_goal.specs.Answers.{Answers}
use Rattle.gb_goal.specs.Answers.Answer.{given}
use Rattle.gb_goal.specs.Goal.{goal_of}
use Rattle.gb_script.specs.declared.head.Head.TheVariants as text
use Rattle.gb_script.specs.Tree.{parts_of, place_of}
use Rattle.gb_names.specs.Environment.{ambient}
use Rattle.gb_names.specs.Judgments.{named_procedure, named_seen}
use Rattle.gb_elab_mod.specs.OnPrograms.{contracts, procedures_of}
use Rattle.gb_elab_mod.proofs.Betweens.{by_words}
use Rattle.gb_elab_mod.proofs.between.between_words.Goals as goal

pub returns : goal.returns
returns c =
    let ds = c.args.scope.now in
    let q = c.args.goal.now in
    let xs = c.args.words.now in
    let ps = c.args.parts.now in
    let x = c.first-item.result in
    let n = c.contract-item.result in
    let s = c.in-Some.said in
    let o : contracts (take 2 ps) (parts_of n) ≡ Some ((s.first.pre.now, s.first.post.now), (s.second.pre.now, s.second.post.now)) = search rules in
    let w = c.in-Some-procedures_of in
    let z : procedures_of (goal_of q.conclusion) ≡ Some (w.left.now, w.right.now) = search rules in
    let a : named_procedure (ambient ds q) [] text.ProcedurePath xs (place_of x) ≡ given (named_seen c.in_ok-named.named) = search rules in
    let i : 1 ≤ length xs = search rules in
    let j : 3 ≤ length ps = search rules in
    let k : length ps < 4 = search rules in
    let e = by_words ds q c.args.place _ _ _ xs ps x n i j k c.first-item.is c.contract-item.is o z a in
    subst (λ r. Answers r c.between_of.result) (sym e) c.between_of.ensures
