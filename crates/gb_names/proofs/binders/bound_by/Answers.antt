use Rattle.std.proofs.Common.{rules, ◌≡◌, ◌∷◌, ◌++◌, ◌+◌, List, [], drop, refl, ap, sym, ◌∙◌}
use Rattle.std.proofs.lemmas.List.{drop_all}
use Rattle.gb_core.specs.declared.refusal.Refused.{Refused}
use Rattle.gb_script.specs.declared.tree.Node.{Node}
use Rattle.gb_script.specs.Tree.{head_of, parts_of, place_of}
use Rattle.gb_goal.specs.Answers.{Fails}
use Rattle.gb_goal.specs.Answers.Answer.{given}
use Rattle.gb_names.specs.declared.bindings.Binding.{Binding}
use Rattle.gb_names.specs.Environment.{Environment, environment}
use Rattle.gb_names.specs.Binders.{bound_by, bound_in}
use Rattle.gb_names.proofs.Answers.{fails_as, leads_on, passes}
use Rattle.gb_names.proofs.Parts.{left}
use Rattle.gb_names.proofs.binders.bound_by.Goals as goal

module _ (at : Environment) (bs : List Binding) where
  none : bound_by at bs [] ≡ given bs
  unfolding bound_by
  none = refl

  -- one binder, and those behind it
  one : (x : Node) (xs : List Node) (cs : List Binding) → bound_in at bs (head_of x) (parts_of x) (place_of x) ≡ given cs → bound_by at bs (x ∷ xs) ≡ bound_by at (bs ++ cs) xs
  unfolding bound_by
  one x xs cs h = leads_on (bound_in at bs (head_of x) (parts_of x) (place_of x)) (λ ds. bound_by at (bs ++ ds) xs) cs h

  refused : (x : Node) (xs : List Node) (e : Refused) → Fails (bound_in at bs (head_of x) (parts_of x) (place_of x)) e → Fails (bound_by at bs (x ∷ xs)) e
  unfolding bound_by
  refused x xs e h = passes (bound_in at bs (head_of x) (parts_of x) (place_of x)) (λ ds. bound_by at (bs ++ ds) xs) e h

pub loop-bind-init : goal.loop-bind-init
loop-bind-init c = ap (λ bs. bound_by (environment c.args.at.now) bs c.args.binds.now) c.new-all.ensures

pub returns-in_err-more : goal.returns-in_err-more
returns-in_err-more c =
    let at = environment c.args.at.now in
    let xs = c.args.binds.now in
    let i = c.loop-bind.bind-index in
    let x = c.bind-item.result in
    let bs = c.loop-bind.all in
    let said =
    ap (λ us. bound_in at us (head_of x) (parts_of x) (place_of x)) (sym c.as_slice.ensures)
    ∙ ap (λ ps. bound_in at c.as_slice.result.now (head_of x) ps (place_of x)) (sym c.as_slice-in-loop-bind.ensures) in
    let fails =
    fails_as _ _ _ (sym c.loop-bind.invariant ∙ ap (bound_by at bs) (left xs i x c.loop-bind-test.true c.bind-item.is))
    (refused at bs x (drop (i + 1) xs) _ (fails_as _ _ _ said c.in_err-more.ensures)) in
    search rules

pub loop-bind-preserved : goal.loop-bind-preserved
loop-bind-preserved c =
    let at = environment c.args.at.now in
    let xs = c.args.binds.now in
    let i = c.loop-bind.bind-index in
    let x = c.bind-item.result in
    let bs = c.loop-bind.all in
    let said =
    ap (λ us. bound_in at us (head_of x) (parts_of x) (place_of x)) (sym c.as_slice.ensures)
    ∙ ap (λ ps. bound_in at c.as_slice.result.now (head_of x) ps (place_of x)) (sym c.as_slice-in-loop-bind.ensures)
    ∙ c.in_ok-more.ensures in
    ap (λ us. bound_by at us (drop (i + 1) xs)) c.in_ok-append.ensures
    ∙ sym (one at bs x (drop (i + 1) xs) c.in_ok-more.more said)
    ∙ ap (bound_by at bs) (sym (left xs i x c.loop-bind-test.true c.bind-item.is))
    ∙ c.loop-bind.invariant

pub returns : goal.returns
returns c =
    let at = environment c.args.at.now in
    sym c.loop-bind.invariant ∙ ap (bound_by at c.loop-bind.all) (drop_all c.loop-bind.bind-index c.args.binds.now c.loop-bind-test.false) ∙ none at c.loop-bind.all
