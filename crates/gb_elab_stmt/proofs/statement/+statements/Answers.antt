use Rattle.std.proofs.Common.{[], ◌∷◌, ◌++◌, ◌+◌, ◌-◌, length, take, drop, ap, sym, ◌∙◌}
use Rattle.std.proofs.lemmas.Result.{err_from_is_err_and}
use Rattle.std.specs.Prelude.{Some}
use Rattle.gb_core.specs.declared.ty.Ty.TheVariants.{Bool as bool_ty}
use Rattle.gb_terms.specs.declared.term.Head.TheVariants.{If, While}
use Rattle.gb_script.specs.Tree.{head_of, parts_of, place_of}
use Rattle.gb_goal.specs.Answers.Answer.{given}
use Rattle.gb_names.specs.Environment.{environment}
use Rattle.gb_names.proofs.Answers.{answers_as, fails_as}
use Rattle.gb_names.proofs.Parts.{left, two}
use Rattle.gb_elab.specs.Forms.{elaborated}
use Rattle.gb_elab_stmt.specs.Statements.{all_stated, alone, instruction, stated, variant, with_statings}
use Rattle.gb_elab_stmt.proofs.Arms.{if_is, list_is, loop_is, named_is, sides_are, while_is}
use Rattle.gb_elab_stmt.proofs.Chains.{both_given, first_fails, first_of_three_fails, second_fails, second_of_three_fails, stands, third_of_three_fails, three_given}
use Rattle.gb_elab_stmt.proofs.Gathered.{behind}
use Rattle.gb_elab_stmt.proofs.Next.{next_given, next_fails}
use Rattle.gb_elab_stmt.proofs.Stated.{single_is}
use Rattle.gb_elab_stmt.proofs.statement.+statements.Goals as goal

pub all_stated-loop-tree-preserved : goal.all_stated-loop-tree-preserved
all_stated-loop-tree-preserved t c =
    let at = environment c.args.at.now in
    let ts = c.args.trees.now in
    let i = c.loop-tree.tree-index in
    ap (λ is. behind is (all_stated (with_statings (drop (i + 1) ts)) at)) c.in_ok-append.ensures
    ∙ sym (next_given ts i c.tree-item.result (left ts i c.tree-item.result c.loop-tree-test.true c.tree-item.is) at c.loop-tree.list c.in_ok-more.more c.in_ok-more.ensures)
    ∙ c.loop-tree.invariant

pub all_stated-returns-in_err-more : goal.all_stated-returns-in_err-more
all_stated-returns-in_err-more t c =
    let at = environment c.args.at.now in
    let ts = c.args.trees.now in
    let i = c.loop-tree.tree-index in
    let e = err_from_is_err_and c.from_residual.result c.from_residual.ensures.1 in
    stands _ _ e.0 c.in_err-more.field-0.0 e.1 e.2
    (fails_as _ _ c.in_err-more.field-0.0 (sym c.loop-tree.invariant)
    (next_fails ts i c.tree-item.result (left ts i c.tree-item.result c.loop-tree-test.true c.tree-item.is) at c.loop-tree.list c.in_err-more.field-0.0
    c.in_err-more.ensures))

pub stating-returns-in_default : goal.stating-returns-in_default
stating-returns-in_default t c =
    answers_as _ _ c.single.result
    (single_is c.args.head c.args.parts.now c.args.place (environment c.args.at.now) c.in_default.not-If c.in_default.not-While c.in_default.not-Loop
    c.in_default.not-NamedLoop c.in_default.not-List)
    c.single.ensures

pub stating-returns-in-len1-up : goal.stating-returns-in-len1-up
stating-returns-in-len1-up t c =
    answers_as _ _ c.branch-alloc.result
    (if_is c.args.head c.args.parts.now c.args.place (environment c.args.at.now) c.test-item.result c.in-If.is c.in-len1-up.len_at_least c.test-item.is)
    c.branch-alloc.ensures

pub stating-returns-in-len2 : goal.stating-returns-in-len2
stating-returns-in-len2 t c =
    answers_as _ _ c.turning.result
    (while_is c.args.head c.args.parts.now c.args.place (environment c.args.at.now) c.guard-item.result c.rest-item.result c.in-While.is c.in-len2.len_at_least
    c.in-len2.len_below c.guard-item.is c.rest-item.is)
    c.turning.ensures

pub stating-returns-in-len1-up-parts : goal.stating-returns-in-len1-up-parts
stating-returns-in-len1-up-parts t c =
    answers_as _ _ c.all_stated.result (loop_is c.args.head c.args.parts.now c.args.place (environment c.args.at.now) c.in-Loop.is c.in-len1-up-parts.len_at_least)
    c.all_stated.ensures

pub stating-returns-in-List : goal.stating-returns-in-List
stating-returns-in-List t c =
    answers_as _ _ c.all_stated-in-List.result (list_is c.args.head c.args.parts.now c.args.place (environment c.args.at.now) c.in-List.is) c.all_stated-in-List.ensures

pub stating-returns-in_err-first-in-len3-up : goal.stating-returns-in_err-first-in-len3-up
stating-returns-in_err-first-in-len3-up t c =
    let at = environment c.args.at.now in
    let ts = c.args.parts.now in
    let x = c.word-item.result in
    let y = c.tail-item.result in
    let refusal = c.in_err-first-in-len3-up.field-0.0 in
    let e = err_from_is_err_and c.from_residual.result c.from_residual.ensures.1 in
    stands _ _ e.0 refusal e.1 e.2
    (fails_as _ _ refusal (named_is c.args.head ts c.args.place at x y c.in-NamedLoop.is c.in-len3-up.len_at_least c.word-item.is c.tail-item.is)
    (first_fails (alone (instruction at (head_of y) x (parts_of y) (place_of x))) (all_stated (with_statings (take (length ts - 3) (drop 3 ts))) at) (λ is js. given (is ++ js)) refusal
    c.in_err-first-in-len3-up.ensures))

pub stating-returns-in_err-more-in-len3-up : goal.stating-returns-in_err-more-in-len3-up
stating-returns-in_err-more-in-len3-up t c =
    let at = environment c.args.at.now in
    let ts = c.args.parts.now in
    let x = c.word-item.result in
    let y = c.tail-item.result in
    let refusal = c.in_err-more-in-len3-up.field-0.0 in
    let e = err_from_is_err_and c.from_residual-in_err-more-in-len3-up.result c.from_residual-in_err-more-in-len3-up.ensures.1 in
    stands _ _ e.0 refusal e.1 e.2
    (fails_as _ _ refusal (named_is c.args.head ts c.args.place at x y c.in-NamedLoop.is c.in-len3-up.len_at_least c.word-item.is c.tail-item.is)
    (second_fails (alone (instruction at (head_of y) x (parts_of y) (place_of x))) (all_stated (with_statings (take (length ts - 3) (drop 3 ts))) at) (λ is js. given (is ++ js))
    c.in_ok-first-in-len3-up.first refusal c.in_ok-first-in-len3-up.ensures c.in_err-more-in-len3-up.ensures))

pub stating-returns-in_ok-joined-in-len3-up : goal.stating-returns-in_ok-joined-in-len3-up
stating-returns-in_ok-joined-in-len3-up t c =
    let at = environment c.args.at.now in
    let ts = c.args.parts.now in
    let x = c.word-item.result in
    let y = c.tail-item.result in
    named_is c.args.head ts c.args.place at x y c.in-NamedLoop.is c.in-len3-up.len_at_least c.word-item.is c.tail-item.is
    ∙ both_given (alone (instruction at (head_of y) x (parts_of y) (place_of x))) (all_stated (with_statings (take (length ts - 3) (drop 3 ts))) at) (λ is js. given (is ++ js))
    c.in_ok-first-in-len3-up.first c.in_ok-more-in-len3-up.more c.in_ok-first-in-len3-up.ensures c.in_ok-more-in-len3-up.ensures
    ∙ sym (ap given c.in_ok-joined-in-len3-up.ensures)

pub branch-returns-in_err-test-in-len2 : goal.branch-returns-in_err-test-in-len2
branch-returns-in_err-test-in-len2 t c =
    let at = environment c.args.at.now in
    let y = c.yes-item.result in
    let n = c.no-item.result in
    let is = two c.args.sides.now y n c.in-len2.len_at_least c.in-len2.len_below c.yes-item.is c.no-item.is in
    let refusal = c.in_err-test-in-len2.field-0.0 in
    let e = err_from_is_err_and c.from_residual.result c.from_residual.ensures.1 in
    stands _ _ e.0 refusal e.1 e.2
    (fails_as _ _ refusal (sides_are at c.args.test.now c.args.sides.now c.args.place y n is)
    (first_of_three_fails (elaborated c.args.test.now at [] (Some bool_ty)) (stated y at) (stated n at)
    (λ u is js. given (If u (record { list = is }) (record { list = js }) ∷ []))
    refusal c.in_err-test-in-len2.ensures))

pub branch-returns-in_err-yes-in-len2 : goal.branch-returns-in_err-yes-in-len2
branch-returns-in_err-yes-in-len2 t c =
    let at = environment c.args.at.now in
    let y = c.yes-item.result in
    let n = c.no-item.result in
    let is = two c.args.sides.now y n c.in-len2.len_at_least c.in-len2.len_below c.yes-item.is c.no-item.is in
    let refusal = c.in_err-yes-in-len2.field-0.0 in
    let e = err_from_is_err_and c.from_residual-in_err-yes-in-len2.result c.from_residual-in_err-yes-in-len2.ensures.1 in
    stands _ _ e.0 refusal e.1 e.2
    (fails_as _ _ refusal (sides_are at c.args.test.now c.args.sides.now c.args.place y n is)
    (second_of_three_fails (elaborated c.args.test.now at [] (Some bool_ty)) (stated y at) (stated n at)
    (λ u is js. given (If u (record { list = is }) (record { list = js }) ∷ []))
    c.in_ok-test-in-len2.test refusal c.in_ok-test-in-len2.ensures c.in_err-yes-in-len2.ensures))

pub branch-returns-in_err-no-in-len2 : goal.branch-returns-in_err-no-in-len2
branch-returns-in_err-no-in-len2 t c =
    let at = environment c.args.at.now in
    let y = c.yes-item.result in
    let n = c.no-item.result in
    let is = two c.args.sides.now y n c.in-len2.len_at_least c.in-len2.len_below c.yes-item.is c.no-item.is in
    let refusal = c.in_err-no-in-len2.field-0.0 in
    let e = err_from_is_err_and c.from_residual-in_err-no-in-len2.result c.from_residual-in_err-no-in-len2.ensures.1 in
    stands _ _ e.0 refusal e.1 e.2
    (fails_as _ _ refusal (sides_are at c.args.test.now c.args.sides.now c.args.place y n is)
    (third_of_three_fails (elaborated c.args.test.now at [] (Some bool_ty)) (stated y at) (stated n at)
    (λ u is js. given (If u (record { list = is }) (record { list = js }) ∷ []))
    c.in_ok-test-in-len2.test c.in_ok-yes-in-len2.yes.list refusal c.in_ok-test-in-len2.ensures c.in_ok-yes-in-len2.ensures c.in_err-no-in-len2.ensures))

pub branch-returns-in_ok-no-in-len2 : goal.branch-returns-in_ok-no-in-len2
branch-returns-in_ok-no-in-len2 t c =
    let at = environment c.args.at.now in
    let y = c.yes-item.result in
    let n = c.no-item.result in
    let is = two c.args.sides.now y n c.in-len2.len_at_least c.in-len2.len_below c.yes-item.is c.no-item.is in
    answers_as _ _ c.one.result
    (sides_are at c.args.test.now c.args.sides.now c.args.place y n is
    ∙ three_given (elaborated c.args.test.now at [] (Some bool_ty)) (stated y at) (stated n at)
    (λ u is js. given (If u (record { list = is }) (record { list = js }) ∷ []))
    c.in_ok-test-in-len2.test c.in_ok-yes-in-len2.yes.list c.in_ok-no-in-len2.no.list c.in_ok-test-in-len2.ensures c.in_ok-yes-in-len2.ensures c.in_ok-no-in-len2.ensures)
    c.one.ensures

pub turning-returns-in_err-guard : goal.turning-returns-in_err-guard
turning-returns-in_err-guard t c =
    let at = environment c.args.at.now in
    let l = c.args.rest.now in
    let refusal = c.in_err-guard.field-0.0 in
    let e = err_from_is_err_and c.from_residual.result c.from_residual.ensures.1 in
    stands _ _ e.0 refusal e.1 e.2
    (first_of_three_fails (elaborated c.args.guard.now at [] (Some bool_ty)) (variant at (parts_of l) (place_of l)) (stated l at)
    (λ u v is. given (While u v (record { list = is }) ∷ []))
    refusal c.in_err-guard.ensures)

pub turning-returns-in_err-variant : goal.turning-returns-in_err-variant
turning-returns-in_err-variant t c =
    let at = environment c.args.at.now in
    let l = c.args.rest.now in
    let refusal = c.in_err-variant.field-0.0 in
    let e = err_from_is_err_and c.from_residual-in_err-variant.result c.from_residual-in_err-variant.ensures.1 in
    stands _ _ e.0 refusal e.1 e.2
    (second_of_three_fails (elaborated c.args.guard.now at [] (Some bool_ty)) (variant at (parts_of l) (place_of l)) (stated l at)
    (λ u v is. given (While u v (record { list = is }) ∷ []))
    c.in_ok-guard.guard refusal c.in_ok-guard.ensures
    (fails_as _ _ refusal (ap (λ ps. variant at ps (place_of l)) (sym c.as_slice.ensures)) c.in_err-variant.ensures))

pub turning-returns-in_err-turn : goal.turning-returns-in_err-turn
turning-returns-in_err-turn t c =
    let at = environment c.args.at.now in
    let l = c.args.rest.now in
    let refusal = c.in_err-turn.field-0.0 in
    let e = err_from_is_err_and c.from_residual-in_err-turn.result c.from_residual-in_err-turn.ensures.1 in
    stands _ _ e.0 refusal e.1 e.2
    (third_of_three_fails (elaborated c.args.guard.now at [] (Some bool_ty)) (variant at (parts_of l) (place_of l)) (stated l at)
    (λ u v is. given (While u v (record { list = is }) ∷ []))
    c.in_ok-guard.guard c.in_ok-variant.variant refusal c.in_ok-guard.ensures
    (ap (λ ps. variant at ps (place_of l)) (sym c.as_slice.ensures) ∙ c.in_ok-variant.ensures) c.in_err-turn.ensures)

pub turning-returns : goal.turning-returns
turning-returns t c =
    let at = environment c.args.at.now in
    let l = c.args.rest.now in
    answers_as _ _ c.one.result
    (three_given (elaborated c.args.guard.now at [] (Some bool_ty)) (variant at (parts_of l) (place_of l)) (stated l at)
    (λ u v is. given (While u v (record { list = is }) ∷ []))
    c.in_ok-guard.guard c.in_ok-variant.variant c.in_ok-turn.turn.list c.in_ok-guard.ensures
    (ap (λ ps. variant at ps (place_of l)) (sym c.as_slice.ensures) ∙ c.in_ok-variant.ensures) c.in_ok-turn.ensures)
    c.one.ensures
