-- The names that a pattern adds are those of its head and its parts.
use Rattle.std.proofs.Common.{◌≡◌, ◌+◌, [], drop, ap, sym, ◌∙◌, subst}
use Rattle.std.proofs.lemmas.Result.{err_from_is_err_and}
use Rattle.std.specs.Prelude.{Err}
use Rattle.gb_goal.specs.Answers.{Answers, Fails}
use Rattle.gb_goal.specs.Answers.Answer.{given}
use Rattle.gb_script.specs.Tree.{head_of, text_of, place_of}
use Rattle.gb_names.proofs.Answers.{answers_as, fails_as}
use Rattle.gb_names.proofs.Parts.{left}
use Rattle.gb_theory.specs.Patterns.{added, added_by, all_added}
use Rattle.gb_theory.specs.Tactics.{each_adds, with_added}
use Rattle.gb_theory.proofs.Named.{added_is, plain_is, next_added, next_is_refused}
use Rattle.gb_theory.proofs.names.+names.Goals as goal

pub added-returns : goal.added-returns
added-returns t c =
    let ds = c.args.scope.now in
    let q = c.args.goal.now in
    let n = c.args.pattern.now in
    answers_as _ _ c.added_by.result
    (added_is ds q n c.args.used.now ∙ ap (λ ts. added_by ds q (head_of n) (text_of n) (with_added ds q ts) (place_of n) c.args.used.now) (sym c.as_slice.ensures))
    c.added_by.ensures

pub added_by-returns-in_default : goal.added_by-returns-in_default
added_by-returns-in_default t c =
    answers_as _ _ c.all_added-in_default.result
    (plain_is c.args.scope.now c.args.goal.now c.args.head c.args.text.now c.args.parts.now c.args.place c.args.used.now c.in_default.not-Name c.in_default.not-EitherPattern)
    c.all_added-in_default.ensures

pub all_added-returns-in_err-more : goal.all_added-returns-in_err-more
all_added-returns-in_err-more t c =
    let ds = c.args.scope.now in
    let q = c.args.goal.now in
    let ts = c.args.patterns.now in
    let i = c.loop-pattern.pattern-index in
    let e = err_from_is_err_and c.from_residual-in_err-more.result c.from_residual-in_err-more.ensures.1 in
    let known = c.as_slice.ensures ∙ c.in_ok-known.ensures in
    subst (Answers (all_added (each_adds ds q ts) c.args.used.now [])) (sym (e.1 ∙ ap Err e.2))
    (fails_as _ _ c.in_err-more.field-0.0 (sym c.loop-pattern.invariant)
    (next_is_refused ds q ts i c.pattern-item.result (left ts i c.pattern-item.result c.loop-pattern-test.true c.pattern-item.is) c.args.used.now c.loop-pattern.names
    c.in_err-more.field-0.0
    (subst (λ us. Fails (added ds q c.pattern-item.result us) c.in_err-more.field-0.0) known c.in_err-more.ensures)))

pub all_added-loop-pattern-preserved : goal.all_added-loop-pattern-preserved
all_added-loop-pattern-preserved t c =
    let ds = c.args.scope.now in
    let q = c.args.goal.now in
    let ts = c.args.patterns.now in
    let i = c.loop-pattern.pattern-index in
    let known = c.as_slice.ensures ∙ c.in_ok-known.ensures in
    ap (λ ns. all_added (each_adds ds q (drop (i + 1) ts)) c.args.used.now ns) c.in_ok-append.ensures
    ∙ sym (next_added ds q ts i c.pattern-item.result (left ts i c.pattern-item.result c.loop-pattern-test.true c.pattern-item.is) c.args.used.now c.loop-pattern.names
    c.in_ok-more.more
    (subst (λ us. added ds q c.pattern-item.result us ≡ given c.in_ok-more.more) known c.in_ok-more.ensures))
    ∙ c.loop-pattern.invariant
