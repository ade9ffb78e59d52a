-- What a node makes of goals is what its head and its parts make of them.
use Rattle.std.proofs.Common.{◌≡◌, ◌+◌, ◌<◌, [], ◌∷◌, drop, map, ap, sym, ◌∙◌, subst, arith}
use Rattle.std.proofs.lemmas.Result.{err_from_is_err_and}
use Rattle.std.specs.Prelude.{Err}
use Rattle.gb_goal.specs.Answers.{Answers, ◌>>=◌, Fails, placed_at}
use Rattle.gb_goal.specs.Answers.Answer.{given}
use Rattle.gb_limits.specs.Numbers.{number_of}
use Rattle.gb_script.specs.declared.head.Head.TheVariants as head
use Rattle.gb_script.specs.Tree.{head_of, text_of, place_of}
use Rattle.gb_names.proofs.Answers.{answers_as, fails_as, leads_on, passes}
use Rattle.gb_names.proofs.Parts.{left, two}
use Rattle.gb_theory.specs.Combinators.{done_at, fitted, gathered_behind, in_turn, inside, introduced, on_each, ruled, spread, stepped_by, times, worked, works}
use Rattle.gb_theory.specs.Tactics.{each_works, with_works, fits, inner}
use Rattle.gb_theory.proofs.Combined.{pattern_is, no_pattern_is, fits_on, fits_alone, rules_alone, tactic_is, spread_by, repeat_is, rule_is, introduced_by, introduced_is, introduced_fails, step_is, next_given, next_fails, one_each, pair_given, pair_fails, spread_is, spread_ends, round_given, round_fails, times_is}
use Rattle.gb_theory.proofs.tactics.+tactic.Goals as goal

pub worked-returns-in-EitherPattern : goal.worked-returns-in-EitherPattern
worked-returns-in-EitherPattern t c = λ f rules.
    let ds = c.args.scope.now in
    answers_as _ _ c.spread.result (spread_by ds f c.args.head c.args.parts.now c.args.place c.args.goals.now c.in-EitherPattern.is)
    (c.spread.ensures f rules)

pub worked-returns-in_default : goal.worked-returns-in_default
worked-returns-in_default t c = λ f rules.
    let ds = c.args.scope.now in
    answers_as _ _ c.on_each-in_default.result
    (step_is ds f c.args.head (with_works ds f c.args.parts.now) c.args.place c.args.goals.now c.in_default.not-Next c.in_default.not-EitherPattern c.in_default.not-Branches)
    (c.on_each-in_default.ensures f rules)

pub stepped_by-returns-in-Tactic : goal.stepped_by-returns-in-Tactic
stepped_by-returns-in-Tactic t c = λ f rules.
    let ds = c.args.scope.now in
    answers_as _ _ c.in_turn.result (tactic_is ds f c.args.head c.args.parts.now c.args.place c.args.goal.now c.in-Tactic.is) (c.in_turn.ensures f rules)

pub stepped_by-returns-in-Introduction : goal.stepped_by-returns-in-Introduction
stepped_by-returns-in-Introduction t c = λ f rules.
    answers_as _ _ c.introduced.result
    (introduced_by c.args.scope.now f c.args.head c.args.parts.now c.args.place c.args.goal.now c.in-Introduction.is) (c.introduced.ensures f rules)

pub stepped_by-returns-in-len2 : goal.stepped_by-returns-in-len2
stepped_by-returns-in-len2 t c = λ f rules.
    let ds = c.args.scope.now in
    let n = c.count-item.result in
    let s = c.step-item-then-parts-lt3.result in
    answers_as _ _ c.times.result
    (repeat_is ds f c.args.head c.args.parts.now c.args.place c.args.goal.now n s c.in-Repeat.is
    (two c.args.parts.now n s c.in-len2.len_at_least c.in-len2.len_below c.count-item.is c.step-item-then-parts-lt3.is))
    (c.times.ensures f rules)

pub work-returns-then-is_pattern : goal.work-returns-then-is_pattern
work-returns-then-is_pattern t c = λ f rules.
    let ds = c.args.scope.now in
    answers_as _ _ c.pattern.result (ap (λ w. w c.args.goals.now) (pattern_is ds f c.args.tree.now (sym c.is_pattern.ensures ∙ c.if-is_pattern.true)))
    (c.pattern.ensures f rules)

pub work-returns : goal.work-returns
work-returns t c = λ f rules.
    let ds = c.args.scope.now in
    answers_as _ _ c.worked.result
    (ap (λ w. w c.args.goals.now) (no_pattern_is ds f c.args.tree.now (sym c.is_pattern.ensures ∙ c.if-is_pattern.false))
    ∙ ap (λ ts. worked ds f (head_of c.args.tree.now) (with_works ds f ts) (place_of c.args.tree.now) c.args.goals.now) (sym c.as_slice.ensures))
    (c.worked.ensures f rules)

pub fit-returns-in-BothPatterns : goal.fit-returns-in-BothPatterns
fit-returns-in-BothPatterns t c = λ f rules.
    let ds = c.args.scope.now in
    let n = c.args.tree.now in
    answers_as _ _ c.worked.result
    (fits_on ds f n c.args.goal.now c.in_ok-goals.goals c.in-BothPatterns.is (c.in_ok-goals.ensures (f n c.args.goal.now) (c.rule.ensures f rules))
    ∙ ap (λ qs. inner ds f n qs) (sym c.as_slice.ensures)
    ∙ ap (λ ts. worked ds f (head_of n) (with_works ds f ts) (place_of n) c.as_slice.result.now) (sym c.as_slice-parts.ensures))
    (c.worked.ensures f rules)

pub fit-returns-in_default : goal.fit-returns-in_default
fit-returns-in_default t c = λ f rules.
    fits_alone c.args.scope.now f c.args.tree.now c.args.goal.now c.in_ok-goals.goals c.in_default.not-BothPatterns c.in_default.not-EitherPattern
    (c.in_ok-goals.ensures (f c.args.tree.now c.args.goal.now) (c.rule.ensures f rules))

pub introduced-returns : goal.introduced-returns
introduced-returns t c = λ f rules.
    let ds = c.args.scope.now in
    let ts = c.args.patterns.now in
    answers_as _ _ c.in_turn.result
    (introduced_is ds f ts c.args.goal.now c.in_ok-check_new.ensures)
    (c.in_turn.ensures f rules)

pub by-returns : goal.by-returns
by-returns t c = λ f rules.
    let ds = c.args.scope.now in
    let n = c.args.step.now in
    let done = on_each (f (done_at c.args.place)) in
    answers_as _ _ c.done.result
    (leads_on (works ds f n (c.args.goal.now ∷ [])) done c.in_ok-left.left
    (subst (λ gs. works ds f n gs ≡ given c.in_ok-left.left) c.from_ref.ensures.value (c.in_ok-left.ensures f rules))
    ∙ ap done (sym c.as_slice.ensures))
    (c.done.ensures f rules)

pub by-returns-in_err-left : goal.by-returns-in_err-left
by-returns-in_err-left t c = λ f rules.
    let ds = c.args.scope.now in
    let n = c.args.step.now in
    let done = on_each (f (done_at c.args.place)) in
    let e = err_from_is_err_and c.from_residual.result c.from_residual.ensures.1 in
    subst (Answers (works ds f n (c.args.goal.now ∷ []) >>= done)) (sym (e.1 ∙ ap Err e.2))
    (passes (works ds f n (c.args.goal.now ∷ [])) done c.in_err-left.field-0.0 (subst (λ gs. Fails (works ds f n gs) c.in_err-left.field-0.0) c.from_ref.ensures.value (c.in_err-left.ensures f rules)))

pub fit-returns-in_err-goals : goal.fit-returns-in_err-goals
fit-returns-in_err-goals t c = λ f rules.
    let ds = c.args.scope.now in
    let n = c.args.tree.now in
    let e = err_from_is_err_and c.from_residual.result c.from_residual.ensures.1 in
    subst (Answers (fits ds f n c.args.goal.now)) (sym (e.1 ∙ ap Err e.2))
    (passes (fitted (head_of n) (f n c.args.goal.now)) (inside (head_of n) (inner ds f n)) c.in_err-goals.field-0.0 (c.in_err-goals.ensures (f n c.args.goal.now) (c.rule.ensures f rules)))

pub introduced-returns-in_err-check_new : goal.introduced-returns-in_err-check_new
introduced-returns-in_err-check_new t c = λ f rules.
    let ds = c.args.scope.now in
    let ts = c.args.patterns.now in
    let q = c.args.goal.now in
    let e = err_from_is_err_and c.from_residual.result c.from_residual.ensures.1 in
    subst (Answers (introduced ds (with_works ds f ts) q)) (sym (e.1 ∙ ap Err e.2))
    (introduced_fails ds f ts q c.in_err-check_new.field-0.0 c.in_err-check_new.ensures)

pub ruled-returns-in_default : goal.ruled-returns-in_default
ruled-returns-in_default t c = λ f rules.
    let ds = c.args.scope.now in
    let n = c.args.tree.now in
    answers_as _ _ c.rule.result (rules_alone ds f (head_of n) (n, works ds f n) c.args.goal.now c.in_default.not-Move) (c.rule.ensures f rules)

pub on_each-returns-in_err-more : goal.on_each-returns-in_err-more
on_each-returns-in_err-more t c = λ f rules.
    let ds = c.args.scope.now in
    let qs = c.args.goals.now in
    let i = c.loop-goal.goal-index in
    let g = stepped_by ds f c.args.head (with_works ds f c.args.parts.now) c.args.place in
    let e = err_from_is_err_and c.from_residual.result c.from_residual.ensures.1 in
    subst (Answers (on_each g qs)) (sym (e.1 ∙ ap Err e.2))
    (fails_as _ _ c.in_err-more.field-0.0 (sym (c.loop-goal.invariant f rules))
    (next_fails g qs i c.goal-item.result c.loop-goal.left (left qs i c.goal-item.result c.loop-goal-test.true c.goal-item.is) c.in_err-more.field-0.0
    (c.in_err-more.ensures f rules)))

pub on_each-loop-goal-preserved : goal.on_each-loop-goal-preserved
on_each-loop-goal-preserved t c = λ f rules.
    let ds = c.args.scope.now in
    let qs = c.args.goals.now in
    let i = c.loop-goal.goal-index in
    let g = stepped_by ds f c.args.head (with_works ds f c.args.parts.now) c.args.place in
    ap (λ ls. gathered_behind ls (map g (drop (i + 1) qs))) c.in_ok-append.ensures
    ∙ sym (next_given g qs i c.goal-item.result c.loop-goal.left (left qs i c.goal-item.result c.loop-goal-test.true c.goal-item.is) c.in_ok-more.more
    (c.in_ok-more.ensures f rules))
    ∙ c.loop-goal.invariant f rules

pub pattern-returns-in_err-more : goal.pattern-returns-in_err-more
pattern-returns-in_err-more t c = λ f rules.
    let ds = c.args.scope.now in
    let qs = c.args.goals.now in
    let i = c.loop-goal.goal-index in
    let g = fits ds f c.args.tree.now in
    let e = err_from_is_err_and c.from_residual.result c.from_residual.ensures.1 in
    subst (Answers (on_each g qs)) (sym (e.1 ∙ ap Err e.2))
    (fails_as _ _ c.in_err-more.field-0.0 (sym (c.loop-goal.invariant f rules))
    (next_fails g qs i c.goal-item.result c.loop-goal.left (left qs i c.goal-item.result c.loop-goal-test.true c.goal-item.is) c.in_err-more.field-0.0
    (c.in_err-more.ensures f rules)))

pub pattern-loop-goal-preserved : goal.pattern-loop-goal-preserved
pattern-loop-goal-preserved t c = λ f rules.
    let ds = c.args.scope.now in
    let qs = c.args.goals.now in
    let i = c.loop-goal.goal-index in
    let g = fits ds f c.args.tree.now in
    ap (λ ls. gathered_behind ls (map g (drop (i + 1) qs))) c.in_ok-append.ensures
    ∙ sym (next_given g qs i c.goal-item.result c.loop-goal.left (left qs i c.goal-item.result c.loop-goal-test.true c.goal-item.is) c.in_ok-more.more
    (c.in_ok-more.ensures f rules))
    ∙ c.loop-goal.invariant f rules

pub spread-loop-i-init : goal.spread-loop-i-init
spread-loop-i-init t c =
    let ds = c.args.scope.now in
    (c.if-tactics-goals.false, λ f rules. ap (λ ls. gathered_behind ls (one_each (each_works ds f c.args.tactics.now) c.args.goals.now)) c.new-left.ensures)

pub spread-returns-in_err-more : goal.spread-returns-in_err-more
spread-returns-in_err-more t c = λ f rules.
    let ds = c.args.scope.now in
    let ts = c.args.tactics.now in
    let qs = c.args.goals.now in
    let i = c.loop-i.i in
    let e = err_from_is_err_and c.from_residual.result c.from_residual.ensures.1 in
    subst (Answers (spread (each_works ds f ts) c.args.place qs)) (sym (e.1 ∙ ap Err e.2))
    (fails_as _ _ c.in_err-more.field-0.0 (spread_is ds f ts c.args.place qs c.loop-i.invariant.0 ∙ sym (c.loop-i.invariant.1 f rules))
    (pair_fails ds f ts qs i c.index-tactics-i.result c.index-goals-i.result c.loop-i.left
    (left ts i c.index-tactics-i.result c.loop-i-test.true c.index-tactics-i.is)
    (left qs i c.index-goals-i.result (subst (λ n. i < n) c.loop-i.invariant.0 c.loop-i-test.true) c.index-goals-i.is) c.in_err-more.field-0.0
    (subst (λ gs. Fails (works ds f c.index-tactics-i.result gs) c.in_err-more.field-0.0) c.from_ref.ensures.value (c.in_err-more.ensures f rules))))

pub spread-loop-i-preserved : goal.spread-loop-i-preserved
spread-loop-i-preserved t c =
    let ds = c.args.scope.now in
    let ts = c.args.tactics.now in
    let qs = c.args.goals.now in
    let i = c.loop-i.i in (
      c.loop-i.invariant.0,
      λ f rules.
          ap (λ ls. gathered_behind ls (one_each (each_works ds f (drop (i + 1) ts)) (drop (i + 1) qs))) c.in_ok-append.ensures
          ∙ sym (pair_given ds f ts qs i c.index-tactics-i.result c.index-goals-i.result c.loop-i.left
          (left ts i c.index-tactics-i.result c.loop-i-test.true c.index-tactics-i.is)
          (left qs i c.index-goals-i.result (subst (λ n. i < n) c.loop-i.invariant.0 c.loop-i-test.true) c.index-goals-i.is) c.in_ok-more.more
          (subst (λ gs. works ds f c.index-tactics-i.result gs ≡ given c.in_ok-more.more) c.from_ref.ensures.value (c.in_ok-more.ensures f rules)))
          ∙ c.loop-i.invariant.1 f rules,
    )

pub spread-returns : goal.spread-returns
spread-returns t c = λ f rules.
    let ds = c.args.scope.now in
    let ts = c.args.tactics.now in
    let qs = c.args.goals.now in
    spread_is ds f ts c.args.place qs c.loop-i.invariant.0
    ∙ sym (c.loop-i.invariant.1 f rules)
    ∙ spread_ends ds f ts c.loop-i.i c.loop-i.left (drop c.loop-i.i qs) (omega arith)

pub in_turn-loop-step-init : goal.in_turn-loop-step-init
in_turn-loop-step-init t c = λ f rules. ap (λ qs. in_turn (each_works c.args.scope.now f c.args.steps.now) qs) c.in_ok-goals.ensures

pub times-returns-in_err-left : goal.times-returns-in_err-left
times-returns-in_err-left t c = λ f rules.
    let ds = c.args.scope.now in
    let n = c.args.count.now in
    let w = works ds f c.args.step.now in
    let e = err_from_is_err_and c.from_residual-in_err-left.result c.from_residual-in_err-left.ensures.1 in
    subst (Answers (times (number_of (text_of n)) (place_of n) w (c.args.goal.now ∷ []))) (sym (e.1 ∙ ap Err e.2))
    (fails_as _ _ c.in_err-left.field-0.0
    (times_is (number_of (text_of n)) c.in-Some.rounds (place_of n) w (c.args.goal.now ∷ []) (sym c.in-Some.ensures) ∙ sym (c.loop.invariant f rules))
    (round_fails w c.in-Some.rounds c.loop.counter c.loop-test.true c.loop.left c.in_err-left.field-0.0
    (subst (λ gs. Fails (w gs) c.in_err-left.field-0.0) c.as_slice.ensures (c.in_err-left.ensures f rules))))

pub times-loop-preserved : goal.times-loop-preserved
times-loop-preserved t c = λ f rules.
    let ds = c.args.scope.now in
    let w = works ds f c.args.step.now in
    sym (round_given w c.in-Some.rounds c.loop.counter c.loop-test.true c.loop.left c.in_ok-left.left
    (subst (λ gs. w gs ≡ given c.in_ok-left.left) c.as_slice.ensures (c.in_ok-left.ensures f rules)))
    ∙ c.loop.invariant f rules

pub with_patterns-returns-in_ok-goals-in-len2 : goal.with_patterns-returns-in_ok-goals-in-len2
with_patterns-returns-in_ok-goals-in-len2 t c = λ f rules.
    let ds = c.args.scope.now in
    let r = c.tree-item.result in
    let i = c.introduction-item.result in
    let place = c.args.place in
    let first = ruled f (head_of r) (r, works ds f r) c.args.goal.now in
    answers_as _ _ c.placed-in-len2.result
    (rule_is ds f head.Rule c.args.parts.now place c.args.goal.now r i (two c.args.parts.now r i c.in-len2.len_at_least c.in-len2.len_below c.tree-item.is c.introduction-item.is)
    ∙ leads_on (placed_at place first) (λ qs. placed_at place (works ds f i qs)) c.in_ok-goals-in-len2.goals (c.in_ok-goals-in-len2.ensures first (c.ruled.ensures f rules))
    ∙ ap (λ qs. placed_at place (works ds f i qs)) (sym c.as_slice.ensures))
    (c.placed-in-len2.ensures (works ds f i c.as_slice.result.now) (c.work.ensures f rules))

pub with_patterns-returns-in_err-goals-in-len2 : goal.with_patterns-returns-in_err-goals-in-len2
with_patterns-returns-in_err-goals-in-len2 t c = λ f rules.
    let ds = c.args.scope.now in
    let r = c.tree-item.result in
    let i = c.introduction-item.result in
    let place = c.args.place in
    let first = ruled f (head_of r) (r, works ds f r) c.args.goal.now in
    let e = err_from_is_err_and c.from_residual.result c.from_residual.ensures.1 in
    subst (Answers (stepped_by ds f head.Rule (with_works ds f c.args.parts.now) place c.args.goal.now)) (sym (e.1 ∙ ap Err e.2))
    (fails_as _ _ c.in_err-goals-in-len2.field-0.0
    (rule_is ds f head.Rule c.args.parts.now place c.args.goal.now r i (two c.args.parts.now r i c.in-len2.len_at_least c.in-len2.len_below c.tree-item.is c.introduction-item.is))
    (passes (placed_at place first) (λ qs. placed_at place (works ds f i qs)) c.in_err-goals-in-len2.field-0.0 (c.in_err-goals-in-len2.ensures first (c.ruled.ensures f rules))))

pub attempt-returns : goal.attempt-returns
attempt-returns t c = λ f rules.
    let ds = c.args.scope.now in
    let w = works ds f c.args.step.now in
    c.or_left.ensures (w (c.args.goal.now ∷ [])) (subst (λ gs. Answers (w gs) c.work-made.result) c.from_ref.ensures.value (c.work-made.ensures f rules))
