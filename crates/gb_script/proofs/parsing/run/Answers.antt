use Rattle.std.proofs.Common.{sym, ◌∙◌, subst, arith, ◌≡◌, ℕ, List, length, reverse}
use Rattle.gb_script.specs.declared.table.Step.{Step}
use Rattle.gb_script.specs.Parsing.{StepsBefore}
use Rattle.gb_script.specs.Grammar.{grammar_of}
use Rattle.gb_script.proofs.Rows.{sound_table}
use Rattle.gb_script.proofs.Whole.{faulted, short, whole, halted_from, moved_from, kept_none, kept_more, all_read, steps_before, cut_back}
use Rattle.gb_script.proofs.parsing.run.Goals as goal

pub loop-at-init : goal.loop-at-init
loop-at-init g c =
    let grammar = grammar_of c.args.stage c.args.rows.now c.args.symbols.now in
    let s = sound_table c.args.stage c.args.rows.now c.args.symbols.now g.claims c.args.places.now c.requires.1.0 in
    kept_none grammar g.claims s c.args.start c.args.kinds.now c.args.steps.now.items c.args.stack.now.items c.push.new.self.items c.push-2.new.self.items
    c.requires.1.1.0 c.requires.1.1.1.1.1 c.requires.1.1.1.1.0 c.in_ok-push.ensures.items c.in_ok-push-2.ensures.items

pub loop-at-preserved : goal.loop-at-preserved
loop-at-preserved g c =
    let grammar = grammar_of c.args.stage c.args.rows.now c.args.symbols.now in
    let s = sound_table c.args.stage c.args.rows.now c.args.symbols.now g.claims c.args.places.now c.requires.1.0 in
    let m = moved_from grammar g.claims _ c.loop-at.at (reverse c.loop-at.stack.items) c.loop-at.steps.items (reverse c.advance.new.stack.items) c.advance.new.steps.items c.in_ok-moved.moved c.if-not-moved.false c.in_ok-moved.ensures in
    kept_more grammar g.claims s c.args.start c.args.kinds.now c.loop-at.steps.items c.advance.new.steps.items c.loop-at.at (reverse c.loop-at.stack.items) (reverse c.advance.new.stack.items) (omega arith) c.loop-at.invariant m

pub returns-then-not-moved : goal.returns-then-not-moved
returns-then-not-moved g c =
    let grammar = grammar_of c.args.stage c.args.rows.now c.args.symbols.now in
    let s = sound_table c.args.stage c.args.rows.now c.args.symbols.now g.claims c.args.places.now c.requires.1.0 in
    let i = c.loop-at.invariant in
    let halted = halted_from grammar g.claims _ c.loop-at.at (reverse c.loop-at.stack.items) c.loop-at.steps.items (reverse c.advance.new.stack.items) c.advance.new.steps.items c.in_ok-moved.moved c.if-not-moved.true c.in_ok-moved.ensures in
    let f = faulted grammar g.claims s c.args.start c.requires.1.1.0 c.args.kinds.now c.loop-at.steps.items c.loop-at.at (reverse c.loop-at.stack.items) c.requires.1.1.1.0 (omega arith) i.came i.good halted.stuck in
    let cut = c.truncate.ensures.items ∙ cut_back grammar _ c.loop-at.at c.count-before.result (reverse c.loop-at.stack.items) c.loop-at.steps.items c.advance.new.steps.items c.count-before.ensures halted in
    let before = steps_before grammar g.claims s c.args.start c.requires.1.1.0 c.args.kinds.now c.loop-at.steps.items c.loop-at.at (reverse c.loop-at.stack.items) i.came in
    (f, subst (λ (l : List (Step g.row.R.Denot)). StepsBefore grammar c.args.start c.args.kinds.now c.loop-at.at l) (sym {A = List (Step g.row.R.Denot)} cut) before)

pub returns-then-not-ended : goal.returns-then-not-ended
returns-then-not-ended g c =
    let grammar = grammar_of c.args.stage c.args.rows.now c.args.symbols.now in
    let s = sound_table c.args.stage c.args.rows.now c.args.symbols.now g.claims c.args.places.now c.requires.1.0 in
    let cur = reverse c.loop-at.stack.items in
    let halted = halted_from grammar g.claims 0 (length c.args.kinds.now) cur c.loop-at.steps.items (reverse c.advance-2.new.stack.items) c.advance-2.new.steps.items c.in_ok-ended.ended c.if-not-ended.true c.in_ok-ended.ensures in
    let came = all_read grammar g.claims s c.args.start c.args.kinds.now c.loop-at.at c.loop-at.steps.items cur (omega arith) c.loop-at.invariant in
    let f = short grammar g.claims s c.args.start c.requires.1.1.0 c.args.kinds.now c.loop-at.steps.items cur c.requires.1.1.1.0 came c.loop-at.invariant.good halted.stuck in
    let cut = c.truncate-then-not-ended.ensures.items ∙ cut_back grammar _ (length c.args.kinds.now) c.count-before-2.result cur c.loop-at.steps.items c.advance-2.new.steps.items c.count-before-2.ensures halted in
    let before = steps_before grammar g.claims s c.args.start c.requires.1.1.0 c.args.kinds.now c.loop-at.steps.items c.loop-at.at cur c.loop-at.invariant.came in
    let end : c.loop-at.at ≡ length c.args.kinds.now = omega arith in (
      f,
      subst (λ (m : ℕ). StepsBefore grammar c.args.start c.args.kinds.now m c.truncate-then-not-ended.new.self.items) end
          (subst (λ (l : List (Step g.row.R.Denot)). StepsBefore grammar c.args.start c.args.kinds.now c.loop-at.at l) (sym {A = List (Step g.row.R.Denot)} cut) before),
    )

pub returns : goal.returns
returns g c =
    let grammar = grammar_of c.args.stage c.args.rows.now c.args.symbols.now in
    let s = sound_table c.args.stage c.args.rows.now c.args.symbols.now g.claims c.args.places.now c.requires.1.0 in
    let cur = reverse c.loop-at.stack.items in
    let to = reverse c.advance-2.new.stack.items in
    let m = moved_from grammar g.claims 0 (length c.args.kinds.now) cur c.loop-at.steps.items to c.advance-2.new.steps.items c.in_ok-ended.ended c.if-not-ended.false c.in_ok-ended.ensures in
    let came = all_read grammar g.claims s c.args.start c.args.kinds.now c.loop-at.at c.loop-at.steps.items cur (omega arith) c.loop-at.invariant in
    (whole grammar g.claims s c.args.start c.requires.1.1.0 c.args.kinds.now c.loop-at.steps.items c.advance-2.new.steps.items cur to came m).found

pub advance-requires : goal.advance-requires
advance-requires g c = λ κs within. (within, (c.requires.1.0, ((c.requires.1.1.1.0 c.loop-at.at 0 (omega arith)).1, c.loop-at.invariant.good)))

pub advance-requires-2 : goal.advance-requires-2
advance-requires-2 g c = λ κs within. (within, (c.requires.1.0, (omega arith, c.loop-at.invariant.good)))
