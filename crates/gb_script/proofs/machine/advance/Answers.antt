use Rattle.std.proofs.Common.{rules, refl, subst, arith, ◌≡◌, ℕ, drop, length, reverse, List, [], ◌∷◌, ◌++◌}
use Rattle.gb_script.specs.declared.table.Symbol.{Symbol}
use Rattle.gb_script.specs.Grammar.{body_of, production_of, grammar_of}
use Rattle.gb_script.proofs.Rows.{sound_table, placed, picks_none, picks_some}
use Rattle.gb_script.proofs.Steps.{expands_none}
use Rattle.gb_script.proofs.Turns.{turn_token, turn_empty, turn_none, turn_open, part_on_top}
use Rattle.gb_script.proofs.machine.advance.Goals as goal

pub loop-top-init : goal.loop-top-init
loop-top-init g c =
    let s = sound_table c.args.stage c.args.rows.now c.args.symbols.now g.claims c.args.places.now c.requires.1.0 in
    record {
      came = ([], search rules, expands_none (grammar_of c.args.stage c.args.rows.now c.args.symbols.now) g.claims s c.args.kind c.args.at (reverse c.args.stack.now.items));
      good = c.requires.1.1.1;
    }

pub returns-in-Token : goal.returns-in-Token
returns-in-Token g c =
    let i = c.loop-top.invariant in
    let s = sound_table c.args.stage c.args.rows.now c.args.symbols.now g.claims c.args.places.now c.requires.1.0 in
    turn_token (grammar_of c.args.stage c.args.rows.now c.args.symbols.now) g.claims s c.args.kind c.args.at (reverse c.args.stack.now.items) c.args.steps.now.items c.loop-top.stack.items c.pop.new.self.items c.in-Some.top c.in-Token.token c.loop-top.steps.items c.in-Some.ensures.items c.in-Token.is i.came i.good

pub pick-requires-clause-placed : goal.pick-requires-clause-placed
pick-requires-clause-placed g c =
    let i = c.loop-top.invariant in
    let s = sound_table c.args.stage c.args.rows.now c.args.symbols.now g.claims c.args.places.now c.requires.1.0 in
    let o = part_on_top (grammar_of c.args.stage c.args.rows.now c.args.symbols.now) g.claims s c.args.kind c.args.at (reverse c.args.stack.now.items) c.args.steps.now.items c.loop-top.stack.items c.pop.new.self.items c.in-Some.top c.in-Part.part c.loop-top.steps.items c.in-Some.ensures.items c.in-Part.is i.came i.good in
    placed c.args.stage c.args.rows.now c.args.symbols.now g.claims c.args.places.now c.requires.1.0 c.in-Part.part o.good.0

pub returns-in-None : goal.returns-in-None
returns-in-None g c =
    let i = c.loop-top.invariant in
    let s = sound_table c.args.stage c.args.rows.now c.args.symbols.now g.claims c.args.places.now c.requires.1.0 in
    let o = part_on_top (grammar_of c.args.stage c.args.rows.now c.args.symbols.now) g.claims s c.args.kind c.args.at (reverse c.args.stack.now.items) c.args.steps.now.items c.loop-top.stack.items c.pop.new.self.items c.in-Some.top c.in-Part.part c.loop-top.steps.items c.in-Some.ensures.items c.in-Part.is i.came i.good in
    turn_none (grammar_of c.args.stage c.args.rows.now c.args.symbols.now) g.claims s c.args.kind c.args.at (reverse c.args.stack.now.items) c.args.steps.now.items c.loop-top.stack.items c.pop.new.self.items c.in-Part.part c.loop-top.steps.items c.requires.1.1.0 o (picks_none c.args.stage c.args.symbols.now c.args.rows.now c.in-Part.part c.args.kind c.in-None.ensures)

pub loop-top-smaller : goal.loop-top-smaller
loop-top-smaller g c =
    let i = c.loop-top.invariant in
    let s = sound_table c.args.stage c.args.rows.now c.args.symbols.now g.claims c.args.places.now c.requires.1.0 in
    let o = part_on_top (grammar_of c.args.stage c.args.rows.now c.args.symbols.now) g.claims s c.args.kind c.args.at (reverse c.args.stack.now.items) c.args.steps.now.items c.loop-top.stack.items c.pop.new.self.items c.in-Some.top c.in-Part.part c.loop-top.steps.items c.in-Some.ensures.items c.in-Part.is i.came i.good in
    let put = subst (λ (k : ℕ). reverse c.push_body.new.stack.items ≡ body_of (drop k c.args.symbols.now) ++ reverse c.pop.new.self.items) c.from.ensures c.in_ok-push_body-in-Some-pick.ensures in
    (turn_open (grammar_of c.args.stage c.args.rows.now c.args.symbols.now) g.claims s c.args.kind c.args.at (reverse c.args.stack.now.items) c.args.steps.now.items c.loop-top.stack.items c.pop.new.self.items c.push_body.new.stack.items c.in-Part.part c.loop-top.steps.items c.push.new.self.items (production_of c.in-Some-pick.row.now c.args.symbols.now) c.requires.1.1.0 o (picks_some c.args.stage c.args.symbols.now c.args.rows.now c.in-Part.part c.args.kind c.in-Some-pick.row.now c.in-Some-pick.ensures) c.in_ok-push-in-Some-pick.ensures.items put).less

pub loop-top-preserved : goal.loop-top-preserved
loop-top-preserved g c =
    let i = c.loop-top.invariant in
    let s = sound_table c.args.stage c.args.rows.now c.args.symbols.now g.claims c.args.places.now c.requires.1.0 in
    let o = part_on_top (grammar_of c.args.stage c.args.rows.now c.args.symbols.now) g.claims s c.args.kind c.args.at (reverse c.args.stack.now.items) c.args.steps.now.items c.loop-top.stack.items c.pop.new.self.items c.in-Some.top c.in-Part.part c.loop-top.steps.items c.in-Some.ensures.items c.in-Part.is i.came i.good in
    let put = subst (λ (k : ℕ). reverse c.push_body.new.stack.items ≡ body_of (drop k c.args.symbols.now) ++ reverse c.pop.new.self.items) c.from.ensures c.in_ok-push_body-in-Some-pick.ensures in
    let n = turn_open (grammar_of c.args.stage c.args.rows.now c.args.symbols.now) g.claims s c.args.kind c.args.at (reverse c.args.stack.now.items) c.args.steps.now.items c.loop-top.stack.items c.pop.new.self.items c.push_body.new.stack.items c.in-Part.part c.loop-top.steps.items c.push.new.self.items (production_of c.in-Some-pick.row.now c.args.symbols.now) c.requires.1.1.0 o (picks_some c.args.stage c.args.symbols.now c.args.rows.now c.in-Part.part c.args.kind c.in-Some-pick.row.now c.in-Some-pick.ensures) c.in_ok-push-in-Some-pick.ensures.items put in
    record { came = n.came; good = n.good }

empty_of : (s : List Symbol) → length s ≡ 0 → s ≡ []
empty_of [] e = refl
empty_of (x ∷ s) e = absurd (omega arith)

pub returns : goal.returns
returns g c =
    let s = sound_table c.args.stage c.args.rows.now c.args.symbols.now g.claims c.args.places.now c.requires.1.0 in
    turn_empty (grammar_of c.args.stage c.args.rows.now c.args.symbols.now) g.claims s c.args.kind c.args.at (reverse c.args.stack.now.items) c.args.steps.now.items c.loop-top.stack.items c.loop-top.steps.items (empty_of c.loop-top.stack.items (omega (arith, c.in_default.ensures.cases))) c.loop-top.invariant.came
