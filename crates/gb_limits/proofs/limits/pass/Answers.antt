use Rattle.std.proofs.Common.{◌≡◌, ℕ, ◌-◌, ◌≤◌, ◌<◌, List, [], ◌∷◌, length, get_or, take, drop, ap, sym, ◌∙◌, arith, refl, Bool, true, false}
use Rattle.std.specs.Prelude.{◌&&◌, ◌||◌, if◌then◌else◌}
use Rattle.std.proofs.lemmas.List.{take_all}
use borrow.Author.Tests.{le-leb, lt-leb}
use Rattle.gb_script.specs.declared.table.Step.{Step}
use Rattle.gb_script.specs.declared.action.Rule.{Rule}
use Rattle.gb_script.specs.declared.text.Text.{Text}
use Rattle.gb_script.specs.Text.{terminal_at}
use Rattle.gb_limits.specs.declared.level.Bracket.{Bracket}
use Rattle.gb_limits.specs.declared.level.Level.{Level}
use Rattle.gb_limits.specs.Level.{bracket_of, bracketed, top_is_long}
use Rattle.gb_limits.specs.Limits.{Walk, begun, stepped, taken, begin_too_many}
use Rattle.gb_limits.proofs.limits.pass.Goals.{in_default, in-len1-up+then-step-at}
use Rattle.gb_limits.proofs.limits.pass.Goals as goal

-- a step that stands at the position or before it
taken_over : (t : Text) (at : ℕ) (steps : List (Step Rule)) (d : Step Rule) (ls next : List Level) → 1 ≤ length steps → (get_or steps 0 d).at ≤ at → next ≡ stepped t (get_or steps 0 d) ls
    → taken t at next (take (length steps - 1) (drop 1 steps)) ≡ taken t at ls steps
taken_over t at [] d ls next some here e = absurd (omega arith)
taken_over t at (s ∷ ss) d ls next some here e =
    ap (taken t at next) (take_all (length (s ∷ ss) - 1) ss (omega arith))
    ∙ (ap (λ (l : List Level). taken t at l ss) e
    ∙ sym (ap (λ (b : Bool). if b then taken t at (stepped t s ls) ss else (record { levels = ls; rest = s ∷ ss })) (le-leb s.at at here)))

too_many_over : (t : Text) (at : ℕ) (steps : List (Step Rule)) (d : Step Rule) (ls next : List Level) (many : Bool) → 1 ≤ length steps → (get_or steps 0 d).at ≤ at → next ≡ stepped t (get_or steps 0 d) ls
    → many ≡ top_is_long (begun t (get_or steps 0 d) ls) → (many || begin_too_many t at next (take (length steps - 1) (drop 1 steps))) ≡ begin_too_many t at ls steps
too_many_over t at [] d ls next many some here e m = absurd (omega arith)
too_many_over t at (s ∷ ss) d ls next many some here e m =
    ap (λ (l : List (Step Rule)). many || begin_too_many t at next l) (take_all (length (s ∷ ss) - 1) ss (omega arith))
    ∙ (ap (λ (l : List Level). many || begin_too_many t at l ss) e
    ∙ (ap (λ (b : Bool). b || begin_too_many t at (stepped t s ls) ss) m
    ∙ sym (ap (λ (b : Bool). b && (top_is_long (begun t s ls) || begin_too_many t at (stepped t s ls) ss)) (le-leb s.at at here))))

-- No step is left, or the next one stands behind the position.
record Stops (t : Text) (at : ℕ) (ls : List Level) (steps : List (Step Rule)) : Type 0 where
  walk : taken t at ls steps ≡ record { levels = ls; rest = steps }
  short : begin_too_many t at ls steps ≡ false

none_left : (t : Text) (at : ℕ) (steps : List (Step Rule)) (ls : List Level) → length steps < 1 → Stops t at ls steps
none_left t at [] ls none = record { walk = refl; short = refl }
none_left t at (s ∷ ss) ls none = absurd (omega arith)

none_here : (t : Text) (at : ℕ) (steps : List (Step Rule)) (d : Step Rule) (ls : List Level) → 1 ≤ length steps → at < (get_or steps 0 d).at → Stops t at ls steps
none_here t at [] d ls some behind = absurd (omega arith)
none_here t at (s ∷ ss) d ls some behind = record {
  walk = ap (λ (b : Bool). if b then taken t at (stepped t s ls) ss else (record { levels = ls; rest = s ∷ ss })) (lt-leb s.at at behind);
  short = ap (λ (b : Bool). b && (top_is_long (begun t s ls) || begin_too_many t at (stepped t s ls) ss)) (lt-leb s.at at behind);
}

fewer : (steps : List (Step Rule)) → 1 ≤ length steps → length (take (length steps - 1) (drop 1 steps)) < length steps
fewer [] some = absurd (omega arith)
fewer (s ∷ ss) some = let all = ap (λ (l : List (Step Rule)). length l) (take_all (length (s ∷ ss) - 1) ss (omega arith)) in omega (arith, all)

or_assoc : (a b c : Bool) → ((a || b) || c) ≡ (a || (b || c))
or_assoc true b c = refl
or_assoc false b c = refl

or_false : (a : Bool) → (a || false) ≡ a
or_false true = refl
or_false false = refl

pub loop-rest-preserved : goal.loop-rest-preserved
loop-rest-preserved c =
    let steps = c.loop-rest.rest.now in
    let some = c.in-len1-up.len_at_least in
    let here = c.if-step-at.false in
    let taken_it = c.in_ok-long.ensures in
    record {
      same = taken_over c.args.text.now c.args.at steps _ c.loop-rest.levels c.take_step.new.levels some here taken_it.0 ∙ c.loop-rest.invariant.same;
      long = or_assoc c.loop-rest.long c.in_ok-long.field-0 _
          ∙ (ap (λ (b : Bool). c.loop-rest.long || b) (too_many_over c.args.text.now c.args.at steps _ c.loop-rest.levels c.take_step.new.levels c.in_ok-long.field-0 some here taken_it.0 taken_it.1)
          ∙ c.loop-rest.invariant.long);
    }

pub loop-rest-smaller : goal.loop-rest-smaller
loop-rest-smaller c = fewer c.loop-rest.rest.now c.in-len1-up.len_at_least

pub returns : goal.returns
returns c =
    let t = c.args.text.now in
    let ls = c.loop-rest.levels in
    let steps = c.loop-rest.rest.now in
    let stop : Stops t c.args.at ls steps =
    elim c.if-rest-lt1.branch [ in_default w ↦ none_left t c.args.at steps ls w.in_default.len_below | in-len1-up+then-step-at w ↦ none_here t c.args.at steps _ ls w.in-len1-up.len_at_least w.if-step-at.true ] in
    let walk = sym stop.walk ∙ c.loop-rest.invariant.same in
    record {
      levels = c.in_ok-enclose.ensures ∙ (ap (λ (e : Bracket). bracketed e ls) (c.bracket_of.ensures ∙ ap bracket_of c.terminal_at.ensures) ∙ ap (λ (w : Walk). bracketed (bracket_of (terminal_at t c.args.at)) w.levels) walk);
      rest = ap (λ (w : Walk). w.rest) walk;
      long = sym (or_false c.loop-rest.long) ∙ (ap (λ (b : Bool). c.loop-rest.long || b) (sym stop.short) ∙ c.loop-rest.invariant.long);
    }
