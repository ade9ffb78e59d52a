use Rattle.std.proofs.Common.{ap, subst, ◌∙◌, arith, ◌≡◌, ◌+◌, ◌-◌, ◌<◌, ◌≤◌, ℕ, Option, Some, None, length, take, drop}
use Rattle.std.specs.Prelude.{MatchOption}
use Rattle.gb_script.specs.declared.table.Row.{Row}
use Rattle.gb_script.specs.Check.{place_of, pick_row}
use Rattle.gb_script.proofs.machine.pick.Given.{Over}
use Rattle.gb_script.proofs.machine.pick.Goals as goal

ordered : (start end a b rows : ℕ) → start ≡ a → end ≡ b → a ≤ b → b ≤ rows → (start ≤ end) × (start ≤ rows) × (end ≤ rows)
ordered start end a b rows e f h k = (omega arith, omega arith, omega arith)

-- the range of the rows of the part
range : (g : Over) (c : goal.After-from-end g) → (c.from-start.result ≤ c.from-end.result) × (c.from-start.result ≤ length c.args.rows.now) × (c.from-end.result ≤ length c.args.rows.now)
range g c =
    let places = c.args.places.now in
    let part = c.args.part in
    ordered c.from-start.result c.from-end.result (place_of places part) (place_of places (part + 1)) (length c.args.rows.now)
    (c.from-start.ensures ∙ ap (λ (n : ℕ). place_of places n) c.from.ensures)
    (c.from-end.ensures ∙ ap (λ (n : ℕ). place_of places (n + 1)) c.from-2.ensures)
    c.requires.placed.ordered c.requires.placed.within

known : (k part many : ℕ) → k ≡ part → part + 1 < many → (k < many) × (k + 1 < many)
known k part many e h = (omega arith, omega arith)

pub bounds-places-from : goal.bounds-places-from
bounds-places-from g c = (known c.from.result c.args.part (length c.args.places.now) c.from.ensures c.requires.placed.known).0

pub bounds-places-from-2 : goal.bounds-places-from-2
bounds-places-from-2 g c = (known c.from-2.result c.args.part (length c.args.places.now) c.from-2.ensures c.requires.placed.known).1

pub offset_bounds-rows-start : goal.offset_bounds-rows-start
offset_bounds-rows-start g c = (range g c).1

pub slice_bounds-pick_among-count : goal.slice_bounds-pick_among-count
slice_bounds-pick_among-count g c = (range g c).0

pub slice_bounds-pick_among-start : goal.slice_bounds-pick_among-start
slice_bounds-pick_among-start g c = (range g c).0

pub slice_bounds-pick_among-end : goal.slice_bounds-pick_among-end
slice_bounds-pick_among-end g c = (range g c).2

pub returns : goal.returns
returns g c =
    let rows = c.args.rows.now in
    let start = place_of c.args.places.now c.args.part in
    let from : c.from-start.result ≡ start = c.from-start.ensures ∙ ap (place_of c.args.places.now) c.from.ensures in
    let to : c.from-end.result ≡ place_of c.args.places.now (c.args.part + 1) = c.from-end.ensures ∙ ap (λ (n : ℕ). place_of c.args.places.now (n + 1)) c.from-2.ensures in
    let same = ap (λ (a : ℕ). pick_row c.args.stage (take (c.from-end.result - a) (drop a rows)) c.args.part c.args.kind) from
    ∙ (ap (λ (b : ℕ). pick_row c.args.stage (take (b - start) (drop start rows)) c.args.part c.args.kind) to ∙ c.requires.placed.all c.args.kind) in
    subst (λ (p : Option (Row g.row.R.Denot)). MatchOption c.pick_among.result (p ≡ None) (λ r. p ≡ Some r.now)) same c.pick_among.ensures
