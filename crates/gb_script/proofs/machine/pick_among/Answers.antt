use Rattle.std.proofs.Common.{if◌then◌else◌, refl, ap, sym, ◌∙◌, arith, ◌≡◌, ◌+◌, ◌<◌, ℕ, Bool, true, false, ◌&&◌, List, ◌∷◌, length, drop, get_or, Option, Some, nat_le, nat_eq}
use Rattle.std.proofs.lemmas.List.{drop_all, drop_more}
use Rattle.std.proofs.lemmas.Bool.{and_from, and_left, and_right, le-leb, lt-leb, eq-eqb, ne_eqb}
use Rattle.gb_script.specs.declared.table.Row.{Row}
use Rattle.gb_script.specs.Grammar.{has}
use Rattle.gb_script.specs.Check.{pick_row}
use Rattle.gb_script.proofs.machine.pick_among.Goals.{else-row-stage-via-then-row-stage+then-row-part+else-is_in, else-row-stage-via-then-row-stage+else-row-part, else-row-stage-via-else-row-stage}
use Rattle.gb_script.proofs.machine.pick_among.Goals as goal

module _ {R : Type 0} (stage n t : ℕ) where
  -- The row is chosen.
  abbrev chosen : Row R → Bool
  chosen r = nat_le r.stage stage && (nat_eq r.part n && has r.starts t)

  -- the rows from an index on begin with the row there
  from_row : (rows : List (Row R)) (i : ℕ) (r : Row R) → i < length rows → r ≡ get_or rows i r → pick_row stage (drop i rows) n t ≡ (if chosen r then Some r else pick_row stage (drop (i + 1) rows) n t)
  from_row rows i r lt e = ap (λ (l : List (Row R)). pick_row stage l n t) (drop_more rows i r lt ∙ ap (λ (x : Row R). x ∷ drop (i + 1) rows) (sym e))

  taken : (b : Bool) (r : Row R) (o : Option (Row R)) → b ≡ true → (if b then Some r else o) ≡ Some r
  taken true r o e = refl
  taken false r o e = absurd cc

  passed : (b : Bool) (r : Row R) (o : Option (Row R)) → b ≡ false → (if b then Some r else o) ≡ o
  passed true r o e = absurd cc
  passed false r o e = refl

  found : (rows : List (Row R)) (i : ℕ) (r : Row R) → i < length rows → r ≡ get_or rows i r → chosen r ≡ true → pick_row stage (drop i rows) n t ≡ pick_row stage rows n t → pick_row stage rows n t ≡ Some r
  found rows i r lt e h inv = sym inv ∙ from_row rows i r lt e ∙ taken (chosen r) r (pick_row stage (drop (i + 1) rows) n t) h

  later : (rows : List (Row R)) (i : ℕ) (r : Row R) → i < length rows → r ≡ get_or rows i r → chosen r ≡ false → pick_row stage (drop i rows) n t ≡ pick_row stage rows n t → pick_row stage (drop (i + 1) rows) n t ≡ pick_row stage rows n t
  later rows i r lt e h inv = sym (passed (chosen r) r (pick_row stage (drop (i + 1) rows) n t) h) ∙ sym (from_row rows i r lt e) ∙ inv

pub returns-then-is_in : goal.returns-then-is_in
returns-then-is_in g c =
    let r = c.row-item.result in
    let h = and_from (nat_le r.stage c.args.stage) (nat_eq r.part c.args.part && has r.starts c.args.kind) (le-leb r.stage c.args.stage c.if-row-stage.true)
    (and_from (nat_eq r.part c.args.part) (has r.starts c.args.kind) (eq-eqb r.part c.args.part c.if-row-part.true) (sym c.is_in.ensures ∙ c.if-is_in.true)) in
    found c.args.stage c.args.part c.args.kind c.args.rows.now c.loop-row.row-index r c.loop-row-test.true c.row-item.is h c.loop-row.invariant

pub loop-row-preserved : goal.loop-row-preserved
loop-row-preserved g c =
    let r = c.row-item.result in
    let of_stage = nat_le r.stage c.args.stage in
    let of_part = nat_eq r.part c.args.part in
    let of_kind = has r.starts c.args.kind in
    let h : of_stage && (of_part && of_kind) ≡ false = elim c.else-row-stage.branch [
      | else-row-stage-via-then-row-stage+then-row-part+else-is_in w ↦ and_right of_stage (of_part && of_kind) (and_right of_part of_kind (sym w.is_in.ensures ∙ w.if-is_in.false))
      | else-row-stage-via-then-row-stage+else-row-part w ↦ and_right of_stage (of_part && of_kind) (and_left of_part of_kind (ne_eqb r.part c.args.part w.if-row-part.false))
      | else-row-stage-via-else-row-stage w ↦ and_left of_stage (of_part && of_kind) (lt-leb r.stage c.args.stage w.if-row-stage.false)
    ] in
    later c.args.stage c.args.part c.args.kind c.args.rows.now c.loop-row.row-index r c.loop-row-test.true c.row-item.is h c.loop-row.invariant

pub returns : goal.returns
returns g c =
    sym c.loop-row.invariant ∙ ap (λ (l : List (Row g.row.R.Denot)). pick_row c.args.stage l c.args.part c.args.kind) (drop_all c.loop-row.row-index c.args.rows.now (omega arith))
