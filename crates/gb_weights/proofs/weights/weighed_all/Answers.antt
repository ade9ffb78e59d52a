use Rattle.std.proofs.Common.{rules, ◌+◌, drop, ap, sym, ◌∙◌}
use Rattle.std.proofs.lemmas.List.{drop_all}
use Rattle.gb_script.specs.Tree.{parts_of, place_of}
use Rattle.gb_names.specs.Environment.{environment}
use Rattle.gb_names.proofs.Answers.{fails_as}
use Rattle.gb_names.proofs.Parts.{left}
use Rattle.gb_weights.specs.Weights.{sum_of, weighed, weighed_all}
use Rattle.gb_weights.proofs.Stated.{entry_refused, entry_then, no_entry}
use Rattle.gb_weights.proofs.Sums.{sum_behind}
use Rattle.gb_weights.proofs.weights.weighed_all.Goals as goal

pub loop-entry-preserved : goal.loop-entry-preserved
loop-entry-preserved c =
    let at = environment c.args.at.now in
    let bound = c.args.bound.now in
    let t = c.args.ty.now in
    let xs = c.args.entries.now in
    let i = c.loop-entry.entry-index in
    let x = c.entry-item.result in
    let ps = c.loop-entry.pairs in
    let q = c.in_ok-pair.pair in
    let pushed = c.in_ok-push.ensures.ok in
    let rest = left xs i x c.loop-entry-test.true c.entry-item.is in
    let one =
    ap (λ us. weighed at bound t us (parts_of x) (place_of x)) (sym c.as_slice.ensures)
    ∙ ap (λ ns. weighed at bound t c.as_slice.result.now ns (place_of x)) (sym c.as_slice-parts.ensures)
    ∙ c.in_ok-pair.ensures.answer in (
      ap (λ us. weighed_all at bound t us (drop (i + 1) xs)) pushed
          ∙ sym (entry_then at bound t ps x (drop (i + 1) xs) q one)
          ∙ ap (weighed_all at bound t ps) (sym rest)
          ∙ c.loop-entry.invariant.0,
      ap (λ n. n + q.weight) c.loop-entry.invariant.1 ∙ sym (sum_behind ps q) ∙ ap sum_of (sym pushed),
      c.in_ok-pair.ensures.bounded,
    )

pub returns-in_err-pair : goal.returns-in_err-pair
returns-in_err-pair c =
    let at = environment c.args.at.now in
    let bound = c.args.bound.now in
    let t = c.args.ty.now in
    let xs = c.args.entries.now in
    let i = c.loop-entry.entry-index in
    let x = c.entry-item.result in
    let ps = c.loop-entry.pairs in
    let said =
    ap (λ us. weighed at bound t us (parts_of x) (place_of x)) (sym c.as_slice.ensures)
    ∙ ap (λ ns. weighed at bound t c.as_slice.result.now ns (place_of x)) (sym c.as_slice-parts.ensures) in
    let fails =
    fails_as _ _ _ (sym c.loop-entry.invariant.0 ∙ ap (weighed_all at bound t ps) (left xs i x c.loop-entry-test.true c.entry-item.is))
    (entry_refused at bound t ps x (drop (i + 1) xs) _ (fails_as _ _ _ said c.in_err-pair.ensures.answer)) in
    search rules

pub returns : goal.returns
returns c =
    let at = environment c.args.at.now in
    let bound = c.args.bound.now in
    let t = c.args.ty.now in
    let ps = c.loop-entry.pairs in
    sym c.loop-entry.invariant.0 ∙ ap (weighed_all at bound t ps) (drop_all c.loop-entry.entry-index c.args.entries.now c.loop-entry-test.false) ∙ no_entry at bound t ps
