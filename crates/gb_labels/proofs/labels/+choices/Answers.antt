use Rattle.std.proofs.Common.{◌*◌, ◌-◌, ◌^◌, min, length, take, drop, ap, ◌∙◌, arith}
use Rattle.gb_labels.proofs.Chosen.{parted, choices_more}
use Rattle.gb_labels.proofs.labels.+choices.Goals as goal

pub returns : goal.returns
returns t c =
    let most = c.args.most.now in
    choices_more most (take (length most - 1) (drop 1 most)) c.label-item.result (2 ^ 64 - 1) c.choices.result c.saturating_mul.result (parted most c.label-item.result c.in-len1-up.len_at_least c.label-item.is) (omega arith) (omega (arith, c.from.type_inv, c.from.ensures)) c.choices.ensures
    (c.saturating_mul.ensures ∙ ap (λ n. min (n * c.choices.result) (2 ^ 64 - 1)) c.from.ensures)
