use Rattle.std.proofs.Common.{◌-◌, ◌^◌, length, take, drop}
use Rattle.std.proofs.lemmas.Result.{on_ok_weaker}
use Rattle.gb_labels.proofs.Chosen.{parted, placed_in, choice_added}
use Rattle.gb_labels.proofs.labels.+add_choice.Goals as goal

pub number_at-count-requires : goal.number_at-count-requires
number_at-count-requires t c =
    let most = c.args.most.now in
    let others = take (length most - 1) (drop 1 most) in
    let p = placed_in (2 ^ 64 - 1) most others c.label-item.result c.args.at c.choices-each.result (parted most c.label-item.result c.in-len1-up.len_at_least c.label-item.is) c.choices-each.ensures c.requires in
    p.few

pub returns : goal.returns
returns t c =
    let most = c.args.most.now in
    let others = take (length most - 1) (drop 1 most) in
    let is = parted most c.label-item.result c.in-len1-up.len_at_least c.label-item.is in
    let p = placed_in (2 ^ 64 - 1) most others c.label-item.result c.args.at c.choices-each.result is c.choices-each.ensures c.requires in
    on_ok_weaker c.add_choice.result
    (λ e. choice_added most others c.label-item.result (record { name = c.in_ok-name.name; count = c.number_at-count.result }) c.args.out.now c.push.new.self c.add_choice.new.out c.args.at c.choices-each.result is p.digit p.rest
    (λ i. record { name = c.in_ok-name.ensures i; count = c.number_at-count.ensures i }) c.in_ok-push.ensures.ok e)
    c.add_choice.ensures
