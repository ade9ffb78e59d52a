use Rattle.std.proofs.Common.{◌&&◌, ap, sym, ◌∙◌}
use Rattle.gb_script.specs.Tree.{head_of, text_of}
use Rattle.gb_operators.specs.Open.{is_open, opens, with_openness}
use Rattle.gb_operators.proofs.Spelled.{alone_few, alone_is, alone_one, applied_few, applied_is, applied_two, both_few, both_is, both_two, is_open_is, not_open}
use Rattle.gb_operators.proofs.open.+open.Goals as goal

pub is_open-returns : goal.is_open-returns
is_open-returns t c =
    c.opens.ensures
    ∙ ap (λ ps. opens (head_of c.args.t.now) (text_of c.args.t.now) (with_openness ps)) c.as_slice.ensures
    ∙ sym (is_open_is c.args.t.now)

pub opens-returns-in_default : goal.opens-returns-in_default
opens-returns-in_default t c =
    let d = c.in_default in
    sym (not_open c.args.head c.args.text.now (with_openness c.args.parts.now)
    d.not-Number d.not-Name d.not-Bracketed d.not-Negative d.not-Sum d.not-Difference d.not-Xor d.not-Product d.not-Apply)

pub opens-returns-in-len1 : goal.opens-returns-in-len1
opens-returns-in-len1 t c =
    let ts = c.args.parts.now in
    c.is_open.ensures
    ∙ sym (alone_is c.args.head c.args.text.now (with_openness ts) c.in-Bracketed.is ∙ alone_one ts c.a-item.result c.in-len1.len_at_least c.in-len1.len_below c.a-item.is)

pub opens-returns-in_default-parts : goal.opens-returns-in_default-parts
opens-returns-in_default-parts t c =
    let ts = c.args.parts.now in
    sym (alone_is c.args.head c.args.text.now (with_openness ts) c.in-Bracketed.is ∙ alone_few ts c.in_default-parts.len_below)

pub opens-returns-in_default-parts-2 : goal.opens-returns-in_default-parts-2
opens-returns-in_default-parts-2 t c =
    let ts = c.args.parts.now in
    sym (both_is c.args.head c.args.text.now (with_openness ts) c.in-Sum.is ∙ both_few ts c.in_default-parts-2.len_below)

pub opens-returns-in_default-parts-3 : goal.opens-returns-in_default-parts-3
opens-returns-in_default-parts-3 t c =
    let ts = c.args.parts.now in
    sym (applied_is c.args.head c.args.text.now (with_openness ts) c.in-Apply.is ∙ applied_few ts c.in_default-parts-3.len_below)

pub opens-returns-then-is_open : goal.opens-returns-then-is_open
opens-returns-then-is_open t c =
    let ts = c.args.parts.now in
    let a = c.a-item-then-parts-lt3.result in
    let b = c.b-item.result in
    c.is_open-then-is_open.ensures
    ∙ sym (both_is c.args.head c.args.text.now (with_openness ts) c.in-Sum.is
    ∙ both_two ts a b c.in-len2.len_at_least c.in-len2.len_below c.a-item-then-parts-lt3.is c.b-item.is
    ∙ ap (λ o. o && is_open b) (sym c.is_open-in-len2.ensures ∙ c.if-is_open.true))

pub opens-returns-else-is_open : goal.opens-returns-else-is_open
opens-returns-else-is_open t c =
    let ts = c.args.parts.now in
    let a = c.a-item-then-parts-lt3.result in
    let b = c.b-item.result in
    c.if-is_open.false
    ∙ sym (both_is c.args.head c.args.text.now (with_openness ts) c.in-Sum.is
    ∙ both_two ts a b c.in-len2.len_at_least c.in-len2.len_below c.a-item-then-parts-lt3.is c.b-item.is
    ∙ ap (λ o. o && is_open b) (sym c.is_open-in-len2.ensures ∙ c.if-is_open.false))

pub opens-returns-then-is_some : goal.opens-returns-then-is_some
opens-returns-then-is_some t c =
    let ts = c.args.parts.now in
    let f = c.f-item.result in
    let a = c.a-item-then-parts-lt3-2.result in
    c.is_open-then-is_some.ensures
    ∙ sym (applied_is c.args.head c.args.text.now (with_openness ts) c.in-Apply.is
    ∙ applied_two ts f a c.in-len2-parts.len_at_least c.in-len2-parts.len_below c.f-item.is c.a-item-then-parts-lt3-2.is
    ∙ ap (λ o. o && is_open a) (sym c.is_some.ensures ∙ c.if-is_some.true))

pub opens-returns-else-is_some : goal.opens-returns-else-is_some
opens-returns-else-is_some t c =
    let ts = c.args.parts.now in
    let f = c.f-item.result in
    let a = c.a-item-then-parts-lt3-2.result in
    c.if-is_some.false
    ∙ sym (applied_is c.args.head c.args.text.now (with_openness ts) c.in-Apply.is
    ∙ applied_two ts f a c.in-len2-parts.len_at_least c.in-len2-parts.len_below c.f-item.is c.a-item-then-parts-lt3-2.is
    ∙ ap (λ o. o && is_open a) (sym c.is_some.ensures ∙ c.if-is_some.false))
