use Rattle.std.proofs.Common.{sym, subst}
use Rattle.gb_inline.specs.Taken.{IsFirstFree}
use Rattle.gb_inline.proofs.FreshSteps.{IsUnderway, names_first, names_later, names_over}
use Rattle.gb_inline.proofs.fresh.new_names.Goals as goal

pub loop-local-init : goal.loop-local-init
loop-local-init c =
    let a = c.args in
    let names = c.in_ok-taken in
    subst (λ rs. IsUnderway a.used.now a.list.now 0 rs names.taken 0) (sym c.new-all.ensures) (names_first a.used.now a.list.now names.taken names.ensures)

pub returns-in_default : goal.returns-in_default
returns-in_default c =
    let a = c.args in
    let l = c.loop-local in
    let none = subst (IsFirstFree l.taken l.next) c.in_default.is c.in_ok-k.ensures in
    names_over a.used.now a.list.now l.local-index l.all l.taken l.next c.local-item.result c.loop-local-test.true c.local-item.is none l.invariant

pub loop-local-preserved : goal.loop-local-preserved
loop-local-preserved c =
    let a = c.args in
    let l = c.loop-local in
    let free = subst (IsFirstFree l.taken l.next) c.in-Some.is c.in_ok-k.ensures in
    names_later a.used.now a.list.now l.local-index l.all c.push.new.self l.taken c.add.new.names l.next c.in-Some.k c.local-item.result c.in_ok-name.name c.in_ok-under_name.field-0
    c.loop-local-test.true c.local-item.is free c.in_ok-name.ensures c.in_ok-add.ensures c.in_ok-under_name.ensures c.in_ok-push.ensures.ok l.invariant
