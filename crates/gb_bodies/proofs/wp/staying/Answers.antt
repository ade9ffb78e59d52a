use Rattle.std.proofs.Common.{◌≡◌, ◌-◌, false, length, arith, rules}
use Rattle.gb_bodies.specs.Wp.{is_straight}
use Rattle.gb_bodies.proofs.WpSteps.{none_stay_at, some_stay_at}
use Rattle.gb_bodies.proofs.wp.staying.Goals as goal

pub returns-then-not-is_straight-clause-count : goal.returns-then-not-is_straight-clause-count
returns-then-not-is_straight-clause-count c =
    let f : is_straight c.index-list-at.result ≡ false = search (rules, c.if-not-is_straight.true, c.is_straight.ensures) in
    some_stay_at c.args.list.now c.loop-k.k c.loop-k-test.true c.index-list-at.result c.index-list-at.is c.loop-k.invariant f

pub returns-clause-count : goal.returns-clause-count
returns-clause-count c =
    let z : length c.args.list.now - c.loop-k.k ≡ 0 = omega (arith, c.loop-k-test.false) in
    none_stay_at c.args.list.now (length c.args.list.now - c.loop-k.k) z c.loop-k.invariant
