-- Each line leads on from the one before it.
use Rattle.std.proofs.Common.{[], ◌++◌, Err, arith, ap, refl, sym, subst}
use Rattle.gb_app.specs.Screens.{told}
use Rattle.gb_app.specs.Typing.{Typed, typed, IsWithin}
use Rattle.gb_app.proofs.Written.{Appends-both}
use Rattle.gb_app.proofs.Lines.{some_tail, stays}
use Rattle.gb_app.proofs.Fronts.{Appends-none, fronts_behind}
use Rattle.gb_app.proofs.Answering.{within_behind, line_more, line_fronts}
use Rattle.gb_app.proofs.step.answer_lines.Goals as goal

pub loop-to-init : goal.loop-to-init
loop-to-init g c =
    (c.requires, omega arith, ([], Appends-none (g.K.Sink.written c.args.out.now), stays c.args.ended (typed c.args.session.now c.args.text.now c.args.point)))

pub loop-to-preserved : goal.loop-to-preserved
loop-to-preserved g c =
    let inv = c.loop-to.invariant in
    let line = c.in-Some.ensures in
    let more = c.in-Ok.ensures.written in
    let t : Typed = typed c.args.session.now c.args.text.now c.args.point in
    let u : Typed = typed c.loop-to.session c.args.text.now c.loop-to.here in
    let v : Typed = typed c.answer_line.new.session c.args.text.now c.in-Ok.next in (
      subst (λ p. IsWithin c.args.text.now p) (sym c.in-Ok.ensures.moved) (within_behind c.in-Some.to c.args.text.now c.loop-to.here inv.0 line.0 line.1),
      omega (arith, inv.1, c.in-Ok.ensures.never_falls),
      (
        inv.2.0 ++ told more.0,
        Appends-both _ _ _ _ _ inv.2.1 more.3,
        line_more c.args.ended t u v c.in-Some.to more.0 inv.2.0 refl inv.2.2 inv.0 line.0 line.2 more.1 more.2 c.in-Ok.ensures.moved,
      ),
    )

pub returns-in_default-clause-never_falls : goal.returns-in_default-clause-never_falls
returns-in_default-clause-never_falls g c = c.loop-to.invariant.1

pub returns-in_default-clause-within : goal.returns-in_default-clause-within
returns-in_default-clause-within g c = c.loop-to.invariant.0

pub returns-in_default-clause-written : goal.returns-in_default-clause-written
returns-in_default-clause-written g c = c.loop-to.invariant.2

pub returns-in-Err-clause-never_falls : goal.returns-in-Err-clause-never_falls
returns-in-Err-clause-never_falls g c = omega (arith, c.loop-to.invariant.1, c.in-Err.ensures.never_falls)

pub returns-in-Err-clause-write_fault : goal.returns-in-Err-clause-write_fault
returns-in-Err-clause-write_fault g c = λ e less. let rose = c.in-Err.ensures.write_fault e less in omega (arith, c.loop-to.invariant.1, rose)

pub returns-in-Err-clause-front : goal.returns-in-Err-clause-front
returns-in-Err-clause-front g c =
    let inv = c.loop-to.invariant in
    let line = c.in-Some.ensures in
    let some = some_tail c.each_line_has_an_answer.ensures in
    let t : Typed = typed c.args.session.now c.args.text.now c.args.point in
    let u : Typed = typed c.loop-to.session c.args.text.now c.loop-to.here in
    fronts_behind c.args.ended t u inv.2.0 _ _ _ refl inv.2.1 inv.2.2
    (line_fronts some c.args.ended u c.in-Some.to c.in-Err.status _ _ inv.0 line.0 line.2 c.in-Err.ensures.kind
    (λ e. c.in-Err.ensures.front (ap Err e)) (λ e. c.in-Err.ensures.silent (ap Err e)))
