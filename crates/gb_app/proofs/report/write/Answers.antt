-- Each line is written behind those before it.
use Rattle.std.proofs.Common.{ℕ, List, sym, subst, add-one, arith}
use Rattle.std.specs.Prelude.{string_bytes, Result, Ok, Err, OnErr}
use Rattle.gb_outside.specs.Appended.{AppendsFront}
use Rattle.gb_app.proofs.Written.{lines-at, lines-more, Appends-both, AppendsFront-behind}
use Rattle.gb_app.proofs.report.write.Goals as goal

on_err_always : {T E Q : Type 0} (r : Result T E) → Q → OnErr r Q
on_err_always (Ok x) q = tt
on_err_always (Err e) q = q

pub returns-in_err-write_all-clause-front : goal.returns-in_err-write_all-clause-front
returns-in_err-write_all-clause-front g c =
    let whole = lines-at string_bytes c.args.report.now c.loop-line.line-index c.line-item.result (omega arith) c.line-item.is in
    let P : List ℕ → Type 0 = λ text. AppendsFront (g.K.Sink.written c.args.out.now) (g.K.Sink.written c.write_all.new.out) text in
    on_err_always c.from_residual.result
    (subst P (sym whole) (AppendsFront-behind _ _ _ _ _ _ c.loop-line.invariant.1 (rw c.as_bytes.ensures.value at c.in_err-write_all.ensures.front)))

pub loop-line-preserved : goal.loop-line-preserved
loop-line-preserved g c =
    let more = lines-more string_bytes c.args.report.now c.loop-line.line-index c.line-item.result (omega arith) c.line-item.is in (
      omega (arith, c.in_ok-write_all.ensures.never_falls),
      rw (add-one, more)
          (Appends-both _ _ _ _ _ c.loop-line.invariant.1 (rw c.as_bytes.ensures.value at c.in_ok-write_all.ensures.all)),
    )
