-- What is left is answered, and then the closing lines.
use Rattle.std.proofs.Common.{◌++◌, true}
use Rattle.gb_app.specs.Typing.{typed}
use Rattle.gb_app.proofs.Written.{Appends-both}
use Rattle.gb_app.proofs.Lines.{some_tail}
use Rattle.gb_app.proofs.Fronts.{AppendsFront-after, AppendsFront-whole}
use Rattle.gb_app.proofs.Ends.{whole_input, closing_tail}
use Rattle.gb_app.proofs.step.close.Goals as goal

pub returns-in-Ok-write_all-clause-written : goal.returns-in-Ok-write_all-clause-written
returns-in-Ok-write_all-clause-written g c = λ e.
    let w = c.in-Ok.ensures.written in
    let here = typed c.answer_lines.new.session c.args.text.now c.in-Ok.here in
    let tail = closing_tail here c.in-Ok-closing.lines.items c.in-Ok.ensures.within c.in-Ok-closing.ensures in (
      w.0 ++ c.in-Ok-closing.lines.items,
      Appends-both _ _ _ _ _ w.1 (rw c.as_slice.ensures.value at c.in-Ok-write_all.ensures.all),
      w.2 c.args.text.now c.in-Ok-closing.lines.items (whole_input true c.args.text.now) tail,
    )

pub returns-in-Ok-closing-clause-front : goal.returns-in-Ok-closing-clause-front
returns-in-Ok-closing-clause-front g c = λ e.
    let w = c.in-Ok.ensures.written in
    let here = typed c.answer_lines.new.session c.args.text.now c.in-Ok.here in
    let tail = closing_tail here c.in-Ok-closing.lines.items c.in-Ok.ensures.within c.in-Ok-closing.ensures in (
      w.0 ++ c.in-Ok-closing.lines.items,
      AppendsFront-after _ _ _ _ _ w.1 (rw c.as_slice.ensures.value at c.in-Err-write_all.ensures.front),
      w.2 c.args.text.now c.in-Ok-closing.lines.items (whole_input true c.args.text.now) tail,
    )

pub returns-in-Ok-clause-front : goal.returns-in-Ok-clause-front
returns-in-Ok-clause-front g c = λ e.
    let w = c.in-Ok.ensures.written in
    let x = some_tail c.each_line_has_an_answer.ensures (typed c.answer_lines.new.session c.args.text.now c.in-Ok.here) c.args.text.now in
    (w.0 ++ x.0, AppendsFront-whole _ _ _ _ w.1, w.2 c.args.text.now x.0 (whole_input true c.args.text.now) x.1)

pub returns-clause-front : goal.returns-clause-front
returns-clause-front g c = λ e.
    let f = c.in-Err.ensures.front c.args.text.now (whole_input true c.args.text.now) in (f.0, f.2, f.1)
