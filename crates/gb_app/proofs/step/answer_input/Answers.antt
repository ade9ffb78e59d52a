-- Turn after turn lines are answered and a piece is read; each way out is one of Turns.
use Rattle.std.proofs.Common.{List, ℕ, ◌++◌, Err, length, arith, ap, sym, ◌∙◌, length-append}
use Rattle.gb_app.proofs.Lines.{some_tail}
use Rattle.gb_app.proofs.Ends.{Consumes-both}
use Rattle.gb_app.proofs.Turns.{first_within, first_led, first_consumed, led_on, stays_within, led_read, within_longer, consumed_more, consumed, ended_answering, ended_reading, ended_closing, ended_long}
use Rattle.gb_app.proofs.step.answer_input.Goals as goal

pub loop-here-init : goal.loop-here-init
loop-here-init g c =
    let none = c.new-text.ensures.items in (
      first_within c.new-text.result.items none,
      omega arith,
      omega arith,
      first_consumed c.new-text.result.items (g.I.Source.left c.args.input.now) none,
      first_led c.args.session.now c.new-text.result.items (g.K.Sink.written c.args.out.now) c.requires none,
    )

pub returns-in-Err-clause-session : goal.returns-in-Err-clause-session
returns-in-Err-clause-session g c =
    let inv = c.loop-here.invariant in (
      c.loop-here.text.items,
      inv.3,
      ended_answering c.in-Err.status c.loop-here.session c.loop-here.text.items c.as_slice.result.now c.loop-here.point (g.I.Source.left c.loop-here.input)
          (g.K.Sink.written c.args.out.now) (g.K.Sink.written c.loop-here.out) (g.K.Sink.written c.answer_lines.new.out)
          c.in-Err.ensures.kind c.as_slice.ensures.value inv.4 c.in-Err.ensures.front,
    )

pub returns-in-Err-clause-write_fault : goal.returns-in-Err-clause-write_fault
returns-in-Err-clause-write_fault g c = λ e less. let rose = c.in-Err.ensures.write_fault (ap Err e) less in omega (arith, c.loop-here.invariant.2, rose)

pub returns-in-Err-read_more-clause-session : goal.returns-in-Err-read_more-clause-session
returns-in-Err-read_more-clause-session g c =
    let inv = c.loop-here.invariant in
    let text : List ℕ = c.loop-here.text.items in
    let here = c.in-Ok.here in
    let read = c.in-Err-read_more.ensures.read in
    let led = led_on c.loop-here.session c.answer_lines.new.session text c.as_slice.result.now c.loop-here.point here
    (g.K.Sink.written c.args.out.now) (g.K.Sink.written c.loop-here.out) (g.K.Sink.written c.answer_lines.new.out) c.as_slice.ensures.value inv.4 c.in-Ok.ensures.written in (
      text ++ read.0,
      Consumes-both text read.0 (g.I.Source.left c.args.input.now) (g.I.Source.left c.loop-here.input) (g.I.Source.left c.read_more.new.input) inv.3 read.1,
      ended_reading (some_tail c.each_line_has_an_answer.ensures) c.in-Err-read_more.status c.answer_lines.new.session text read.0 here
          (g.I.Source.left c.read_more.new.input) (g.K.Sink.written c.args.out.now) (g.K.Sink.written c.answer_lines.new.out) c.in-Err-read_more.ensures.kind led,
    )

pub returns-in-Err-read_more-clause-read_fault : goal.returns-in-Err-read_more-clause-read_fault
returns-in-Err-read_more-clause-read_fault g c = λ e less. let rose = c.in-Err-read_more.ensures.read_fault (ap Err e) less in omega (arith, c.loop-here.invariant.1, rose)

pub loop-here-preserved : goal.loop-here-preserved
loop-here-preserved g c =
    let inv = c.loop-here.invariant in
    let text : List ℕ = c.loop-here.text.items in
    let longer : List ℕ = c.read_more.new.text.items in
    let here = c.in-Ok.here in
    let lines = c.in-Ok.ensures in
    let read = rw c.in-Ok-Piece.field-0-is at c.in-Ok-Piece.ensures.read in
    let led = led_on c.loop-here.session c.answer_lines.new.session text c.as_slice.result.now c.loop-here.point here
    (g.K.Sink.written c.args.out.now) (g.K.Sink.written c.loop-here.out) (g.K.Sink.written c.answer_lines.new.out) c.as_slice.ensures.value inv.4 lines.written in (
      within_longer text read.0 longer here read.2.0 read.2.2 (stays_within text c.as_slice.result.now here c.as_slice.ensures.value lines.within),
      omega (arith, inv.1, c.in-Ok-Piece.ensures.never_falls),
      omega (arith, inv.2, lines.never_falls),
      consumed_more text read.0 longer (g.I.Source.left c.args.input.now) (g.I.Source.left c.loop-here.input) (g.I.Source.left c.read_more.new.input) read.2.0 inv.3 read.1,
      led_read c.answer_lines.new.session text read.0 longer here (g.K.Sink.written c.args.out.now) (g.K.Sink.written c.answer_lines.new.out) read.2.0 led,
    )

pub loop-here-smaller : goal.loop-here-smaller
loop-here-smaller g c =
    let read = rw c.in-Ok-Piece.field-0-is at c.in-Ok-Piece.ensures.read in
    omega (arith, ap length read.2.0, length-append c.loop-here.text.items read.0, read.2.1, read.2.2)

pub close-requires : goal.close-requires
close-requires g c =
    let read = rw c.in-Ok-End.field-0-is at c.in-Ok-End.ensures.read in
    stays_within c.as_slice-in-Ok-End.result.now c.as_slice.result.now c.in-Ok.here
    (c.as_slice.ensures.value ∙ sym read.2.0 ∙ sym c.as_slice-in-Ok-End.ensures.value) c.in-Ok.ensures.within

pub returns-in-Ok-End-clause-session : goal.returns-in-Ok-End-clause-session
returns-in-Ok-End-clause-session g c =
    let inv = c.loop-here.invariant in
    let text : List ℕ = c.loop-here.text.items in
    let here = c.in-Ok.here in
    let read = rw c.in-Ok-End.field-0-is at c.in-Ok-End.ensures.read in
    let led = led_on c.loop-here.session c.answer_lines.new.session text c.as_slice.result.now c.loop-here.point here
    (g.K.Sink.written c.args.out.now) (g.K.Sink.written c.loop-here.out) (g.K.Sink.written c.answer_lines.new.out) c.as_slice.ensures.value inv.4 c.in-Ok.ensures.written in (
      text,
      consumed text read.0 (g.I.Source.left c.args.input.now) (g.I.Source.left c.loop-here.input) (g.I.Source.left c.read_more.new.input) read.2.1 inv.3 read.1,
      ended_closing c.close.result c.answer_lines.new.session text c.as_slice-in-Ok-End.result.now here
          (g.I.Source.left c.read_more.new.input) (g.K.Sink.written c.args.out.now) (g.K.Sink.written c.answer_lines.new.out) (g.K.Sink.written c.close.new.out) c.close.ensures.kind
          (c.as_slice-in-Ok-End.ensures.value ∙ read.2.0) inv.0.size read.2.2 led c.close.ensures.written c.close.ensures.front,
    )

pub returns-in-Ok-End-clause-write_fault : goal.returns-in-Ok-End-clause-write_fault
returns-in-Ok-End-clause-write_fault g c = λ e less.
    let rose = c.close.ensures.write_fault e less in omega (arith, c.loop-here.invariant.2, c.in-Ok.ensures.never_falls, rose)

pub returns-in-Ok-TooLong-clause-session : goal.returns-in-Ok-TooLong-clause-session
returns-in-Ok-TooLong-clause-session g c =
    let inv = c.loop-here.invariant in
    let text : List ℕ = c.loop-here.text.items in
    let here = c.in-Ok.here in
    let read = rw c.in-Ok-TooLong.field-0-is at c.in-Ok-TooLong.ensures.read in
    let led = led_on c.loop-here.session c.answer_lines.new.session text c.as_slice.result.now c.loop-here.point here
    (g.K.Sink.written c.args.out.now) (g.K.Sink.written c.loop-here.out) (g.K.Sink.written c.answer_lines.new.out) c.as_slice.ensures.value inv.4 c.in-Ok.ensures.written in (
      text ++ read.0,
      Consumes-both text read.0 (g.I.Source.left c.args.input.now) (g.I.Source.left c.loop-here.input) (g.I.Source.left c.read_more.new.input) inv.3 read.1,
      ended_long c.refuse_length.result c.answer_lines.new.session text c.as_slice.result.now read.0 here
          (g.I.Source.left c.read_more.new.input) (g.K.Sink.written c.args.out.now) (g.K.Sink.written c.answer_lines.new.out) (g.K.Sink.written c.refuse_length.new.out) c.refuse_length.ensures.kind
          c.as_slice.ensures.value read.2.1 read.2.2 c.in-Ok.ensures.done led c.refuse_length.ensures.written c.refuse_length.ensures.front,
    )

pub returns-in-Ok-TooLong-clause-write_fault : goal.returns-in-Ok-TooLong-clause-write_fault
returns-in-Ok-TooLong-clause-write_fault g c = λ e less.
    let rose = c.refuse_length.ensures.write_fault e less in omega (arith, c.loop-here.invariant.2, c.in-Ok.ensures.never_falls, rose)
