-- A command takes a byte at least, so the text is used up; what comes of the rest comes of the text.
use Rattle.std.proofs.Common.{sym, ap, subst, ◌∙◌, ◌-◌, take, drop, arith}
use Rattle.std.specs.Prelude.{Err, IfErr}
use Rattle.std.proofs.lemmas.Result.{err_from_is_err_and}
use Rattle.std.proofs.lemmas.List.{length-take}
use Rattle.gb_theory.specs.Outcome.{IsOutcome}
use Rattle.gb_theory.specs.Sessions.{IsDue}
use Rattle.gb_theory.proofs.Cuts.{cut_of-within, place_after-within}
use Rattle.gb_session.proofs.Outcomes.{LeadsOn, at_start, refused_there, goes_on, at_end, ended_within}
use Rattle.gb_session.proofs.Whole.{piece_goes, piece_refused}
use Rattle.gb_session.proofs.script.run.Goals as goal

pub slice_bounds-piece-count : goal.slice_bounds-piece-count
slice_bounds-piece-count c =
    let to = cut_of-within c.args.text.now c.loop-to.from c.in-Command.to c.loop-to.invariant.within (sym c.cut.ensures ∙ c.in-Command.is) in
    omega arith

pub slice_bounds-piece-start : goal.slice_bounds-piece-start
slice_bounds-piece-start c =
    let to = cut_of-within c.args.text.now c.loop-to.from c.in-Command.to c.loop-to.invariant.within (sym c.cut.ensures ∙ c.in-Command.is) in
    omega arith

pub slice_bounds-piece-end : goal.slice_bounds-piece-end
slice_bounds-piece-end c =
    let to = cut_of-within c.args.text.now c.loop-to.from c.in-Command.to c.loop-to.invariant.within (sym c.cut.ensures ∙ c.in-Command.is) in
    omega arith

pub loop-to-smaller : goal.loop-to-smaller
loop-to-smaller c =
    let to = cut_of-within c.args.text.now c.loop-to.from c.in-Command.to c.loop-to.invariant.within (sym c.cut.ensures ∙ c.in-Command.is) in
    omega arith

pub loop-to-init : goal.loop-to-init
loop-to-init c = record {
  within = omega arith;
  line = omega arith;
  column = omega arith;
  keeps = ap (λ h. h.keeps) c.requires.fresh;
  rest = at_start c.args.text.now c.args.session.now.present.session (ap (λ h. h.present.session) c.requires.fresh);
}

pub loop-to-preserved : goal.loop-to-preserved
loop-to-preserved c =
    let to = cut_of-within c.args.text.now c.loop-to.from c.in-Command.to c.loop-to.invariant.within (sym c.cut.ensures ∙ c.in-Command.is) in
    let piece = take (c.in-Command.to - c.loop-to.from) (drop c.loop-to.from c.args.text.now) in
    let size = length-take (c.in-Command.to - c.loop-to.from) (drop c.loop-to.from c.args.text.now) in
    let there = place_after-within piece c.loop-to.at in
    let goes = piece_goes c.loop-to.session c.command.new.self piece c.loop-to.at c.loop-to.invariant.keeps c.in_ok-command-in-Command.ensures.session in
    let on = goes_on c.args.text.now c.loop-to.session.present.session c.command.new.self.present.session c.loop-to.at c.loop-to.from c.in-Command.to
    c.loop-to.invariant.rest (sym c.cut.ensures ∙ c.in-Command.is) to.0 goes.comes in
    record {
      within = to.1;
      line = rw c.advance-at.ensures (omega arith);
      column = rw c.advance-at.ensures (omega arith);
      keeps = goes.keeps ∙ c.loop-to.invariant.keeps;
      rest = subst (λ at. LeadsOn c.args.text.now c.command.new.self.present.session at (drop c.in-Command.to c.args.text.now)) (sym c.advance-at.ensures) on;
    }

pub returns-in-End-clause-end : goal.returns-in-End-clause-end
returns-in-End-clause-end c = λ r e.
    at_end c.args.text.now c.loop-to.session.present.session c.loop-to.at c.loop-to.from r
    c.loop-to.invariant.rest (sym c.cut.ensures ∙ c.in-End.is) (rw c.advance.ensures at e)

pub returns-in-Rest-clause-refused : goal.returns-in-Rest-clause-refused
returns-in-Rest-clause-refused c =
    rw c.advance-in-Rest.ensures
    (ended_within c.args.text.now c.loop-to.session.present.session c.loop-to.at c.loop-to.from c.loop-to.invariant.rest (sym c.cut.ensures ∙ c.in-Rest.is))

pub returns-in_err-command-in-Command-clause-refused : goal.returns-in_err-command-in-Command-clause-refused
returns-in_err-command-in-Command-clause-refused c =
    let given = err_from_is_err_and c.from_residual.result c.from_residual.ensures.1 in
    subst (λ r. IfErr r (IsDue (IsOutcome c.args.text.now))) (sym (given.1 ∙ ap Err given.2))
    (refused_there c.args.text.now c.loop-to.session.present.session c.loop-to.at c.loop-to.from c.in-Command.to c.in_err-command-in-Command.field-0.0
    c.loop-to.invariant.rest (sym c.cut.ensures ∙ c.in-Command.is)
    (piece_refused c.loop-to.session (take (c.in-Command.to - c.loop-to.from) (drop c.loop-to.from c.args.text.now)) c.loop-to.at
    c.in_err-command-in-Command.field-0.0 c.loop-to.invariant.keeps c.in_err-command-in-Command.ensures.session))
