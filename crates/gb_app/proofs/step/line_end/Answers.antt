-- A cut of the text is a line of what is left of it.
use Rattle.std.proofs.Common.{◌≡◌, drop, not, sym, subst, ◌∙◌, arith}
use Rattle.std.proofs.lemmas.Bool.Decides.{nat_tests}
use Rattle.gb_lex.specs.Lex.{cut_of}
use Rattle.gb_lex.specs.declared.token.Cut.TheVariants.{Command}
use Rattle.gb_theory.proofs.Cuts.{cut_of-within}
use Rattle.gb_app.specs.Screens.{line_of}
use Rattle.gb_app.specs.Typing.{IsNoLine}
use Rattle.gb_app.proofs.Lines.{line_there, line_waits, no_line}
use Rattle.gb_app.proofs.step.line_end.Goals as goal
use Rattle.gb_app.proofs.step.line_end.Goals.{then-ended, else-ended}

pub returns-then-to-text : goal.returns-then-to-text
returns-then-to-text c =
    let is : cut_of c.args.text.now c.args.from ≡ Command c.in-Command.to = sym c.cut.ensures ∙ c.in-Command.is in
    let within = cut_of-within c.args.text.now c.args.from c.in-Command.to c.requires.within is in (
      within.0,
      within.1,
      line_there c.args.ended c.args.text.now c.args.from c.in-Command.to c.requires.within within.0 is
          (λ e. elim c.if-ended.branch [ then-ended w ↦ absurd (cc) | else-ended w ↦ grind (arith, nat_tests) ]),
    )

pub returns-else-to-text : goal.returns-else-to-text
returns-else-to-text c =
    let is : cut_of c.args.text.now c.args.from ≡ Command c.in-Command.to = sym c.cut.ensures ∙ c.in-Command.is in
    let within = cut_of-within c.args.text.now c.args.from c.in-Command.to c.requires.within is in
    elim c.if-ended.branch [
      | then-ended w ↦ absurd (cc)
      | else-ended w ↦ subst (λ x. IsNoLine (line_of (not x) (drop c.args.from c.args.text.now))) (sym w.if-ended.false)
          (line_waits c.args.text.now c.args.from c.in-Command.to c.requires.within within.0 is (grind (arith, nat_tests)))
    ]

pub returns-in-End : goal.returns-in-End
returns-in-End c = no_line _ c.args.text.now c.args.from c.cut.result c.cut.ensures c.in-End.is
