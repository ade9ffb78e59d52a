use Rattle.std.proofs.Common.{ap, sym, ◌∙◌}
use Rattle.gb_script.specs.Tree.{head_of, text_of}
use Rattle.gb_operators.specs.Literals.{numbering, with_numbers}
use Rattle.gb_operators.proofs.Spelled.{no_number, number_in_is}
use Rattle.gb_operators.proofs.literals.+numbers.Goals as goal

pub number_in-returns : goal.number_in-returns
number_in-returns t c =
    c.numbering.ensures
    ∙ ap (λ ps. numbering (head_of c.args.t.now) (text_of c.args.t.now) (with_numbers ps)) c.as_slice.ensures
    ∙ sym (number_in_is c.args.t.now)

pub numbering-returns-in_default : goal.numbering-returns-in_default
numbering-returns-in_default t c = sym (no_number c.args.head c.args.text.now (with_numbers c.args.parts.now) c.in_default.not-Number c.in_default.not-Bracketed)
