use Rattle.std.proofs.Common.{ap, sym, ◌∙◌}
use Rattle.gb_script.specs.Tree.{head_of, text_of}
use Rattle.gb_names.specs.Types.{number_typing, with_number_types}
use Rattle.gb_names.proofs.Spellings.{no_number_type, number_type_is}
use Rattle.gb_names.proofs.types.+number_type.Goals as goal

pub number_type-returns : goal.number_type-returns
number_type-returns t c =
    c.number_typing.ensures
    ∙ ap (λ ps. number_typing (head_of c.args.t.now) (text_of c.args.t.now) (with_number_types ps)) c.as_slice.ensures
    ∙ sym (number_type_is c.args.t.now)

pub number_typing-returns-in_default : goal.number_typing-returns-in_default
number_typing-returns-in_default t c =
    let d = c.in_default in
    sym (no_number_type c.args.head c.args.text.now (with_number_types c.args.parts.now) d.not-PlainType d.not-IntType d.not-BracketedType)
