use Rattle.std.proofs.Common.{ap, sym, ◌∙◌}
use Rattle.gb_script.specs.Tree.{head_of, place_of}
use Rattle.gb_operators.specs.Literals.{placing, with_places}
use Rattle.gb_operators.proofs.Spelled.{own_place, place_inside_is}
use Rattle.gb_operators.proofs.literals.+places.Goals as goal

pub place_inside-returns : goal.place_inside-returns
place_inside-returns t c =
    c.placing.ensures
    ∙ ap (λ ps. placing (head_of c.args.t.now) (with_places ps) (place_of c.args.t.now)) c.as_slice.ensures
    ∙ sym (place_inside_is c.args.t.now)

pub placing-returns-in_default : goal.placing-returns-in_default
placing-returns-in_default t c = sym (own_place c.args.head (with_places c.args.parts.now) c.args.place c.in_default.not-Bracketed)
