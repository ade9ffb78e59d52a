use Rattle.gb_limits.specs.Lexeme.{kinds_of}
use Rattle.gb_read_script.proofs.Outcomes.{outcome}
use Rattle.gb_read_script.proofs.laws.each_text_is_read_or_refused.Goals as goal

pub returns : goal.returns
returns c =
    let places = c.none_or_a_first_place.ensures in
    outcome places.left_out places.deep places.long places.overflow
    (λ part ready t. c.each_text_or_fault.ensures.texts part (kinds_of t) ready (c.kinds_are_kinds.ensures t))
    (λ part ready t steps. c.texts_spell_trees.ensures.texts part (kinds_of t) t steps ready)
