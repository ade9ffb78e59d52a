use Rattle.gb_language.specs.Language.{language}
use Rattle.gb_limits.specs.Lexeme.{kinds_of}
use Rattle.gb_read_script.proofs.Unique.{one_refusal, no_refusal}
use Rattle.gb_read_script.proofs.laws.refusals_are_unique.Goals as goal

pub returns-clause-unique : goal.returns-clause-unique
returns-clause-unique c =
    let places = c.first_places_are_unique.ensures in
    one_refusal places.left_out places.deep places.long places.overflow
    (λ part t. c.first_faults_are_unique.ensures language part (kinds_of t))
    (λ part t. c.steps_before_are_unique.ensures language part (kinds_of t))
    (λ part ready t a b. c.steps_are_unique.ensures.texts part (kinds_of t) a b ready (c.kinds_are_kinds.ensures t))

pub returns-clause-none : goal.returns-clause-none
returns-clause-none c =
    let places = c.first_places_are_unique.ensures in
    no_refusal places.left_out places.deep places.long places.overflow
    (λ part t. c.first_faults_are_unique.ensures language part (kinds_of t))
    (λ part t. c.steps_before_are_unique.ensures language part (kinds_of t))
    (λ part ready t a b. c.steps_are_unique.ensures.texts part (kinds_of t) a b ready (c.kinds_are_kinds.ensures t))
