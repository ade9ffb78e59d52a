use Rattle.gb_forms.proofs.cuts.cut_bodies.Goals as goal

pub returns-clause-first_left : goal.returns-clause-first_left
returns-clause-first_left c = c.split_at.ensures.front

pub returns-clause-rest_left : goal.returns-clause-rest_left
returns-clause-rest_left c = c.split_at.ensures.back
