use Rattle.gb_elab_laws.proofs.Binders.{loops_stay_bound, proved_good_bound}
use Rattle.gb_elab_laws.proofs.StayingLoops.{loops_stay_by}
use Rattle.gb_elab_laws.proofs.stay_laws.loops_stay_good.Goals as goal

pub returns-clause-stay : goal.returns-clause-stay
returns-clause-stay c = loops_stay_by

pub returns-clause-binders : goal.returns-clause-binders
returns-clause-binders c = loops_stay_bound

pub returns-clause-proved : goal.returns-clause-proved
returns-clause-proved c = λ ds bs t y s k p a e h. proved_good_bound ds bs t y k s p a e h
