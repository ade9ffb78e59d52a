use Rattle.gb_inline.proofs.SameEvents as events
use Rattle.gb_inline.proofs.laws.same_events.Goals as goal

pub returns : goal.returns
returns x = λ ds scoped q t g over w r pre post is js e ls b s m event alone. events.same_events ds scoped q t g over w r pre post is js e ls b s m event alone
