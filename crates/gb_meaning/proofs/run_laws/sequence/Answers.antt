use Rattle.gb_meaning.proofs.Sequence.{followed_denominator, followed_run}
use Rattle.gb_meaning.proofs.run_laws.sequence.Goals as goal

pub returns : goal.returns
returns c = record { denominator = followed_denominator; run = followed_run }
