use Rattle.gb_laws.proofs.Agreeing.{ignores_own, ignores_sides}
use Rattle.gb_laws.proofs.agree_laws.ignored_memories.Goals as goal

pub returns : goal.returns
returns c = record { own = ignores_own; sides = ignores_sides }
