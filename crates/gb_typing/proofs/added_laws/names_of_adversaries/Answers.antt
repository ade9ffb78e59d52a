use Rattle.gb_meaning.specs.Naming.{IsFresh}
use Rattle.gb_typing.specs.Naming.{IsKept}
use Rattle.gb_typing.proofs.TypedNames.{linked-routine-names}
use Rattle.gb_typing.proofs.added_laws.names_of_adversaries.Goals as goal

pub returns : goal.returns
returns c = record {
  fresh = λ es g ss os f gs r k. linked-routine-names (IsFresh es) g ss os f gs r k;
  kept = λ es hs g ss os f gs r k. linked-routine-names (IsKept es hs) g ss os f gs r k;
}
