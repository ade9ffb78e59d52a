use Rattle.gb_meaning.proofs.Statements.{silent-keeps, setting-same}
use Rattle.gb_meaning.proofs.Kept.{before-silent, still_holds}
use Rattle.gb_meaning.proofs.KeptLoops.{still_proved}
use Rattle.gb_meaning.proofs.truth_laws.later_statements.Goals as goal

pub returns : goal.returns
returns c = record {
  settings = λ ds ls s i. setting-same ls s ds i;
  holds = λ ds ls s q h. still_holds ls (silent-keeps ls s) ds (before-silent ls s ds) q h;
  loops = λ ds ls s n f h. still_proved ls (silent-keeps ls s) ds (before-silent ls s ds) n f h;
}
