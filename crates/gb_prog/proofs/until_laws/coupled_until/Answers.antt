use Rattle.gb_prog.proofs.UntilRuns.{program_until, routine_until}
use Rattle.gb_prog.proofs.until_laws.coupled_until.Goals as goal

pub returns : goal.returns
returns x = record {
  program = λ g ss names B R os qs kept apart all c w f h s m n u. program_until g ss B R os qs names kept apart all c w f h s m n u;
  procedure = λ g ss gs B R os qs kept apart all r w f h vs us G H u. routine_until g ss B R os qs gs kept apart all r w f h vs us G H u;
}
