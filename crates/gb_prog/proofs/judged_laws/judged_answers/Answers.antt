use Rattle.gb_prog.proofs.OracleJudged.{judged_coupled, judged_kept, judged_until}
use Rattle.gb_prog.proofs.judged_laws.judged_answers.Goals as goal

pub returns : goal.returns
returns x = record {
  coupled = λ g gs R s r q w k l n judged vs h G H own related. judged_coupled g s gs R r q w k l n judged vs h G H own related;
  until = λ g gs B R s r q w k l n judged vs h G H own event related. judged_until g s gs B R r q w k l n judged vs h G H own event related;
  kept = λ g I s r w judged vs h G i. judged_kept g s I r w judged vs h G i;
}
