use Rattle.gb_prog.proofs.Kept.{abstract_coupled, abstract_kept, abstract_until}
use Rattle.gb_prog.proofs.abstract_laws.abstract_calls.Goals as goal

pub returns : goal.returns
returns x = record {
  coupled = λ ds g a os ps p q b R kept each r k e f vs G H own related. abstract_coupled ds g a os ps p q b R each kept r k e f vs G H own related;
  until = λ ds g a os ps p q b B R kept apart each r k e f left right vs us G H start. abstract_until ds g a os ps p q b B R each kept apart r k e f left right vs us G H start;
  kept = λ ds g a os p b I apart each r e vs G i. abstract_kept ds g a os os p p b I each apart r e vs G i;
}
