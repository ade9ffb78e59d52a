use Rattle.gb_prog.proofs.Within.{within_assign, within_sample, within_call, within_if, within_while, within_append, within_procedure, within_one}
use Rattle.gb_prog.proofs.write_laws.within.Goals as goal

pub returns : goal.returns
returns x = record {
  assignment = within_assign;
  sampling = within_sample;
  call = within_call;
  branch = within_if;
  repetition = within_while;
  sequence = within_append;
  procedure = within_procedure;
  variables = within_one;
}
