use Rattle.gb_meaning.proofs.Bodies.{run_of_body, denominator_of_body, statement_call, statement_if, statement_while}
use Rattle.gb_meaning.proofs.tree_laws.bodies.Goals as goal

pub returns : goal.returns
returns c = record { run = run_of_body; denominator = denominator_of_body; call = statement_call; branches = statement_if; loops = statement_while }
