use Rattle.gb_print.proofs.Steps.{assign_is, sample_is, call_is, if_is, while_is}
use Rattle.gb_print.proofs.laws.statements_are_made_of_parts.Goals as goal

pub returns-clause-assign : goal.returns-clause-assign
returns-clause-assign c = assign_is

pub returns-clause-sample : goal.returns-clause-sample
returns-clause-sample c = sample_is

pub returns-clause-call : goal.returns-clause-call
returns-clause-call c = call_is

pub returns-clause-branch : goal.returns-clause-branch
returns-clause-branch c = if_is

pub returns-clause-repeated : goal.returns-clause-repeated
returns-clause-repeated c = while_is
