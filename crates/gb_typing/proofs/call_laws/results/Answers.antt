use Rattle.gb_typing.proofs.Returned.{one_result_typed, one_result, two_results_typed, two_results}
use Rattle.gb_typing.proofs.call_laws.results.Goals as goal

pub returns : goal.returns
returns x = record { one_typed = one_result_typed; one = one_result; pair_typed = two_results_typed; pair = two_results }
