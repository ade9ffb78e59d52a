use Rattle.gb_dist.proofs.Weights.{weight-or, weight-not, weight-false, weight-parts, weight-le_every, weight-every, weight-le_total}
use Rattle.gb_dist.proofs.list_laws.weights.Goals as goal

pub returns : goal.returns
returns g c = record {
  of_or = λ l s t. weight-or l s t;
  of_not = λ l s. weight-not l s;
  of_false = λ l. weight-false l;
  of_parts = λ l s t. weight-parts l s t;
  of_implied = λ l s t o. weight-le_every l s t o;
  of_equal = λ l s t o. weight-every l s t o;
  at_most_total = λ l s. weight-le_total l s;
}
