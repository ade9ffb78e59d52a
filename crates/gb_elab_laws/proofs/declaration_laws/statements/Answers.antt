use Rattle.gb_typing.proofs.DeclaredModules.{goal_bound}
use Rattle.gb_elab_laws.proofs.Statements.{statement_is}
use Rattle.gb_elab_laws.proofs.declaration_laws.statements.Goals as goal

pub returns : goal.returns
returns x = record {
  typed = λ ds w t q h. (let k = statement_is ds t q h in goal_bound ds q (k.scope w) (k.goal w));
  scope = λ ds w t q h. (statement_is ds t q h).scope w;
  goal = λ ds w t q h. (statement_is ds t q h).goal w;
  truth = λ ds w t q h. (statement_is ds t q h).truth w;
  front = λ ds w t q h. (statement_is ds t q h).front w;
  free = λ ds t q h. (statement_is ds t q h).free;
  procedures = λ ds w firm t q h. (statement_is ds t q h).speaks w firm;
}
