use Rattle.gb_arguments.proofs.RestrictionsKept.{restrictions_kept as all_kept}
use Rattle.gb_arguments.proofs.fit_laws.restrictions_kept.Goals as goal

pub returns : goal.returns
returns c = λ ds scoped i over computed kept. all_kept ds scoped i over computed kept
