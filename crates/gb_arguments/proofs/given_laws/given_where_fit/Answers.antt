use Rattle.gb_arguments.proofs.GivenWhereFit.{given_where_fit as all_given}
use Rattle.gb_arguments.proofs.given_laws.given_where_fit.Goals as goal

pub returns : goal.returns
returns c = λ ds es scoped none free bs binders ks m fit. all_given ds es scoped none free bs binders ks m fit
