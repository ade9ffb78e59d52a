use Rattle.gb_laws.proofs.Agreeing.{term_agrees, form_agrees}
use Rattle.gb_laws.proofs.agree_laws.agreement.Goals as goal

pub returns : goal.returns
returns c = record { terms = term_agrees; forms = form_agrees }
