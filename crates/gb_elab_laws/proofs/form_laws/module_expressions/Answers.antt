use Rattle.gb_elab_laws.proofs.InnerModules.{expressions_outside, expressions_inside}
use Rattle.gb_elab_laws.proofs.form_laws.module_expressions.Goals as goal

pub returns : goal.returns
returns x = record { outside = expressions_outside; inside = expressions_inside }
