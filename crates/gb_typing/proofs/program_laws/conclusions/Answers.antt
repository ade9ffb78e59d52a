use Rattle.gb_typing.proofs.Conclusions.{formula_form, conclusion_sound}
use Rattle.gb_typing.proofs.program_laws.conclusions.Goals as goal

pub returns : goal.returns
returns x = record { forms = formula_form; sound = conclusion_sound }
