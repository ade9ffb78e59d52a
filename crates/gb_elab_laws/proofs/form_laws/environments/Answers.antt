use Rattle.gb_elab_laws.proofs.Declared.{declared_in}
use Rattle.gb_elab_laws.proofs.Fits.{declared_globals, statement_fits, program_fits, function_fits}
use Rattle.gb_elab_laws.proofs.form_laws.environments.Goals as goal

pub returns : goal.returns
returns x = record { statement = statement_fits; names = declared_in; globals = declared_globals; program = program_fits; function = function_fits }
