use Rattle.gb_language.proofs.Checked.{scripts_pass, goals_pass}
use Rattle.gb_language.proofs.laws.one_token_decides.Goals as goal

pub returns-clause-scripts : goal.returns-clause-scripts
returns-clause-scripts c = scripts_pass

pub returns-clause-goals : goal.returns-clause-goals
returns-clause-goals c = goals_pass
