use Rattle.gb_typing.proofs.ProgramsAlike.{program_alike}
use Rattle.gb_typing.proofs.ClosedSettings.{script_closed, setting_closed, goal_closed}
use Rattle.gb_typing.proofs.alike_laws.closed_settings.Goals as goal

pub returns : goal.returns
returns c = record {
  programs = λ g ds types t same w a p. program_alike g ds types t same w a p;
  scripts = λ ds w none g cs u. script_closed ds w none g cs u;
  scopes = λ ds w i k. setting_closed ds i w k;
  goals = λ ds w i k bs b j. goal_closed ds i w k bs b j;
}
