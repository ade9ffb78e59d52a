use Rattle.gb_typing.proofs.ClosedSettings.{script_touched}
use Rattle.gb_typing.proofs.Touched.{footprint_alike, touched_closed, goal_touched_closed}
use Rattle.gb_typing.proofs.alike_laws.closed_footprints.Goals as goal

pub returns : goal.returns
returns c = record {
  abstract_modules = λ ds types t same w a. footprint_alike ds types t same w a;
  scripts = λ ds w none cs u. script_touched ds w none cs u;
  scopes = λ ds w i k. touched_closed ds i w k;
  goals = λ ds w i k bs b j. goal_touched_closed ds i w k bs b j;
}
