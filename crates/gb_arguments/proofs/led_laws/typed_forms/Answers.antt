use Rattle.gb_instances.specs.Put.{name_put}
use Rattle.std.proofs.Common.{◌≡◌, true}
use Rattle.gb_arguments.proofs.LedEquations.{put_typed}
use Rattle.gb_arguments.proofs.led_laws.typed_forms.Goals as goal

pub returns : goal.returns
returns c = λ ds ps es d e l t w m. put_typed ds ps es (λ a. e.has_globals (name_put ps es a) ≡ true) d e l t w m
