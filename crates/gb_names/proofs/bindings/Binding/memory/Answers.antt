use Rattle.std.proofs.Common.{ap}
use Rattle.gb_names.specs.Bindings.{memory}
use Rattle.gb_names.proofs.bindings.Binding.memory.Goals as goal

pub returns : goal.returns
returns c = ap memory c.in_ok-name.ensures
