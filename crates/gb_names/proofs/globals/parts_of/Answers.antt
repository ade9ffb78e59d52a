use Rattle.std.proofs.Common.{ap, ◌∙◌, arith}
use Rattle.std.specs.Path.{dot, rsplit_once}
use Rattle.gb_names.proofs.LastDot.{split_at_last}
use Rattle.gb_names.proofs.globals.parts_of.Goals as goal

pub returns : goal.returns
returns c = split_at_last dot c.as_str.result.now _ c.rsplit_once.ensures.cases (omega arith) ∙ ap (rsplit_once dot) c.as_str.ensures
