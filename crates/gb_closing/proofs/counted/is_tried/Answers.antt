use Rattle.std.proofs.Common.{rules}
use Rattle.gb_closing.proofs.counted.is_tried.Goals as goal

pub returns-in-Exact : goal.returns-in-Exact
returns-in-Exact c = search rules steps 300000
