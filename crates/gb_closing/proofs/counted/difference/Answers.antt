use Rattle.std.proofs.Common.{rules}
use Rattle.gb_closing.proofs.counted.difference.Goals as goal

pub returns : goal.returns
returns c = search rules steps 300000
