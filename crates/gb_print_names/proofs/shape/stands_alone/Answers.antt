use Rattle.std.proofs.Common.{rules}
use Rattle.gb_print_names.proofs.shape.stands_alone.Goals as goal

pub returns-in-Sum : goal.returns-in-Sum
returns-in-Sum c = search rules steps 300000
