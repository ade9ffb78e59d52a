use Rattle.std.proofs.Common.{rules}
use Rattle.gb_print_names.proofs.bound_names.is_taken.Goals as goal

pub returns-then-is_some : goal.returns-then-is_some
returns-then-is_some c = search rules steps 1000000

pub returns-else-is_some : goal.returns-else-is_some
returns-else-is_some c = search rules steps 1000000
