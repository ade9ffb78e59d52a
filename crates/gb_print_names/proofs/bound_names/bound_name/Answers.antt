use Rattle.std.proofs.Common.{rules}
use Rattle.gb_print_names.proofs.bound_names.bound_name.Goals as goal

pub returns : goal.returns
returns c = search rules steps 1000000
