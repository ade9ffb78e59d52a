use Rattle.std.proofs.Common.{rules}
use Rattle.gb_print_names.proofs.open.needs_type.Goals as goal

pub returns-then-is_open : goal.returns-then-is_open
returns-then-is_open c = search rules steps 300000
