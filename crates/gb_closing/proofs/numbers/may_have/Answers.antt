use Rattle.std.proofs.Common.{rules}
use Rattle.gb_closing.proofs.numbers.may_have.Goals as goal

pub returns-else-equal : goal.returns-else-equal
returns-else-equal c = search rules steps 300000
