use Rattle.std.proofs.Common.{rules}
use Rattle.gb_closing.proofs.counted.card_at.Goals as goal

pub returns-then-count-lt-MANY : goal.returns-then-count-lt-MANY
returns-then-count-lt-MANY c = search rules steps 300000
