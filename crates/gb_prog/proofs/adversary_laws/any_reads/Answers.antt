use Rattle.std.proofs.Common.{◌≡◌, true}
use Rattle.gb_prog.proofs.Reading.{reads_of_any}
use Rattle.gb_prog.proofs.adversary_laws.any_reads.Goals as goal

pub returns : goal.returns
returns x = λ g a qs p w S among f. reads_of_any g a qs p w S among (λ c. f c ≡ true)
