use Rattle.gb_arguments.proofs.Named.{program_named}
use Rattle.gb_arguments.proofs.fit_laws.named.Goals as goal

pub returns : goal.returns
returns c = λ ds scoped i chosen m k e b vs p f t h. program_named ds scoped i chosen m k e t b vs p f h
