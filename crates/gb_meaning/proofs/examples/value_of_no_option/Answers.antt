use Rattle.std.proofs.Common.{ap}
use Rattle.gb_meaning.proofs.examples.value_of_no_option.Goals as goal
use Rattle.std.proofs.Common.{[]}
use Rattle.gb_core.specs.declared.value.Value.TheVariants.{Num}
use Rattle.gb_core.specs.Numbering.{first_or, parts_in}
use Rattle.gb_core.proofs.Lawful.{out-Many}
use Rattle.gb_meaning.specs.Setting.Meaning.{finite}

pub returns : goal.returns
returns c = λ g j s. ap (λ o. finite (first_or (parts_in o) (Num 0))) (out-Many [])
