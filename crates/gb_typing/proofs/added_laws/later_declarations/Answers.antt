use Rattle.gb_typing.proofs.Additions.{all-added, loops-added}
use Rattle.gb_typing.proofs.added_laws.later_declarations.Goals as goal

pub returns : goal.returns
returns c = record { holds = λ ds es q a x. all-added ds es q a x; loops = λ ds es m f a x. loops-added ds es m f a x }
