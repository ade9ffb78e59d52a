use Rattle.gb_typing.proofs.Additions.{holds-new, loops-new}
use Rattle.gb_typing.proofs.added_laws.later_operators.Goals as goal

pub returns : goal.returns
returns c = record { holds = λ ds n d k h q x. holds-new ds n d k h q x; loops = λ ds n d k h m f x. loops-new ds n d k h m f x }
