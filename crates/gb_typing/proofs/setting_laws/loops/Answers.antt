use Rattle.gb_typing.proofs.SameLoops.{good_same, loops_same}
use Rattle.gb_typing.proofs.setting_laws.loops.Goals as goal

pub returns : goal.returns
returns c = record { good = λ g h s e v a ke kv ka x. good_same g h s e v a ke kv ka x; all = λ g h c k x. loops_same g h c k x }
