use Rattle.std.proofs.Common.{[]}
use Rattle.gb_typing.proofs.Models.{each_setting, each_chosen}
use Rattle.gb_typing.proofs.Lifted.{by_rule}
use Rattle.gb_typing.proofs.rule_laws.sequents.Goals as goal

pub returns : goal.returns
returns x = λ ds scope q t truth ls rs w row law qs e. by_rule ds q t (each_setting ds scope q t.modules t.frames) (each_chosen ds scope q t.modules []) truth ls rs w row law qs e
