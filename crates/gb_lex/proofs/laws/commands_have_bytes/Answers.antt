use Rattle.gb_lex.proofs.Cuts.{command_bytes}
use Rattle.gb_lex.proofs.laws.commands_have_bytes.Goals as goal

pub returns : goal.returns
returns c = command_bytes
