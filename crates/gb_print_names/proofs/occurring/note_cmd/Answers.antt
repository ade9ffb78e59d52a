use Rattle.std.proofs.Common.{rules}
use Rattle.gb_print_names.proofs.LocalSteps.{cmd_is}
use Rattle.gb_print_names.proofs.occurring.note_cmd.Goals as goal

pub returns : goal.returns
returns c = let e = cmd_is c.args.c.now c.args.names.now in search (rules, e)
