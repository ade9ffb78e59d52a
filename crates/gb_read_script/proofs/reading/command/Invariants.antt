use Rattle.gb_language.specs.declared.rows.TheConstants.{COMMAND}
use Rattle.gb_read_script.proofs.reading.command.Given as goal

abbrev pub ghost-tree : goal.ghost-tree
ghost-tree a = COMMAND
