use Rattle.gb_language.specs.declared.rows.TheConstants.{FORM}
use Rattle.gb_read_script.proofs.reading.form.Given as goal

abbrev pub ghost-tree : goal.ghost-tree
ghost-tree a = FORM
