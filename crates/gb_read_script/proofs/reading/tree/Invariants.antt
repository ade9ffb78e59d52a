use Rattle.gb_limits.specs.Lexeme.{kinds_of}
use Rattle.gb_read_script.proofs.reading.tree.Given as goal

abbrev pub ghost-text_tree : goal.ghost-text_tree
ghost-text_tree g a = record { part = g.spelled; kinds = kinds_of a.text.now }
