use Rattle.gb_script.proofs.parsing.read.Given as goal

abbrev pub ghost-run : goal.ghost-run
ghost-run g a = g.claims
