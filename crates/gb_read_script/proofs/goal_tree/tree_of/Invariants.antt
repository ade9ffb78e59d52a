use Rattle.gb_read_script.proofs.goal_tree.tree_of.Given as goal

abbrev pub ghost-line_tree : goal.ghost-line_tree
ghost-line_tree g a = g.given
