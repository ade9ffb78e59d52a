use Rattle.gb_language.proofs.Language.{text_sorts}
use Rattle.gb_language.proofs.reading.text_tree.Goals as goal

pub tree_of-requires : goal.tree_of-requires
tree_of-requires g c = let s = text_sorts g.given.part c.requires.0 in (s.0, (s.1, c.requires.1))
