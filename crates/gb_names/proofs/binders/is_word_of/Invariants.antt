use Rattle.std.proofs.Common.{◌≡◌, drop, bytes_eq}
use Rattle.std.specs.List.{list_any}
use Rattle.gb_script.specs.Tree.{text_of}
use Rattle.gb_names.proofs.binders.is_word_of.Given as goal

abbrev pub invariant-loop-x : goal.invariant-loop-x
invariant-loop-x l = list_any (λ y. bytes_eq (text_of y) l.name) (drop l.x-index l.list) ≡ list_any (λ y. bytes_eq (text_of y) l.name) l.list
