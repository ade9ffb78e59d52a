use Rattle.std.proofs.Common.{◌≡◌, map, take}
use Rattle.gb_walk.specs.Change.{term_changed}
use Rattle.gb_inline.proofs.renamed.terms_changed.Given as goal

abbrev pub invariant-loop-term : goal.invariant-loop-term
invariant-loop-term l = l.all ≡ map (λ e. term_changed e l.reads) (take l.term-index l.list)
