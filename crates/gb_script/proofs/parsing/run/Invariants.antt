use Rattle.std.specs.Prelude.{reverse}
use Rattle.gb_script.specs.Grammar.{grammar_of}
use Rattle.gb_script.proofs.Whole.{Kept}
use Rattle.gb_script.proofs.parsing.run.Given as goal

abbrev pub ghost-advance : goal.ghost-advance
ghost-advance g a = g.claims

abbrev pub invariant-loop-at : goal.invariant-loop-at
invariant-loop-at g l = Kept (grammar_of l.stage l.rows l.symbols) g.claims l.start l.at l.kinds l.steps.items (reverse l.stack.items)
