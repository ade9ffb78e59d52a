use Rattle.std.proofs.Common.{◌≡◌, ◌++◌, List}
use Rattle.std.specs.Prelude.{reverse}
use Rattle.gb_script.specs.declared.table.Step.{Step}
use Rattle.gb_script.specs.Grammar.{grammar_of}
use Rattle.gb_script.specs.Check.{lead_weight}
use Rattle.gb_script.specs.Stack.{Good, Expands}
use Rattle.gb_script.proofs.machine.advance.Given as goal

abbrev pub invariant-loop-top : goal.invariant-loop-top
invariant-loop-top g l =
    record {
      came : (qs : List (Step g.row.R.Denot)) × (l.steps.items ≡ l.fn.steps.items ++ qs) × Expands (grammar_of l.stage l.rows l.symbols) l.kind l.at (reverse l.fn.stack.items) qs (reverse l.stack.items);
      good : Good (grammar_of l.stage l.rows l.symbols) g.claims (reverse l.stack.items);
    }

abbrev pub decreases-loop-top : goal.decreases-loop-top
decreases-loop-top g l = lead_weight g.claims (reverse l.stack.items)
