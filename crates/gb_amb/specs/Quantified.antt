-- Forms in which a quantifier over modules stands.
use Rattle.std.specs.Prelude.{Bool, true, false, ◌||◌}
use Rattle.std.specs.List.{list_any}
use Rattle.gb_terms.specs.declared.term.Term.{Term}
use Rattle.gb_terms.specs.declared.term.Head.{Head}
use Rattle.gb_terms.specs.declared.term.Head.TheOpen as layer
use Rattle.gb_terms.specs.declared.term.Head.TheFolds.{fold-Term, fold-Head}
use Rattle.gb_goal.specs.declared.sequent.Sequent.{Sequent}

abbrev pub at_head : layer.Head-F Bool Bool Bool Bool Bool → Bool
at_head (layer.AllModule b) = true
at_head _ = false

abbrev pub at_instr : layer.Instr-F Bool Bool Bool Bool Bool → Bool
at_instr _ = false

abbrev pub at_subject : layer.Subject-F Bool Bool Bool Bool Bool → Bool
at_subject _ = false

abbrev pub at_cmd : layer.Cmd-F Bool Bool Bool Bool Bool → Bool
at_cmd _ = false

abbrev pub at_term : layer.Term-F Bool Bool Bool Bool Bool → Bool
at_term t = t.head || list_any (λ b. b) t.args

abbrev pub is_module_quantifier : Head → Bool
is_module_quantifier = fold-Head Bool Bool Bool Bool Bool at_head at_instr at_subject at_cmd at_term

-- whether a quantifier over modules stands in a form
abbrev pub quantifies_modules : Term → Bool
quantifies_modules = fold-Term Bool Bool Bool Bool Bool at_head at_instr at_subject at_cmd at_term

-- whether one stands in the conclusion or in a hypothesis
abbrev pub goal_quantifies_modules : Sequent → Bool
goal_quantifies_modules q = quantifies_modules q.conclusion || list_any (λ h. quantifies_modules h.form) q.hyps
