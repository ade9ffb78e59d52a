-- The size of a formula.
use Rattle.std.specs.Prelude.{nat_lt, if◌then◌else◌}
use Rattle.gb_core.specs.declared.refusal.Why.TheVariants.{TooMany}
use Rattle.gb_goal.specs.Answers.{Answer}
use Rattle.gb_goal.specs.Answers.Answer.{given, refused}
use Rattle.gb_terms.specs.declared.term.Term.{Term}
use Rattle.gb_terms.specs.Nodes.{term_nodes}

-- a form of no more nodes than a formula may have; the place of the refusal is for the caller to say
abbrev pub small : Term → Answer Term
small f = if nat_lt 65536 (term_nodes f) then refused (TooMany 65536) (record { file = 0; line = 0; col = 0 }) else given f
