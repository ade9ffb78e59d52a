-- The variables and reads of terms, each once.
use Rattle.std.specs.Prelude.{if◌then◌else◌, Option, Some, None, List, [], ◌∷◌, ◌++◌}
use Rattle.std.specs.List.{flat_map}
use Rattle.gb_core.specs.declared.ty.Ty.{Ty}
use Rattle.gb_terms.specs.declared.op.Side.TheVariants.{Bound}
use Rattle.gb_terms.specs.declared.op.Read.{Read}
use Rattle.gb_terms.specs.declared.op.Read.TheVariants.{Program}
use Rattle.gb_terms.specs.declared.term.Term.{Term}
use Rattle.gb_terms.specs.declared.term.Head.{Head}
use Rattle.gb_terms.specs.declared.term.Head.TheOpen as layer
use Rattle.gb_terms.specs.declared.term.Head.TheFolds.{fold-Term, fold-Head}
use Rattle.gb_closing.specs.declared.linked.Variable.{Variable}
use Rattle.gb_closing.specs.Linked.{Vars, is_among}

-- a read of a memory that a binder binds is no variable of the term
abbrev pub variable_of : Read → Option Read
variable_of (Program x (Bound i)) = None
variable_of r = Some r

abbrev pub at_head : layer.Head-F (Option Read) (Unit {0}) (Unit {0}) (Unit {0}) Vars → Option Read
at_head (layer.Read r) = variable_of r
at_head _ = None

abbrev pub at_instr : layer.Instr-F (Option Read) (Unit {0}) (Unit {0}) (Unit {0}) Vars → Unit {0}
at_instr _ = tt

abbrev pub at_subject : layer.Subject-F (Option Read) (Unit {0}) (Unit {0}) (Unit {0}) Vars → Unit {0}
at_subject _ = tt

abbrev pub at_cmd : layer.Cmd-F (Option Read) (Unit {0}) (Unit {0}) (Unit {0}) Vars → Unit {0}
at_cmd _ = tt

abbrev pub of_read : Option Read → Ty → Vars → Vars
of_read (Some r) ty vs = record { read = r; ty = ty } ∷ []
of_read None ty vs = vs

abbrev pub at_term : layer.Term-F (Option Read) (Unit {0}) (Unit {0}) (Unit {0}) Vars → Vars
at_term t = of_read t.head t.ty (flat_map (λ vs. vs) t.args)

-- the variables and reads that stand in a term, but reads of memories that are bound in it, in order
abbrev pub term_variables : Term → Vars
term_variables = fold-Term (Option Read) (Unit {0}) (Unit {0}) (Unit {0}) Vars at_head at_instr at_subject at_cmd at_term

abbrev pub head_read : Head → Option Read
head_read = fold-Head (Option Read) (Unit {0}) (Unit {0}) (Unit {0}) Vars at_head at_instr at_subject at_cmd at_term

abbrev pub with_new : Vars → Variable → Vars
with_new vs v = if is_among vs v.read then vs else vs ++ v ∷ []

-- the variables seen, and behind them the new ones of a list
abbrev pub noted : Vars → Vars → Vars
noted seen [] = seen
noted seen (v ∷ vs) = noted (with_new seen v) vs

-- the variables of a term, each once, in the order of their first places
abbrev pub variables : Term → Vars
variables t = noted [] (term_variables t)

-- those of hypotheses and a conclusion
abbrev pub variables_in : List Term → Term → Vars
variables_in hyps t = noted (noted [] (flat_map term_variables hyps)) (term_variables t)
