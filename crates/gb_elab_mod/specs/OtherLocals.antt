-- Locals that a term reads in a memory of the context, and the goal doesn't.
use Rattle.std.specs.Prelude.{Bool, false, not, ◌&&◌, ◌||◌, List, [], ◌∷◌}
use Rattle.std.specs.List.{list_any}
use Rattle.gb_core.specs.declared.ty.Ty.{Ty}
use Rattle.gb_core.specs.declared.var.Var.TheVariants.{Local}
use Rattle.gb_core.specs.SameTypes.{ty_eq}
use Rattle.gb_terms.specs.declared.decl.TypedName.{TypedName}
use Rattle.gb_terms.specs.declared.op.Read.TheVariants.{Program}
use Rattle.gb_terms.specs.declared.op.Side.{Side}
use Rattle.gb_terms.specs.declared.term.Term.{Term}
use Rattle.gb_terms.specs.declared.term.Head.{Head}
use Rattle.gb_terms.specs.declared.term.Head.TheVariants as head
use Rattle.gb_terms.specs.declared.term.Head.TheOpen as layer
use Rattle.gb_terms.specs.declared.term.Head.TheFolds.{fold-Term}
use Rattle.gb_terms.specs.Equal.{side_eq}
use Rattle.gb_goal.specs.declared.sequent.Sequent.{Sequent}
use Rattle.gb_names.specs.Environment.{Name}
use Rattle.gb_names.specs.Locals.{locals_in}

-- a local that the goal reads has this type; of one that it doesn't read it is told whether it counts
abbrev pub has_type : Bool → List TypedName → Ty → Bool
has_type with_unread [] t = with_unread
has_type with_unread (v ∷ vs) t = ty_eq v.ty t

-- the goal reads the local of this name in a memory of its context at this type; it is told whether one that it doesn't read there counts too
abbrev pub is_local : Bool → Sequent → Side → Name → Ty → Bool
is_local with_unread q s x t = has_type with_unread (locals_in q s x) t

abbrev pub at_head : Bool → Sequent → Side → layer.Head-F (Ty → Bool) (Unit {0}) (Unit {0}) (Unit {0}) Bool → Ty → Bool
at_head with_unread q s (layer.Read (Program (Local x) r)) t = side_eq r s && not (is_local with_unread q s x t)
at_head with_unread q s _ t = false

abbrev pub at_term : layer.Term-F (Ty → Bool) (Unit {0}) (Unit {0}) (Unit {0}) Bool → Bool
at_term t = t.head t.ty || list_any (λ b. b) t.args

-- a term reads a local in a memory of the context that the goal doesn't read there, or reads at another type
abbrev pub reads_other_locals : Bool → Sequent → Side → Term → Bool
reads_other_locals with_unread q s = fold-Term (Ty → Bool) (Unit {0}) (Unit {0}) (Unit {0}) Bool (at_head with_unread q s) (λ i. tt) (λ j. tt) (λ c. tt) at_term

-- the same of heads, by their constructors
abbrev pub head_reads : Bool → Sequent → Side → Head → Ty → Bool
head_reads with_unread q s (head.Read (Program (Local x) r)) t = side_eq r s && not (is_local with_unread q s x t)
head_reads with_unread q s _ t = false
