-- The locals that a goal reads in the memories of its context.
use Rattle.std.specs.Prelude.{Bool, false, ◌&&◌, if◌then◌else◌, List, [], ◌∷◌, map, Option, Some, None, bytes_eq}
use Rattle.std.specs.Option.{option_map_or}
use Rattle.gb_core.specs.declared.ty.Ty.{Ty}
use Rattle.gb_core.specs.declared.var.Var.TheVariants.{Local}
use Rattle.gb_terms.specs.declared.decl.TypedName.{TypedName}
use Rattle.gb_terms.specs.declared.op.Read.TheVariants.{Program}
use Rattle.gb_terms.specs.declared.op.Side.{Side}
use Rattle.gb_terms.specs.declared.op.Side.TheVariants as side
use Rattle.gb_terms.specs.declared.term.Head.{Head}
use Rattle.gb_terms.specs.declared.term.Head.TheOpen as layer
use Rattle.gb_terms.specs.declared.term.Head.TheFolds.{fold-Term}
use Rattle.gb_terms.specs.declared.term.Head.TheVariants as head
use Rattle.gb_terms.specs.declared.term.Term.{Term}
use Rattle.gb_terms.specs.Equal.{side_eq}
use Rattle.gb_goal.specs.declared.sequent.Hyp.{Hyp}
use Rattle.gb_goal.specs.declared.sequent.Sequent.{Sequent}
use Rattle.gb_names.specs.Environment.{Name}

-- the first thing that there is
abbrev pub first_some : List (Option Ty) → Option Ty
first_some [] = None
first_some (o ∷ os) = option_map_or (λ t. Some t) o (first_some os)

-- a head reads the local of this name in a memory
abbrev pub at_head : Side → Name → layer.Head-F Bool (Unit {0}) (Unit {0}) (Unit {0}) (Option Ty) → Bool
at_head s x (layer.Read (Program (Local y) r)) = side_eq r s && bytes_eq y x
at_head s x _ = false

abbrev pub at_term : layer.Term-F Bool (Unit {0}) (Unit {0}) (Unit {0}) (Option Ty) → Option Ty
at_term t = if t.head then Some t.ty else first_some t.args

-- the type at which a term reads a local in a named memory, where it first does
abbrev pub read_type : Side → Name → Term → Option Ty
read_type s x = fold-Term Bool (Unit {0}) (Unit {0}) (Unit {0}) (Option Ty) (at_head s x) (λ i. tt) (λ j. tt) (λ c. tt) at_term

-- the same of heads, by their constructors
abbrev pub reads_local : Side → Name → Head → Bool
reads_local s x (head.Read (Program (Local y) r)) = side_eq r s && bytes_eq y x
reads_local s x _ = false

-- .. and of hypotheses
abbrev pub hyps_read_type : Side → Name → List Hyp → Option Ty
hyps_read_type s x hs = first_some (map (λ h. read_type s x h.form) hs)

-- the type at which a goal reads a local in a memory of its context: that of the first hypothesis that does, else of its conclusion
abbrev pub goal_read_type : Side → Name → Sequent → Option Ty
goal_read_type s x q = option_map_or (λ t. Some t) (hyps_read_type s x q.hyps) (read_type s x q.conclusion)

abbrev pub local_if : Name → Option Ty → List TypedName
local_if x None = []
local_if x (Some t) = record { name = x; ty = t } ∷ []

-- The local of a name that is in scope in a memory: in one of the context, that which the goal reads there; in one that is bound in a
-- form, none.
abbrev pub locals_in : Sequent → Side → Name → List TypedName
locals_in q (side.Memory i) x = local_if x (goal_read_type (side.Memory i) x q)
locals_in q _ x = []
