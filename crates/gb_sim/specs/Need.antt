-- What has to be equal before the same statements on both sides, so that variables are equal after them.
use Rattle.std.specs.Prelude.{Bool, not, ◌||◌, if◌then◌else◌, List, [], ◌∷◌, ◌++◌, filter, Option, Some, None}
use Rattle.std.specs.List.{list_any}
use Rattle.std.specs.Option.{option_map}
use Rattle.gb_core.specs.declared.var.Var.{Var}
use Rattle.gb_terms.specs.declared.module.ProcRef.{ProcRef}
use Rattle.gb_terms.specs.declared.term.Head.TheVariants.{Assign, Sample, Call', If', While'}
use Rattle.gb_terms.specs.declared.term.Instr.{Instr, Row_of-Instr, end_of-Instr, more_of-Instr}
use Rattle.gb_terms.specs.declared.term.Term.{Term}
use Rattle.gb_terms.specs.Equal.{var_eq}
use Rattle.gb_walk.specs.Clash.{Exclusions, clashes}
use Rattle.gb_goal.specs.Scope.{Declarations}
use Rattle.gb_mods.specs.Called.{row_calls}
use Rattle.gb_full.specs.Loss.{may_lose}
use Rattle.gb_labels.specs.declared.reads.TypedVar.{TypedVar}
use Rattle.gb_labels.specs.Reads.{Vars}
use Rattle.gb_forms.specs.Ordered.{joined}
use Rattle.gb_sim.specs.Reads.{term_reads, row_reads, body_reads, reached_reads}

abbrev pub is_among : List Var → TypedVar → Bool
is_among xs y = list_any (λ x. var_eq x y.var) xs

-- variables but for these
abbrev pub without : List Var → Vars → Vars
without xs V = filter (λ y. not (is_among xs y)) V

-- x is one of the variables, or clashes with one
abbrev pub concerns : Exclusions → Var → Vars → Bool
concerns es x V = list_any (λ y. clashes es x y.var) V

abbrev pub concern : Exclusions → List Var → Vars → Bool
concern es xs V = list_any (λ x. concerns es x V) xs

-- before what writes these variables and reads those
abbrev pub before : List Var → Vars → Vars → Vars
before xs rs V = joined rs (without xs V)

abbrev pub if_known : {A B : Type 0} → (A → Option B) → Option A → Option B
if_known f None = None
if_known f (Some x) = f x

-- before what writes a term's value to variables, where that matters
abbrev pub written_need : Bool → List Var → Term → Vars → Vars
written_need b xs e V = if b then before xs (term_reads e) V else V

-- before a call with arguments that read these
abbrev pub called_need : Declarations → List Var → ProcRef → Vars → Vars → Option Vars
called_need ds xs p rs V = option_map (λ (os : Vars). before xs (rs ++ os) V) (reached_reads ds (p ∷ []))

-- before a loop that reads these itself and calls those
abbrev pub loop_need : Declarations → Vars → List ProcRef → Vars → Option Vars
loop_need ds rs ps V = option_map (λ (os : Vars). joined (rs ++ os) V) (reached_reads ds ps)

abbrev pub of_branches : Vars → Option Vars → Option Vars → Option Vars
of_branches rs (Some V) (Some W) = Some (joined rs (joined V W))
of_branches rs _ _ = None

-- Where the variables V are to be equal after a statement: what is assigned or sampled matters where it concerns V. A sampling that may
-- lose weight matters always, and so does a call. A loop takes as many turns on both sides where all that it reads is equal.
abbrev mutual
  pub statement_need : Exclusions → Declarations → Instr → Vars → Option Vars
  statement_need es ds (Assign xs e) V = Some (written_need (concern es xs V) xs e V)
  statement_need es ds (Sample x d) V = Some (written_need (may_lose ds d || concern es (x ∷ []) V) (x ∷ []) d V)
  statement_need es ds (Call' xs p n args) V = called_need ds xs p (row_reads args) V
  statement_need es ds (If' e m a n b) V = of_branches (term_reads e) (row_need es ds a V) (row_need es ds b V)
  statement_need es ds (While' e v n a) V = loop_need ds (term_reads e ++ (term_reads v ++ body_reads a)) (row_calls a) V

  pub row_need : {n : _} → Exclusions → Declarations → Row_of-Instr n → Vars → Option Vars
  row_need es ds end_of-Instr V = Some V
  row_need es ds (more_of-Instr i is) V = if_known (λ W. statement_need es ds i W) (row_need es ds is V)

-- the same of lists
abbrev pub need : Exclusions → Declarations → List Instr → Vars → Option Vars
need es ds [] V = Some V
need es ds (i ∷ is) V = if_known (λ W. statement_need es ds i W) (need es ds is V)
