-- What terms read, and states that give it values.
use Rattle.std.specs.Prelude.{◌≡◌, ◌<◌, ◌==◌, ℕ, zero, suc, if◌then◌else◌, Some, List, [], ◌∷◌, ◌++◌}
use Rattle.std.specs.List.{flat_map}
use Rattle.gb_core.specs.declared.ty.Ty.{Ty}
use Rattle.gb_core.specs.declared.ty.Ty.TheVariants as ty
use Rattle.gb_core.specs.declared.value.Value.{Value}
use Rattle.gb_core.specs.declared.var.Var.TheVariants as var
use Rattle.gb_terms.specs.declared.op.Side.TheVariants as side
use Rattle.gb_terms.specs.declared.op.Read.{Read}
use Rattle.gb_terms.specs.declared.op.Read.TheVariants.{Logical, Program}
use Rattle.gb_terms.specs.declared.term.Term.{Term, Term', Row_of-Term, end_of-Term, more_of-Term, end_of-Head, more_of-Head}
use Rattle.gb_terms.specs.declared.term.Head.{Head}
use Rattle.gb_terms.specs.declared.term.Head.TheVariants as head
use Rattle.gb_meaning.specs.Names.{Name}
use Rattle.gb_meaning.specs.Values.{Types, fit}
use Rattle.gb_meaning.specs.Memory.{Memory, write}
use Rattle.gb_meaning.specs.State.{no_memory}
use Rattle.gb_laws.specs.Operators.{item}

-- reads with their types
abbrev pub ReadTys : Type 0
ReadTys = List (Read × Ty)

abbrev pub read_here : Head → Ty → ReadTys
read_here (head.Read r) t = (r, t) ∷ []
read_here _ t = []

abbrev mutual
  -- the reads that stand in a term, in order
  pub reads_in : Term → ReadTys
  reads_in (Term' p (more_of-Head h end_of-Head) n ts t) = read_here h t ++ all_reads_in ts

  pub all_reads_in : {n : _} → Row_of-Term n → ReadTys
  all_reads_in end_of-Term = []
  all_reads_in (more_of-Term t ts) = reads_in t ++ all_reads_in ts

-- those in hypotheses and a conclusion
abbrev pub claim_reads : List Term → Term → ReadTys
claim_reads hyps t = flat_map reads_in hyps ++ reads_in t

-- a name that is longer than those of the modules whose globals are read
abbrev pub longer : Read → Name → Name
longer (Program (var.Global m x) r) n = m ++ n
longer r n = n

abbrev pub own_name : ReadTys → Name
own_name [] = 0 ∷ []
own_name (q ∷ qs) = longer q.0 (0 ∷ own_name qs)

-- what a form reads in a context of these variables and of so many memories
abbrev pub IsReadIn : List Ty → ℕ → Read → Ty → Type 0
IsReadIn us n (Logical i) a = item us i ≡ Some a
IsReadIn us n (Program (var.Glob m) (side.Memory i)) a = (i < n) × (a ≡ ty.Glob m)
IsReadIn us n (Program x (side.Memory i)) a = i < n
IsReadIn us n (Program x (side.Bound i)) a = Unit {0}
IsReadIn us n r a = ⊥

module _ (t : Types) (f : Read → Value) where
  -- the memory with the value of a read, if it is one of it
  abbrev pub with_read : ℕ → Read → Memory → Memory
  with_read j (Program x (side.Memory i)) m = if i == j then write t m x (f (Program x (side.Memory i))) else m
  with_read j r m = m

  -- the memory with the values of all its reads
  abbrev pub memory_for : ReadTys → ℕ → Memory
  memory_for [] j = no_memory
  memory_for (q ∷ qs) j = with_read j q.0 (memory_for qs j)

  -- so many of these memories, from a place on
  abbrev pub memories_for : ReadTys → ℕ → ℕ → List Memory
  memories_for qs j zero = []
  memories_for qs j (suc n) = memory_for qs j ∷ memories_for qs (suc j) n

  -- values for variables of these types, from a place on
  abbrev pub values_for : ℕ → List Ty → List Value
  values_for i [] = []
  values_for i (u ∷ us) = fit t u (Some (f (Logical i))) ∷ values_for (suc i) us
