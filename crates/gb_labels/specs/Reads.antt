-- What a term reads of a memory that a binder binds.
use Rattle.std.specs.Prelude.{ℕ, ◌+◌, ◌==◌, Bool, true, false, not, ◌&&◌, if◌then◌else◌, List, [], ◌∷◌, ◌++◌}
use Rattle.std.specs.List.{list_any}
use Rattle.gb_core.specs.declared.ty.Ty.{Ty}
use Rattle.gb_core.specs.declared.var.Var.{Var}
use Rattle.gb_core.specs.SameTypes.{ty_eq}
use Rattle.gb_terms.specs.declared.op.Side.{Side}
use Rattle.gb_terms.specs.declared.op.Side.TheVariants.{Bound}
use Rattle.gb_terms.specs.declared.op.Read.TheVariants.{Program}
use Rattle.gb_terms.specs.declared.term.Term.{Term, Term', Row_of-Term, end_of-Term, more_of-Term, end_of-Head, more_of-Head}
use Rattle.gb_terms.specs.declared.term.Head.{Head}
use Rattle.gb_terms.specs.declared.term.Head.TheVariants as head
use Rattle.gb_terms.specs.Equal.{var_eq}
use Rattle.gb_walk.specs.Clash.{Exclusions, clashes}
use Rattle.gb_walk.specs.Layers.{is_binder, seen_by}
use Rattle.gb_labels.specs.declared.reads.TypedVar.{TypedVar}

abbrev pub Vars : Type 0
Vars = List TypedVar

-- the memory of the binder with so many binders between
abbrev pub is_bound_at : Side → ℕ → Bool
is_bound_at (Bound i) k = i == k
is_bound_at _ k = false

-- the variable that a head of this type reads of that memory
abbrev pub head_reads : Head → Ty → ℕ → Vars
head_reads (head.Read (Program x r)) ty k = if is_bound_at r k then record { var = x; ty = ty } ∷ [] else []
head_reads h ty k = []

-- how many binders stand between, in the last argument of a head
abbrev pub inside : Head → ℕ → ℕ
inside h k = if is_binder h then k + 1 else k

abbrev pub joined : List Vars → Vars
joined [] = []
joined (xs ∷ xss) = xs ++ joined xss

abbrev mutual
  -- the variables that a term reads of that memory, in order
  pub reads_at : Term → ℕ → Vars
  reads_at (Term' b (more_of-Head h end_of-Head) n ts ty) k = head_reads h ty k ++ joined (seen_by k (inside h k) (each_reads ts))

  pub each_reads : {n : _} → Row_of-Term n → List (ℕ → Vars)
  each_reads end_of-Term = []
  each_reads (more_of-Term t ts) = (λ k. reads_at t k) ∷ each_reads ts

abbrev pub is_among : Vars → Var → Ty → Bool
is_among xs x ty = list_any (λ y. var_eq y.var x && ty_eq y.ty ty) xs

abbrev pub with_new : Vars → TypedVar → Vars
with_new xs x = if is_among xs x.var x.ty then xs else xs ++ x ∷ []

-- the variables seen, and behind them the new ones of a list
abbrev pub noted : Vars → Vars → Vars
noted seen [] = seen
noted seen (x ∷ xs) = noted (with_new seen x) xs

-- What the body of a quantifier over memories reads of the memory that it binds, each variable once at each type at which it is read.
abbrev pub reads_of : Term → Vars
reads_of t = noted [] (reads_at t 0)

-- a variable that clashes with one of these
abbrev pub is_clash_among : Exclusions → Vars → Var → Bool
is_clash_among es xs x = list_any (λ y. clashes es x y.var) xs

-- No two of these clash, so that memories give them all values of their types, independently.
abbrev pub are_free : Exclusions → Vars → Bool
are_free es [] = true
are_free es (x ∷ xs) = not (is_clash_among es xs x.var) && are_free es xs
