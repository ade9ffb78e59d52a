-- The locals that occur in a judgment of bodies, each with the type that it has there.
use Rattle.std.specs.Prelude.{if◌then◌else◌, List, [], ◌∷◌, ◌++◌, flat_map, Option, Some, None, bytes_eq}
use Rattle.std.specs.List.{list_any}
use Rattle.gb_core.specs.declared.ty.Ty.{Ty, out-Ty}
use Rattle.gb_core.specs.declared.ty.Ty.TheOpen as ty_layer
use Rattle.gb_core.specs.declared.var.Var.{Var}
use Rattle.gb_core.specs.declared.var.Var.TheVariants.{Local}
use Rattle.gb_terms.specs.declared.decl.TypedName.{TypedName}
use Rattle.gb_terms.specs.declared.op.Side.{Side}
use Rattle.gb_terms.specs.declared.op.Side.TheVariants as side
use Rattle.gb_terms.specs.declared.op.Read.TheVariants.{Program}
use Rattle.gb_terms.specs.declared.term.Term.{Term, out-Term, Row_of-Term, end_of-Term, more_of-Term}
use Rattle.gb_terms.specs.declared.term.Head.TheVariants.{Assign, Sample, Call', If', While'}
use Rattle.gb_terms.specs.declared.term.Head.TheOpen as layer
use Rattle.gb_terms.specs.declared.term.Head.TheFolds.{fold-Term}
use Rattle.gb_terms.specs.declared.term.Instr.{Instr, Row_of-Instr, end_of-Instr, more_of-Instr}
use Rattle.gb_terms.specs.Equal.{side_eq}
use Rattle.gb_goal.specs.Interfaces.{ProcedureType, procedure_type}
use Rattle.gb_goal.specs.Scope.{Declarations}

-- the local that a variable of this type is
abbrev pub local : Var → Ty → List TypedName
local (Local x) t = record { name = x; ty = t } ∷ []
local _ t = []

abbrev pub Locals : Type 0
Locals = Side → List TypedName

-- what a head reads through a side, at a type, where its arguments aren't to be looked at
abbrev pub Closed : Type 0
Closed = Side → Ty → Option (List TypedName)

-- A judgment or a probability has memories of its own.
abbrev pub at_head : layer.Head-F Closed (Unit {0}) (Unit {0}) (Unit {0}) Locals → Closed
at_head (layer.Read (Program x through)) s t = Some (if side_eq through s then local x t else [])
at_head (layer.Pr p m) s t = Some []
at_head (layer.Hoare j) s t = Some []
at_head (layer.Phoare j r) s t = Some []
at_head (layer.Equiv j k) s t = Some []
at_head _ s t = None

abbrev pub or_args : Option (List TypedName) → List TypedName → List TypedName
or_args (Some xs) ys = xs
or_args None ys = ys

abbrev pub at_term : layer.Term-F Closed (Unit {0}) (Unit {0}) (Unit {0}) Locals → Locals
at_term t s = or_args (t.head s t.ty) (flat_map (λ a. a s) t.args)

-- the locals that a term reads through the memory of a side, as often as it does
abbrev pub read_locals : Term → Locals
read_locals = fold-Term Closed (Unit {0}) (Unit {0}) (Unit {0}) Locals at_head (λ i. tt) (λ j. tt) (λ c. tt) at_term

abbrev pub outcome_local : Var → ty_layer.Ty-F Ty → List TypedName
outcome_local x (ty_layer.Distr t) = local x t
outcome_local x _ = []

-- the local that a sampling writes
abbrev pub sampled : Var → Term → List TypedName
sampled x d = outcome_local x (out-Ty (out-Term d).ty)

-- the locals that variables of these types are
abbrev pub each_local : List Var → List Ty → List TypedName
each_local (x ∷ xs) (t ∷ ts) = local x t ++ each_local xs ts
each_local _ _ = []

abbrev pub part_locals : List Var → ty_layer.Ty-F Ty → List TypedName
part_locals xs (ty_layer.Tuple ts) = each_local xs ts
part_locals xs _ = []

-- the locals that take a value of a type: one alone takes all of it, several its parts
abbrev pub taking : List Var → Ty → List TypedName
taking (x ∷ []) t = local x t
taking xs t = part_locals xs (out-Ty t)

-- the locals that take the result of a procedure
abbrev pub returned : List Var → Option ProcedureType → List TypedName
returned xs None = []
returned xs (Some f) = taking xs f.result

-- the locals that terms of a program read
abbrev pub row_read : {n : _} → Row_of-Term n → List TypedName
row_read end_of-Term = []
row_read (more_of-Term t ts) = read_locals t side.Own ++ row_read ts

abbrev mutual
  -- the locals that a statement writes and reads, with those of the statements in it
  pub statement_locals : Declarations → Instr → List TypedName
  statement_locals ds (Assign xs e) = taking xs (out-Term e).ty ++ read_locals e side.Own
  statement_locals ds (Sample x d) = sampled x d ++ read_locals d side.Own
  statement_locals ds (Call' xs p n es) = returned xs (procedure_type ds None p) ++ row_read es
  statement_locals ds (If' e m a n b) = read_locals e side.Own ++ (row_locals ds a ++ row_locals ds b)
  statement_locals ds (While' e v n a) = read_locals e side.Own ++ (read_locals v side.Own ++ row_locals ds a)

  pub row_locals : {n : _} → Declarations → Row_of-Instr n → List TypedName
  row_locals ds end_of-Instr = []
  row_locals ds (more_of-Instr i is) = statement_locals ds i ++ row_locals ds is

-- a local beside others, where none of them has its name
abbrev pub added : List TypedName → TypedName → List TypedName
added vs x = if list_any (λ v. bytes_eq v.name x.name) vs then vs else vs ++ x ∷ []

abbrev pub with_all : List TypedName → List TypedName → List TypedName
with_all vs [] = vs
with_all vs (x ∷ xs) = with_all (added vs x) xs

-- the locals that conditions read through the memory of a side and that the body of this side reads or writes, each once
abbrev pub occurring : Declarations → List Term → Side → List Instr → List TypedName
occurring ds ts s is = with_all [] (flat_map (λ t. read_locals t s) ts ++ flat_map (statement_locals ds) is)
