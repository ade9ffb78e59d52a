-- Variables that a form reads, with their types.
use Rattle.std.specs.Prelude.{Bool, false, ◌&&◌, if◌then◌else◌, List, [], ◌∷◌, length, take, map, Option, Some, None}
use Rattle.gb_core.specs.declared.ty.Ty.{Ty}
use Rattle.gb_core.specs.declared.var.Var.{Var}
use Rattle.gb_terms.specs.declared.op.Side.{Side}
use Rattle.gb_terms.specs.declared.op.Read.TheVariants.{Program}
use Rattle.gb_terms.specs.declared.term.Term.{Term, Term', Row_of-Term, end_of-Term, more_of-Term, end_of-Head, more_of-Head}
use Rattle.gb_terms.specs.declared.term.Head.{Head}
use Rattle.gb_terms.specs.declared.term.Head.TheVariants as head
use Rattle.gb_terms.specs.Equal.{side_eq, var_eq}
use Rattle.gb_walk.specs.Clash.{outside}
use Rattle.gb_prog.specs.AllValues.{Located, in_memory}
use Rattle.gb_prog.specs.Writes.{TypedVariable}
use Rattle.gb_loops.specs.declared.read.Located.{Located as Seen}

-- whether a head itself reads a variable through a memory
abbrev pub reads_itself : Side → Var → Head → Bool
reads_itself s x (head.Read (Program y r)) = side_eq s r && var_eq x y
reads_itself s x h = false

-- the first that there is
abbrev pub first_of : List (Option Ty) → Option Ty
first_of [] = None
first_of (None ∷ os) = first_of os
first_of (Some t ∷ os) = Some t

abbrev mutual
  -- The type at which a term reads a variable first, through the own memory, the left or the right one, where nothing in it binds that
  -- memory.
  pub type_read : Side → Var → Term → Option Ty
  type_read s x (Term' b (more_of-Head h end_of-Head) n ts ty) =
      if reads_itself s x h then Some ty else first_of (take (outside h s (length (each_type s x ts))) (each_type s x ts))

  pub each_type : {n : _} → Side → Var → Row_of-Term n → List (Option Ty)
  each_type s x end_of-Term = []
  each_type s x (more_of-Term t ts) = type_read s x t ∷ each_type s x ts

abbrev pub typed_before : Var → Option Ty → List TypedVariable → List TypedVariable
typed_before x (Some t) W = record { variable = x; ty = t } ∷ W
typed_before x None W = W

-- those of the variables that a form reads, each with its type
abbrev pub read_among : Side → Term → List Var → List TypedVariable
read_among s f [] = []
read_among s f (x ∷ xs) = typed_before x (type_read s x f) (read_among s f xs)

-- the same, each in its memory
abbrev pub read_in : Side → Term → List Var → List Located
read_in s f xs = in_memory s (read_among s f xs)

-- the same, as the code has them
abbrev pub located_seen : List Seen → List Located
located_seen W = map (λ w. (w.side, record { variable = w.variable; ty = w.ty })) W
