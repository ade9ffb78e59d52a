-- Program variables that a form reads through a memory, and those among them that clash with another one.
use Rattle.std.specs.Prelude.{ℕ, Bool, true, false, not, ◌&&◌, ◌||◌, bytes_eq, if◌then◌else◌, List, [], ◌∷◌, ◌++◌, ◌-◌, length, take, Option, Some, None}
use Rattle.std.specs.List.{filter, list_any}
use Rattle.std.specs.Cmp.Lexicographic.{slice_cmp}
use Rattle.std.specs.Ordering.{is_lt, nat_cmp, ordering_then}
use Rattle.std.specs.declared.cmp.Ordering.{Ordering}
use Rattle.gb_core.specs.declared.var.Var.{Var}
use Rattle.gb_core.specs.declared.var.Var.TheVariants.{Global, Local, Glob}
use Rattle.gb_terms.specs.declared.op.Side.{Side}
use Rattle.gb_terms.specs.declared.op.Read.TheVariants.{Program}
use Rattle.gb_terms.specs.declared.term.Term.{Term, Term', Row_of-Term, end_of-Term, more_of-Term, end_of-Head, more_of-Head}
use Rattle.gb_terms.specs.declared.term.Head.{Head}
use Rattle.gb_terms.specs.declared.term.Head.TheVariants as head
use Rattle.gb_terms.specs.Equal.{side_eq, var_eq}
use Rattle.gb_walk.specs.Change.{is_own, is_left_or_right}
use Rattle.gb_walk.specs.declared.clash.Excluded.{Excluded}

-- the variable that a head reads itself, if it reads one through this memory
abbrev pub read_by : Head → Side → List Var
read_by (head.Read (Program x r)) s = if side_eq s r then x ∷ [] else []
read_by h s = []

abbrev pub all_of : List (List Var) → List Var
all_of [] = []
all_of (xs ∷ xss) = xs ++ all_of xss

-- How many of n arguments, the first ones, see a memory as their head does: a judgment binds the memories that it speaks of, and a
-- probability that of its event, which stands last.
abbrev pub outside : Head → Side → ℕ → ℕ
outside (head.Hoare c) s n = if is_own s then 0 else n
outside (head.Phoare c r) s n = if is_own s then 0 else n
outside (head.Equiv c d) s n = if is_left_or_right s then 0 else n
outside (head.Pr p r) s n = if is_own s then n - 1 else n
outside h s n = n

abbrev mutual
  -- The variables that a term reads through the own memory, the left or the right one, where nothing in it binds that memory.
  -- (All globals of a module are read as one variable.)
  pub variables_read : Side → Term → List Var
  variables_read s (Term' b (more_of-Head h end_of-Head) n ts ty) = read_by h s ++ all_of (take (outside h s (length (each_read s ts))) (each_read s ts))

  pub each_read : {n : _} → Side → Row_of-Term n → List (List Var)
  each_read s end_of-Term = []
  each_read s (more_of-Term t ts) = variables_read s t ∷ each_read s ts

-- of abstract modules, what the restriction of each excludes
abbrev pub Exclusions : Type 0
Exclusions = List Excluded

-- whether it is the restriction of the module of this name, and excludes a variable
abbrev pub excludes_by : List ℕ → Var → Excluded → Bool
excludes_by a y x = bytes_eq a x.«module» && list_any (var_eq y) x.variables

-- whether the restriction of the module of this name excludes a variable
abbrev pub excludes : Exclusions → List ℕ → Var → Bool
excludes xs a y = list_any (excludes_by a y) xs

-- Two variables clash when they are the same; when one is all globals of an abstract module and the other a global that the module's
-- restriction doesn't exclude; or when they are all globals of two abstract modules and neither excludes the other.
abbrev pub clashes : Exclusions → Var → Var → Bool
clashes xs (Glob a) (Local y) = false
clashes xs (Local x) (Glob b) = false
clashes xs (Glob a) (Glob b) = bytes_eq a b || not (excludes xs a (Glob b) || excludes xs b (Glob a))
clashes xs (Glob a) y = not (excludes xs a y)
clashes xs x (Glob b) = not (excludes xs b x)
clashes xs x y = var_eq x y

-- whether y is another variable that clashes with x
abbrev pub clashes_beside : Exclusions → Var → Var → Bool
clashes_beside xs x y = not (var_eq x y) && clashes xs x y

abbrev pub name_order : List ℕ → List ℕ → Ordering
name_order = slice_cmp nat_cmp

-- the order of variables: by their kinds, then by the bytes of their names
abbrev pub comes_before : Var → Var → Bool
comes_before (Global m x) (Global n y) = is_lt (ordering_then (name_order m n) (name_order x y))
comes_before (Global m x) y = true
comes_before (Local x) (Local y) = is_lt (name_order x y)
comes_before (Local x) (Glob n) = true
comes_before (Glob m) (Glob n) = is_lt (name_order m n)
comes_before x y = false

-- the lesser of a variable and what was found before
abbrev pub lesser : Option Var → Var → Option Var
lesser None y = Some y
lesser (Some x) y = Some (if comes_before y x then y else x)

abbrev pub least_from : Option Var → List Var → Option Var
least_from o [] = o
least_from o (x ∷ xs) = least_from (lesser o x) xs

-- the least variable of a list
abbrev pub least : List Var → Option Var
least xs = least_from None xs

-- the least variable that a form reads through a memory and that clashes with x, but x itself
abbrev pub first_clash : Exclusions → Side → Var → Term → Option Var
first_clash xs s x f = least (filter (clashes_beside xs x) (variables_read s f))
