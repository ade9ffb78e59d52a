-- Which globals the procedures of a module read or write.
use Rattle.std.specs.Prelude.{ℕ, Bool, false, ◌&&◌, if◌then◌else◌, List, [], ◌∷◌, ◌++◌, filter, Option, Some, None, bytes_eq}
use Rattle.std.specs.List.{list_any}
use Rattle.std.specs.declared.cmp.Ordering.{Ordering}
use Rattle.std.specs.declared.cmp.Ordering.TheVariants.{Less, Equal, Greater}
use Rattle.std.specs.Ordering.{nat_cmp, ordering_then}
use Rattle.gb_core.specs.declared.var.Var.{Var}
use Rattle.gb_core.specs.declared.var.Var.TheVariants as var
use Rattle.gb_terms.specs.declared.module.Mexp.{Mexp}
use Rattle.gb_terms.specs.declared.module.Mexp.TheVariants.{Name as named, Apply'}
use Rattle.gb_terms.specs.declared.module.ProcRef.{ProcRef}
use Rattle.gb_terms.specs.declared.op.Read.{Read}
use Rattle.gb_terms.specs.declared.op.Read.TheVariants.{Logical, Program}
use Rattle.gb_terms.specs.declared.term.Term.{Term, Term', Row_of-Term, end_of-Term, more_of-Term, end_of-Head, more_of-Head}
use Rattle.gb_terms.specs.declared.term.Head.{Head}
use Rattle.gb_terms.specs.declared.term.Instr.{Instr, Row_of-Instr, end_of-Instr, more_of-Instr}
use Rattle.gb_terms.specs.declared.term.Head.TheVariants as head
use Rattle.gb_terms.specs.declared.term.Head.TheVariants.{Assign, Sample, Call', If', While'}
use Rattle.gb_meaning.specs.Names.{Name, Path, path_order}
use Rattle.gb_meaning.specs.Values.{Global, World}
use Rattle.gb_meaning.specs.Modules.{Procedures, Modules, Reading, module_at}

-- the place of a kind of variables
abbrev pub kind : Var → ℕ
kind (var.Global m x) = 0
kind (var.Local x) = 1
kind (var.Glob a) = 2

-- the names of a variable
abbrev pub path : Var → Path
path (var.Global m x) = m ∷ x ∷ []
path (var.Local x) = x ∷ []
path (var.Glob a) = a ∷ []

-- the order of variables: that of their kinds, then that of the bytes of their names
abbrev pub var_order : Var → Var → Ordering
var_order x y = ordering_then (nat_cmp (kind x) (kind y)) (path_order (path x) (path y))

-- x before the rest, in place of an equal thing, or further behind
abbrev pub placed : {A : Type 0} → Ordering → A → A → List A → List A → List A
placed Less x y ys further = x ∷ y ∷ ys
placed Equal x y ys further = y ∷ ys
placed Greater x y ys further = y ∷ further

-- a list in order without repetitions, and a further thing
abbrev pub inserted : {A : Type 0} → (A → A → Ordering) → A → List A → List A
inserted order x [] = x ∷ []
inserted order x (y ∷ ys) = placed (order x y) x y ys (inserted order x ys)

-- the things in order, each once
abbrev pub in_order : {A : Type 0} → (A → A → Ordering) → List A → List A
in_order order [] = []
in_order order (x ∷ xs) = inserted order x (in_order order xs)

-- the variables that are no locals
abbrev pub globals_among : List Var → List Var
globals_among [] = []
globals_among (var.Local x ∷ xs) = globals_among xs
globals_among (x ∷ xs) = x ∷ globals_among xs

-- the program variable of a read
abbrev pub read_variable : Read → List Var
read_variable (Logical i) = []
read_variable (Program x s) = x ∷ []

-- those that a head reads itself
abbrev pub head_variables : Head → List Var
head_variables (head.Read r) = read_variable r
head_variables _ = []

abbrev mutual
  -- the variables that an expression reads
  pub variables : Term → List Var
  variables (Term' b (more_of-Head h end_of-Head) n args ty) = head_variables h ++ variables_in args

  pub variables_in : {n : _} → Row_of-Term n → List Var
  variables_in end_of-Term = []
  variables_in (more_of-Term t r) = variables t ++ variables_in r

-- the footprint of a procedure, none where there is no such procedure
abbrev pub of_callee : Option (List Var) → List Var
of_callee None = []
of_callee (Some xs) = xs

abbrev mutual
  -- the variables that a statement reads or writes, and the footprints of the procedures that it calls
  pub touched : (ProcRef → Option (List Var)) → Instr → List Var
  touched callee (Assign xs e) = xs ++ variables e
  touched callee (Sample x d) = x ∷ variables d
  touched callee (Call' xs p n args) = xs ++ variables_in args ++ of_callee (callee p)
  touched callee (If' e n a m b) = variables e ++ touched_in callee a ++ touched_in callee b
  touched callee (While' e v n a) = variables e ++ variables v ++ touched_in callee a

  pub touched_in : {n : _} → (ProcRef → Option (List Var)) → Row_of-Instr n → List Var
  touched_in callee end_of-Instr = []
  touched_in callee (more_of-Instr i r) = touched callee i ++ touched_in callee r

-- those of a list of statements
abbrev pub body_touched : (ProcRef → Option (List Var)) → List Instr → List Var
body_touched callee [] = []
body_touched callee (i ∷ is) = touched callee i ++ body_touched callee is

-- the globals that a procedure reads or writes, through every procedure that it calls
abbrev pub footprint_read : Reading (List Var)
footprint_read callee p =
    in_order var_order (globals_among (body_touched callee p.body.list ++ variables p.value))

-- the footprints of all procedures, together
abbrev pub of_all : Procedures (List Var) → List Var
of_all [] = []
of_all (p ∷ ps) = p.1 ++ of_all ps

-- the module that a module expression applies
abbrev pub head_name : Mexp → Name
head_name (named m) = m
head_name (Apply' m n args) = m

-- What a module expression touches itself: an abstract module all of its program's globals, though none of its procedures may
-- reach them.
abbrev pub own_entry : (Name → Bool) → Mexp → List Var
own_entry abstract m = if abstract (head_name m) then var.Glob (head_name m) ∷ [] else []

-- The footprint of a module expression, where it is known which names are those of abstract modules. Procedures of its own open
-- parameters aren't counted, and an abstract module stands as one entry.
abbrev pub footprint : Modules (List Var) → (Name → Bool) → Mexp → List Var
footprint ms abstract m = in_order var_order (own_entry abstract m ++ of_all (module_at ms m []))

-- whether two globals are the same
abbrev pub is_global : Global → Global → Bool
is_global x y = bytes_eq x.parent y.parent && bytes_eq x.name y.name

-- whether an entry of a footprint stands for this global, where f gives the footprints of programs for abstract modules
abbrev pub stands_for : (Name → List Global) → Global → Var → Bool
stands_for f g (var.Global m x) = bytes_eq m g.parent && bytes_eq x g.name
stands_for f g (var.Local x) = false
stands_for f g (var.Glob a) = list_any (is_global g) (f a)

-- the globals that a footprint stands for, in the order of the world
abbrev pub footprint_globals : World → (Name → List Global) → List Var → List Global
footprint_globals w f xs = filter (λ g. list_any (stands_for f g) xs) w
