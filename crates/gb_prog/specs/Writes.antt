-- What programs write, as variables.
use Rattle.std.specs.Prelude.{◌≡◌, ◌⊎◌, Bool, true, false, List, [], ◌∷◌, ◌++◌, map, filter}
use Rattle.std.specs.List.{AllByRecursion}
use Rattle.gb_core.specs.declared.ty.Ty.{Ty}
use Rattle.gb_core.specs.declared.var.Var.{Var}
use Rattle.gb_meaning.specs.Memory.{Memory, read, write}
use Rattle.gb_meaning.specs.Names.{Path}
use Rattle.gb_meaning.specs.Program.{Program, Routine}
use Rattle.gb_meaning.specs.Program.Program.{done, assign, sample, branch, loop, call, ask}
use Rattle.gb_meaning.specs.Program.Routine.{routine}
use Rattle.gb_meaning.specs.Setting.{Setting}
use Rattle.gb_meaning.specs.Values.{Types}
use Rattle.gb_laws.specs.Cells.{Key, get_at}
use Rattle.gb_laws.specs.Cells.Key.{global}
use Rattle.gb_laws.specs.Writes.{Spares, Unwritten, UnwrittenBy}
use Rattle.gb_meaning.specs.Footprints.{globals_among}
use Rattle.gb_laws.specs.Finite.{IsFinite}
use Rattle.gb_typing.specs.Context.{Context, Frame}
use Rattle.gb_typing.specs.Typing.{IsIn}
use Rattle.gb_typing.specs.Puts.{clash}

abbrev mutual
  -- the variables that a program writes: its left sides, and the globals that the procedures write that it calls
  pub written : Program → List Var
  written done = []
  written (assign xs e c) = xs ++ written c
  written (sample x d c) = x ∷ written c
  written (branch e a b c) = written a ++ (written b ++ written c)
  written (loop e v a c) = written a ++ written c
  written (call xs r es c) = xs ++ (written_by r ++ written c)
  written (ask xs o es c) = written c

  -- the globals that a procedure writes
  pub written_by : Routine → List Var
  written_by (routine ps ls c r) = globals_among (written c)

-- a program that writes at the places of these variables alone
abbrev pub WritesWithin : Setting → List Var → Program → Type 0
WritesWithin g W c = (k : Key) → Spares g.types W k → Unwritten g c k

-- a procedure that writes at the places of these variables alone
abbrev pub RoutineWritesWithin : Setting → List Var → Routine → Type 0
RoutineWritesWithin g W r = (x : Path) → Spares g.types W (global x) → UnwrittenBy g r (global x)

-- all places of these variables are places of W
abbrev pub AreWithin : Types → List Var → List Var → Type 0
AreWithin t W xs = (k : Key) → Spares t W k → Spares t xs k

-- the memories hold the same but at the places of these variables
abbrev pub DifferIn : Types → List Var → Memory → Memory → Type 0
DifferIn t W m n = (k : Key) → Spares t W k → get_at n k ≡ get_at m k

-- a variable that clashes with none of these
abbrev pub IsApart : Setting → List Var → Var → Type 0
IsApart g W y = AllByRecursion (λ x. clash g x y ≡ false) W

-- a variable, and its type
pub record TypedVariable : Type 0 where
  pub variable : Var
  pub ty : Ty

abbrev pub variables : List TypedVariable → List Var
variables W = map (λ w. w.variable) W

-- a memory in which these variables have the values that another memory gives them; the first one is written last
abbrev pub overwritten : Types → List TypedVariable → Memory → Memory → Memory
overwritten t [] n m = m
overwritten t (w ∷ W) n m = write t (overwritten t W n m) w.variable (read t n w.variable w.ty)

-- variables of a memory with these locals, at their types, which are finite
abbrev pub AreIn : Context → Frame → List TypedVariable → Type 0
AreIn c f W = AllByRecursion (λ w. IsIn c f w.variable w.ty × IsFinite w.ty) W

-- x is one of these variables
abbrev pub IsOneOf : Var → List TypedVariable → Type 0
IsOneOf x [] = ⊥
IsOneOf x (w ∷ W) = (w.variable ≡ x) ⊎ IsOneOf x W

-- each variable that may be read is one of W, or clashes with none of U
abbrev pub Covers : Setting → (Var → Bool) → List Var → List TypedVariable → Type 0
Covers g P U W = (y : Var) → P y ≡ true → IsApart g U y ⊎ IsOneOf y W

-- those of the variables that may be read
abbrev pub read_among : (Var → Bool) → List TypedVariable → List TypedVariable
read_among P W = filter (λ w. P w.variable) W
