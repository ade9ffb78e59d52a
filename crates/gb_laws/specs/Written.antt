-- The state after a write in one of its memories.
use Rattle.std.specs.Prelude.{◌≡◌, true, false, List, [], ◌∷◌, map}
use Rattle.gb_core.specs.declared.ty.Ty.{Ty}
use Rattle.gb_core.specs.declared.var.Var.{Var}
use Rattle.gb_core.specs.declared.var.Var.TheVariants.{Glob}
use Rattle.gb_core.specs.declared.value.Value.{Value}
use Rattle.gb_terms.specs.declared.op.Side.{Side}
use Rattle.gb_terms.specs.declared.op.Side.TheVariants.{Own, Left, Right}
use Rattle.gb_terms.specs.declared.op.Read.TheVariants.{Program}
use Rattle.gb_terms.specs.declared.module.Mexp.{Mexp}
use Rattle.gb_terms.specs.declared.term.Term.{Term}
use Rattle.gb_walk.specs.declared.change.Change.TheVariants.{ToTerm}
use Rattle.gb_walk.specs.Change.{Changes}
use Rattle.gb_meaning.specs.Names.{Name}
use Rattle.gb_meaning.specs.Values.{has}
use Rattle.gb_meaning.specs.Memory.{Memory, write}
use Rattle.gb_meaning.specs.Setting.{Setting}
use Rattle.gb_meaning.specs.Setting.Meaning.{finite}
use Rattle.gb_meaning.specs.State.{State, memory_of}
use Rattle.gb_meaning.specs.Terms.{Speaks, val}
use Rattle.gb_laws.specs.Uses.{Uses}
use Rattle.gb_laws.specs.Uses.Use.{read, globals, starts}

-- the state with this memory as its own, its left or its right one
abbrev pub with_side : State → Side → Memory → State
with_side s Own m = record s { own = m }
with_side s Left m = record s { left = m }
with_side s Right m = record s { right = m }
with_side s r m = s

abbrev pub IsSide : Side → Type 0
IsSide Own = Unit {0}
IsSide Left = Unit {0}
IsSide Right = Unit {0}
IsSide _ = ⊥

-- a variable that is no module's globals
abbrev pub IsOne : Var → Type 0
IsOne (Glob a) = ⊥
IsOne _ = Unit {0}

-- The variable is read in this memory at types of the value alone, and the memory is not used as a whole.
pub record Suits (g : Setting) (K : Uses) (x : Var) (r : Side) (v : Value) : Type 0 where
  pub typed : (ty : Ty) → K (read (Program x r) ty) ≡ true → has g.types ty v ≡ true
  pub modules : (a : Name) (ty : Ty) → K (read (Program (Glob a) r) ty) ≡ false
  pub globals : (m : Mexp) → K (globals m r) ≡ false
  pub starts : K (starts r) ≡ false

-- a variable in a memory, the term that takes its place, and the term's value
pub record Written : Type 0 where
  pub variable : Var
  pub side : Side
  pub term : Term
  pub value : Value

-- all these terms in place of their variables, at once; where a variable stands twice, the first counts
abbrev pub written_changes : List Written → Changes
written_changes ws = map (λ w. ToTerm (Program w.variable w.side) w.term) ws

-- the state after all these writes, the first one last
abbrev pub all_written : Setting → State → List Written → State
all_written g s [] = s
all_written g s (w ∷ ws) =
    with_side (all_written g s ws) w.side (write g.types (memory_of (all_written g s ws) w.side) w.variable w.value)

-- the term has this value, which suits the variable
pub record IsWritten (g : Setting) (j : Speaks) (K : Uses) (s : State) (w : Written) : Type 0 where
  pub one : IsOne w.variable
  pub side : IsSide w.side
  pub means : val g j w.term s ≡ finite w.value
  pub suits : Suits g K w.variable w.side w.value
