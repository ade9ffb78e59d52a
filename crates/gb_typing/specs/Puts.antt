-- Terms that take the places of variables.
use Rattle.std.specs.Prelude.{◌≡◌, ◌⊎◌, Bool, true, false, ◌||◌}
use Rattle.std.specs.List.{list_any}
use Rattle.gb_core.specs.declared.ty.Ty.{Ty}
use Rattle.gb_core.specs.declared.value.Value.{Value}
use Rattle.gb_core.specs.declared.var.Var.{Var}
use Rattle.gb_core.specs.declared.var.Var.TheVariants as var
use Rattle.gb_terms.specs.declared.op.Side.{Side}
use Rattle.gb_terms.specs.declared.op.Read.{Read}
use Rattle.gb_terms.specs.declared.op.Read.TheVariants.{Program}
use Rattle.gb_terms.specs.declared.module.Mexp.TheVariants.{Name as named}
use Rattle.gb_terms.specs.declared.term.Term.{Term}
use Rattle.gb_terms.specs.Equal.{var_eq}
use Rattle.gb_walk.specs.Change.{is_own, is_left_or_right, is_read_through}
use Rattle.gb_meaning.specs.Memory.{Memory, read, write}
use Rattle.gb_meaning.specs.Meanings.{value_in}
use Rattle.gb_meaning.specs.Setting.{Setting}
use Rattle.gb_meaning.specs.State.{State}
use Rattle.gb_meaning.specs.Terms.{quiet, val}
use Rattle.gb_meaning.specs.Written.{type_of}
use Rattle.gb_laws.specs.Plain.{IsPlain}
use Rattle.gb_laws.specs.Uses.{Uses}
use Rattle.gb_laws.specs.Uses.Use.{read as read_of}
use Rattle.gb_laws.specs.Written.{IsSide, Written}
use Rattle.gb_laws.specs.Finite.{IsFinite}
use Rattle.gb_meaning.specs.Footprints.{stands_for}
use Rattle.gb_typing.specs.Context.{Frame, Context, frame_of, reframed}
use Rattle.gb_typing.specs.Typing.{IsIn, IsTyped}

-- the locals of the memories stay of which a replaced read is
abbrev pub Keeps : Read → Context → Frame → Frame → Frame → Type 0
Keeps r d f l k = (is_read_through is_own r ≡ true → f ≡ d.own) × (is_read_through is_left_or_right r ≡ true → (l ≡ d.left) × (k ≡ d.right))

-- A plain term of the variable's type. It is well typed also where judgments and probabilities bind memories, but where the
-- variable is of these itself.
pub record IsPutFor (c : Context) (x : Var) (r : Side) (t : Term) : Type 0 where
  pub side : IsSide r
  pub type : IsIn c (frame_of c r) x (type_of t)
  pub finite : IsFinite (type_of t)
  pub plain : IsPlain t
  pub typed : (f l k : Frame) → Keeps (Program x r) c f l k → IsTyped (reframed c f l k) t

-- typed terms in place of variables
abbrev pub IsTypedPut : Context → Written → Type 0
IsTypedPut c w = IsPutFor c w.variable w.side w.term

-- all globals of a module
abbrev pub IsWhole : Var → Type 0
IsWhole (var.Glob a) = Unit {0}
IsWhole _ = ⊥

-- whether a global stands for two variables, of which one is all globals of a module
abbrev pub share : Setting → Var → Var → Bool
share g (var.Glob a) y = list_any (λ z. stands_for (λ m. g.types.footprint (named m)) z y) (g.types.footprint (named a))
share g x (var.Glob b) = list_any (λ z. stands_for (λ m. g.types.footprint (named m)) z x) (g.types.footprint (named b))
share g x y = false

-- Two variables clash in a setting: they are the same, or a global stands for both.
abbrev pub clash : Setting → Var → Var → Bool
clash g x y = var_eq x y || share g x y

-- no write of x changes what is read of y
abbrev pub Leaves : Setting → Var → Var → Ty → Type 0
Leaves g x y t = (m : Memory) (v : Value) → read g.types (write g.types m x v) y t ≡ read g.types m y t

-- the variables that may be read in each memory
abbrev pub Readable : Type 0
Readable = Side → Var → Bool

abbrev pub every_variable : Readable
every_variable r x = true

-- every use, but of program variables those that may be read alone
abbrev pub reading : Readable → Uses
reading P (read_of (Program x r) t) = P r x
reading P u = true

-- Writes of x leave the other variables that may be read of a memory: of two of which one is all globals of a module, this isn't so
-- of itself.
abbrev pub Spares : Setting → Context → Frame → (Var → Bool) → Var → Type 0
Spares g c f P x = (y : Var) (t : Ty) → IsIn c f y t → P y ≡ true → (x ≡ y → ⊥) → IsWhole x ⊎ IsWhole y → Leaves g x y t

-- a typed term in place of a variable, with its value in a state, in forms that read these variables alone
pub record IsTypedWrite (P : Readable) (c : Context) (g : Setting) (s : State) (w : Written) : Type 0 where
  pub put : IsPutFor c w.variable w.side w.term
  pub spares : Spares g c (frame_of c w.side) (P w.side) w.variable
  pub value : w.value ≡ value_in (val g quiet w.term s)
