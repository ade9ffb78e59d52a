-- What the names in a term, a form and a program stand for.
use Rattle.std.specs.Prelude.{ℕ, Bool, false, List, [], ◌∷◌, length, map, get_or, Option, Some, None}
use Rattle.std.specs.Option.{option_map}
use Rattle.gb_core.specs.declared.ty.Ty.{Ty}
use Rattle.gb_terms.specs.declared.decl.TypedName.{TypedName}
use Rattle.gb_terms.specs.declared.module.ProcRef.{ProcRef}
use Rattle.gb_terms.specs.declared.op.Side.{Side}
use Rattle.gb_terms.specs.declared.op.Side.TheVariants as side
use Rattle.gb_meaning.specs.Names.{Name}
use Rattle.gb_meaning.specs.Written.{local_type}
use Rattle.gb_laws.specs.Typing.{OperatorType, Binder}
use Rattle.gb_laws.specs.Typing as typed
use Rattle.gb_typing.specs.Modules.{ProcedureType, Modules, procedure_type}

-- the locals of a memory, if there is such a memory
abbrev pub Frame : Type 0
Frame = Option (List TypedName)

-- The types of logical variables by their places, of globals and of operators of the script; the modules, and of which
-- modules all globals may be read together; the locals of the own memory, the left and the right one, and of the named
-- memories; what the binders around bind, and the locals of the memories among it, the innermost first.
pub record Context : Type 0 where
  pub logical : ℕ → Option Ty
  pub global : Name → Name → Option Ty
  pub operator : Name → Option OperatorType
  pub modules : Modules
  pub has_globals : Name → Bool
  pub own : Frame
  pub left : Frame
  pub right : Frame
  pub named : List Frame
  pub bound : List Binder
  pub frames : List Frame

-- the type of a procedure
abbrev pub procedure : Context → ProcRef → Option ProcedureType
procedure c p = procedure_type c.modules p

-- the context, as far as the types of terms go
abbrev pub erased : Context → typed.Context
erased c = record {
  logical = c.logical;
  global = c.global;
  operator = c.operator;
  parameters = λ p. option_map (λ t. map (λ x. x.ty) t.params) (procedure c p);
  memories = length c.named;
  bound = c.bound;
}

-- the locals of a memory
abbrev pub frame_of : Context → Side → Frame
frame_of c side.Own = c.own
frame_of c side.Left = c.left
frame_of c side.Right = c.right
frame_of c (side.Memory i) = get_or c.named i None
frame_of c (side.Bound i) = get_or c.frames i None

-- the type of a local of a memory
abbrev pub local_in : Frame → Name → Option Ty
local_in None x = None
local_in (Some ls) x = local_type ls x

-- other locals of the own memory, of both sides
abbrev pub with_own : Context → Frame → Context
with_own c f = record c { own = f }

abbrev pub with_sides : Context → Frame → Frame → Context
with_sides c l r = record c { left = l; right = r }

-- other locals of the own memory and of both sides
abbrev pub reframed : Context → Frame → Frame → Frame → Context
reframed c f l r = record c { own = f; left = l; right = r }

-- one binder more; a memory that it binds has these locals
abbrev pub within : Context → Binder → Frame → Context
within c b f = record c { bound = b ∷ c.bound; frames = f ∷ c.frames }

abbrev pub no_module : Name → Bool
no_module a = false

-- The context of a program over these locals: it sees declarations and its own memory alone, each global by itself.
abbrev pub of_program : Context → List TypedName → Context
of_program c ls = record c {
  logical = λ i. None;
  has_globals = no_module;
  own = Some ls;
  left = None;
  right = None;
  named = [];
  bound = [];
  frames = [];
}
