-- The types at which variables are read.
use Rattle.std.specs.Prelude.{◌≡◌, ℕ, zero, suc, true, Option, Some, None}
use Rattle.gb_core.specs.declared.ty.Ty.{Ty}
use Rattle.gb_core.specs.declared.value.Value.{Value}
use Rattle.gb_core.specs.declared.var.Var.{Var}
use Rattle.gb_terms.specs.declared.op.Side.{Side}
use Rattle.gb_terms.specs.declared.op.Side.TheVariants.{Bound}
use Rattle.gb_terms.specs.declared.op.Read.{Read}
use Rattle.gb_terms.specs.declared.op.Read.TheVariants.{Logical, Program}
use Rattle.gb_meaning.specs.Values.{has}
use Rattle.gb_meaning.specs.Memory.{Memory, read}
use Rattle.gb_meaning.specs.Setting.{Setting}
use Rattle.gb_meaning.specs.Setting.Meaning.{finite}
use Rattle.gb_meaning.specs.State.{State}
use Rattle.gb_meaning.specs.Terms.{read_at}
use Rattle.gb_labels.specs.Memories.{IsReadable}

-- the types at which the variables of a memory are read, each at one at most
abbrev pub Variables : Type 0
Variables = Var → Option Ty

abbrev pub no_variables : Variables
no_variables x = None

-- the types at which logical variables are read, and the variables of each memory
pub record Reading : Type 0 where
  pub logical : ℕ → Option Ty
  pub memory : Side → Variables

-- the variable is read at this type
abbrev pub IsReadAt : Reading → Read → Ty → Type 0
IsReadAt T (Logical i) ty = T.logical i ≡ Some ty
IsReadAt T (Program x r) ty = T.memory r x ≡ Some ty

abbrev pub behind : Variables → (Side → Variables) → Side → Variables
behind f m (Bound zero) = f
behind f m (Bound (suc i)) = m (Bound i)
behind f m r = m r

-- the reading under one binder more, of a value or of a memory with these variables
abbrev pub inner : Variables → Reading → Reading
inner f T = record { logical = T.logical; memory = behind f T.memory }

-- memories give each of the variables all values of its type, and no others
abbrev pub AreHeld : Setting → Variables → Type 0
AreHeld g f = (x : Var) (ty : Ty) → f x ≡ Some ty → IsReadable g.types x ty × ((m : Memory) → has g.types ty (read g.types m x ty) ≡ true)

-- memories give the variables of each memory that a binder binds all values of their types
abbrev pub AreBoundReadable : Setting → Reading → Type 0
AreBoundReadable g T = (i : ℕ) (x : Var) (ty : Ty) → T.memory (Bound i) x ≡ Some ty → IsReadable g.types x ty

-- in the state each variable has a value of the type at which it is read
abbrev pub HasTypedValues : Setting → Reading → State → Type 0
HasTypedValues g T s = (r : Read) (ty : Ty) → IsReadAt T r ty → (v : Value) × (read_at g r ty s ≡ finite v) × (has g.types ty v ≡ true)

abbrev pub IsReadingOf : Setting → Reading → State → Type 0
IsReadingOf g T s = AreBoundReadable g T × HasTypedValues g T s
