-- What a term is read in.
use Rattle.std.specs.Prelude.{ℕ, List, [], ◌∷◌, get_or}
use Rattle.gb_terms.specs.declared.op.Side.{Side}
use Rattle.gb_terms.specs.declared.op.Side.TheVariants as side
use Rattle.gb_meaning.specs.Names.{empty}
use Rattle.gb_meaning.specs.Memory.{Memory}
use Rattle.gb_meaning.specs.Setting.{Meaning}
use Rattle.gb_meaning.specs.Meanings.{nothing}

-- what a binder binds; a module that a binder binds is no part of a state
pub data Binding : Type 0 where
  value : Meaning → Binding
  memory : Memory → Binding
  program : Binding

-- The values of logical variables and the named memories of the context, by their places; the memories of the judgment
-- or the event around; and what the binders around bind, the innermost first.
pub record State : Type 0 where
  pub logical : ℕ → Meaning
  pub named : ℕ → Memory
  pub own : Memory
  pub left : Memory
  pub right : Memory
  pub bound : List Binding

abbrev pub no_memory : Memory
no_memory = record { globals = empty; frame = empty }

abbrev pub meaning_in : Binding → Meaning
meaning_in (value x) = x
meaning_in _ = nothing

abbrev pub memory_in : Binding → Memory
memory_in (memory m) = m
memory_in _ = no_memory

-- the binding of the binder that has so many binders inside of it
abbrev pub binding : State → ℕ → Binding
binding s i = get_or s.bound i program

abbrev pub memory_of : State → Side → Memory
memory_of s side.Own = s.own
memory_of s side.Left = s.left
memory_of s side.Right = s.right
memory_of s (side.Memory i) = s.named i
memory_of s (side.Bound i) = memory_in (binding s i)

-- the state inside of one binder more
abbrev pub under : State → Binding → State
under s b = record s { bound = b ∷ s.bound }

-- the state with this memory as the own one
abbrev pub at : State → Memory → State
at s m = record s { own = m }

-- the state of a relation between two memories
abbrev pub between : State → Memory → Memory → State
between s m n = record s { left = m; right = n }

-- The state in which a program's terms are read: they see the memory that it runs in, and of the rest what the context
-- and the binders around give.
abbrev pub inside : State → Memory → State
inside s m = record s { own = m; left = m; right = m }

-- no context at all: what procedures run in
abbrev pub closed : State
closed = record {
  logical = λ i. nothing;
  named = λ i. no_memory;
  own = no_memory;
  left = no_memory;
  right = no_memory;
  bound = [];
}
