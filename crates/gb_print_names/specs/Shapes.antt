-- Shapes of forms, by which operands get their brackets, and how operators are spelled.
use Rattle.std.specs.Prelude.{ℕ, ℤ, ◌==◌, Bool, true, false, not, if◌then◌else◌, List, [], pos, negsuc, nat_lt, codes}
use Rattle.gb_terms.specs.declared.op.Op.{Op}
use Rattle.gb_terms.specs.declared.op.Op.TheVariants as op
use Rattle.gb_terms.specs.declared.term.Term.{Term}
use Rattle.gb_terms.specs.declared.term.Head.{Head}
use Rattle.gb_terms.specs.declared.term.Head.TheVariants as head
use Rattle.gb_print_names.specs.declared.shape.Shape.{Shape}
use Rattle.gb_print_names.specs.declared.shape.Shape.TheVariants.{Atom, Postfix, Bounded, Application, Sum, Operation}

abbrev pub Piece : Type 0
Piece = List ℕ

-- how an operator is written: its shape, and what stands in front of its operands, between the first two, in front of further ones, and
-- behind the last one
pub record Spelling : Type 0 where
  pub shape : Shape
  pub opening : Piece
  pub second : Piece
  pub further : Piece
  pub closing : Piece

-- a word that stands by itself
abbrev pub alone : Piece → Spelling
alone w = record { shape = Atom; opening = w; second = []; further = []; closing = [] }

abbrev pub in_front : Piece → Spelling
in_front w = record { shape = Operation; opening = w; second = []; further = []; closing = [] }

abbrev pub in_between : Piece → Spelling
in_between w = record { shape = Operation; opening = []; second = w; further = []; closing = [] }

abbrev pub behind : Piece → Spelling
behind w = record { shape = Postfix; opening = []; second = []; further = []; closing = w }

-- a name in front of its arguments
abbrev pub applied : Piece → Spelling
applied w = record { shape = Application; opening = w; second = codes " "; further = []; closing = [] }

abbrev pub spelling : Op → Spelling
spelling op.Not = in_front (codes "!")
spelling op.And = in_between (codes " /\\ ")
spelling op.Or = in_between (codes " \\/ ")
spelling op.Implies = in_between (codes " => ")
spelling op.Iff = in_between (codes " <=> ")
spelling op.Equal = in_between (codes " = ")
spelling op.NotEqual = in_between (codes " <> ")
spelling op.Less = in_between (codes " < ")
spelling op.AtMost = in_between (codes " <= ")
spelling op.Plus = in_between (codes " + ")
spelling op.Minus = in_between (codes " - ")
spelling op.Times = in_between (codes " * ")
spelling op.Negate = in_front (codes "-")
spelling op.Xor = record { shape = Sum; opening = []; second = codes " +^ "; further = []; closing = [] }
spelling op.Divide = in_between (codes " / ")
spelling op.ToReal = behind (codes "%r")
spelling op.Abs = record { shape = Atom; opening = codes "`|"; second = []; further = []; closing = codes "|" }
spelling op.If = record { shape = Operation; opening = []; second = codes " ? "; further = codes " : "; closing = [] }
spelling op.Tuple = record { shape = Atom; opening = codes "("; second = codes ", "; further = codes ", "; closing = codes ")" }
spelling (op.Part k) = behind (codes ".`")
spelling op.Some = applied (codes "Some ")
spelling op.None = alone (codes "None")
spelling op.Oget = applied (codes "oget ")
spelling op.Empty = alone (codes "empty")
spelling op.Get = record { shape = Postfix; opening = []; second = codes ".["; further = []; closing = codes "]" }
spelling op.Set = record { shape = Postfix; opening = []; second = codes ".["; further = codes " <- "; closing = codes "]" }
spelling op.InMap = in_between (codes " \\in ")
spelling op.InSupport = in_between (codes " \\in ")
spelling op.Mu1 = applied (codes "mu1 ")
spelling op.Coin = alone (codes "{0,1}")
spelling op.Uniform = alone (codes "uniform ")
spelling op.Dunit = applied (codes "dunit ")
spelling op.Product = in_between (codes " `*` ")

-- Shapes.

abbrev pub is_natural : ℤ → Bool
is_natural (pos n) = true
is_natural (negsuc n) = false

-- the shape of a form, by its head
abbrev pub shape : Head → Shape
shape (head.Whole n) = if is_natural n then Atom else Operation
shape (head.Builtin o) = (spelling o).shape
shape (head.User x) = Application
shape (head.All t) = Operation
shape (head.Some t) = Operation
shape head.AllMemory = Operation
shape head.SomeMemory = Operation
shape (head.AllModule b) = Operation
shape head.Mu = Application
shape (head.Sum q) = Application
shape head.Map = Application
shape head.Restrict = Application
shape (head.Phoare c r) = Bounded
shape _ = Atom

-- A form of this shape and these arguments needs no brackets as an operand. An application without arguments is a name.
abbrev pub stands_alone : Shape → List Term → Bool
stands_alone Atom ts = true
stands_alone Postfix ts = true
stands_alone Bounded ts = true
stands_alone Application [] = true
stands_alone _ ts = false

-- an argument that stands in brackets or bars of the form
abbrev pub encloses : Shape → ℕ → Bool
encloses Atom i = true
encloses Postfix i = not (i == 0)
encloses Bounded i = nat_lt i 2
encloses _ i = false

-- The bound of a judgment is a sum, to which further arguments behind it or a `+^` would belong.
abbrev pub runs_on : Shape → ℕ → Shape → Bool
runs_on Application i Bounded = true
runs_on Sum i Bounded = i == 0
runs_on _ i _ = false
