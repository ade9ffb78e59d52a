-- Well-typed terms.
use Rattle.std.specs.Prelude.{◌≡◌, ℕ, ◌<◌, ◌≤◌, true, List, [], ◌∷◌, ◌++◌, Option, Some, None, get_or}
use Rattle.gb_core.specs.declared.ty.Ty.{Ty}
use Rattle.gb_core.specs.declared.ty.Ty.TheVariants as ty
use Rattle.gb_core.specs.declared.value.Value.{Value}
use Rattle.gb_core.specs.declared.var.Var.TheVariants as var
use Rattle.gb_core.specs.Types.{numbering, is_finite}
use Rattle.gb_terms.specs.declared.module.Mexp.{Mexp}
use Rattle.gb_terms.specs.declared.module.Mexp.TheVariants.{Name as named}
use Rattle.gb_terms.specs.declared.module.ProcRef.{ProcRef}
use Rattle.gb_terms.specs.declared.op.Read.{Read}
use Rattle.gb_terms.specs.declared.op.Read.TheVariants.{Logical, Program}
use Rattle.gb_terms.specs.declared.op.Side.{Side}
use Rattle.gb_terms.specs.declared.op.Side.TheVariants as side
use Rattle.gb_terms.specs.declared.term.Pair.{Pair}
use Rattle.gb_terms.specs.declared.term.Term.{Term, Term', Row_of-Term, end_of-Term, more_of-Term, end_of-Head, more_of-Head}
use Rattle.gb_terms.specs.declared.term.Head.{Head}
use Rattle.gb_terms.specs.declared.term.Head.TheVariants as head
use Rattle.gb_meaning.specs.Names.{Name}
use Rattle.gb_meaning.specs.Operators.{outcome_type}
use Rattle.gb_meaning.specs.Drawn.{has_weights}
use Rattle.gb_meaning.specs.Trees.{distributions}
use Rattle.gb_meaning.specs.Written.{type_of}
use Rattle.gb_laws.specs.Finite.{IsFinite}
use Rattle.gb_laws.specs.Operators.{Are, IsNoDistribution, IsDistributionType, IsOperator}

-- the types of the parameters of an operator of the script, and that of its result
pub record OperatorType : Type 0 where
  pub params : List Ty
  pub result : Ty

-- What a binder binds: a value of a type; a number below a bound, of any type `int[n]` that holds the bound; a memory; or
-- a module.
pub data Binder : Type 0 where
  value : Ty → Binder
  index : ℕ → Binder
  memory : Binder
  program : Binder

-- What the names in a term have as types: logical variables by their places, globals, operators of the script, and the
-- parameters of procedures; how many named memories there are; and what the binders around bind, the innermost first.
pub record Context : Type 0 where
  pub logical : ℕ → Option Ty
  pub global : Name → Name → Option Ty
  pub operator : Name → Option OperatorType
  pub parameters : ProcRef → Option (List Ty)
  pub memories : ℕ
  pub bound : List Binder

abbrev pub types_of : {n : _} → Row_of-Term n → List Ty
types_of end_of-Term = []
types_of (more_of-Term t ts) = type_of t ∷ types_of ts

-- a literal of a type with values of its own
abbrev pub IsLiteral : Ty → Value → Type 0
IsLiteral t v = (is_finite t ≡ true) × ((numbering t).has v ≡ true)

abbrev pub AreLiterals : Ty → List Pair → Type 0
AreLiterals t [] = Unit {0}
AreLiterals t (p ∷ ps) = IsLiteral t p.value × AreLiterals t ps

-- what a binder binds may be read at this type
abbrev pub IsBoundAt : Binder → Ty → Type 0
IsBoundAt (value u) t = IsNoDistribution t × (u ≡ t)
IsBoundAt (index q) (ty.Mod n) = q ≤ n
IsBoundAt _ t = ⊥

abbrev pub IsMemory : Binder → Type 0
IsMemory memory = Unit {0}
IsMemory _ = ⊥

-- what the binder that has so many binders inside of it binds
abbrev pub binder : Context → ℕ → Binder
binder c i = get_or c.bound i program

-- there is such a memory
abbrev pub IsSide : Context → Side → Type 0
IsSide c (side.Memory i) = i < c.memories
IsSide c (side.Bound i) = IsMemory (binder c i)
IsSide c _ = Unit {0}

-- A read has the type of what it reads. A local has a type of variables, which its procedure gives.
abbrev pub IsRead : Context → Read → Ty → Type 0
IsRead c (Logical i) t = IsFinite t × (c.logical i ≡ Some t)
IsRead c (Program (var.Global m x) r) t = IsSide c r × IsFinite t × (c.global m x ≡ Some t)
IsRead c (Program (var.Local x) r) t = IsSide c r × IsFinite t
IsRead c (Program (var.Glob a) r) t = IsSide c r × (t ≡ ty.Glob a)

-- `glob A` of an abstract module
abbrev pub IsGlob : Mexp → Ty → Type 0
IsGlob (named a) t = t ≡ ty.Glob a
IsGlob _ t = ⊥

-- the arguments of a procedure, and an event
abbrev pub IsProbability : Option (List Ty) → List Ty → Type 0
IsProbability (Some ps) ts = ts ≡ ps ++ ty.Bool ∷ []
IsProbability None ts = ⊥

-- The types of a head: those of its arguments, and that of the term.
abbrev pub IsHead : Context → Head → List Ty → Ty → Type 0
IsHead c (head.Lit v) [] t = IsLiteral t v
IsHead c (head.Whole n) [] t = t ≡ ty.Int
IsHead c (head.Read r) [] t = IsRead c r t
IsHead c (head.Bound i) [] t = IsBoundAt (binder c i) t
IsHead c (head.Builtin o) ts t = IsOperator o ts t
IsHead c (head.User n) ts t = c.operator n ≡ Some (record { params = ts; result = t })
IsHead c (head.All u) (a ∷ []) t = IsFinite u × Are (a ∷ t ∷ []) ty.Bool
IsHead c (head.Some u) (a ∷ []) t = IsFinite u × Are (a ∷ t ∷ []) ty.Bool
IsHead c head.AllMemory (a ∷ []) t = Are (a ∷ t ∷ []) ty.Bool
IsHead c head.SomeMemory (a ∷ []) t = Are (a ∷ t ∷ []) ty.Bool
IsHead c (head.AllModule b) (a ∷ []) t = Are (a ∷ t ∷ []) ty.Bool
IsHead c head.Mu (d ∷ a ∷ []) t = IsDistributionType d × (a ≡ ty.Bool) × (t ≡ ty.Real)
IsHead c (head.Sum q) (a ∷ []) t = (0 < q) × Are (a ∷ t ∷ []) ty.Real
IsHead c (head.Weights ps) [] t = IsDistributionType t × AreLiterals (outcome_type t) ps × (has_weights ps ≡ true)
IsHead c head.Map (d ∷ a ∷ []) t = IsDistributionType d × IsFinite a × (t ≡ distributions a)
IsHead c head.Restrict (d ∷ a ∷ []) t = IsDistributionType t × (d ≡ t) × (a ≡ ty.Bool)
IsHead c (head.Pr p r) ts t = IsProbability (c.parameters p) ts × IsSide c r × (t ≡ ty.Real)
IsHead c (head.Glob m r) [] t = IsSide c r × IsGlob m t
IsHead c (head.Hoare b) (p ∷ q ∷ []) t = Are (p ∷ q ∷ t ∷ []) ty.Bool
IsHead c (head.Phoare b r) (p ∷ q ∷ x ∷ []) t = Are (p ∷ q ∷ t ∷ []) ty.Bool × (x ≡ ty.Real)
IsHead c (head.Equiv a b) (p ∷ q ∷ []) t = Are (p ∷ q ∷ t ∷ []) ty.Bool
IsHead c _ ts t = ⊥

-- what a head binds in its last argument, if it is a binder
abbrev pub bound_by : Head → List Ty → List Binder
bound_by (head.All u) ts = value u ∷ []
bound_by (head.Some u) ts = value u ∷ []
bound_by head.AllMemory ts = memory ∷ []
bound_by head.SomeMemory ts = memory ∷ []
bound_by (head.AllModule b) ts = program ∷ []
bound_by (head.Sum q) ts = index q ∷ []
bound_by head.Mu (d ∷ ts) = value (outcome_type d) ∷ []
bound_by head.Map (d ∷ ts) = value (outcome_type d) ∷ []
bound_by head.Restrict (d ∷ ts) = value (outcome_type d) ∷ []
bound_by _ ts = []

-- the context of a head's last argument
abbrev pub inner : Context → Head → List Ty → Context
inner c h ts = record c { bound = bound_by h ts ++ c.bound }

abbrev mutual
  -- Each node has the type that its head gives it with the types of its arguments. Of a judgment only the conditions are
  -- looked at.
  pub IsTyped : Context → Term → Type 0
  IsTyped c (Term' b (more_of-Head h end_of-Head) n ts t) = IsHead c h (types_of ts) t × AreTyped c (inner c h (types_of ts)) ts

  -- arguments, the last of which has a context of its own
  pub AreTyped : {n : _} → Context → Context → Row_of-Term n → Type 0
  AreTyped c d end_of-Term = Unit {0}
  AreTyped c d (more_of-Term t end_of-Term) = IsTyped d t
  AreTyped c d (more_of-Term t (more_of-Term u ts)) = IsTyped c t × AreTyped c d (more_of-Term u ts)

-- The same of lists: arguments, the last of which has a context of its own.
abbrev pub AllTyped : Context → Context → List Term → Type 0
AllTyped c d [] = Unit {0}
AllTyped c d (t ∷ []) = IsTyped d t
AllTyped c d (t ∷ u ∷ ts) = IsTyped c t × AllTyped c d (u ∷ ts)
