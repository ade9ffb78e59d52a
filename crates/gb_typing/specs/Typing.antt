-- Well-typed and well-scoped terms and forms.
use Rattle.std.specs.Prelude.{◌≡◌, true, List, [], ◌∷◌, Option, Some, None}
use Rattle.std.specs.Option.{option_map}
use Rattle.gb_core.specs.declared.ty.Ty.{Ty}
use Rattle.gb_core.specs.declared.ty.Ty.TheVariants as ty
use Rattle.gb_core.specs.declared.var.Var.{Var}
use Rattle.gb_core.specs.declared.var.Var.TheVariants as var
use Rattle.gb_terms.specs.declared.decl.TypedName.{TypedName}
use Rattle.gb_terms.specs.declared.op.Read.TheVariants.{Logical, Program}
use Rattle.gb_terms.specs.declared.op.Side.{Side}
use Rattle.gb_terms.specs.declared.op.Side.TheVariants as side
use Rattle.gb_terms.specs.declared.term.Term.{Term, Term', Row_of-Term, end_of-Term, more_of-Term, end_of-Head, more_of-Head}
use Rattle.gb_terms.specs.declared.term.Head.{Head}
use Rattle.gb_terms.specs.declared.term.Head.TheVariants as head
use Rattle.gb_terms.specs.declared.term.Head.TheVariants.{Proc, Body'}
use Rattle.gb_terms.specs.declared.term.Subject.{Subject}
use Rattle.gb_meaning.specs.Memory.{result_name}
use Rattle.gb_meaning.specs.Operators.{outcome_type}
use Rattle.gb_meaning.specs.Written.{type_of}
use Rattle.gb_laws.specs.Typing.{types_of, IsHead}
use Rattle.gb_laws.specs.Typing.Binder.{value, index, memory, program}
use Rattle.gb_typing.specs.Modules.{ProcedureType}
use Rattle.gb_typing.specs.Context.{Frame, Context, procedure, erased, frame_of, local_in, with_own, with_sides, within}

-- there is such a memory
abbrev pub IsFrame : Frame → Type 0
IsFrame None = ⊥
IsFrame (Some ls) = Unit {0}

-- The variable stands in a memory with these locals, at this type. A module's globals are read together where they may be.
abbrev pub IsIn : Context → Frame → Var → Ty → Type 0
IsIn c f (var.Glob a) t = IsFrame f × (c.has_globals a ≡ true) × (t ≡ ty.Glob a)
IsIn c f (var.Global m x) t = IsFrame f × (c.global m x ≡ Some t)
IsIn c f (var.Local x) t = local_in f x ≡ Some t

-- a memory in which a probability may start: a named one, or a bound one
abbrev pub IsPlace : Side → Type 0
IsPlace (side.Memory i) = Unit {0}
IsPlace (side.Bound i) = Unit {0}
IsPlace _ = ⊥

abbrev pub IsThere : Option ProcedureType → Type 0
IsThere None = ⊥
IsThere (Some p) = Unit {0}

-- the type of the procedure that a judgment speaks of; judgments of bodies are goals, and stand in no form
abbrev pub procedure_in : Context → Subject → Option ProcedureType
procedure_in c (Proc p) = procedure c p
procedure_in c (Body' n is) = None

-- What a head names is there. Modules are quantified in front of formulas alone, and the globals of a module are read as one
-- variable.
abbrev pub IsNamed : Context → Head → Ty → Type 0
IsNamed c (head.Read (Logical i)) t = Unit {0}
IsNamed c (head.Read (Program x r)) t = IsIn c (frame_of c r) x t
IsNamed c (head.AllModule b) t = ⊥
IsNamed c (head.Pr p r) t = IsFrame (frame_of c r) × IsPlace r × IsThere (procedure c p)
IsNamed c (head.Glob m r) t = ⊥
IsNamed c (head.Hoare s) t = IsThere (procedure_in c s)
IsNamed c (head.Phoare s r) t = IsThere (procedure_in c s)
IsNamed c (head.Equiv s u) t = IsThere (procedure_in c s) × IsThere (procedure_in c u)
IsNamed c _ t = Unit {0}

-- what is read before a procedure: its parameters; and after it: its result
abbrev pub before : Option ProcedureType → Frame
before p = option_map (λ t. t.params) p

abbrev pub after : Option ProcedureType → Frame
after p = option_map (λ t. record { name = result_name; ty = t.result } ∷ []) p

-- The contexts of the first argument of a head, of those between, and of the last one. A memory that the head binds has these
-- locals. The arguments of a judgment are its precondition, its postcondition and its bound.
abbrev pub first : Context → Head → Context
first c (head.Hoare s) = with_own c (before (procedure_in c s))
first c (head.Phoare s r) = with_own c (before (procedure_in c s))
first c (head.Equiv s u) = with_sides c (before (procedure_in c s)) (before (procedure_in c u))
first c h = c

abbrev pub middle : Context → Head → Context
middle c (head.Hoare s) = with_own c (after (procedure_in c s))
middle c (head.Phoare s r) = with_own c (after (procedure_in c s))
middle c (head.Equiv s u) = with_sides c (after (procedure_in c s)) (after (procedure_in c u))
middle c h = c

abbrev pub last : Context → List TypedName → Head → List Ty → Context
last c ls (head.All u) ts = within c (value u) None
last c ls (head.Some u) ts = within c (value u) None
last c ls head.AllMemory ts = within c memory (Some ls)
last c ls head.SomeMemory ts = within c memory (Some ls)
last c ls (head.AllModule b) ts = within c program None
last c ls (head.Sum q) ts = within c (index q) None
last c ls head.Mu (d ∷ ts) = within c (value (outcome_type d)) None
last c ls head.Map (d ∷ ts) = within c (value (outcome_type d)) None
last c ls head.Restrict (d ∷ ts) = within c (value (outcome_type d)) None
last c ls (head.Pr p r) ts = with_own c (after (procedure c p))
last c ls (head.Hoare s) ts = with_own c (after (procedure_in c s))
last c ls (head.Phoare s r) ts = with_own c None
last c ls (head.Equiv s u) ts = with_sides c (after (procedure_in c s)) (after (procedure_in c u))
last c ls h ts = c

abbrev mutual
  -- Each node has the type that its head gives it with the types of its arguments, and names what is there, for some locals
  -- of each memory that is bound in the term.
  pub IsTyped : Context → Term → Type 0
  IsTyped c (Term' b (more_of-Head h end_of-Head) n ts t) =
      IsHead (erased c) h (types_of ts) t × IsNamed c h t × (ls : List TypedName) × AreTyped (first c h) (middle c h) (last c ls h (types_of ts)) ts

  -- arguments: the first, those between, and the last, each in its context
  pub AreTyped : {n : _} → Context → Context → Context → Row_of-Term n → Type 0
  AreTyped a b d end_of-Term = Unit {0}
  AreTyped a b d (more_of-Term t end_of-Term) = IsTyped d t
  AreTyped a b d (more_of-Term t (more_of-Term u ts)) = IsTyped a t × AreTyped b b d (more_of-Term u ts)

-- The same of lists.
abbrev pub AllTyped : Context → Context → Context → List Term → Type 0
AllTyped a b d [] = Unit {0}
AllTyped a b d (t ∷ []) = IsTyped d t
AllTyped a b d (t ∷ u ∷ ts) = IsTyped a t × AllTyped b b d (u ∷ ts)

-- a form: a term of type `bool`
pub record IsForm (c : Context) (f : Term) : Type 0 where
  pub typed : IsTyped c f
  pub truth : type_of f ≡ ty.Bool
