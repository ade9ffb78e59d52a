-- Open programs that are well typed and touch nothing outside their footprint.
use Rattle.std.specs.Prelude.{◌≡◌, ◌<◌, true, ◌&&◌, List, [], ◌∷◌, ◌++◌, Option, Some, None, if◌then◌else◌, option_map, bytes_eq}
use Rattle.gb_core.specs.declared.ty.Ty.{Ty, Row_of-Ty, end_of-Ty, more_of-Ty}
use Rattle.gb_core.specs.declared.ty.Ty.TheVariants as ty
use Rattle.gb_core.specs.declared.var.Var.{Var}
use Rattle.gb_core.specs.declared.var.Var.TheVariants as var
use Rattle.gb_terms.specs.declared.decl.TypedName.{TypedName}
use Rattle.gb_terms.specs.declared.op.Read.TheVariants as read
use Rattle.gb_terms.specs.declared.op.Side.TheVariants.{Own}
use Rattle.gb_terms.specs.declared.term.Term.{Term, Term', Row_of-Term, end_of-Term, more_of-Term, end_of-Head, more_of-Head}
use Rattle.gb_terms.specs.declared.term.Head.{Head}
use Rattle.gb_terms.specs.declared.term.Head.TheVariants as head
use Rattle.gb_dist.specs.WeightedList.{Every}
use Rattle.gb_meaning.specs.Names.{Name}
use Rattle.gb_meaning.specs.Values.{Global, Types, values, has}
use Rattle.gb_meaning.specs.Program.{Program, Routine, Oracle}
use Rattle.gb_meaning.specs.Program.Program.{done, assign, sample, branch, loop, call, ask}
use Rattle.gb_meaning.specs.Program.Routine.{routine}
use Rattle.gb_meaning.specs.Written.{type_of as written_type, local_type, IsModulo, params_of, result_type}
use Rattle.gb_meaning.specs.Setting.{Setting, Meaning}
use Rattle.gb_meaning.specs.Setting.Meaning.{finite}
use Rattle.gb_meaning.specs.State.{State}
use Rattle.gb_meaning.specs.Terms.{quiet, val, distribution}
use Rattle.gb_meaning.specs.Sound.{IsDistribution}
use Rattle.gb_meaning.specs.Declared.{Signature}
use Rattle.gb_meaning.specs.Globs.{IsGlobless}

-- what an open procedure may name: the globals of a footprint and its locals
pub record Names : Type 0 where
  pub globals : List Global
  pub locals : List TypedName

-- the type of a global
abbrev pub global_type : List Global → Name → Name → Option Ty
global_type [] m x = None
global_type (g ∷ gs) m x = if bytes_eq m g.parent && bytes_eq x g.name then Some g.ty else global_type gs m x

-- the type of a variable
abbrev pub type_of : Names → Var → Option Ty
type_of c (var.Global m x) = global_type c.globals m x
type_of c (var.Local x) = local_type c.locals x
type_of c (var.Glob a) = None

-- the types, if there are all
abbrev pub with_type : Option Ty → Option (List Ty) → Option (List Ty)
with_type (Some t) (Some ts) = Some (t ∷ ts)
with_type _ _ = None

-- the types of variables
abbrev pub types_of : Names → List Var → Option (List Ty)
types_of c [] = Some []
types_of c (x ∷ xs) = with_type (type_of c x) (types_of c xs)

-- a value of this type may be assigned to no variable, to one of this type, or to a tuple of variables
abbrev pub Takes : Names → List Var → Ty → Type 0
Takes c [] t = Unit {0}
Takes c (x ∷ []) t = type_of c x ≡ Some t
Takes c (x ∷ y ∷ xs) t = option_map ty.Tuple (types_of c (x ∷ y ∷ xs)) ≡ Some t

-- What may stand in an expression of a program: no judgment, no probability, and no quantifier over memories or modules; every
-- read is one of a variable at its type, in the memory of the program; and the type of a read, that of an operator's result and
-- that of what a quantifier binds speak of no module's globals. An adversary may so quantify and sum over values, also where the
-- language has no such expressions.
abbrev pub IsProgramHead : Names → Head → Ty → Type 0
IsProgramHead c (head.Lit v) t = Unit {0}
IsProgramHead c (head.Whole n) t = Unit {0}
IsProgramHead c (head.Read (read.Program x Own)) t = IsGlobless t × (type_of c x ≡ Some t)
IsProgramHead c (head.Bound i) t = Unit {0}
IsProgramHead c (head.Builtin op) t = IsGlobless t
IsProgramHead c (head.User n) t = Unit {0}
IsProgramHead c (head.All u) t = IsGlobless u
IsProgramHead c (head.Some u) t = IsGlobless u
IsProgramHead c head.Mu t = Unit {0}
IsProgramHead c (head.Sum q) t = Unit {0}
IsProgramHead c (head.Weights ps) t = Unit {0}
IsProgramHead c head.Map t = Unit {0}
IsProgramHead c head.Restrict t = Unit {0}
IsProgramHead c _ t = ⊥

-- an expression of a program
abbrev mutual
  pub IsExpression : Names → Term → Type 0
  IsExpression c (Term' b (more_of-Head h end_of-Head) n args t) = IsProgramHead c h t × AreExpressions c args

  pub AreExpressions : {n : _} → Names → Row_of-Term n → Type 0
  AreExpressions c end_of-Term = Unit {0}
  AreExpressions c (more_of-Term t r) = IsExpression c t × AreExpressions c r

-- the meaning is a value of the type
abbrev pub IsValueOf : Types → Ty → Meaning → Type 0
IsValueOf ts t (finite v) = has ts t v ≡ true
IsValueOf ts t _ = ⊥

-- a well-typed expression: in each state it has a value of its type, which speaks of no module's globals
abbrev pub IsTypedTerm : Setting → Names → Term → Type 0
IsTypedTerm g c e = IsExpression c e × ((s : State) → IsValueOf g.types (written_type e) (val g quiet e s)) × IsGlobless (written_type e)

-- a test
abbrev pub IsTest : Setting → Names → Term → Type 0
IsTest g c e = IsTypedTerm g c e × (written_type e ≡ ty.Bool)

-- a variant: a number below a bound that its type gives
abbrev pub IsVariant : Setting → Names → Term → Type 0
IsVariant g c v = IsTypedTerm g c v × IsModulo (written_type v)

-- a distribution of values for a variable of this type
abbrev pub IsDistributionOver : Setting → Names → Option Ty → Term → Type 0
IsDistributionOver g c None d = ⊥
IsDistributionOver g c (Some t) d =
    IsExpression c d × IsDistribution g d × (written_type d ≡ ty.Distr t) × ((s : State) → Every (λ v. has g.types t v ≡ true) (distribution g d s))

-- one argument for each parameter, of its type
abbrev pub AreArguments : Setting → Names → List Term → List TypedName → Type 0
AreArguments g c [] [] = Unit {0}
AreArguments g c (e ∷ es) (p ∷ ps) = IsTypedTerm g c e × (written_type e ≡ p.ty) × AreArguments g c es ps
AreArguments g c _ _ = ⊥

abbrev mutual
  -- A type of variables: no whole numbers, fractions or distributions, and no values of all globals of a module. Each
  -- modular type in it and each enumeration has a value.
  pub IsPlain : Ty → Type 0
  IsPlain (ty.Mod n) = 0 < n
  IsPlain (ty.Enumeration name n) = 0 < n
  IsPlain (ty.Tuple' n ts) = ArePlain ts
  IsPlain (ty.Opt' p x) = ArePlain x
  IsPlain (ty.Map' p k q x) = ArePlain k × ArePlain x
  IsPlain (ty.Glob a) = ⊥
  IsPlain (ty.Distr' p x) = ⊥
  IsPlain ty.Int = ⊥
  IsPlain ty.Real = ⊥
  IsPlain _ = Unit {0}

  pub ArePlain : {n : _} → Row_of-Ty n → Type 0
  ArePlain end_of-Ty = Unit {0}
  ArePlain (more_of-Ty t r) = IsPlain t × ArePlain r

-- a type of variables that has a value
abbrev pub IsVariableType : Types → Ty → Type 0
IsVariableType ts t = IsPlain t × (0 < (values ts t).size)

-- locals have types of variables
abbrev pub AreLocals : Types → List TypedName → Type 0
AreLocals ts [] = Unit {0}
AreLocals ts (l ∷ ls) = IsVariableType ts l.ty × AreLocals ts ls

-- a call with these arguments and this left side fits the signature of an oracle
abbrev pub FitsSignature : Setting → Names → Option Signature → List Var → List Term → Type 0
FitsSignature g c None xs es = ⊥
FitsSignature g c (Some s) xs es = AreArguments g c es s.params × Takes c xs s.result

abbrev mutual
  -- A well-typed open program, which names these variables alone and calls oracles by their signatures. The procedures
  -- that it carries name the same globals.
  pub IsTyped : Setting → (Oracle → Option Signature) → Names → Program → Type 0
  IsTyped g os n done = Unit {0}
  IsTyped g os n (assign xs e c) = IsTypedTerm g n e × Takes n xs (written_type e) × IsTyped g os n c
  IsTyped g os n (sample x d c) = IsDistributionOver g n (type_of n x) d × IsTyped g os n c
  IsTyped g os n (branch e a b c) = IsTest g n e × IsTyped g os n a × IsTyped g os n b × IsTyped g os n c
  IsTyped g os n (loop e v a c) = IsTest g n e × IsVariant g n v × IsTyped g os n a × IsTyped g os n c
  IsTyped g os n (call xs r es c) =
      IsTypedRoutine g os n.globals r × AreArguments g n es (params_of r) × Takes n xs (result_type r) × IsTyped g os n c
  IsTyped g os n (ask xs o es c) = FitsSignature g n (os o) xs es × IsTyped g os n c

  pub IsTypedRoutine : Setting → (Oracle → Option Signature) → List Global → Routine → Type 0
  IsTypedRoutine g os gs (routine ps ls c r) =
      AreLocals g.types (ps ++ ls) × IsTyped g os (record { globals = gs; locals = ps ++ ls }) c ×
      IsTypedTerm g (record { globals = gs; locals = ps ++ ls }) r
