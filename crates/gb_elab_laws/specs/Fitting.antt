-- Contexts that fit environments, and what typing gives in them.
use Rattle.std.specs.Prelude.{◌≡◌, ◌<◌, ℕ, length, Bool, true, false, List, [], ◌∷◌, map, Option, Some, None, is_none, is_some}
use Rattle.gb_core.specs.declared.ty.Ty.{Ty, Row_of-Ty, end_of-Ty, more_of-Ty}
use Rattle.gb_core.specs.declared.ty.Ty.TheVariants as ty
use Rattle.gb_terms.specs.declared.decl.Module.{Module}
use Rattle.gb_terms.specs.declared.decl.TypedName.{TypedName}
use Rattle.gb_terms.specs.declared.module.ProcRef.{ProcRef}
use Rattle.gb_terms.specs.declared.op.Side.TheVariants as side
use Rattle.gb_terms.specs.declared.term.Term.{Term}
use Rattle.gb_core.specs.declared.value.Value.TheVariants.{Num}
use Rattle.gb_goal.specs.declared.scope.Constant.{Constant}
use Rattle.gb_goal.specs.declared.scope.OperatorType.{OperatorType as DeclaredOperator}
use Rattle.gb_goal.specs.Interfaces.{procedure_type}
use Rattle.gb_goal.specs.Scope.{Declarations, abstract_of, constant_named, module_of, operator_named, type_named}
use Rattle.gb_meaning.specs.Names.{Name}
use Rattle.gb_meaning.specs.Written.{type_of, local_type}
use Rattle.gb_laws.specs.Plain.{IsPlain}
use Rattle.gb_meaning.specs.Naming.{AnyName}
use Rattle.gb_typing.specs.Naming.{TermNames}
use Rattle.gb_laws.specs.Finite.{IsVariableType}
use Rattle.gb_laws.specs.Operators.{item}
use Rattle.gb_laws.specs.Typing.{Binder, OperatorType, binder, IsBoundAt, IsLiteral, IsMemory}
use Rattle.gb_typing.specs.Modules.{ProcedureType}
use Rattle.gb_typing.specs.Context.{Frame, Context, erased, frame_of, procedure, local_in}
use Rattle.gb_typing.specs.Typing.{IsFrame, IsTyped}
use Rattle.gb_typing.specs.Programs.{HaveVariableTypes}
use Rattle.gb_typing.specs.Scopes.{AreMeasured}
use Rattle.gb_names.specs.declared.bindings.Binding.{Binding}
use Rattle.gb_names.specs.declared.bindings.Kind.{Kind}
use Rattle.gb_names.specs.declared.bindings.Kind.TheVariants.{Value, Memory}
use Rattle.gb_names.specs.declared.setting.Language.{Language}
use Rattle.gb_names.specs.declared.setting.Language.TheVariants.{Operator}
use Rattle.gb_names.specs.declared.setting.Variables.{Variables}
use Rattle.gb_names.specs.declared.setting.Variables.TheVariants.{Absent, Own, Sides}
use Rattle.gb_names.specs.Environment.{Environment, sides_of}
use Rattle.gb_names.specs.Allowed.{has_judgments}
use Rattle.gb_names.specs.Locals.{goal_read_type}
use Rattle.gb_names.specs.Names.{first_named, has_memories}

-- whether the globals of modules may be read in a form
abbrev pub reads_globals : Language → Bool
reads_globals Operator = false
reads_globals _ = true

-- Whose globals may stand together in types and forms is said by a test of the names of modules: those of none, and of each.
abbrev pub of_no_module : Name → Bool
of_no_module n = false

abbrev pub of_each_module : Name → Bool
of_each_module n = true

-- the names of modules whose globals may stand
abbrev pub Allows : (Name → Bool) → Name → Type 0
Allows globs n = globs n ≡ true

abbrev mutual
  -- a type of values, in which types of the globals of modules may stand
  pub IsFiniteIn : (Name → Bool) → Ty → Type 0
  IsFiniteIn globs ty.Unit = Unit {0}
  IsFiniteIn globs ty.Bool = Unit {0}
  IsFiniteIn globs (ty.Bits n) = Unit {0}
  IsFiniteIn globs (ty.Mod n) = 0 < n
  IsFiniteIn globs (ty.Enumeration name n) = 0 < n
  IsFiniteIn globs (ty.Tuple' n ts) = AreFiniteIn globs ts
  IsFiniteIn globs (ty.Opt' p x) = AreFiniteIn globs x
  IsFiniteIn globs (ty.Map' p k q x) = AreFiniteIn globs k × AreFiniteIn globs x
  IsFiniteIn globs (ty.Abstract name) = Unit {0}
  IsFiniteIn globs (ty.Glob name) = globs name ≡ true
  IsFiniteIn globs (ty.Distr' p x) = ⊥
  IsFiniteIn globs ty.Int = ⊥
  IsFiniteIn globs ty.Real = ⊥

  pub AreFiniteIn : {n : _} → (Name → Bool) → Row_of-Ty n → Type 0
  AreFiniteIn globs end_of-Ty = Unit {0}
  AreFiniteIn globs (more_of-Ty t r) = IsFiniteIn globs t × AreFiniteIn globs r

-- a type that a form may have: of values, of numbers, or of distributions over values
abbrev pub IsFormType : (Name → Bool) → Ty → Type 0
IsFormType globs ty.Int = Unit {0}
IsFormType globs ty.Real = Unit {0}
IsFormType globs (ty.Distr' p x) = AreFiniteIn globs x
IsFormType globs t = IsFiniteIn globs t

-- where a type is wanted, it is one that a form may have
abbrev pub IsFormTypeIf : (Name → Bool) → Option Ty → Type 0
IsFormTypeIf globs None = Unit {0}
IsFormTypeIf globs (Some t) = IsFormType globs t

-- A name is bound to a memory, or to what is read at its type: a value, or a number below a bound.
abbrev pub IsBoundTo : (Name → Bool) → Binder → Kind → Type 0
IsBoundTo globs b (Value t) = IsBoundAt b t × IsFormType globs t
IsBoundTo globs b Memory = IsMemory b

abbrev pub IsBoundName : (Name → Bool) → Binder → Binding → Type 0
IsBoundName globs b v = IsBoundTo globs b v.kind

-- one binder for each bound name
abbrev pub AreBound : (Name → Bool) → List Binder → List Binding → Type 0
AreBound globs [] [] = Unit {0}
AreBound globs (b ∷ bs) (v ∷ vs) = IsBoundName globs b v × AreBound globs bs vs
AreBound globs _ _ = ⊥

-- all types are of values
abbrev pub AllFiniteIn : (Name → Bool) → List TypedName → Type 0
AllFiniteIn globs [] = Unit {0}
AllFiniteIn globs (v ∷ vs) = IsFiniteIn globs v.ty × AllFiniteIn globs vs

-- Variables that are read in a memory: there each name is a local of the same type, and all types are of values.
pub record AreIn (globs : Name → Bool) (f : Frame) (vs : List TypedName) : Type 0 where
  pub memory : IsFrame f
  pub there : (x : Name) (t : Ty) → local_type vs x ≡ Some t → local_in f x ≡ Some t
  pub finite : AllFiniteIn globs vs

-- The program variables of an environment are read in the memories of a context. Where globals aren't read there are none.
abbrev pub AreReadable : (Name → Bool) → Bool → Context → Variables → Type 0
AreReadable globs reads c Absent = Unit {0}
AreReadable globs reads c (Own vs) = (reads ≡ true) × AreIn globs c.own vs
AreReadable globs reads c (Sides ls rs) = (reads ≡ true) × AreIn globs c.left ls × AreIn globs c.right rs

-- the type of a procedure, whose parameters and result are of types of variables
pub record IsTypeOf (t : Option ProcedureType) (f : ProcedureType) : Type 0 where
  pub there : t ≡ Some f
  pub params : HaveVariableTypes f.params
  pub result : IsVariableType f.result

-- the names of types stand for types of values
abbrev pub AreTypes : Declarations → Type 0
AreTypes ds = (n : Name) (t : Ty) → type_named ds n ≡ Some t → IsVariableType t

-- the constants of enumerations are values of their types
abbrev pub AreConstants : Declarations → Type 0
AreConstants ds = (n : Name) (k : Constant) → constant_named ds n ≡ Some k → IsVariableType k.ty × IsLiteral k.ty (Num k.number)

-- An operator of the script stands with its types: it takes values and numbers, and in the type of what it gives there are no
-- globals of modules.
pub record IsUsable (t : Option OperatorType) (o : DeclaredOperator) : Type 0 where
  pub there : t ≡ Some (record { params = o.params; result = o.result })
  pub params : AreMeasured o.params
  pub result : IsFormType of_no_module o.result

-- what declared names stand for, where these operators stand
pub record AreDeclared (operators : Name → Option OperatorType) (ds : Declarations) : Type 0 where
  pub types : AreTypes ds
  pub constants : AreConstants ds
  pub usable : (n : Name) (o : DeclaredOperator) → operator_named ds n ≡ Some o → IsUsable (operators n) o

-- the globals of a module stand under its name with their types, which are of variables
abbrev pub HasGlobals : (Name → Name → Option Ty) → Name → Module → Type 0
HasGlobals globals n m = (x : Name) (v : TypedName) → first_named m.globals x ≡ Some v → (globals n v.name ≡ Some v.ty) × IsVariableType v.ty

-- so do those of the module around
abbrev pub HasGlobalsIf : (Name → Name → Option Ty) → Option Module → Type 0
HasGlobalsIf globals None = Unit {0}
HasGlobalsIf globals (Some m) = HasGlobals globals m.name m

-- the globals of each abstract module that is declared may stand together
abbrev pub MayStand : (Name → Bool) → Declarations → Type 0
MayStand globs ds = (a : Name) → is_some (abstract_of ds a) ≡ true → globs a ≡ true

-- A context that fits an environment, under bound names: what the environment gives a name stands there, at types of values; what
-- is bound, at types of forms; what is declared stands with its types, and so do the globals of the module around; where globals may
-- be read, those of each declared module do; where judgments may stand, which is outside of modules, each procedure that is known by
-- declarations does, also one of a module with modules for its parameters; and where named memories may be read, as they may on two
-- programs, each memory of the sequent, with the locals that the sequent reads in it, and each that is bound does, and all globals of an
-- abstract module that is declared may be read together. It is told of which modules they may.
pub record IsFitting (globs : Name → Bool) (c : Context) (at : Environment) (vs : List Binding) : Type 0 where
  pub logical : (i : ℕ) → c.logical i ≡ item (map (λ x. x.ty) at.sequent.logical) i
  pub values : AllFiniteIn globs at.sequent.logical
  pub bound : AreBound globs c.bound vs
  pub variables : AreReadable globs (reads_globals at.language) c at.variables
  pub declared : AreDeclared c.operator at.declared
  pub around : HasGlobalsIf c.global at.inside
  pub globals : reads_globals at.language ≡ true → (n : Name) (m : Module) → module_of at.declared n ≡ Some m → HasGlobals c.global n m
  pub outside : has_judgments at.language ≡ true → at.inside ≡ None
  pub procedures : has_judgments at.language ≡ true → (p : ProcRef) (f : ProcedureType) → procedure_type at.declared None p ≡ Some f → IsTypeOf (procedure c p) f
  pub memories : has_memories at.language ≡ true → (i : ℕ) → i < length at.sequent.memories → (i < length c.named) × IsFrame (frame_of c (side.Memory i))
  pub locals : has_memories at.language ≡ true → (i : ℕ) (x : Name) (t : Ty) → goal_read_type (side.Memory i) x at.sequent ≡ Some t →
      (local_in (frame_of c (side.Memory i)) x ≡ Some t) × IsFiniteIn globs t
  pub frames : has_memories at.language ≡ true → (i : ℕ) → IsMemory (binder (erased c) i) → IsFrame (frame_of c (side.Bound i))
  pub sides : is_none (sides_of at.variables side.Left) ≡ false → has_memories at.language ≡ true
  pub together : has_memories at.language ≡ true → (a : Name) → is_some (abstract_of at.declared a) ≡ true → c.has_globals a ≡ true
  pub stand : has_memories at.language ≡ true → MayStand globs at.declared

-- of the wanted type, where one is wanted
abbrev pub IsWanted : Option Ty → Ty → Type 0
IsWanted None t = Unit {0}
IsWanted (Some w) t = t ≡ w

-- A well-typed term of a type that a form may have, which is the wanted one. Where the language has no judgments, it speaks of
-- no procedure; and of all globals of a module only where these may stand together.
pub record IsGiven (globs : Name → Bool) (c : Context) (l : Language) (w : Option Ty) (t : Term) : Type 0 where
  pub typed : IsTyped c t
  pub type : IsFormType globs (type_of t)
  pub wanted : IsWanted w (type_of t)
  pub plain : has_judgments l ≡ false → IsPlain t
  pub apart : TermNames (Allows globs) AnyName t
