-- Well-typed programs, and memories that hold values of the types of variables.
use Rattle.std.specs.Prelude.{◌≡◌, true, List, [], ◌∷◌, ◌++◌, Option, Some, None}
use Rattle.gb_core.specs.declared.ty.Ty.{Ty}
use Rattle.gb_core.specs.declared.ty.Ty.TheVariants as ty
use Rattle.gb_core.specs.declared.value.Value.{Value}
use Rattle.gb_core.specs.declared.var.Var.{Var}
use Rattle.gb_core.specs.declared.var.Var.TheVariants as var
use Rattle.gb_terms.specs.declared.decl.TypedName.{TypedName}
use Rattle.gb_terms.specs.declared.term.Term.{Term}
use Rattle.gb_meaning.specs.Names.{Name, Map, get}
use Rattle.gb_meaning.specs.Values.{Types, has}
use Rattle.gb_meaning.specs.Memory.{Memory, result_in}
use Rattle.gb_meaning.specs.Operators.{outcome_type}
use Rattle.gb_meaning.specs.Program.{Program, Routine}
use Rattle.gb_meaning.specs.Program.Program.{done, assign, sample, branch, loop, call, ask}
use Rattle.gb_meaning.specs.Program.Routine.{routine}
use Rattle.gb_laws.specs.Finite.{IsFinite}
use Rattle.gb_laws.specs.Operators.{parts_in, IsDistributionType}
use Rattle.gb_laws.specs.Typing.{Context, IsTyped}
use Rattle.gb_meaning.specs.Written.{type_of, local_type, IsModulo, params_of, result_type}

-- the type of a variable that a program writes
abbrev pub variable_type : Context → List TypedName → Var → Option Ty
variable_type c ls (var.Global m x) = c.global m x
variable_type c ls (var.Local x) = local_type ls x
variable_type c ls (var.Glob a) = None

-- these variables have these types
abbrev pub HaveTypes : Context → List TypedName → List Var → List Ty → Type 0
HaveTypes c ls [] [] = Unit {0}
HaveTypes c ls (x ∷ xs) (t ∷ ts) = (variable_type c ls x ≡ Some t) × HaveTypes c ls xs ts
HaveTypes c ls _ _ = ⊥

-- a value of this type may be assigned to no variable, to one of this type, or to a tuple of variables
abbrev pub Take : Context → List TypedName → List Var → Ty → Type 0
Take c ls [] t = Unit {0}
Take c ls (x ∷ []) t = variable_type c ls x ≡ Some t
Take c ls (x ∷ y ∷ xs) t = HaveTypes c ls (x ∷ y ∷ xs) (parts_in t)

-- a term of a finite type
abbrev pub IsValued : Context → Term → Type 0
IsValued c e = IsTyped c e × IsFinite (type_of e)

abbrev pub IsTest : Context → Term → Type 0
IsTest c e = IsTyped c e × (type_of e ≡ ty.Bool)

-- a loop's variant is a number below the bound of its type
abbrev pub IsVariant : Context → Term → Type 0
IsVariant c v = IsTyped c v × IsModulo (type_of v)

abbrev pub HaveFiniteTypes : List TypedName → Type 0
HaveFiniteTypes [] = Unit {0}
HaveFiniteTypes (l ∷ ls) = IsFinite l.ty × HaveFiniteTypes ls

-- one argument for each parameter, of its type
abbrev pub AreArguments : Context → List Term → List TypedName → Type 0
AreArguments c [] [] = Unit {0}
AreArguments c (e ∷ es) (p ∷ ps) = (IsValued c e × (type_of e ≡ p.ty)) × AreArguments c es ps
AreArguments c _ _ = ⊥

-- the context of a procedure's body: it sees neither logical variables nor memories, and no binder is around it
abbrev pub closed_in : Context → Context
closed_in c = record c { logical = λ i. None; memories = 0; bound = [] }

abbrev mutual
  -- A well-typed program with these locals. No call of an oracle is left open.
  pub IsTypedProgram : Context → List TypedName → Program → Type 0
  IsTypedProgram c ls done = Unit {0}
  IsTypedProgram c ls (assign xs e p) = IsValued c e × Take c ls xs (type_of e) × IsTypedProgram c ls p
  IsTypedProgram c ls (sample x d p) =
      (IsTyped c d × IsDistributionType (type_of d)) × (variable_type c ls x ≡ Some (outcome_type (type_of d))) × IsTypedProgram c ls p
  IsTypedProgram c ls (branch e a b p) = IsTest c e × IsTypedProgram c ls a × IsTypedProgram c ls b × IsTypedProgram c ls p
  IsTypedProgram c ls (loop e v a p) = IsTest c e × IsVariant c v × IsTypedProgram c ls a × IsTypedProgram c ls p
  IsTypedProgram c ls (call xs r es p) =
      IsTypedRoutine c r × AreArguments c es (params_of r) × Take c ls xs (result_type r) × IsTypedProgram c ls p
  IsTypedProgram c ls (ask xs o es p) = ⊥

  pub IsTypedRoutine : Context → Routine → Type 0
  IsTypedRoutine c (routine ps ls p r) =
      HaveFiniteTypes ps × HaveFiniteTypes ls × IsTypedProgram (closed_in c) (ps ++ ls) p × IsValued (closed_in c) r

-- what stands for a variable, if anything does, is a value of its type
abbrev pub IsHeld : Types → Option Ty → Option Value → Type 0
IsHeld t (Some u) (Some v) = has t u v ≡ true
IsHeld t _ _ = Unit {0}

abbrev pub HoldsGlobals : Types → Context → Map → Type 0
HoldsGlobals t c m = (p x : Name) → IsHeld t (c.global p x) (get m (p ∷ x ∷ []))

abbrev pub HoldsLocals : Types → List TypedName → Map → Type 0
HoldsLocals t ls m = (x : Name) → IsHeld t (local_type ls x) (get m (x ∷ []))

-- A memory holds values of the types of the globals, and of the locals.
abbrev pub Holds : Types → Context → List TypedName → Memory → Type 0
Holds t c ls m = HoldsGlobals t c m.globals × HoldsLocals t ls m.frame

-- one value for each of these names, of its type
abbrev pub AreValuesOf : Types → List TypedName → List Value → Type 0
AreValuesOf t [] [] = Unit {0}
AreValuesOf t (p ∷ ps) (v ∷ vs) = (has t p.ty v ≡ true) × AreValuesOf t ps vs
AreValuesOf t _ _ = ⊥

-- an outcome of a procedure: globals with values of their types, and a result of its type
abbrev pub IsOutcome : Types → Context → Routine → Memory → Type 0
IsOutcome t c r n = HoldsGlobals t c n.globals × (has t (result_type r) (result_in n) ≡ true)
