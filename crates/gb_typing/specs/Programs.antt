-- Well-typed programs.
use Rattle.std.specs.Prelude.{◌≡◌, List, [], ◌∷◌, ◌++◌, Option, Some, None}
use Rattle.gb_core.specs.declared.ty.Ty.TheVariants as ty
use Rattle.gb_core.specs.declared.var.Var.{Var}
use Rattle.gb_terms.specs.declared.decl.Proc.{Proc}
use Rattle.gb_terms.specs.declared.decl.TypedName.{TypedName}
use Rattle.gb_terms.specs.declared.term.Term.{Term}
use Rattle.gb_terms.specs.declared.term.Instr.{Instr, Row_of-Instr, end_of-Instr, more_of-Instr}
use Rattle.gb_terms.specs.declared.term.Head.TheVariants.{Assign, Sample, Call', If', While'}
pub use Rattle.gb_goal.specs.Interfaces.{type_of_procedure}
use Rattle.gb_meaning.specs.Commands.{terms_in}
use Rattle.gb_meaning.specs.Operators.{outcome_type}
use Rattle.gb_meaning.specs.Written.{type_of, IsModulo}
use Rattle.gb_laws.specs.Plain.{IsPlain}
use Rattle.gb_laws.specs.Finite.{IsFinite, IsVariableType}
use Rattle.gb_laws.specs.Operators.{IsDistributionType}
use Rattle.gb_laws.specs.Programs.{variable_type, Take}
use Rattle.gb_typing.specs.Modules.{ProcedureType}
use Rattle.gb_typing.specs.Context.{Context, procedure, erased, of_program}
use Rattle.gb_typing.specs.Typing.{IsTyped}

-- an expression of a program over these locals: it speaks of no procedure
pub record IsExpression (c : Context) (ls : List TypedName) (e : Term) : Type 0 where
  pub typed : IsTyped (of_program c ls) e
  pub plain : IsPlain e

-- an expression that has a value
pub record IsValued (c : Context) (ls : List TypedName) (e : Term) : Type 0 where
  pub expression : IsExpression c ls e
  pub finite : IsFinite (type_of e)

-- one argument for each parameter, of its type
abbrev pub AreArguments : Context → List TypedName → List Term → List TypedName → Type 0
AreArguments c ls [] [] = Unit {0}
AreArguments c ls (e ∷ es) (p ∷ ps) = (IsValued c ls e × (type_of e ≡ p.ty)) × AreArguments c ls es ps
AreArguments c ls _ _ = ⊥

-- a call of this procedure, if there is one
abbrev pub IsCall : Context → List TypedName → List Var → Option ProcedureType → List Term → Type 0
IsCall c ls xs None es = ⊥
IsCall c ls xs (Some p) es = AreArguments c ls es p.params × Take (erased c) ls xs p.result

abbrev mutual
  -- a statement over these locals
  pub IsStatement : Context → List TypedName → Instr → Type 0
  IsStatement c ls (Assign xs e) = IsValued c ls e × Take (erased c) ls xs (type_of e)
  IsStatement c ls (Sample x d) =
      IsExpression c ls d × IsDistributionType (type_of d) × (variable_type (erased c) ls x ≡ Some (outcome_type (type_of d)))
  IsStatement c ls (Call' xs p n es) = IsCall c ls xs (procedure c p) (terms_in es)
  IsStatement c ls (If' e m a n b) = (IsExpression c ls e × (type_of e ≡ ty.Bool)) × AreStatements c ls a × AreStatements c ls b
  IsStatement c ls (While' e v n a) =
      (IsExpression c ls e × (type_of e ≡ ty.Bool)) × (IsExpression c ls v × IsModulo (type_of v)) × AreStatements c ls a

  pub AreStatements : {n : _} → Context → List TypedName → Row_of-Instr n → Type 0
  AreStatements c ls end_of-Instr = Unit {0}
  AreStatements c ls (more_of-Instr i is) = IsStatement c ls i × AreStatements c ls is

-- the same of lists
abbrev pub EachStatement : Context → List TypedName → List Instr → Type 0
EachStatement c ls [] = Unit {0}
EachStatement c ls (i ∷ is) = IsStatement c ls i × EachStatement c ls is

-- all have types that variables may have
abbrev pub HaveVariableTypes : List TypedName → Type 0
HaveVariableTypes [] = Unit {0}
HaveVariableTypes (l ∷ ls) = IsVariableType l.ty × HaveVariableTypes ls

-- a body over these locals
pub record IsBody (c : Context) (ls : List TypedName) (is : List Instr) : Type 0 where
  pub locals : HaveVariableTypes ls
  pub statements : EachStatement c ls is

-- the locals of a procedure, its parameters among them
abbrev pub locals_of : Proc → List TypedName
locals_of p = p.params ++ p.locals

-- A procedure: a body over its locals, and an expression that it returns, of its result's type.
pub record IsProcedure (c : Context) (p : Proc) : Type 0 where
  pub body : IsBody c (locals_of p) p.body.list
  pub value : IsExpression c (locals_of p) p.value
  pub returned : type_of p.value ≡ p.result
  pub result : IsVariableType p.result
