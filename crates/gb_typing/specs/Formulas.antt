-- Formulas: module binders stand in front, behind other quantifiers and premises at most.
use Rattle.std.specs.Prelude.{◌≡◌, ℕ, zero, suc, true, List, [], ◌∷◌, Option, Some, None, if◌then◌else◌, bytes_eq}
use Rattle.std.specs.Fmt.{decimal}
use Rattle.gb_terms.specs.declared.decl.TypedName.{TypedName}
use Rattle.gb_terms.specs.declared.decl.Param.{Param}
use Rattle.gb_terms.specs.declared.module.Bind.{Bind}
use Rattle.gb_terms.specs.declared.module.Bound.{Bound}
use Rattle.gb_terms.specs.declared.module.Mexp.{Mexp}
use Rattle.gb_terms.specs.declared.module.Mexp.TheVariants.{Name as named}
use Rattle.gb_terms.specs.declared.op.Op.TheVariants.{Implies}
use Rattle.gb_terms.specs.declared.term.Term.{Term, Term', Row_of-Term, end_of-Term, more_of-Term, end_of-Head, more_of-Head}
use Rattle.gb_terms.specs.declared.term.Head.TheVariants as head
use Rattle.gb_meaning.specs.Names.{Name}
use Rattle.gb_laws.specs.Typing.{types_of, IsHead}
use Rattle.gb_laws.specs.Typing.Binder.{value, memory, program}
use Rattle.gb_meaning.specs.Declared.{ModuleType, Signature, signature_in}
use Rattle.gb_meaning.specs.Truth.{last_has_module, Choice}
use Rattle.gb_typing.specs.Modules.{Modules, signatures_of, params_in, functor_type, of_functor_type, with_interface}
use Rattle.gb_typing.specs.Context.{Context, erased, within}
use Rattle.gb_typing.specs.Typing.{IsForm}

-- something has the name
abbrev pub IsKnown : {A : Type 0} → Option A → Type 0
IsKnown None = ⊥
IsKnown (Some a) = Unit {0}

-- the signature that a parameter gives a procedure, which is an oracle
abbrev pub oracle_in : Modules → List Param → Name → Name → Option Signature
oracle_in ms [] p f = None
oracle_in ms (q ∷ qs) p f = if bytes_eq p q.name then signature_in (signatures_of (ms.types q.ty)) f else oracle_in ms qs p f

-- an oracle of these parameters
abbrev pub IsOracle : Modules → List Param → Mexp → Name → Type 0
IsOracle ms ps (named p) f = IsKnown (oracle_in ms ps p f)
IsOracle ms ps _ f = ⊥

-- each is the name of a signature
abbrev pub AreSignatures : List Signature → List Name → Type 0
AreSignatures ss [] = Unit {0}
AreSignatures ss (n ∷ ns) = IsKnown (signature_in ss n) × AreSignatures ss ns

-- bounds on calls speak of the procedures of a module type and of the oracles that its parameters give
abbrev pub AreBounds : Modules → Option ModuleType → List Bound → Type 0
AreBounds ms t [] = Unit {0}
AreBounds ms t (b ∷ bs) =
    (AreSignatures (signatures_of t) b.procs × IsOracle ms (params_in t) b.oracle.module b.oracle.name) × AreBounds ms t bs

-- each is the name of a module
abbrev pub AreModules : Modules → List Name → Type 0
AreModules ms [] = Unit {0}
AreModules ms (n ∷ ns) = IsKnown (ms.interfaces n) × AreModules ms ns

-- A module binder: its name is free, and its module type, the modules of its restriction and what its bounds name are there.
pub record IsBinder (c : Context) (b : Bind) : Type 0 where
  pub free : c.modules.interfaces b.name ≡ None
  pub known : IsKnown (c.modules.types b.ty)
  pub minus : AreModules c.modules b.minus
  pub bounds : AreBounds c.modules (c.modules.types b.ty) b.bounds

-- the context with an abstract module, of which all globals may be read together
abbrev pub with_module : Context → Bind → Context
with_module c b = record c {
  modules = with_interface c.modules b.name (Some (of_functor_type (functor_type c.modules.types (c.modules.types b.ty))));
  has_globals = λ a. if bytes_eq a b.name then true else c.has_globals a;
}

-- the first argument, a premise, is a form
abbrev pub IsFirstForm : {n : _} → Context → Row_of-Term n → Type 0
IsFirstForm c end_of-Term = Unit {0}
IsFirstForm c (more_of-Term t ts) = IsForm c t

abbrev mutual
  -- how many quantifiers over modules stand in front
  pub modules_in_front : Term → ℕ
  modules_in_front (Term' p (more_of-Head (head.AllModule b) end_of-Head) n ts ty) = suc (last_modules_in_front ts)
  modules_in_front (Term' p (more_of-Head (head.All u) end_of-Head) n ts ty) = last_modules_in_front ts
  modules_in_front (Term' p (more_of-Head head.AllMemory end_of-Head) n ts ty) = last_modules_in_front ts
  modules_in_front (Term' p (more_of-Head (head.Builtin Implies) end_of-Head) n ts ty) = last_modules_in_front ts
  modules_in_front _ = zero

  pub last_modules_in_front : {n : _} → Row_of-Term n → ℕ
  last_modules_in_front end_of-Term = zero
  last_modules_in_front (more_of-Term t end_of-Term) = modules_in_front t
  last_modules_in_front (more_of-Term t (more_of-Term u ts)) = last_modules_in_front (more_of-Term u ts)

-- The name of a bound module: how many quantifiers over modules stand behind its own, in digits. So forms that differ in the
-- names of bound modules alone are one, and no module of a script has such a name.
abbrev pub bound_name : {n : _} → Row_of-Term n → Name
bound_name ts = decimal (last_modules_in_front ts)

-- A formula: quantifiers over modules, and quantifiers and premises before them, are those of truth in all interpretations; the
-- rest is a form.
abbrev mutual
  pub IsFormula : Context → Term → Type 0
  IsFormula c (Term' p (more_of-Head (head.AllModule b) end_of-Head) n ts ty) =
      IsHead (erased c) (head.AllModule b) (types_of ts) ty × IsBinder c b × (b.name ≡ bound_name ts)
      × IsLastFormula (within (with_module c b) program None) ts
  IsFormula c (Term' p (more_of-Head (head.All u) end_of-Head) n ts ty) =
      Choice (last_has_module ts)
      (IsHead (erased c) (head.All u) (types_of ts) ty × IsLastFormula (within c (value u) None) ts)
      (IsForm c (Term' p (more_of-Head (head.All u) end_of-Head) n ts ty))
  IsFormula c (Term' p (more_of-Head head.AllMemory end_of-Head) n ts ty) =
      Choice (last_has_module ts)
      (IsHead (erased c) head.AllMemory (types_of ts) ty × (ls : List TypedName) × IsLastFormula (within c memory (Some ls)) ts)
      (IsForm c (Term' p (more_of-Head head.AllMemory end_of-Head) n ts ty))
  IsFormula c (Term' p (more_of-Head (head.Builtin Implies) end_of-Head) n ts ty) =
      Choice (last_has_module ts)
      (IsHead (erased c) (head.Builtin Implies) (types_of ts) ty × IsFirstForm c ts × IsLastFormula c ts)
      (IsForm c (Term' p (more_of-Head (head.Builtin Implies) end_of-Head) n ts ty))
  IsFormula c f = IsForm c f

  -- the last argument is a formula
  pub IsLastFormula : {n : _} → Context → Row_of-Term n → Type 0
  IsLastFormula c end_of-Term = ⊥
  IsLastFormula c (more_of-Term t end_of-Term) = IsFormula c t
  IsLastFormula c (more_of-Term t (more_of-Term u ts)) = IsLastFormula c (more_of-Term u ts)
