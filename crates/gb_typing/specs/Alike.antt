-- Modules that are alike: they have the same procedures of the names that their types ask for. They may differ in further ones, which
-- no typed program calls, as a module does from itself in the course of its own declaration.
use Rattle.std.specs.Prelude.{◌≡◌, List, [], ◌∷◌, ◌++◌, map, Option, Some}
use Rattle.gb_terms.specs.declared.decl.Param.{Param}
use Rattle.gb_terms.specs.declared.decl.Proc.{Proc}
use Rattle.gb_terms.specs.declared.module.Mexp.{Mexp}
use Rattle.gb_terms.specs.declared.module.Mexp.TheVariants.{Name as named, Apply'}
use Rattle.gb_terms.specs.declared.module.ProcRef.{ProcRef}
use Rattle.gb_meaning.specs.Names.{Name}
use Rattle.gb_meaning.specs.Program.{Oracle}
use Rattle.gb_meaning.specs.Declared.{Declarations, ModuleType, Signature, abstract_module}
use Rattle.gb_meaning.specs.Adversary.{type_named, oracle_signature, oracles_called}
use Rattle.gb_meaning.specs.Modules.{Procedures, Functor, Applied, Reading, found, modules_at}
use Rattle.gb_meaning.specs.Modules as linked
use Rattle.gb_meaning.specs.Naming.{EachCallOf}
use Rattle.gb_typing.specs.Modules.{ProcedureType, FunctorType, Interface, Modules, signatures_of, functor_type, of_functor_type}
use Rattle.gb_typing.specs.Context.{Context}
use Rattle.gb_typing.specs.Formulas.{IsKnown}
use Rattle.gb_typing.specs.Scopes.{with_declared}

-- a reading looks at the procedures that are called alone
abbrev pub LooksAtCalls : {X : Type 0} → Reading X → Type 0
LooksAtCalls {X} read = (f g : ProcRef → Option X) (p : Proc) → EachCallOf (λ r. f r ≡ g r) p.body.list → read f p ≡ read g p

-- the same procedures of these names
abbrev pub Agree : {X : Type 0} → Procedures ProcedureType → Procedures X → Procedures X → Type 0
Agree ts xs ys = (n : Name) (t : ProcedureType) → found ts n ≡ Some t → found xs n ≡ found ys n

-- modules without parameters, one after another
abbrev pub AreAgreeing : {X : Type 0} → List (Procedures ProcedureType) → List (Procedures X) → List (Procedures X) → Type 0
AreAgreeing [] [] [] = Unit {0}
AreAgreeing (t ∷ ts) (x ∷ xs) (y ∷ ys) = Agree t x y × AreAgreeing ts xs ys
AreAgreeing _ _ _ = ⊥

-- Two modules of a module type are alike: given modules for all that the type lacks, which have the same procedures, they have the
-- same procedures.
abbrev pub IsAlike : {X : Type 0} → FunctorType → Functor X → Functor X → Type 0
IsAlike {X} t f g = (xs ys : List (Procedures X)) → AreAgreeing t.lacks xs ys → Agree t.procedures (f xs) (g ys)

-- modules of module types, one after another
abbrev pub AreAlike : {X : Type 0} → List FunctorType → List (Functor X) → List (Functor X) → Type 0
AreAlike [] [] [] = Unit {0}
AreAlike (t ∷ ts) (f ∷ fs) (g ∷ gs) = IsAlike t f g × AreAlike ts fs gs
AreAlike _ _ _ = ⊥

-- What two names stand for is alike at an interface: given alike modules for all that it lacks, they have the same procedures.
abbrev pub StandAlike : {X : Type 0} → Interface → Applied X → Applied X → Type 0
StandAlike {X} i a b = (fs gs : List (Functor X)) → AreAlike i.lacks fs gs → Agree i.procedures (a fs) (b gs)

-- What two module expressions stand for is alike at an interface, where what it lacks is given as modules without parameters.
abbrev pub AreOpenAlike : {X : Type 0} → Interface → Functor X → Functor X → Type 0
AreOpenAlike {X} i f g =
    (xs ys : List (Procedures X)) → AreAgreeing (map (λ t. t.procedures) i.lacks) xs ys → Agree i.procedures (f xs) (g ys)

-- each name of an interface stands for alike modules
abbrev pub AreAllAlike : {X : Type 0} → Modules → linked.Modules X → linked.Modules X → Type 0
AreAllAlike ms ks ls = (n : Name) (i : Interface) → ms.interfaces n ≡ Some i → StandAlike i (ks n) (ls n)

-- each module that is known gives the same for arguments that are alike at what it lacks
abbrev pub AreClosed : {X : Type 0} → Modules → linked.Modules X → Type 0
AreClosed ms ks = AreAllAlike ms ks ks

-- The abstract modules of declarations stand for alike modules. What a program for a module type calls is so where it calls procedures
-- of its parameters' types alone.
abbrev pub AreAbstractAlike : {X : Type 0} → Context → Declarations → linked.Modules X → linked.Modules X → Type 0
AreAbstractAlike c [] ks ls = Unit {0}
AreAbstractAlike c ((n, abstract_module b) ∷ ds) ks ls =
    StandAlike (of_functor_type (functor_type c.modules.types (c.modules.types b.ty))) (ks b.name) (ls b.name)
    × AreAbstractAlike (with_declared c n (abstract_module b)) ds ks ls
AreAbstractAlike c (d ∷ ds) ks ls = AreAbstractAlike (with_declared c d.0 d.1) ds ks ls

-- each parameter's module type has the signatures that are declared under its name
abbrev pub SameParams : Declarations → (Name → Option ModuleType) → List Param → Type 0
SameParams ds types [] = Unit {0}
SameParams ds types (p ∷ ps) = (signatures_of (types p.ty) ≡ (type_named ds p.ty).signatures) × SameParams ds types ps

-- each of these oracles has a signature
abbrev pub AreSigned : Declarations → List Param → List Oracle → Type 0
AreSigned ds ps [] = Unit {0}
AreSigned ds ps (o ∷ os) = IsKnown (oracle_signature ds ps o) × AreSigned ds ps os

-- the oracles that procedures of a module type name have signatures
abbrev pub NameSigned : Declarations → ModuleType → List Signature → Type 0
NameSigned ds t [] = Unit {0}
NameSigned ds t (s ∷ ss) = AreSigned ds t.params (oracles_called ds t s) × NameSigned ds t ss

-- what a module expression stands for with further arguments, which stay open
abbrev pub applied_at : {X : Type 0} → linked.Modules X → Mexp → Applied X
applied_at ms (named m) fs = ms m fs
applied_at ms (Apply' m n args) fs = ms m (modules_at ms args ++ fs)
