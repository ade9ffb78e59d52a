-- Modules that are related: of each procedure that their types ask for, the two things that it stands for are in a relation, which may
-- look at the type of the procedure. Of further procedures nothing is said. With equality for the relation the modules are alike.
use Rattle.std.specs.Prelude.{◌≡◌, true, List, [], ◌∷◌, map, Option, Some}
use Rattle.gb_meaning.specs.Names.{Name}
use Rattle.gb_meaning.specs.Declared.{Declarations, abstract_module}
use Rattle.gb_meaning.specs.Modules.{Procedures, Functor, Applied, found}
use Rattle.gb_meaning.specs.Modules as linked
use Rattle.gb_typing.specs.Context.{Context}
use Rattle.gb_typing.specs.Modules.{ProcedureType, FunctorType, Interface, Modules, has_type, functor_type, of_functor_type}
use Rattle.gb_typing.specs.Scopes.{with_declared}

module _ {X Y : Type 0} (R : ProcedureType → Option X → Option Y → Type 0) where
  -- The relation stays where a procedure stands for one of another type: the same types, and other names of parameters.
  abbrev pub IsNarrow : Type 0
  IsNarrow = (s t : ProcedureType) → has_type (Some s) t ≡ true → (x : Option X) (y : Option Y) → R s x y → R t x y

  -- the procedures of these names are related
  abbrev pub Agree : Procedures ProcedureType → Procedures X → Procedures Y → Type 0
  Agree ts xs ys = (n : Name) (t : ProcedureType) → found ts n ≡ Some t → R t (found xs n) (found ys n)

  -- modules without parameters, one after another
  abbrev pub AreAgreeing : List (Procedures ProcedureType) → List (Procedures X) → List (Procedures Y) → Type 0
  AreAgreeing [] [] [] = Unit {0}
  AreAgreeing (t ∷ ts) (x ∷ xs) (y ∷ ys) = Agree t x y × AreAgreeing ts xs ys
  AreAgreeing _ _ _ = ⊥

  -- Two modules of a module type: given related modules for all that the type lacks, they have related procedures.
  abbrev pub IsAlike : FunctorType → Functor X → Functor Y → Type 0
  IsAlike t f g = (xs : List (Procedures X)) (ys : List (Procedures Y)) → AreAgreeing t.lacks xs ys → Agree t.procedures (f xs) (g ys)

  -- modules of module types, one after another
  abbrev pub AreAlike : List FunctorType → List (Functor X) → List (Functor Y) → Type 0
  AreAlike [] [] [] = Unit {0}
  AreAlike (t ∷ ts) (f ∷ fs) (g ∷ gs) = IsAlike t f g × AreAlike ts fs gs
  AreAlike _ _ _ = ⊥

  -- What two names stand for, at an interface: given related modules for all that it lacks, they have related procedures.
  abbrev pub StandAlike : Interface → Applied X → Applied Y → Type 0
  StandAlike i a b = (fs : List (Functor X)) (gs : List (Functor Y)) → AreAlike i.lacks fs gs → Agree i.procedures (a fs) (b gs)

  -- What two module expressions stand for, where what is lacking is given as modules without parameters.
  abbrev pub AreOpenAlike : Interface → Functor X → Functor Y → Type 0
  AreOpenAlike i f g =
      (xs : List (Procedures X)) (ys : List (Procedures Y)) → AreAgreeing (map (λ t. t.procedures) i.lacks) xs ys → Agree i.procedures (f xs) (g ys)

  -- each name of an interface stands for related modules
  abbrev pub AreAllAlike : Modules → linked.Modules X → linked.Modules Y → Type 0
  AreAllAlike ms ks ls = (n : Name) (i : Interface) → ms.interfaces n ≡ Some i → StandAlike i (ks n) (ls n)

  -- the abstract modules of declarations stand for related modules
  abbrev pub AreAbstractAlike : Context → Declarations → linked.Modules X → linked.Modules Y → Type 0
  AreAbstractAlike c [] ks ls = Unit {0}
  AreAbstractAlike c ((n, abstract_module b) ∷ ds) ks ls =
      StandAlike (of_functor_type (functor_type c.modules.types (c.modules.types b.ty))) (ks b.name) (ls b.name)
      × AreAbstractAlike (with_declared c n (abstract_module b)) ds ks ls
  AreAbstractAlike c (d ∷ ds) ks ls = AreAbstractAlike (with_declared c d.0 d.1) ds ks ls
