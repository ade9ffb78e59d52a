-- The linked modules of a typed scope are of their interfaces, where the chosen programs are.
use Rattle.std.proofs.Common.{◌≡◌, Bool, true, false, List, [], ◌∷◌, ◌++◌, Option, Some, None, if◌then◌else◌, bytes_eq, refl, ap, sym, ◌∙◌, subst}
use Rattle.std.proofs.lemmas.Bool.{false≢true}
use Rattle.std.proofs.lemmas.Slice.Eq.{bytes_eq-Decides}
use Rattle.gb_meaning.specs.Names.{Name}
use Rattle.gb_meaning.specs.Program.{Routine}
use Rattle.gb_meaning.specs.Setting.{Setting}
use Rattle.gb_meaning.specs.Declared.{Declarations, abstract_type, abbreviation, operator, abstract_operator, module_type, concrete_module, abstract_module, axiom_of, lemma, terminating}
use Rattle.gb_meaning.specs.Linking.{linked_procedure}
use Rattle.gb_meaning.specs.Modules.{Applied, with_module, module_read, modules_of}
use Rattle.gb_meaning.specs.Modules as linked
use Rattle.gb_meaning.specs.Settings.{Chosen}
use Rattle.gb_typing.specs.Modules.{Interface, Modules, functor_type, of_functor_type, with_interface}
use Rattle.gb_typing.specs.Context.{Context}
use Rattle.gb_typing.specs.Chosen.{chosen_under, AreUnchosen, FitAt}
use Rattle.gb_typing.specs.Scopes.{interface_with, procedure_types, with_declared, with_each, AreTypedAfter}
use Rattle.gb_typing.proofs.Provided.{like, IsApplied}
use Rattle.gb_typing.proofs.ReadModules.{interface_or, Exact, StandLike, with_stand, module_stands}

abbrev pub is_there : Option Chosen → Bool
is_there None = false
is_there (Some x) = true

module _ (g h : Setting) (cs : List Chosen) (base : linked.Modules Routine) where
  -- a program is chosen for each abstract module, and has procedures of the types that its module type asks for
  abbrev pub ProgramsAt : Context → Declarations → Type 0
  ProgramsAt c [] = Unit {0}
  ProgramsAt c ((n, abstract_module b) ∷ ds) =
      ((x : Chosen) × (chosen_under cs b.name ≡ Some x) × IsApplied g (Exact g) (of_functor_type (functor_type c.modules.types (c.modules.types b.ty))) (base b.name))
      × ProgramsAt (with_declared c n (abstract_module b)) ds
  ProgramsAt c (d ∷ ds) = ProgramsAt (with_declared c d.0 d.1) ds

  abbrev pub Stand : Modules → linked.Modules Routine → Type 0
  Stand ms ks = (n : Name) (i : Interface) → ms.interfaces n ≡ Some i → IsApplied g (Exact g) i (ks n)

  -- chosen programs stay under their names
  abbrev pub Keeps : linked.Modules Routine → Type 0
  Keeps ks = (n : Name) (x : Chosen) → chosen_under cs n ≡ Some x → ks n ≡ base n

  alike : (ms : Modules) (ks : linked.Modules Routine) → Stand ms ks → StandLike g ms ks
  alike ms ks s n i e fs w k t f = let x = s n i e fs w k t f in (x.0, x.1, like g t x.0 x.2)

  kept : (ks : linked.Modules Routine) (n : Name) (a : Applied Routine) → chosen_under cs n ≡ None → Keeps ks → Keeps (with_module ks n a)
  kept ks n a u k x y c = step (bytes_eq x n) refl
    where
      step : (b : Bool) → bytes_eq x n ≡ b → (if b then a else ks x) ≡ base x
      step true e = absurd (false≢true (ap is_there (sym u ∙ ap (chosen_under cs) (sym ((bytes_eq-Decides x n).0 e)) ∙ c)))
      step false e = k x y c

  -- a name gains an interface that what stands there has
  pub named_stands : (ms : Modules) (ks : linked.Modules Routine) → Stand ms ks → (n : Name) (i : Interface) → IsApplied g (Exact g) i (ks n) → Stand (with_interface ms n (Some i)) ks
  named_stands ms ks s n i w k j = step (bytes_eq k n) refl
    where
      step : (b : Bool) → bytes_eq k n ≡ b → (if b then Some i else ms.interfaces k) ≡ Some j → IsApplied g (Exact g) j (ks k)
      step true e h = subst (λ j. IsApplied g (Exact g) j (ks k)) (ap (interface_or i) h) (subst (λ z. IsApplied g (Exact g) i (ks z)) (sym ((bytes_eq-Decides k n).0 e)) w)
      step false e h = s k j h

  pub scope_stands : (ds before : Declarations) (c : Context) → AreTypedAfter c before ds → FitAt g c ds → AreUnchosen cs ds → ProgramsAt c ds → (ks : linked.Modules Routine) →
      Stand c.modules ks → Keeps ks → Stand (with_each c ds).modules (modules_of (linked_procedure h) ks ds) × Keeps (modules_of (linked_procedure h) ks ds)
  scope_stands [] before c w f u p ks s k = (s, k)
  scope_stands ((n, abstract_type) ∷ ds) before c w f u p ks s k = scope_stands ds _ _ w.2 f.1 u p ks s k
  scope_stands ((n, abbreviation stood) ∷ ds) before c w f u p ks s k = scope_stands ds _ _ w.2 f.1 u p ks s k
  scope_stands ((n, operator o) ∷ ds) before c w f u p ks s k = scope_stands ds _ _ w.2 f.1 u p ks s k
  scope_stands ((n, abstract_operator o) ∷ ds) before c w f u p ks s k = scope_stands ds _ _ w.2 f.1 u p ks s k
  scope_stands ((n, module_type t) ∷ ds) before c w f u p ks s k = scope_stands ds _ _ w.2 f.1 u p ks s k
  scope_stands ((n, axiom_of q) ∷ ds) before c w f u p ks s k = scope_stands ds _ _ w.2 f.1 u p ks s k
  scope_stands ((n, lemma q) ∷ ds) before c w f u p ks s k = scope_stands ds _ _ w.2 f.1 u p ks s k
  scope_stands ((n, terminating q) ∷ ds) before c w f u p ks s k = scope_stands ds _ _ w.2 f.1 u p ks s k
  scope_stands ((n, concrete_module m) ∷ ds) before c w f u p ks s k =
      scope_stands ds (before ++ (n, concrete_module m) ∷ []) (with_declared c n (concrete_module m)) w.2 f.1 u.1 p (with_module ks n (module_read (linked_procedure h) ks m))
      (with_stand g (Exact g) c.modules ks s n (interface_with c.modules.types m.params (procedure_types m.procs)) (module_read (linked_procedure h) ks m)
      (let x = w.1 in module_stands g h c f.0 m ks (alike c.modules ks s) x.procs))
      (kept ks n (module_read (linked_procedure h) ks m) u.0 k)
  scope_stands ((n, abstract_module b) ∷ ds) before c w f u p ks s k =
      scope_stands ds (before ++ (n, abstract_module b) ∷ []) (with_declared c n (abstract_module b)) w.2 f.1 u p.1 ks
      (named_stands c.modules ks s b.name (of_functor_type (functor_type c.modules.types (c.modules.types b.ty))) (subst (IsApplied g (Exact g) (of_functor_type (functor_type c.modules.types (c.modules.types b.ty)))) (sym (k b.name p.0.0 p.0.1)) p.0.2)) k
