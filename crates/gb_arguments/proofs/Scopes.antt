-- The modules of a typed scope, read in two ways that keep a relation, are related over related abstract modules.
use Rattle.std.proofs.Common.{◌≡◌, Bool, false, [], ◌∷◌, ◌++◌, Option, Some, if◌then◌else◌, refl, ap, sym, ◌∙◌, subst}
use Rattle.std.proofs.lemmas.Option.{none-some}
use Rattle.gb_terms.specs.declared.decl.Proc.{Proc}
use Rattle.gb_meaning.specs.Names.{Name}
use Rattle.gb_meaning.specs.Declared.{Declarations, Declaration, abstract_type, abbreviation, operator, abstract_operator, module_type, concrete_module, abstract_module, axiom_of, lemma, terminating}
use Rattle.gb_meaning.specs.Modules.{Applied, Reading, with_module, module_read, modules_of}
use Rattle.gb_meaning.specs.Modules as linked
use Rattle.gb_typing.specs.Context.{Context}
use Rattle.gb_typing.specs.Modules.{Interface, ProcedureType, functor_type, of_functor_type}
use Rattle.gb_typing.specs.Scopes.{nothing, interface_with, procedure_types, with_declared, with_each, context_of, is_declared, AreTypedAfter, IsTypedScope}
use Rattle.gb_typing.proofs.Declaring.{undeclared}
use Rattle.gb_arguments.specs.Reading.{AreInside, KeepAlike}
use Rattle.gb_arguments.specs.Related.{IsNarrow, StandAlike, AreAllAlike, AreAbstractAlike}
use Rattle.gb_arguments.proofs.Readings.{with_alike, named_alike, module_stands}

-- names that aren't declared stand for what they stood for
module _ {X : Type 0} where
  abbrev Keeps : Declarations → linked.Modules X → linked.Modules X → Type 0
  Keeps before bs ks = (k : Name) → is_declared before k ≡ false → ks k ≡ bs k

  keeps : (before : Declarations) (d : Name × Declaration) (bs ks : linked.Modules X) → Keeps before bs ks → Keeps (before ++ d ∷ []) bs ks
  keeps before d bs ks h k e = h k (undeclared before d.0 k d.1 e).0

  keeps_with : (before : Declarations) (d : Name × Declaration) (bs ks : linked.Modules X) (a : Applied X) → Keeps before bs ks → Keeps (before ++ d ∷ []) bs (with_module ks d.0 a)
  keeps_with before d bs ks a h k e =
      let z = undeclared before d.0 k d.1 e in
      ap (λ (b : Bool). if b then a else ks k) z.1 ∙ h k z.0

module _ {X Y : Type 0} (R : ProcedureType → Option X → Option Y → Type 0) (narrow : IsNarrow R) (K : Context → Proc → Type 0) (read : Reading X) (look : Reading Y) (keep : KeepAlike R K read look)
    (bs : linked.Modules X) (cs : linked.Modules Y) where
  each_declared : (ds before : Declarations) (c : Context) → AreTypedAfter c before ds → AreInside K c ds → AreAbstractAlike R c ds bs cs →
      (ks : linked.Modules X) (ls : linked.Modules Y) → AreAllAlike R c.modules ks ls → Keeps before bs ks → Keeps before cs ls →
      AreAllAlike R (with_each c ds).modules (modules_of read ks ds) (modules_of look ls ds)
  each_declared [] before c w e a ks ls s h j = s
  each_declared ((n, abstract_type) ∷ ds) before c w e a ks ls s h j =
      each_declared ds (before ++ (n, abstract_type) ∷ []) c w.2 e a ks ls s (keeps before (n, abstract_type) bs ks h) (keeps before (n, abstract_type) cs ls j)
  each_declared ((n, abbreviation x) ∷ ds) before c w e a ks ls s h j =
      each_declared ds (before ++ (n, abbreviation x) ∷ []) c w.2 e a ks ls s (keeps before (n, abbreviation x) bs ks h) (keeps before (n, abbreviation x) cs ls j)
  each_declared ((n, operator o) ∷ ds) before c w e a ks ls s h j =
      each_declared ds (before ++ (n, operator o) ∷ []) (with_declared c n (operator o)) w.2 e a ks ls s (keeps before (n, operator o) bs ks h) (keeps before (n, operator o) cs ls j)
  each_declared ((n, abstract_operator o) ∷ ds) before c w e a ks ls s h j =
      each_declared ds (before ++ (n, abstract_operator o) ∷ []) (with_declared c n (abstract_operator o)) w.2 e a ks ls s
      (keeps before (n, abstract_operator o) bs ks h) (keeps before (n, abstract_operator o) cs ls j)
  each_declared ((n, module_type t) ∷ ds) before c w e a ks ls s h j =
      each_declared ds (before ++ (n, module_type t) ∷ []) (with_declared c n (module_type t)) w.2 e a ks ls s (keeps before (n, module_type t) bs ks h) (keeps before (n, module_type t) cs ls j)
  each_declared ((n, axiom_of q) ∷ ds) before c w e a ks ls s h j =
      each_declared ds (before ++ (n, axiom_of q) ∷ []) c w.2 e a ks ls s (keeps before (n, axiom_of q) bs ks h) (keeps before (n, axiom_of q) cs ls j)
  each_declared ((n, lemma q) ∷ ds) before c w e a ks ls s h j =
      each_declared ds (before ++ (n, lemma q) ∷ []) c w.2 e a ks ls s (keeps before (n, lemma q) bs ks h) (keeps before (n, lemma q) cs ls j)
  each_declared ((n, terminating f) ∷ ds) before c w e a ks ls s h j =
      each_declared ds (before ++ (n, terminating f) ∷ []) c w.2 e a ks ls s (keeps before (n, terminating f) bs ks h) (keeps before (n, terminating f) cs ls j)
  each_declared ((n, concrete_module m) ∷ ds) before c w e a ks ls s h j =
      each_declared ds (before ++ (n, concrete_module m) ∷ []) (with_declared c n (concrete_module m)) w.2 e.1 a (with_module ks n (module_read read ks m)) (with_module ls n (module_read look ls m))
      (with_alike R narrow c.modules ks ls s n (interface_with c.modules.types m.params (procedure_types m.procs)) (module_read read ks m) (module_read look ls m)
      (let x = w.1 in module_stands R narrow K read look keep c m ks ls s e.0 x.procs))
      (keeps_with before (n, concrete_module m) bs ks (module_read read ks m) h) (keeps_with before (n, concrete_module m) cs ls (module_read look ls m) j)
  each_declared ((n, abstract_module b) ∷ ds) before c w e a ks ls s h j =
      each_declared ds (before ++ (n, abstract_module b) ∷ []) (with_declared c n (abstract_module b)) w.2 e a.1 ks ls
      (named_alike R narrow c.modules ks ls s b.name (of_functor_type (functor_type c.modules.types (c.modules.types b.ty))) there)
      (keeps before (n, abstract_module b) bs ks h) (keeps before (n, abstract_module b) cs ls j)
    where
      free : is_declared before b.name ≡ false
      free = subst (λ z. is_declared before z ≡ false) (sym w.1.0) w.0

      there : StandAlike R (of_functor_type (functor_type c.modules.types (c.modules.types b.ty))) (ks b.name) (ls b.name)
      there =
          subst (λ z. StandAlike R (of_functor_type (functor_type c.modules.types (c.modules.types b.ty))) z (ls b.name)) (sym (h b.name free))
          (subst (StandAlike R (of_functor_type (functor_type c.modules.types (c.modules.types b.ty))) (bs b.name)) (sym (j b.name free)) a.0)

module _ {X Y : Type 0} (R : ProcedureType → Option X → Option Y → Type 0) (narrow : IsNarrow R) (K : Context → Proc → Type 0) (read : Reading X) (look : Reading Y) (keep : KeepAlike R K read look) where
  pub scope_alike : (ds : Declarations) → IsTypedScope ds → AreInside K nothing ds → (bs : linked.Modules X) (cs : linked.Modules Y) → AreAbstractAlike R nothing ds bs cs →
      AreAllAlike R (context_of ds).modules (modules_of read bs ds) (modules_of look cs ds)
  scope_alike ds w inside bs cs a =
      each_declared R narrow K read look keep bs cs ds [] nothing w inside a bs cs (λ n i e. absurd (none-some i e)) (λ k e. refl) (λ k e. refl)

  -- names may stand for something else where the scope doesn't know them
  pub scope_stands : (ds : Declarations) → IsTypedScope ds → AreInside K nothing ds → (bs : linked.Modules X) (cs : linked.Modules Y) → AreAbstractAlike R nothing ds bs cs →
      (ks : linked.Modules X) (ls : linked.Modules Y) → ((k : Name) (i : Interface) → (context_of ds).modules.interfaces k ≡ Some i → ks k ≡ modules_of read bs ds k) →
      ((k : Name) (i : Interface) → (context_of ds).modules.interfaces k ≡ Some i → ls k ≡ modules_of look cs ds k) → AreAllAlike R (context_of ds).modules ks ls
  scope_stands ds w inside bs cs a ks ls h j k i e =
      subst (λ z. StandAlike R i z (ls k)) (sym (h k i e))
      (subst (StandAlike R i (modules_of read bs ds k)) (sym (j k i e)) (scope_alike ds w inside bs cs a k i e))
