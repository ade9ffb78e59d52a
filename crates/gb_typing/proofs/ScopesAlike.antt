-- The modules of a typed scope are alike over alike abstract modules.
use Rattle.std.proofs.Common.{◌≡◌, Bool, false, [], ◌∷◌, ◌++◌, Some, if◌then◌else◌, refl, ap, sym, ◌∙◌, subst}
use Rattle.std.proofs.lemmas.Option.{none-some}
use Rattle.gb_goal.specs.declared.scope.Entry.TheVariants as entry
use Rattle.gb_goal.specs.Scope as scope
use Rattle.gb_meaning.specs.Names.{Name}
use Rattle.gb_meaning.specs.Declared.{Declarations, Declaration, declared, abstract_type, abbreviation, operator, abstract_operator, module_type, concrete_module, abstract_module, axiom_of, lemma, terminating}
use Rattle.gb_meaning.specs.Holds.{declared_modules}
use Rattle.gb_meaning.specs.Modules.{Applied, Reading, with_module, module_read, modules_of}
use Rattle.gb_meaning.specs.Modules as linked
use Rattle.gb_typing.specs.Modules.{Interface, functor_type, of_functor_type}
use Rattle.gb_typing.specs.Context.{Context}
use Rattle.gb_typing.specs.Scopes.{nothing, interface_with, procedure_types, with_declared, with_each, context_of, is_declared, AreTypedAfter, IsTypedScope}
use Rattle.gb_typing.specs.Alike.{LooksAtCalls, StandAlike, AreAllAlike, AreAbstractAlike, AreClosed}
use Rattle.gb_typing.proofs.Declaring.{undeclared}
use Rattle.gb_typing.proofs.Interfaces.{cons_nil}
use Rattle.gb_typing.proofs.ReadingsAlike.{with_alike, named_alike, module_stands}

module _ {X : Type 0} where
  -- names that aren't declared stand for what they stood for
  abbrev pub Keeps : Declarations → linked.Modules X → linked.Modules X → Type 0
  Keeps before bs ks = (k : Name) → is_declared before k ≡ false → ks k ≡ bs k

  keeps : (before : Declarations) (d : Name × Declaration) (bs ks : linked.Modules X) → Keeps before bs ks → Keeps (before ++ d ∷ []) bs ks
  keeps before d bs ks h k e = h k (undeclared before d.0 k d.1 e).0

  keeps_with : (before : Declarations) (d : Name × Declaration) (bs ks : linked.Modules X) (a : Applied X) → Keeps before bs ks → Keeps (before ++ d ∷ []) bs (with_module ks d.0 a)
  keeps_with before d bs ks a h k e =
      let z = undeclared before d.0 k d.1 e in
      ap (λ (b : Bool). if b then a else ks k) z.1 ∙ h k z.0

  module _ (read : Reading X) (looks : LooksAtCalls read) (bs cs : linked.Modules X) where
    pub each_declared : (ds before : Declarations) (c : Context) → AreTypedAfter c before ds → AreAbstractAlike c ds bs cs → (ks ls : linked.Modules X) → AreAllAlike c.modules ks ls →
        Keeps before bs ks → Keeps before cs ls → AreAllAlike (with_each c ds).modules (modules_of read ks ds) (modules_of read ls ds)
    each_declared [] before c w a ks ls s h j = s
    each_declared ((n, abstract_type) ∷ ds) before c w a ks ls s h j =
        each_declared ds (before ++ (n, abstract_type) ∷ []) c w.2 a ks ls s (keeps before (n, abstract_type) bs ks h) (keeps before (n, abstract_type) cs ls j)
    each_declared ((n, abbreviation x) ∷ ds) before c w a ks ls s h j =
        each_declared ds (before ++ (n, abbreviation x) ∷ []) c w.2 a ks ls s (keeps before (n, abbreviation x) bs ks h) (keeps before (n, abbreviation x) cs ls j)
    each_declared ((n, operator o) ∷ ds) before c w a ks ls s h j =
        each_declared ds (before ++ (n, operator o) ∷ []) (with_declared c n (operator o)) w.2 a ks ls s (keeps before (n, operator o) bs ks h) (keeps before (n, operator o) cs ls j)
    each_declared ((n, abstract_operator o) ∷ ds) before c w a ks ls s h j =
        each_declared ds (before ++ (n, abstract_operator o) ∷ []) (with_declared c n (abstract_operator o)) w.2 a ks ls s (keeps before (n, abstract_operator o) bs ks h) (keeps before (n, abstract_operator o) cs ls j)
    each_declared ((n, module_type t) ∷ ds) before c w a ks ls s h j =
        each_declared ds (before ++ (n, module_type t) ∷ []) (with_declared c n (module_type t)) w.2 a ks ls s (keeps before (n, module_type t) bs ks h) (keeps before (n, module_type t) cs ls j)
    each_declared ((n, axiom_of q) ∷ ds) before c w a ks ls s h j =
        each_declared ds (before ++ (n, axiom_of q) ∷ []) c w.2 a ks ls s (keeps before (n, axiom_of q) bs ks h) (keeps before (n, axiom_of q) cs ls j)
    each_declared ((n, lemma q) ∷ ds) before c w a ks ls s h j =
        each_declared ds (before ++ (n, lemma q) ∷ []) c w.2 a ks ls s (keeps before (n, lemma q) bs ks h) (keeps before (n, lemma q) cs ls j)
    each_declared ((n, terminating f) ∷ ds) before c w a ks ls s h j =
        each_declared ds (before ++ (n, terminating f) ∷ []) c w.2 a ks ls s (keeps before (n, terminating f) bs ks h) (keeps before (n, terminating f) cs ls j)
    each_declared ((n, concrete_module m) ∷ ds) before c w a ks ls s h j =
        each_declared ds (before ++ (n, concrete_module m) ∷ []) (with_declared c n (concrete_module m)) w.2 a (with_module ks n (module_read read ks m)) (with_module ls n (module_read read ls m))
        (with_alike c.modules ks ls s n (interface_with c.modules.types m.params (procedure_types m.procs)) (module_read read ks m) (module_read read ls m)
        (let x = w.1 in module_stands read looks c m ks ls s x.procs))
        (keeps_with before (n, concrete_module m) bs ks (module_read read ks m) h) (keeps_with before (n, concrete_module m) cs ls (module_read read ls m) j)
    each_declared ((n, abstract_module b) ∷ ds) before c w a ks ls s h j =
        each_declared ds (before ++ (n, abstract_module b) ∷ []) (with_declared c n (abstract_module b)) w.2 a.1 ks ls
        (named_alike c.modules ks ls s b.name (of_functor_type (functor_type c.modules.types (c.modules.types b.ty))) there)
        (keeps before (n, abstract_module b) bs ks h) (keeps before (n, abstract_module b) cs ls j)
      where
        free : is_declared before b.name ≡ false
        free = subst (λ z. is_declared before z ≡ false) (sym w.1.0) w.0

        there : StandAlike (of_functor_type (functor_type c.modules.types (c.modules.types b.ty))) (ks b.name) (ls b.name)
        there =
            subst (λ z. StandAlike (of_functor_type (functor_type c.modules.types (c.modules.types b.ty))) z (ls b.name)) (sym (h b.name free))
            (subst (StandAlike (of_functor_type (functor_type c.modules.types (c.modules.types b.ty))) (bs b.name)) (sym (j b.name free)) a.0)

    pub scope_alike : (ds : Declarations) → IsTypedScope ds → AreAbstractAlike nothing ds bs cs → AreAllAlike (context_of ds).modules (modules_of read bs ds) (modules_of read cs ds)
    scope_alike ds w a = each_declared ds [] nothing w a bs cs (λ n i e. absurd (none-some i e)) (λ k e. refl) (λ k e. refl)

  -- a name may stand for something else where the scope doesn't know it
  pub scope_closed : (read : Reading X) → LooksAtCalls read → (ds : Declarations) → IsTypedScope ds → (base : linked.Modules X) → AreAbstractAlike nothing ds base base → (final : linked.Modules X) →
      ((k : Name) (i : Interface) → (context_of ds).modules.interfaces k ≡ Some i → final k ≡ modules_of read base ds k) → AreClosed (context_of ds).modules final
  scope_closed read looks ds w base a final h k i e = subst (λ z. StandAlike i z z) (sym (h k i e)) (scope_alike read looks base base ds w a k i e)

  -- without abstract modules nothing has to be alike
  pub script_alike : (ds : scope.Declarations) → declared_modules (declared ds) ≡ [] → (c : Context) (ks ls : linked.Modules X) → AreAbstractAlike c (declared ds) ks ls
  script_alike [] e c ks ls = tt
  script_alike ((n, entry.AbstractModule b) ∷ ds) e c ks ls = cons_nil b (declared_modules (declared ds)) e
  script_alike ((n, entry.Module m) ∷ ds) e c ks ls = script_alike ds e _ ks ls
  script_alike ((n, entry.Lemma q bs) ∷ ds) e c ks ls = script_alike ds e _ ks ls
  script_alike ((n, entry.Type t) ∷ ds) e c ks ls = script_alike ds e _ ks ls
  script_alike ((n, entry.AbstractType) ∷ ds) e c ks ls = script_alike ds e _ ks ls
  script_alike ((n, entry.Constant a) ∷ ds) e c ks ls = script_alike ds e _ ks ls
  script_alike ((n, entry.Operator o) ∷ ds) e c ks ls = script_alike ds e _ ks ls
  script_alike ((n, entry.ModuleType t) ∷ ds) e c ks ls = script_alike ds e _ ks ls
  script_alike ((n, entry.AbstractOperator o) ∷ ds) e c ks ls = script_alike ds e _ ks ls
  script_alike ((n, entry.Terminating p) ∷ ds) e c ks ls = script_alike ds e _ ks ls

  -- what is so of the abstract modules of declarations is so of those of the first ones
  pub alike_front : (ds es : Declarations) (c : Context) (ks ls : linked.Modules X) → AreAbstractAlike c (ds ++ es) ks ls → AreAbstractAlike c ds ks ls
  alike_front [] es c ks ls a = tt
  alike_front ((n, abstract_module b) ∷ ds) es c ks ls a = (a.0, alike_front ds es (with_declared c n (abstract_module b)) ks ls a.1)
  alike_front ((n, abstract_type) ∷ ds) es c ks ls a = alike_front ds es (with_declared c n abstract_type) ks ls a
  alike_front ((n, abbreviation x) ∷ ds) es c ks ls a = alike_front ds es (with_declared c n (abbreviation x)) ks ls a
  alike_front ((n, operator o) ∷ ds) es c ks ls a = alike_front ds es (with_declared c n (operator o)) ks ls a
  alike_front ((n, abstract_operator o) ∷ ds) es c ks ls a = alike_front ds es (with_declared c n (abstract_operator o)) ks ls a
  alike_front ((n, module_type t) ∷ ds) es c ks ls a = alike_front ds es (with_declared c n (module_type t)) ks ls a
  alike_front ((n, concrete_module m) ∷ ds) es c ks ls a = alike_front ds es (with_declared c n (concrete_module m)) ks ls a
  alike_front ((n, axiom_of q) ∷ ds) es c ks ls a = alike_front ds es (with_declared c n (axiom_of q)) ks ls a
  alike_front ((n, lemma q) ∷ ds) es c ks ls a = alike_front ds es (with_declared c n (lemma q)) ks ls a
  alike_front ((n, terminating f) ∷ ds) es c ks ls a = alike_front ds es (with_declared c n (terminating f)) ks ls a
