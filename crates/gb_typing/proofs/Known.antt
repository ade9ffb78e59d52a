-- What a scope knows at a declared module, and what it knows of it in the end.
use Rattle.std.proofs.Common.{◌≡◌, Bool, true, false, if◌then◌else◌, List, [], ◌∷◌, ◌++◌, Some, bytes_eq, refl, ap, sym, ◌∙◌, subst}
use Rattle.gb_terms.specs.declared.decl.Module.{Module}
use Rattle.gb_terms.specs.declared.decl.Proc.{Proc}
use Rattle.gb_meaning.specs.Names.{Name}
use Rattle.gb_meaning.specs.Declared.{Declarations, Declaration, abstract_type, abbreviation, operator, abstract_operator, module_type, concrete_module, abstract_module, axiom_of, lemma, terminating}
use Rattle.gb_meaning.specs.Modules.{Modules, Reading, found, with_module, module_read, modules_of}
use Rattle.gb_meaning.specs.Naming.{IsFresh}
use Rattle.gb_meaning.proofs.Later.{declared_after, fresh_same}
use Rattle.gb_typing.specs.Context.{Context}
use Rattle.gb_typing.specs.Modules.{ProcedureType, Interface, functor_type, of_functor_type}
use Rattle.gb_typing.specs.Programs.{type_of_procedure}
use Rattle.gb_typing.specs.Scopes.{nothing, interface_with, procedure_types, IsModule, with_declared, with_each, context_of, is_declared, IsDeclared, AreTypedAfter, IsTypedScope}
use Rattle.gb_typing.proofs.Declaring.{KnowsMore, KnowsDeclared, declared_if, each_append, knows_each, knows_next, knows_nothing, more_each, split}
use Rattle.gb_typing.proofs.Operators.{declared_last, declared_more, other_name}
use Rattle.gb_typing.proofs.Scripts.{none_some, itself}

-- a name that is declared is no name of a later declaration
pub fresh_later : (ds before : Declarations) (c : Context) → AreTypedAfter c before ds → (k : Name) → is_declared before k ≡ true → IsFresh ds k
fresh_later [] before c w k e = tt
fresh_later ((n, d) ∷ ds) before c w k e = (other_name before k n e w.0, fresh_later ds (before ++ (n, d) ∷ []) (with_declared c n d) w.2 k (declared_more before (n, d) k e))

-- what is known under a name that is declared stays known as it is
pub one_stays : (c : Context) (n : Name) (d : Declaration) (k : Name) → IsDeclared c n d → bytes_eq k n ≡ false → (with_declared c n d).modules.interfaces k ≡ c.modules.interfaces k
one_stays c n (concrete_module m) k w e = ap (λ b. if b then Some (interface_with c.modules.types m.params (procedure_types m.procs)) else c.modules.interfaces k) e
one_stays c n (abstract_module a) k w e =
    ap (λ b. if b then Some (of_functor_type (functor_type c.modules.types (c.modules.types a.ty))) else c.modules.interfaces k) (ap (bytes_eq k) w.0 ∙ e)
one_stays c n abstract_type k w e = refl
one_stays c n (abbreviation stood) k w e = refl
one_stays c n (operator o) k w e = refl
one_stays c n (abstract_operator o) k w e = refl
one_stays c n (module_type t) k w e = refl
one_stays c n (axiom_of q) k w e = refl
one_stays c n (lemma q) k w e = refl
one_stays c n (terminating f) k w e = refl

pub each_stays : (ds before : Declarations) (c : Context) → AreTypedAfter c before ds → (k : Name) → is_declared before k ≡ true → (with_each c ds).modules.interfaces k ≡ c.modules.interfaces k
each_stays [] before c w k e = refl
each_stays (d ∷ ds) before c w k e =
    each_stays ds (before ++ d ∷ []) (with_declared c d.0 d.1) w.2 k (declared_more before d k e) ∙ one_stays c d.0 d.1 k w.1 (other_name before k d.0 e w.0)

-- Procedures under their names.

pub listed_first : (ps qs : List Proc) (f : Name) (t : ProcedureType) → found (procedure_types ps) f ≡ Some t → found (procedure_types (ps ++ qs)) f ≡ Some t
listed_first [] qs f t e = none_some t e
listed_first (p ∷ ps) qs f t e = step (bytes_eq f p.name) (listed_first ps qs f t) e
  where
    step : (b : Bool) → (found (procedure_types ps) f ≡ Some t → found (procedure_types (ps ++ qs)) f ≡ Some t) → (if b then Some (type_of_procedure p) else found (procedure_types ps) f) ≡ Some t →
        (if b then Some (type_of_procedure p) else found (procedure_types (ps ++ qs)) f) ≡ Some t
    step true k e = e
    step false k e = k e

-- A module n between other declarations.

module _ (before after : Declarations) (n : Name) (m : Module) (scoped : IsTypedScope (before ++ (n, concrete_module m) ∷ after)) where
  abbrev pub all : Declarations
  all = before ++ (n, concrete_module m) ∷ after

  abbrev pub around : Context
  around = context_of before

  parts : AreTypedAfter nothing [] before × AreTypedAfter around before ((n, concrete_module m) ∷ after)
  parts = split before ((n, concrete_module m) ∷ after) [] nothing scoped

  pub typed_before : IsTypedScope before
  typed_before = parts.0

  pub typed_here : IsModule around n m
  typed_here = parts.1.1

  known_here : KnowsDeclared before around
  known_here = knows_each before [] nothing parts.0 knows_nothing

  -- a module that is known before n is declared there, and stands as it is
  declared_before : (k : Name) (i : Interface) → around.modules.interfaces k ≡ Some i → is_declared before k ≡ true
  declared_before k i e = declared_if before around known_here k i e

  declared_here : is_declared (before ++ (n, concrete_module m) ∷ []) n ≡ true
  declared_here = declared_last before (n, concrete_module m) n (itself n)

  context_is : context_of all ≡ with_each (with_declared around n (concrete_module m)) after
  context_is = each_append before ((n, concrete_module m) ∷ after) nothing

  -- more is known in the end
  pub more_here : KnowsMore (with_declared around n (concrete_module m)) (context_of all)
  more_here =
      subst (KnowsMore (with_declared around n (concrete_module m))) (sym context_is)
      (more_each after (before ++ (n, concrete_module m) ∷ []) (with_declared around n (concrete_module m)) parts.1.2 (knows_next around n before known_here (concrete_module m) typed_here))

  pub there_before : (k : Name) (i : Interface) → around.modules.interfaces k ≡ Some i → (context_of all).modules.interfaces k ≡ Some i
  there_before k i e =
      let there = declared_before k i e in
      ap (λ (c : Context). c.modules.interfaces k) context_is
      ∙ each_stays after (before ++ (n, concrete_module m) ∷ []) (with_declared around n (concrete_module m)) parts.1.2 k (declared_more before (n, concrete_module m) k there)
      ∙ one_stays around n (concrete_module m) k typed_here (other_name before k n there parts.1.0)
      ∙ e

  pub there_here : (context_of all).modules.interfaces n ≡ Some (interface_with around.modules.types m.params (procedure_types m.procs))
  there_here =
      ap (λ (c : Context). c.modules.interfaces n) context_is
      ∙ each_stays after (before ++ (n, concrete_module m) ∷ []) (with_declared around n (concrete_module m)) parts.1.2 n declared_here
      ∙ ap (λ b. if b then Some (interface_with around.modules.types m.params (procedure_types m.procs)) else around.modules.interfaces n) (itself n)

  module _ {X : Type 0} (read : Reading X) (base : Modules X) where
    abbrev pub env : Modules X
    env = modules_of read base before

    modules_is : modules_of read base all ≡ modules_of read (with_module env n (module_read read env m)) after
    modules_is = declared_after read base before ((n, concrete_module m) ∷ after)

    pub modules_before : (k : Name) (i : Interface) → around.modules.interfaces k ≡ Some i → modules_of read base all k ≡ env k
    modules_before k i e =
        let there = declared_before k i e in
        (λ j. modules_is j k)
        ∙ fresh_same read (with_module env n (module_read read env m)) after k (fresh_later after (before ++ (n, concrete_module m) ∷ []) _ parts.1.2 k (declared_more before (n, concrete_module m) k there))
        ∙ ap (λ b. if b then module_read read env m else env k) (other_name before k n there parts.1.0)

    pub modules_here : modules_of read base all n ≡ module_read read env m
    modules_here =
        (λ j. modules_is j n)
        ∙ fresh_same read (with_module env n (module_read read env m)) after n (fresh_later after (before ++ (n, concrete_module m) ∷ []) _ parts.1.2 n declared_here)
        ∙ ap (λ b. if b then module_read read env m else env n) (itself n)
