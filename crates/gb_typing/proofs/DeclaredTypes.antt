-- A context knows the module types that are declared, and no other ones.
use Rattle.std.proofs.Common.{◌≡◌, Bool, true, false, ◌||◌, if◌then◌else◌, List, [], ◌∷◌, ◌++◌, Some, None, bytes_eq, refl, ap, ◌∙◌}
use Rattle.gb_terms.specs.declared.decl.TypedName.{TypedName}
use Rattle.gb_terms.specs.declared.module.Bind.{Bind}
use Rattle.gb_goal.specs.declared.scope.Entry.{Entry}
use Rattle.gb_goal.specs.declared.scope.Entry.TheVariants as entry
use Rattle.gb_goal.specs.declared.sequent.Sequent.{Sequent}
use Rattle.gb_goal.specs.Scope as scope
use Rattle.gb_goal.specs.Scope.{as_module_type, entry_of}
use Rattle.gb_meaning.specs.Names.{Name}
use Rattle.gb_meaning.specs.Declared.{Declaration, Declarations, declaration_of, declared, module_type_in, module_type_of, abstract_type, abbreviation, operator, abstract_operator, module_type, concrete_module, abstract_module, axiom_of, lemma, terminating}
use Rattle.gb_typing.specs.Context.{Context}
use Rattle.gb_typing.specs.Formulas.{with_module}
use Rattle.gb_typing.specs.Scopes.{nothing, with_declared, with_each, context_of, is_declared, AreTypedAfter, IsTypedScope}
use Rattle.gb_typing.specs.Sequents.{of_sequent, with_modules}
use Rattle.gb_typing.proofs.Declaring.{KnowsDeclared, knows_next, knows_nothing}
use Rattle.gb_typing.proofs.Operators.{declared_last, declared_more, other_name}

-- a declaration under another name
one_stays : (c : Context) (n : Name) (d : Declaration) (k : Name) → bytes_eq k n ≡ false → (with_declared c n d).modules.types k ≡ c.modules.types k
one_stays c n (module_type t) k e = ap (λ (b : Bool). if b then Some t else c.modules.types k) e
one_stays c n (concrete_module m) k e = refl
one_stays c n (abstract_module a) k e = refl
one_stays c n abstract_type k e = refl
one_stays c n (abbreviation stood) k e = refl
one_stays c n (operator o) k e = refl
one_stays c n (abstract_operator o) k e = refl
one_stays c n (axiom_of q) k e = refl
one_stays c n (lemma q) k e = refl
one_stays c n (terminating f) k e = refl

-- a declaration under its own name
own_type : (c : Context) (n : Name) (d : Declaration) (k : Name) → bytes_eq k n ≡ true → c.modules.types k ≡ None → (with_declared c n d).modules.types k ≡ module_type_in d
own_type c n (module_type t) k e free = ap (λ (b : Bool). if b then Some t else c.modules.types k) e
own_type c n (concrete_module m) k e free = free
own_type c n (abstract_module a) k e free = free
own_type c n abstract_type k e free = free
own_type c n (abbreviation stood) k e free = free
own_type c n (operator o) k e free = free
own_type c n (abstract_operator o) k e free = free
own_type c n (axiom_of q) k e free = free
own_type c n (lemma q) k e free = free
own_type c n (terminating f) k e free = free

each_stays : (ds before : Declarations) (c : Context) → AreTypedAfter c before ds → (k : Name) → is_declared before k ≡ true → (with_each c ds).modules.types k ≡ c.modules.types k
each_stays [] before c w k e = refl
each_stays (d ∷ ds) before c w k e =
    each_stays ds (before ++ d ∷ []) (with_declared c d.0 d.1) w.2 k (declared_more before d k e) ∙ one_stays c d.0 d.1 k (other_name before k d.0 e w.0)

undeclared_more : (before : Declarations) (d : Name × Declaration) (k : Name) → is_declared before k ≡ false → bytes_eq k d.0 ≡ false → is_declared (before ++ d ∷ []) k ≡ false
undeclared_more [] d k e f = ap (λ b. b || false) f
undeclared_more (x ∷ xs) d k e f = step (bytes_eq k x.0) (undeclared_more xs d k) e
  where
    step : (b : Bool) → (is_declared xs k ≡ false → bytes_eq k d.0 ≡ false → is_declared (xs ++ d ∷ []) k ≡ false) → (b || is_declared xs k) ≡ false → (b || is_declared (xs ++ d ∷ []) k) ≡ false
    step true go e = e
    step false go e = go e f

types_after : (ds before : Declarations) (c : Context) → KnowsDeclared before c → AreTypedAfter c before ds → (k : Name) → is_declared before k ≡ false → (with_each c ds).modules.types k ≡ module_type_of ds k
types_after [] before c q w k e = q.types k e
types_after ((n, d) ∷ ds) before c q w k e =
    step (bytes_eq k n) refl (λ h. types_after ds (before ++ (n, d) ∷ []) (with_declared c n d) (knows_next c n before q d w.1) w.2 k (undeclared_more before (n, d) k e h))
  where
    next : Context
    next = with_declared c n d

    step : (b : Bool) → bytes_eq k n ≡ b → (bytes_eq k n ≡ false → (with_each next ds).modules.types k ≡ module_type_of ds k) →
        (with_each next ds).modules.types k ≡ (if b then module_type_in d else module_type_of ds k)
    step true h go = each_stays ds (before ++ (n, d) ∷ []) next w.2 k (declared_last before (n, d) k h) ∙ own_type c n d k h (q.types k e)
    step false h go = go h

type_in-entry : (e : Entry) → module_type_in (declaration_of e) ≡ as_module_type (Some e)
type_in-entry (entry.ModuleType t) = refl
type_in-entry (entry.AbstractModule t) = refl
type_in-entry (entry.Module m) = refl
type_in-entry (entry.Lemma q order) = refl
type_in-entry (entry.Type t) = refl
type_in-entry entry.AbstractType = refl
type_in-entry (entry.Constant c) = refl
type_in-entry (entry.Operator o) = refl
type_in-entry (entry.AbstractOperator o) = refl
type_in-entry (entry.Terminating p) = refl

pub declared_type : (ds : scope.Declarations) (n : Name) → module_type_of (declared ds) n ≡ scope.module_type_of ds n
declared_type [] n = refl
declared_type (d ∷ ds) n = step (bytes_eq n d.0) (declared_type ds n)
  where
    step : (b : Bool) → module_type_of (declared ds) n ≡ scope.module_type_of ds n →
        (if b then module_type_in (declaration_of d.1) else module_type_of (declared ds) n) ≡ as_module_type (if b then Some d.1 else entry_of ds n)
    step true h = type_in-entry d.1
    step false h = h

-- the modules that a goal binds are no module types
binders_stay : (bs : List Bind) (c : Context) (k : Name) → (with_modules c bs).modules.types k ≡ c.modules.types k
binders_stay [] c k = refl
binders_stay (b ∷ bs) c k = binders_stay bs (with_module c b) k

-- the module types that the context of a scope knows
pub scope_types : (ds : scope.Declarations) → IsTypedScope (declared ds) → (k : Name) → (context_of (declared ds)).modules.types k ≡ scope.module_type_of ds k
scope_types ds scoped k = types_after (declared ds) [] nothing knows_nothing scoped k refl ∙ declared_type ds k

-- .. and those that the context of a goal knows
pub goal_types : (ds : scope.Declarations) → IsTypedScope (declared ds) → (q : Sequent) (fs : List (List TypedName)) (k : Name) →
    (of_sequent (context_of (declared ds)) q fs).modules.types k ≡ scope.module_type_of ds k
goal_types ds scoped q fs k = binders_stay q.modules (context_of (declared ds)) k ∙ scope_types ds scoped k
