-- What is known in a context stays known as declarations and abstract modules are added.
use Rattle.std.proofs.Common.{◌≡◌, Bool, true, false, if◌then◌else◌, List, [], ◌∷◌, ◌++◌, map, Option, Some, None, bytes_eq, refl, ap, sym, ◌∙◌, subst}
use Rattle.gb_core.specs.declared.ty.Ty.{Ty}
use Rattle.gb_terms.specs.declared.decl.Module.{Module}
use Rattle.gb_terms.specs.declared.decl.Param.{Param}
use Rattle.gb_terms.specs.declared.decl.TypedName.{TypedName}
use Rattle.gb_terms.specs.declared.module.Bind.{Bind}
use Rattle.gb_goal.specs.declared.sequent.Sequent.{Sequent}
use Rattle.gb_meaning.specs.Names.{Name}
use Rattle.gb_meaning.specs.Written.{local_type}
use Rattle.gb_laws.specs.Typing.{OperatorType}
use Rattle.gb_meaning.specs.Declared.{Declarations, Declaration, ModuleType, abstract_type, abbreviation, operator, abstract_operator, module_type, concrete_module, abstract_module, axiom_of, lemma, terminating}
use Rattle.gb_typing.specs.Context.{Context}
use Rattle.gb_typing.specs.Modules.{Interface, Modules, signature_types, signatures_of, params_in, functor_type, of_functor_type, with_interface}
use Rattle.gb_typing.specs.Formulas.{IsKnown, with_module}
use Rattle.gb_typing.specs.Scopes.{AreParams, AreTaken, with_param, interface_with, operator_type, procedure_types, IsModuleType, IsModule, with_declared, with_each, IsDeclared, is_declared, AreTypedAfter}
use Rattle.gb_typing.specs.Sequents.{AreBinders, of_sequent, with_modules}
use Rattle.gb_typing.proofs.Declaring.{KnowsDeclared, knows_next}
use Rattle.gb_typing.proofs.Scripts.{none_some, same_some, same_name}
use Rattle.gb_typing.specs.Suits.{lacked}

-- what names of module types stand for in f they stand for in g
abbrev pub KeepsTypes : (Name → Option ModuleType) → (Name → Option ModuleType) → Type 0
KeepsTypes f g = (n : Name) (t : ModuleType) → f n ≡ Some t → g n ≡ Some t

-- what is known in c is known in d
pub record Keeps (c d : Context) : Type 0 where
  pub globals : (n x : Name) (t : Ty) → c.global n x ≡ Some t → d.global n x ≡ Some t
  pub operators : (n : Name) (o : OperatorType) → c.operator n ≡ Some o → d.operator n ≡ Some o
  pub interfaces : (n : Name) (i : Interface) → c.modules.interfaces n ≡ Some i → d.modules.interfaces n ≡ Some i
  pub types : KeepsTypes c.modules.types d.modules.types

pub keeps_itself : (c : Context) → Keeps c c
keeps_itself c = record { globals = λ n x t e. e; operators = λ n o e. e; interfaces = λ n i e. e; types = λ n t e. e }

pub keeps_on : (c d e : Context) → Keeps c d → Keeps d e → Keeps c e
keeps_on c d e k l = record {
  globals = λ n x t h. l.globals n x t (k.globals n x t h);
  operators = λ n o h. l.operators n o (k.operators n o h);
  interfaces = λ n i h. l.interfaces n i (k.interfaces n i h);
  types = λ n t h. l.types n t (k.types n t h);
}

-- A table with a further entry, under a name that it doesn't have.
module _ {A : Type 0} (f : Name → Option A) (n : Name) (v : Option A) where
  entry_stays : f n ≡ None → (k : Name) (x : A) → f k ≡ Some x → (if bytes_eq k n then v else f k) ≡ Some x
  entry_stays free k x e = step (bytes_eq k n) refl
    where
      step : (b : Bool) → bytes_eq k n ≡ b → (if b then v else f k) ≡ Some x
      step true q = none_some x (sym (ap f (same_name k n q) ∙ free) ∙ e)
      step false q = e

module _ (c : Context) (b : Bind) where
  abbrev of_binder : Option Interface
  of_binder = Some (of_functor_type (functor_type c.modules.types (c.modules.types b.ty)))

  keeps_binder : c.modules.interfaces b.name ≡ None → Keeps c (with_module c b)
  keeps_binder free = record { globals = λ n x t e. e; operators = λ n o e. e; interfaces = entry_stays c.modules.interfaces b.name of_binder free; types = λ n t e. e }

module _ (c : Context) (before : Declarations) (n : Name) (k : KnowsDeclared before c) where
  next_keeps : (d : Declaration) → is_declared before n ≡ false → IsDeclared c n d → Keeps c (with_declared c n d)
  next_keeps abstract_type free w = keeps_itself c
  next_keeps (abbreviation a) free w = keeps_itself c
  next_keeps (operator o) free w = record { globals = λ n x t e. e; operators = entry_stays c.operator n (Some (operator_type o)) (k.operators n free); interfaces = λ n i e. e; types = λ n t e. e }
  next_keeps (abstract_operator o) free w =
      record { globals = λ n x t e. e; operators = entry_stays c.operator n (Some (record { params = o.params; result = o.result })) (k.operators n free); interfaces = λ n i e. e; types = λ n t e. e }
  next_keeps (module_type t) free w = record { globals = λ n x t e. e; operators = λ n o e. e; interfaces = λ n i e. e; types = entry_stays c.modules.types n (Some t) (k.types n free) }
  next_keeps (concrete_module m) free w = record {
    globals = λ h x. entry_stays (λ h. c.global h x) n (local_type m.globals x) (k.globals n x free) h;
    operators = λ n o e. e;
    interfaces = entry_stays c.modules.interfaces n (Some (interface_with c.modules.types m.params (procedure_types m.procs))) (k.interfaces n free);
    types = λ n t e. e;
  }
  next_keeps (abstract_module b) free w = let x = w.1 in keeps_binder c b x.free
  next_keeps (axiom_of q) free w = keeps_itself c
  next_keeps (lemma q) free w = keeps_itself c
  next_keeps (terminating p) free w = keeps_itself c

-- The parameters of module types.

abbrev pub AreKnown : (Name → Option ModuleType) → List Param → Type 0
AreKnown f [] = Unit {0}
AreKnown f (p ∷ ps) = IsKnown (f p.ty) × AreKnown f ps

-- the module types of the parameters of module types are known
abbrev pub HasParams : (Name → Option ModuleType) → Type 0
HasParams f = (n : Name) (t : ModuleType) → f n ≡ Some t → AreKnown f t.params

pub known_some : {A : Type 0} (o : Option A) → IsKnown o → (x : A) × (o ≡ Some x)
known_some None k = absurd k
known_some (Some x) k = (x, refl)

pub known_params : (ms : Modules) (ps : List Param) → AreParams ms ps → AreKnown ms.types ps
known_params ms [] w = tt
known_params ms (p ∷ ps) w = (w.0.0, known_params (with_param ms p) ps w.1)

known_taken : (ms : Modules) (ps : List Param) → AreTaken ms ps → AreKnown ms.types ps
known_taken ms [] w = tt
known_taken ms (p ∷ ps) w = (w.0.0, known_taken (with_param ms p) ps w.1)

module _ (f g : Name → Option ModuleType) (k : KeepsTypes f g) where
  pub same_at : (n : Name) → IsKnown (f n) → f n ≡ g n
  same_at n w = let x = known_some (f n) w in x.1 ∙ sym (k n x.0 x.1)

  pub known_on : (ps : List Param) → AreKnown f ps → AreKnown g ps
  known_on [] w = tt
  known_on (p ∷ ps) w = (subst IsKnown (same_at p.ty w.0) w.0, known_on ps w.1)

  same_signatures : (ps : List Param) → AreKnown f ps → map (λ p. signature_types (signatures_of (f p.ty))) ps ≡ map (λ p. signature_types (signatures_of (g p.ty))) ps
  same_signatures [] w = refl
  same_signatures (p ∷ ps) w = let one = same_at p.ty w.0 in let rest = same_signatures ps w.1 in λ i. signature_types (signatures_of (one i)) ∷ rest i

  pub same_functor : (o : Option ModuleType) → AreKnown f (params_in o) → functor_type f o ≡ functor_type g o
  same_functor o w = let rest = same_signatures (params_in o) w in λ i. record { lacks = rest i; procedures = signature_types (signatures_of o) }

  -- what a module lacks stays the same
  same_lacked : HasParams f → (ps : List Param) → AreKnown f ps → lacked f ps ≡ lacked g ps
  same_lacked has [] w = refl
  same_lacked has (p ∷ ps) w =
      let x = known_some (f p.ty) w.0 in
      let one = same_functor (f p.ty) (subst (λ o. AreKnown f (params_in o)) (sym x.1) (has p.ty x.0 x.1)) ∙ ap (functor_type g) (same_at p.ty w.0) in
      let rest = same_lacked has ps w.1 in
      λ i. one i ∷ rest i

module _ (c : Context) (before : Declarations) (n : Name) (k : KnowsDeclared before c) (has : HasParams c.modules.types) where
  module _ (t : ModuleType) (free : is_declared before n ≡ false) (w : IsModuleType c t) where
    abbrev further : Name → Option ModuleType
    further h = if bytes_eq h n then Some t else c.modules.types h

    further_keeps : KeepsTypes c.modules.types further
    further_keeps = entry_stays c.modules.types n (Some t) (k.types n free)

    further_params : HasParams further
    further_params h u e = step (bytes_eq h n) e
      where
        step : (b : Bool) → (if b then Some t else c.modules.types h) ≡ Some u → AreKnown further u.params
        step true e = subst (λ z. AreKnown further z.params) (same_some t u e) (known_on c.modules.types further further_keeps t.params (known_params c.modules t.params w.params))
        step false e = known_on c.modules.types further further_keeps u.params (has h u e)

  pub next_params : (d : Declaration) → is_declared before n ≡ false → IsDeclared c n d → HasParams (with_declared c n d).modules.types
  next_params abstract_type free w = has
  next_params (abbreviation a) free w = has
  next_params (operator o) free w = has
  next_params (abstract_operator o) free w = has
  next_params (module_type t) free w = further_params t free w
  next_params (concrete_module m) free w = has
  next_params (abstract_module b) free w = has
  next_params (axiom_of q) free w = has
  next_params (lemma q) free w = has
  next_params (terminating p) free w = has

pub scope_keeps : (ds before : Declarations) (c : Context) → AreTypedAfter c before ds → KnowsDeclared before c → Keeps c (with_each c ds)
scope_keeps [] before c w k = keeps_itself c
scope_keeps ((n, d) ∷ ds) before c w k =
    keeps_on c (with_declared c n d) (with_each (with_declared c n d) ds)
    (next_keeps c before n k d w.0 w.1)
    (scope_keeps ds (before ++ (n, d) ∷ []) (with_declared c n d) w.2 (knows_next c n before k d w.1))

-- A module, declared in the context a, of which c is a later one.
pub record IsPlaced (a : Context) (n : Name) (m : Module) (c : Context) : Type 0 where
  pub typed : IsModule a n m
  pub next : Keeps a (with_declared a n (concrete_module m))
  pub later : Keeps (with_declared a n (concrete_module m)) c
  pub params : HasParams a.modules.types

module _ (n : Name) (m : Module) (after : Declarations) where
  pub placed : (front before : Declarations) (c : Context) → AreTypedAfter c before (front ++ (n, concrete_module m) ∷ after) → KnowsDeclared before c → HasParams c.modules.types →
      IsPlaced (with_each c front) n m (with_each c (front ++ (n, concrete_module m) ∷ after))
  placed [] before c w k has = record {
    typed = w.1;
    next = next_keeps c before n k (concrete_module m) w.0 w.1;
    later = scope_keeps after (before ++ (n, concrete_module m) ∷ []) (with_declared c n (concrete_module m)) w.2 (knows_next c n before k (concrete_module m) w.1);
    params = has;
  }
  placed ((h, d) ∷ front) before c w k has =
      placed front (before ++ (h, d) ∷ []) (with_declared c h d) w.2 (knows_next c h before k d w.1) (next_params c before h k has d w.0 w.1)

binders_keep : (c : Context) (bs : List Bind) → AreBinders c bs → Keeps c (with_modules c bs)
binders_keep c [] w = keeps_itself c
binders_keep c (b ∷ bs) w = let x = w.0 in keeps_on c (with_module c b) (with_modules (with_module c b) bs) (keeps_binder c b x.free) (binders_keep (with_module c b) bs w.1)

-- the context of a goal knows what that of the declarations knows
pub goal_keeps : (c : Context) (q : Sequent) (fs : List (List TypedName)) → AreBinders c q.modules → Keeps c (of_sequent c q fs)
goal_keeps c q fs w = let k = binders_keep c q.modules w in record { globals = k.globals; operators = k.operators; interfaces = k.interfaces; types = k.types }

pub placed_later : (a : Context) (n : Name) (m : Module) (c d : Context) → IsPlaced a n m c → Keeps c d → IsPlaced a n m d
placed_later a n m c d p k = record { typed = p.typed; next = p.next; params = p.params; later = keeps_on (with_declared a n (concrete_module m)) c d p.later k }

-- what the module lacks is the same there
pub lacked_later : (a : Context) (n : Name) (m : Module) (c : Context) → IsPlaced a n m c → lacked a.modules.types m.params ≡ lacked c.modules.types m.params
lacked_later a n m c p =
    let z = p.typed in let k = p.next in let l = p.later in
    same_lacked a.modules.types c.modules.types (λ h t e. l.types h t (k.types h t e)) p.params m.params
    (known_taken (with_interface a.modules m.name (Some (interface_with a.modules.types m.params []))) m.params z.params)

-- and the module types of its parameters are known there
pub params_later : (a : Context) (n : Name) (m : Module) (c : Context) → IsPlaced a n m c → AreKnown c.modules.types m.params
params_later a n m c p =
    let z = p.typed in let k = p.next in let l = p.later in
    known_on a.modules.types c.modules.types (λ h t e. l.types h t (k.types h t e)) m.params
    (known_taken (with_interface a.modules m.name (Some (interface_with a.modules.types m.params []))) m.params z.params)
