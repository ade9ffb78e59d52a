-- A context grows with what is declared, and with the abstract modules of a goal.
use Rattle.std.proofs.Common.{◌≡◌, Bool, true, false, ◌||◌, if◌then◌else◌, List, [], ◌∷◌, ◌++◌, Some, None, bytes_eq, refl, ap, sym, ◌∙◌, subst}
use Rattle.std.proofs.lemmas.List.{append_assoc, append-nil}
use Rattle.gb_core.specs.declared.ty.Ty.{Ty}
use Rattle.gb_terms.specs.declared.decl.Module.{Module}
use Rattle.gb_terms.specs.declared.decl.TypedName.{TypedName}
use Rattle.gb_terms.specs.declared.module.Bind.{Bind}
use Rattle.gb_goal.specs.declared.sequent.Sequent.{Sequent}
use Rattle.gb_meaning.specs.Names.{Name}
use Rattle.gb_meaning.specs.Written.{local_type}
use Rattle.gb_laws.specs.Typing.{OperatorType}
use Rattle.gb_meaning.specs.Declared.{Declaration, Declarations, ModuleType, abstract_type, abbreviation, operator, abstract_operator, module_type, concrete_module, abstract_module, axiom_of, lemma, terminating}
use Rattle.gb_typing.specs.Context.{Context}
use Rattle.gb_typing.specs.Formulas.{IsBinder, with_module}
use Rattle.gb_typing.specs.Modules.{Interface, functor_type, of_functor_type}
use Rattle.gb_typing.specs.Scopes.{nothing, operator_type, interface_with, procedure_types, with_operator, with_declared, with_each, is_declared, IsDeclared, AreTypedAfter, context_of, IsTypedScope}
use Rattle.gb_typing.specs.Sequents.{AreBinders, of_sequent, with_modules}
use Rattle.gb_typing.proofs.Globals.{or_false}
use Rattle.gb_typing.proofs.Grown.{Grows}
use Rattle.gb_typing.proofs.Interfaces.{none_some, same_name, HasMore, more_itself as more_modules_itself, more_on as more_modules_on, more_interface, more_type, type_stays}

-- a context in which more is known than in another one
pub record KnowsMore (c d : Context) : Type 0 where
  pub global : (m x : Name) (t : Ty) → c.global m x ≡ Some t → d.global m x ≡ Some t
  pub operator : (n : Name) (o : OperatorType) → c.operator n ≡ Some o → d.operator n ≡ Some o
  pub modules : HasMore c.modules d.modules

-- what programs name is there where more is known
pub grows_by : (c d : Context) → KnowsMore c d → Grows c d
grows_by c d g = record { global = g.global; operator = g.operator; procedures = type_stays c.modules d.modules g.modules }

pub more_itself : (c : Context) → KnowsMore c c
more_itself c = record { global = λ m x t e. e; operator = λ n o e. e; modules = more_modules_itself c.modules }

pub more_on : (c d e : Context) → KnowsMore c d → KnowsMore d e → KnowsMore c e
more_on c d e k l = record {
  global = λ m x t h. l.global m x t (k.global m x t h);
  operator = λ n o h. l.operator n o (k.operator n o h);
  modules = more_modules_on c.modules d.modules e.modules k.modules l.modules;
}

-- Declarations.

-- nothing is known but what is declared
pub record KnowsDeclared (before : Declarations) (c : Context) : Type 0 where
  pub types : (n : Name) → is_declared before n ≡ false → c.modules.types n ≡ None
  pub interfaces : (n : Name) → is_declared before n ≡ false → c.modules.interfaces n ≡ None
  pub globals : (n x : Name) → is_declared before n ≡ false → c.global n x ≡ None
  pub operators : (n : Name) → is_declared before n ≡ false → c.operator n ≡ None

pub knows_nothing : KnowsDeclared [] nothing
knows_nothing = record { types = λ n e. refl; interfaces = λ n e. refl; globals = λ n x e. refl; operators = λ n e. refl }

pub undeclared : (before : Declarations) (n k : Name) (d : Declaration) → is_declared (before ++ (n, d) ∷ []) k ≡ false → (is_declared before k ≡ false) × (bytes_eq k n ≡ false)
undeclared [] n k d e = (refl, (or_false (bytes_eq k n) false e).0)
undeclared (x ∷ xs) n k d e =
    let a = or_false (bytes_eq k x.0) (is_declared (xs ++ (n, d) ∷ []) k) e in
    let b = undeclared xs n k d a.1 in
    ((λ i. a.0 i || b.0 i), b.1)

module _ (c : Context) (n : Name) (before : Declarations) (k : KnowsDeclared before c) where
  -- a declaration that no context tells
  pub knows_same : (d : Declaration) → KnowsDeclared (before ++ (n, d) ∷ []) c
  knows_same d = record {
    types = λ h e. k.types h (undeclared before n h d e).0;
    interfaces = λ h e. k.interfaces h (undeclared before n h d e).0;
    globals = λ h y e. k.globals h y (undeclared before n h d e).0;
    operators = λ h e. k.operators h (undeclared before n h d e).0;
  }

  pub knows_operator : (d : Declaration) (o : OperatorType) → KnowsDeclared (before ++ (n, d) ∷ []) (with_operator c n o)
  knows_operator d o = record {
    types = λ h e. k.types h (undeclared before n h d e).0;
    interfaces = λ h e. k.interfaces h (undeclared before n h d e).0;
    globals = λ h y e. k.globals h y (undeclared before n h d e).0;
    operators = λ h e. let x = undeclared before n h d e in ap (λ (b : Bool). if b then Some o else c.operator h) x.1 ∙ k.operators h x.0;
  }

  knows_type : (t : ModuleType) → KnowsDeclared (before ++ (n, module_type t) ∷ []) (with_declared c n (module_type t))
  knows_type t = record {
    types = λ h e. let x = undeclared before n h (module_type t) e in ap (λ (b : Bool). if b then Some t else c.modules.types h) x.1 ∙ k.types h x.0;
    interfaces = λ h e. k.interfaces h (undeclared before n h (module_type t) e).0;
    globals = λ h y e. k.globals h y (undeclared before n h (module_type t) e).0;
    operators = λ h e. k.operators h (undeclared before n h (module_type t) e).0;
  }

  knows_module : (m : Module) → KnowsDeclared (before ++ (n, concrete_module m) ∷ []) (with_declared c n (concrete_module m))
  knows_module m = record {
    types = λ h e. k.types h (undeclared before n h (concrete_module m) e).0;
    interfaces = λ h e. let x = undeclared before n h (concrete_module m) e in
        ap (λ (b : Bool). if b then Some (interface_with c.modules.types m.params (procedure_types m.procs)) else c.modules.interfaces h) x.1 ∙ k.interfaces h x.0;
    globals = λ h y e. let x = undeclared before n h (concrete_module m) e in ap (λ (b : Bool). if b then local_type m.globals y else c.global h y) x.1 ∙ k.globals h y x.0;
    operators = λ h e. k.operators h (undeclared before n h (concrete_module m) e).0;
  }

  knows_abstract : (b : Bind) → b.name ≡ n → KnowsDeclared (before ++ (n, abstract_module b) ∷ []) (with_module c b)
  knows_abstract b own = record {
    types = λ h e. k.types h (undeclared before n h (abstract_module b) e).0;
    interfaces = λ h e. let x = undeclared before n h (abstract_module b) e in
        ap (λ (w : Bool). if w then Some (of_functor_type (functor_type c.modules.types (c.modules.types b.ty))) else c.modules.interfaces h) (ap (bytes_eq h) own ∙ x.1) ∙ k.interfaces h x.0;
    globals = λ h y e. k.globals h y (undeclared before n h (abstract_module b) e).0;
    operators = λ h e. k.operators h (undeclared before n h (abstract_module b) e).0;
  }

  -- what is known with one declaration more
  pub knows_next : (d : Declaration) → IsDeclared c n d → KnowsDeclared (before ++ (n, d) ∷ []) (with_declared c n d)
  knows_next abstract_type w = knows_same abstract_type
  knows_next (abbreviation a) w = knows_same (abbreviation a)
  knows_next (operator o) w = knows_operator (operator o) (operator_type o)
  knows_next (abstract_operator o) w = knows_operator (abstract_operator o) (record { params = o.params; result = o.result })
  knows_next (module_type t) w = knows_type t
  knows_next (concrete_module m) w = knows_module m
  knows_next (abstract_module b) w = knows_abstract b w.0
  knows_next (axiom_of q) w = knows_same (axiom_of q)
  knows_next (lemma q) w = knows_same (lemma q)
  knows_next (terminating p) w = knows_same (terminating p)

  module _ (free : is_declared before n ≡ false) where
    more_operator : (o : OperatorType) → KnowsMore c (with_operator c n o)
    more_operator o = record { global = λ m x t e. e; operator = λ h u e. step h u (bytes_eq h n) refl e; modules = more_modules_itself c.modules }
      where
        step : (h : Name) (u : OperatorType) (b : Bool) → bytes_eq h n ≡ b → c.operator h ≡ Some u → (if b then Some o else c.operator h) ≡ Some u
        step h u true q e = none_some u (sym (ap c.operator (same_name h n q) ∙ k.operators n free) ∙ e)
        step h u false q e = e

    more_module : (m : Module) → KnowsMore c (with_declared c n (concrete_module m))
    more_module m = record {
      global = λ h x t e. step h x t (bytes_eq h n) refl e;
      operator = λ h o e. e;
      modules = more_interface c.modules n (Some (interface_with c.modules.types m.params (procedure_types m.procs))) (k.interfaces n free);
    }
      where
        step : (h x : Name) (t : Ty) (b : Bool) → bytes_eq h n ≡ b → c.global h x ≡ Some t → (if b then local_type m.globals x else c.global h x) ≡ Some t
        step h x t true q e = none_some t (sym (ap (λ z. c.global z x) (same_name h n q) ∙ k.globals n x free) ∙ e)
        step h x t false q e = e

-- a binder's name is free, so that more is known with its module
pub more_binder : (c : Context) (b : Bind) → IsBinder c b → KnowsMore c (with_module c b)
more_binder c b w = record {
  global = λ m x t e. e;
  operator = λ n o e. e;
  modules = more_interface c.modules b.name (Some (of_functor_type (functor_type c.modules.types (c.modules.types b.ty)))) w.free;
}

module _ (c : Context) (n : Name) (before : Declarations) (k : KnowsDeclared before c) (free : is_declared before n ≡ false) where
  -- more is known with one declaration more
  pub more_next : (d : Declaration) → IsDeclared c n d → KnowsMore c (with_declared c n d)
  more_next abstract_type w = more_itself c
  more_next (abbreviation a) w = more_itself c
  more_next (operator o) w = more_operator c n before k free (operator_type o)
  more_next (abstract_operator o) w = more_operator c n before k free (record { params = o.params; result = o.result })
  more_next (module_type t) w = record { global = λ m x u e. e; operator = λ h o e. e; modules = more_type c.modules n t (k.types n free) }
  more_next (concrete_module m) w = more_module c n before k free m
  more_next (abstract_module b) w = more_binder c b w.1
  more_next (axiom_of q) w = more_itself c
  more_next (lemma q) w = more_itself c
  more_next (terminating p) w = more_itself c

-- more is known with several declarations
pub more_each : (ds before : Declarations) (c : Context) → AreTypedAfter c before ds → KnowsDeclared before c → KnowsMore c (with_each c ds)
more_each [] before c w k = more_itself c
more_each ((n, d) ∷ ds) before c w k =
    more_on c (with_declared c n d) (with_each (with_declared c n d) ds) (more_next c n before k w.0 d w.1)
    (more_each ds (before ++ (n, d) ∷ []) (with_declared c n d) w.2 (knows_next c n before k d w.1))

-- nothing is known in the end but what is declared
pub knows_each : (ds before : Declarations) (c : Context) → AreTypedAfter c before ds → KnowsDeclared before c → KnowsDeclared (before ++ ds) (with_each c ds)
knows_each [] before c w k = subst (λ z. KnowsDeclared z c) (sym (append-nil before)) k
knows_each ((n, d) ∷ ds) before c w k =
    subst (λ z. KnowsDeclared z (with_each (with_declared c n d) ds)) (append_assoc before ((n, d) ∷ []) ds)
    (knows_each ds (before ++ (n, d) ∷ []) (with_declared c n d) w.2 (knows_next c n before k d w.1))

-- a module that is known is declared
pub declared_if : (before : Declarations) (c : Context) → KnowsDeclared before c → (n : Name) (i : Interface) → c.modules.interfaces n ≡ Some i → is_declared before n ≡ true
declared_if before c k n i e = step (is_declared before n) refl
  where
    step : (b : Bool) → is_declared before n ≡ b → b ≡ true
    step true h = refl
    step false h = none_some i (sym (k.interfaces n h) ∙ e)

pub split : (xs ys before : Declarations) (c : Context) → AreTypedAfter c before (xs ++ ys) → AreTypedAfter c before xs × AreTypedAfter (with_each c xs) (before ++ xs) ys
split [] ys before c w = (tt, subst (λ z. AreTypedAfter c z ys) (sym (append-nil before)) w)
split ((n, d) ∷ xs) ys before c w =
    let k = split xs ys (before ++ (n, d) ∷ []) (with_declared c n d) w.2 in
    ((w.0, w.1, k.0), subst (λ z. AreTypedAfter (with_each (with_declared c n d) xs) z ys) (append_assoc before ((n, d) ∷ []) xs) k.1)

pub each_append : (xs ys : Declarations) (c : Context) → with_each c (xs ++ ys) ≡ with_each (with_each c xs) ys
each_append [] ys c = refl
each_append ((n, d) ∷ xs) ys c = each_append xs ys (with_declared c n d)

-- what programs name stays where more is declared
pub in_later : (ds es : Declarations) → IsTypedScope ds → AreTypedAfter (context_of ds) ds es → Grows (context_of ds) (with_each (context_of ds) es)
in_later ds es scoped w = grows_by (context_of ds) (with_each (context_of ds) es) (more_each es ds (context_of ds) w (knows_each ds [] nothing scoped knows_nothing))

-- Goals.

-- more is known with abstract modules, one after another
pub more_binders : (c : Context) (bs : List Bind) → AreBinders c bs → KnowsMore c (with_modules c bs)
more_binders c [] w = more_itself c
more_binders c (b ∷ bs) w = more_on c (with_module c b) (with_modules (with_module c b) bs) (more_binder c b w.0) (more_binders (with_module c b) bs w.1)

-- what programs name over declarations is there in the context of a goal, with abstract modules too
pub in_goal : (c : Context) (q : Sequent) → AreBinders c q.modules → (fs : List (List TypedName)) → Grows c (of_sequent c q fs)
in_goal c q w fs =
    let g : Grows c (with_modules c q.modules) = grows_by c (with_modules c q.modules) (more_binders c q.modules w) in
    record { global = g.global; operator = g.operator; procedures = g.procedures }
