-- The procedures of declared modules, with modules for their parameters, in the contexts of goals.
use Rattle.std.proofs.Common.{◌≡◌, Bool, true, false, if◌then◌else◌, List, [], ◌∷◌, ◌++◌, Some, bytes_eq, ap, sym, ◌∙◌, subst}
use Rattle.std.proofs.lemmas.List.{append_assoc, append-nil}
use Rattle.gb_terms.specs.declared.decl.Module.{Module}
use Rattle.gb_terms.specs.declared.decl.Proc.{Proc}
use Rattle.gb_terms.specs.declared.decl.TypedName.{TypedName}
use Rattle.gb_terms.specs.declared.module.Mexp.{Mexp}
use Rattle.gb_terms.specs.declared.module.Mexp.TheVariants.{Name as named}
use Rattle.gb_goal.specs.declared.sequent.Sequent.{Sequent}
use Rattle.gb_goal.specs.Scope.{proc_of}
use Rattle.gb_meaning.specs.Names.{Name}
use Rattle.gb_meaning.specs.Written.{local_type}
use Rattle.gb_meaning.specs.Declared.{Declarations, concrete_module}
use Rattle.gb_meaning.specs.Modules.{Procedures, found}
use Rattle.gb_typing.specs.Context.{Context, procedure}
use Rattle.gb_typing.specs.Modules.{ProcedureType, Interface, of_complete, procedure_of}
use Rattle.gb_typing.specs.Programs.{IsProcedure, type_of_procedure}
use Rattle.gb_typing.specs.Scopes.{nothing, interface_with, procedure_types, in_module, AreProcedures, context_of, IsTypedScope}
use Rattle.gb_typing.specs.Sequents.{AreBinders, of_sequent}
use Rattle.gb_typing.proofs.Standing.{Among, among, types_split}
use Rattle.gb_typing.proofs.Scripts.{none_some, same_some, itself}
use Rattle.gb_goal.specs.Instances.{name_of, arguments_of, instance}
use Rattle.gb_typing.specs.Suits.{suits, lacked, Knows}
use Rattle.gb_typing.proofs.Declaring.{knows_nothing}
use Rattle.gb_typing.proofs.Growing.{IsPlaced, placed, placed_later, goal_keeps}
use Rattle.gb_typing.proofs.Inside.{typed_instance, typed_plain, applied_procedure, applied_suits}

pub found_first : (ps : List Proc) (f : Name) (p : Proc) → proc_of ps f ≡ Some p → found (procedure_types ps) f ≡ Some (type_of_procedure p)
found_first [] f p e = none_some p e
found_first (x ∷ ps) f p e = step (bytes_eq f x.name) (found_first ps f p) e
  where
    step : (b : Bool) → (proc_of ps f ≡ Some p → found (procedure_types ps) f ≡ Some (type_of_procedure p)) → (if b then Some x else proc_of ps f) ≡ Some p →
        (if b then Some (type_of_procedure x) else found (procedure_types ps) f) ≡ Some (type_of_procedure p)
    step true rest e = ap Some (ap type_of_procedure (same_some x p e))
    step false rest e = rest e

found_front : (xs ys : Procedures ProcedureType) (f : Name) (t : ProcedureType) → found xs f ≡ Some t → found (xs ++ ys) f ≡ Some t
found_front [] ys f t e = none_some t e
found_front (x ∷ xs) ys f t e = step (bytes_eq f x.0) (found_front xs ys f t) e
  where
    step : (b : Bool) → (found xs f ≡ Some t → found (xs ++ ys) f ≡ Some t) → (if b then Some x.1 else found xs f) ≡ Some t → (if b then Some x.1 else found (xs ++ ys) f) ≡ Some t
    step true k e = e
    step false k e = k e

typed_behind : (a : Context) (m : Module) (front after : List Proc) (p : Proc) (before : Procedures ProcedureType) → AreProcedures a m before (front ++ p ∷ after) →
    IsProcedure (in_module a m (before ++ procedure_types front)) p
typed_behind a m [] after p before w = subst (λ z. IsProcedure (in_module a m z) p) (sym (append-nil before)) w.1
typed_behind a m (x ∷ front) after p before w =
    subst (λ z. IsProcedure (in_module a m z) p) (append_assoc before ((x.name, type_of_procedure x) ∷ []) (procedure_types front))
    (typed_behind a m front after p (before ++ (x.name, type_of_procedure x) ∷ []) w.2)

-- A module, declared in the context a, of which c is a later one.
module _ (a : Context) (n : Name) (m : Module) (c : Context) (w : IsPlaced a n m c) where
  pub there : c.modules.interfaces n ≡ Some (interface_with a.modules.types m.params (procedure_types m.procs))
  there = let k = w.later in
      k.interfaces n (interface_with a.modules.types m.params (procedure_types m.procs))
      (ap (λ b. if b then Some (interface_with a.modules.types m.params (procedure_types m.procs)) else a.modules.interfaces n) (itself n))

  pub knows : (xs ys : Procedures ProcedureType) → procedure_types m.procs ≡ xs ++ ys → Knows a m xs c
  knows xs ys split = record {
    globals = λ h x t e. let k = w.next in let l = w.later in l.globals h x t (k.globals h x t e);
    operators = λ h o e. let k = w.next in let l = w.later in l.operators h o (k.operators h o e);
    interfaces = λ h i e. let k = w.next in let l = w.later in l.interfaces h i (k.interfaces h i e);
    own = λ x t e. let z = w.typed in let l = w.later in
        ap (λ h. c.global h x) z.name ∙ l.globals n x t (ap (λ b. if b then local_type m.globals x else a.global n x) (itself n) ∙ e);
    procedures = procedure_types m.procs;
    whole = let z = w.typed in ap c.modules.interfaces z.name ∙ there;
    among = λ f t e. subst (λ zs. found zs f ≡ Some t) (sym split) (found_front xs ys f t e);
  }

  pub placed_procedure : (front after : List Proc) (p : Proc) → m.procs ≡ front ++ p ∷ after → Knows a m (procedure_types front) c × IsProcedure (in_module a m (procedure_types front)) p
  placed_procedure front after p e = let z = w.typed in (
    knows (procedure_types front) (procedure_types (p ∷ after)) (types_split m.procs front (p ∷ after) e),
    typed_behind a m front after p [] (subst (AreProcedures a m []) e z.procs),
  )

  module _ (f : Name) (p : Proc) (e : proc_of m.procs f ≡ Some p) where
    pub here : Among a m [] m.procs f p
    here = let z = w.typed in among a m m.procs [] z.procs f p e

    -- the earlier procedures of the module
    abbrev earlier : Procedures ProcedureType
    earlier = let h = here in procedure_types h.front

    known_here : Knows a m earlier c
    known_here = let h = here in knows earlier (procedure_types (p ∷ h.after)) (types_split m.procs h.front (p ∷ h.after) h.place)

    typed_here : IsProcedure (in_module a m earlier) p
    typed_here = let h = here in h.typed

    module _ (x : Mexp) (named_so : name_of x ≡ n) (t : ProcedureType) (of_type : procedure c (record { «module» = x; name = f }) ≡ Some t) where
      abbrev whole : Interface
      whole = interface_with a.modules.types m.params (procedure_types m.procs)

      there_so : c.modules.interfaces (name_of x) ≡ Some whole
      there_so = ap c.modules.interfaces named_so ∙ there

      fit : suits c.modules (lacked a.modules.types m.params) (arguments_of x) ≡ true
      fit = applied_suits c.modules x whole there_so f t of_type

      pub instance_here : IsProcedure c (instance m.params (arguments_of x) p)
      instance_here = typed_instance a c m earlier known_here (arguments_of x) fit p typed_here

      pub type_here : t ≡ type_of_procedure p
      type_here = same_some t (type_of_procedure p)
          (sym of_type ∙ applied_procedure c.modules x whole there_so f fit ∙ found_first m.procs f p e)

    module _ (none : m.params ≡ []) where
      pub plain_here : IsProcedure c p
      plain_here = typed_plain a c m earlier known_here none p typed_here

      pub plain_type_here : procedure c (record { «module» = named n; name = f }) ≡ Some (type_of_procedure p)
      plain_type_here =
          ap (λ o. procedure_of o f) there ∙ ap (λ ps. of_complete (lacked a.modules.types ps) (procedure_types m.procs) f) none ∙ found_first m.procs f p e

-- A module that is declared in a typed scope is placed in the context of each goal.
pub placed_in_goal : (ds front after : Declarations) (n : Name) (m : Module) → IsTypedScope ds → ds ≡ front ++ (n, concrete_module m) ∷ after →
    (q : Sequent) (fs : List (List TypedName)) → AreBinders (context_of ds) q.modules → IsPlaced (context_of front) n m (of_sequent (context_of ds) q fs)
placed_in_goal ds front after n m scoped place q fs w =
    placed_later (context_of front) n m (context_of ds) (of_sequent (context_of ds) q fs)
    (subst (λ z. IsPlaced (context_of front) n m (context_of z)) (sym place) (placed n m after front [] nothing (subst IsTypedScope place scoped) knows_nothing (λ h t e. none_some t e)))
    (goal_keeps (context_of ds) q fs w)
