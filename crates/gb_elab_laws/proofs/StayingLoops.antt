-- Proved loops stay good as the scope of a script grows.
use Rattle.std.proofs.Common.{◌≡◌, ℕ, inl, Bool, true, false, if◌then◌else◌, List, [], ◌∷◌, ◌++◌, Option, Some, None, bytes_eq, refl, sym, ◌∙◌, subst}
use Rattle.std.proofs.lemmas.List.{append_assoc, append-nil}
use Rattle.std.proofs.lemmas.Option.{same_Some}
use Rattle.gb_terms.specs.declared.decl.Module.{Module}
use Rattle.gb_terms.specs.declared.decl.Param.{Param}
use Rattle.gb_terms.specs.declared.decl.Proc.{Proc}
use Rattle.gb_terms.specs.declared.module.Mexp.TheVariants.{Name as named}
use Rattle.gb_terms.specs.declared.module.ProcRef.{ProcRef}
use Rattle.gb_goal.specs.declared.scope.Entry.{Entry}
use Rattle.gb_goal.specs.declared.scope.Entry.TheVariants as entry
use Rattle.gb_goal.specs.Scope as scope
use Rattle.gb_goal.specs.Scope.{as_module, entry_of, module_of, proc_at, proc_if_plain, proc_in, proc_of, procedure_of}
use Rattle.gb_meaning.specs.Names.{Name}
use Rattle.gb_meaning.specs.Setting.{Setting}
use Rattle.gb_meaning.specs.Values.{World}
use Rattle.gb_meaning.specs.Declared.{Declarations, Declaration, declaration_of, declared, concrete_module, module_type, module_in, module_named}
use Rattle.gb_meaning.specs.Holds.{EachArgument, EachProgram, InEachModel, IsTerminating, interpretation}
use Rattle.gb_meaning.specs.Naming.{AnyName, IsFresh}
use Rattle.gb_meaning.specs.Settings.{Table, setting}
use Rattle.gb_meaning.proofs.Lists.{declared-append, declared-module}
use Rattle.gb_typing.specs.Added.{AreLoopsApart, AreParamsApart, IsAdded, IsBodyApart, IsProcedureApart}
use Rattle.gb_typing.specs.Naming.{IsKept, NamesIfThere, NoName}
use Rattle.gb_typing.proofs.Additions.{loops-added}
use Rattle.gb_typing.proofs.KeptNames.{each-name}
use Rattle.gb_typing.specs.Context.{Context}
use Rattle.gb_typing.specs.Formulas.{IsKnown}
use Rattle.gb_typing.specs.Programs.{locals_of}
use Rattle.gb_typing.specs.Scopes.{AreTypedAfter, IsDeclared, IsFree, IsTypedScope, context_of, is_declared, nothing, with_declared}
use Rattle.gb_typing.specs.Sequents.{of_sequent}
use Rattle.gb_typing.proofs.Located.{IsTypedThere, typed_there}
use Rattle.gb_elab_laws.specs.Falsehood.{falsehood}
use Rattle.gb_arguments.specs.Firm.{IsFirm}
use Rattle.gb_elab_laws.specs.Speaking.{BodySpeaks, DeclarationSpeaks, IsFirmScope, ProceduresSpeak, ScopeSpeaks}
use Rattle.gb_elab_laws.proofs.LinkedNames.{body_names, none_some, procedures_in}
use Rattle.gb_elab_laws.proofs.Models.{no_section}
use Rattle.gb_elab_laws.proofs.MoreNames.{more_scope, parts}
use Rattle.gb_elab_laws.proofs.NamedForms.{Procedures, each_known, reference_known}
use Rattle.gb_elab_laws.proofs.Staying.{other_name, scope_apart, split}
use Rattle.gb_elab_laws.proofs.StayingOn.{knows, new_operator}

-- The module of a procedure that is declared.

pub record IsOf (o : Option Module) (f : Name) (a : Proc) : Type 0 where
  pub owner : Module
  pub there : o ≡ Some owner
  pub plain : owner.params ≡ []
  pub procedure : proc_of owner.procs f ≡ Some a

pub module_there : (o : Option Module) (f : Name) (a : Proc) → proc_in o f ≡ Some a → IsOf o f a
module_there None f a e = none_some a e
module_there (Some m) f a e = by_params m.params refl e
  where
    by_params : (xs : List Param) → m.params ≡ xs → proc_if_plain xs m.procs f ≡ Some a → IsOf (Some m) f a
    by_params [] p e = record { owner = m; there = refl; plain = p; procedure = e }
    by_params (x ∷ xs) p e = none_some a e

pub found_named_of : (ds : scope.Declarations) (n : Name) (m : Module) → module_of ds n ≡ Some m → module_named (declared ds) n ≡ Some m
found_named_of ds n m e = declared-module ds n ∙ e

named_front : (xs ys : Declarations) (n : Name) (m : Module) → module_named xs n ≡ Some m → module_named (xs ++ ys) n ≡ Some m
named_front [] ys n m e = none_some m e
named_front (x ∷ xs) ys n m e = step (bytes_eq n x.0) (named_front xs ys n m) e
  where
    step : (b : Bool) → (module_named xs n ≡ Some m → module_named (xs ++ ys) n ≡ Some m) → (if b then module_in x.1 else module_named xs n) ≡ Some m →
        (if b then module_in x.1 else module_named (xs ++ ys) n) ≡ Some m
    step true k e = e
    step false k e = k e

of_front : (xs ys : scope.Declarations) (n f : Name) (a : Proc) → proc_in (module_of xs n) f ≡ Some a → proc_in (module_of (xs ++ ys) n) f ≡ Some a
of_front [] ys n f a e = none_some a e
of_front (x ∷ xs) ys n f a e = step (bytes_eq n x.0) (of_front xs ys n f a) e
  where
    step : (b : Bool) → (proc_in (module_of xs n) f ≡ Some a → proc_in (module_of (xs ++ ys) n) f ≡ Some a) → proc_in (as_module (if b then Some x.1 else entry_of xs n)) f ≡ Some a →
        proc_in (as_module (if b then Some x.1 else entry_of (xs ++ ys) n)) f ≡ Some a
    step true k e = e
    step false k e = k e

-- What its body speaks of.

module _ (P : Name → Type 0) where
  speaks_there : (ps : List Proc) (f : Name) (a : Proc) → ProceduresSpeak P ps → proc_of ps f ≡ Some a → BodySpeaks P a.body.list
  speaks_there [] f a k e = none_some a e
  speaks_there (p ∷ ps) f a k e = step (bytes_eq f p.name) e (speaks_there ps f a k.1)
    where
      step : (b : Bool) → (if b then Some p else proc_of ps f) ≡ Some a → (proc_of ps f ≡ Some a → BodySpeaks P a.body.list) → BodySpeaks P a.body.list
      step true e go = subst (λ (z : Proc). BodySpeaks P z.body.list) (same_Some p a e) k.0.0
      step false e go = go e

  one_speaks : (d : Declaration) (m : Module) → DeclarationSpeaks P d → module_in d ≡ Some m → ProceduresSpeak P m.procs
  one_speaks (concrete_module x) m k e = subst (λ (z : Module). ProceduresSpeak P z.procs) (same_Some x m e) k
  one_speaks _ m k e = none_some m e

  module_speaks : (ds : Declarations) (n : Name) (m : Module) → ScopeSpeaks P ds → module_named ds n ≡ Some m → ProceduresSpeak P m.procs
  module_speaks [] n m k e = none_some m e
  module_speaks (d ∷ ds) n m k e = step (bytes_eq n d.0) e (module_speaks ds n m k.1)
    where
      step : (b : Bool) → (if b then module_in d.1 else module_named ds n) ≡ Some m → (module_named ds n ≡ Some m → ProceduresSpeak P m.procs) → ProceduresSpeak P m.procs
      step true e go = one_speaks d.1 m k.0 e
      step false e go = go e

module _ (ds : scope.Declarations) (scoped : IsTypedScope (declared ds)) (firm : IsFirmScope ds) (spoken : ScopeSpeaks NoName (declared ds)) (n f : Name) (a : Proc) (there : proc_in (module_of ds n) f ≡ Some a) where
  abbrev c : Context
  c = of_sequent (context_of (declared ds)) falsehood []

  abbrev r : ProcRef
  r = record { «module» = named n; name = f }

  typed : IsTypedThere c r a
  typed = typed_there ds scoped falsehood tt [] r a there

  found : IsOf (module_of ds n) f a
  found = module_there (module_of ds n) f a there

  found_named : module_named (declared ds) n ≡ Some found.owner
  found_named = found_named_of ds n found.owner found.there

  -- declarations of new names
  module _ (es : Declarations) (fresh : (k : Name) → is_declared (declared ds) k ≡ true → IsFresh es k) where
    abbrev Kept : Name → Type 0
    Kept = IsKept es []

    kept : (x : Name) → IsKnown (c.modules.interfaces x) → Kept x
    kept x h = inl (fresh x ((knows (declared ds) scoped).0 x h))

    spoken_kept : ScopeSpeaks Kept (declared ds)
    spoken_kept = more_scope NoName Kept (λ x e. absurd e) (declared ds) spoken

    module _ (w : World) (size : Name → ℕ) (table : Table) where
      abbrev g : Setting
      g = setting (declared ds) (interpretation w size table)

      linked : (s : ProcRef) → NamesIfThere Kept AnyName (g.procedure s)
      linked = procedures_in Kept (declared ds) scoped spoken_kept w size table

      names : Procedures Kept g c
      names s h = (each-name (λ x. IsKnown (c.modules.interfaces x)) Kept kept s.«module» (reference_known c s h), linked s)

      body_apart : IsBodyApart es (declared ds) (Some a) (interpretation w size table)
      body_apart =
          let b = (let t = typed.typed in t.body) in (
            each_known Kept g c names (locals_of a) a.body.list b.statements,
            body_names Kept g c (locals_of a) linked a.body.list b.statements
                (speaks_there Kept found.owner.procs f a (module_speaks Kept (declared ds) n found.owner spoken_kept found_named) found.procedure),
          )

    plain_apart : (xs : List Param) (o : Option Proc) → [] ≡ xs → Some a ≡ o → AreParamsApart es (declared ds) xs × InEachModel (declared ds) (λ i. EachArgument (declared ds) xs i (IsBodyApart es (declared ds) o))
    plain_apart xs o p q =
        subst (λ xs. AreParamsApart es (declared ds) xs × InEachModel (declared ds) (λ i. EachArgument (declared ds) xs i (IsBodyApart es (declared ds) o))) p
        (subst (λ o. AreParamsApart es (declared ds) [] × InEachModel (declared ds) (IsBodyApart es (declared ds) o)) q
        (tt, λ w size table model. subst (λ bs. EachProgram (declared ds) bs (interpretation w size table) (IsBodyApart es (declared ds) (Some a))) (sym (no_section ds firm)) (body_apart w size table)))

    pub loops_apart : AreLoopsApart n f es (declared ds)
    loops_apart = (
      named_front (declared ds) es n found.owner found_named ∙ sym found_named,
      subst (λ o. IsProcedureApart es (declared ds) o f) (sym found_named) (plain_apart found.owner.params (proc_of found.owner.procs f) (sym found.plain) (sym found.procedure)),
    )

  -- one declaration of a new name
  module _ (k : Name) (free : IsFree (declared ds) k) where
    one_fresh : (d : Declaration) (x : Name) → is_declared (declared ds) x ≡ true → IsFresh ((k, d) ∷ []) x
    one_fresh d x e = (other_name (declared ds) x k e free, tt)

    one_added : (e : Entry) → IsFirm (declaration_of e) → IsDeclared (context_of (declared ds)) k (declaration_of e) → IsAdded (AreLoopsApart n f) (declared ds) k (declaration_of e)
    one_added (entry.Module m) y w = (scope_apart ((k, concrete_module m) ∷ []) (declared ds) scoped firm, loops_apart ((k, concrete_module m) ∷ []) (one_fresh (concrete_module m)))
    one_added (entry.Operator o) y w = new_operator (declared ds) scoped k (declaration_of (entry.Operator o)) free w
    one_added (entry.AbstractOperator o) y w = new_operator (declared ds) scoped k (declaration_of (entry.AbstractOperator o)) free w
    one_added (entry.Lemma q order) y w = tt
    one_added (entry.Type t) y w = tt
    one_added entry.AbstractType y w = tt
    one_added (entry.ModuleType t) y w = (scope_apart ((k, module_type t) ∷ []) (declared ds) scoped firm, loops_apart ((k, module_type t) ∷ []) (one_fresh (module_type t)))
    one_added (entry.AbstractModule b) y w = absurd y
    one_added (entry.Constant t) y w = tt
    one_added (entry.Terminating p) y w = tt

pub firm_parts : (ds es : scope.Declarations) → IsFirmScope (ds ++ es) → IsFirmScope ds × IsFirmScope es
firm_parts [] es k = (tt, k)
firm_parts (d ∷ ds) es k = let r = firm_parts ds es k.1 in ((k.0, r.0), r.1)

-- Proved loops of a declared procedure stay good.
pub loops_stay_by : (more ds : scope.Declarations) → IsTypedScope (declared (ds ++ more)) → IsFirmScope (ds ++ more) → ScopeSpeaks NoName (declared (ds ++ more)) → (n f : Name) (a : Proc) →
    proc_in (module_of ds n) f ≡ Some a → IsTerminating (declared ds) n f → IsTerminating (declared (ds ++ more)) n f
loops_stay_by [] ds w y k n f a e h = subst (λ z. IsTerminating (declared z) n f) (sym (append-nil ds)) h
loops_stay_by (d ∷ more) ds w y k n f a e h =
    subst (λ z. IsTerminating (declared z) n f) same
    (loops_stay_by more (ds ++ d ∷ []) (subst (λ z. IsTypedScope (declared z)) (sym same) w) (subst IsFirmScope (sym same) y) (subst (λ z. ScopeSpeaks NoName (declared z)) (sym same) k) n f a
    (of_front ds (d ∷ []) n f a e)
    (subst (λ z. IsTerminating z n f) (sym (declared-append ds (d ∷ [])))
    (loops-added (declared ds) ((d.0, declaration_of d.1) ∷ []) n f
    (one_added ds parted.0 firm.0 (let s = parts NoName ds (d ∷ more) in (s.0 k).0) n f a e d.0 parted.1.0 d.1 firm.1.0 parted.1.1, tt) h)))
  where
    same : (ds ++ d ∷ []) ++ more ≡ ds ++ d ∷ more
    same = append_assoc ds (d ∷ []) more

    firm : IsFirmScope ds × IsFirmScope (d ∷ more)
    firm = firm_parts ds (d ∷ more) y

    parted : IsTypedScope (declared ds) × (IsFree (declared ds) d.0 × IsDeclared (context_of (declared ds)) d.0 (declaration_of d.1) × AreTypedAfter (with_declared (context_of (declared ds)) d.0 (declaration_of d.1)) (declared ds ++ (d.0, declaration_of d.1) ∷ []) (declared more))
    parted = split (declared ds) (declared (d ∷ more)) [] nothing (subst IsTypedScope (declared-append ds (d ∷ more)) w)
