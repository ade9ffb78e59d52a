-- A procedure of a declared module, for arguments that fit, is what its instance is read as in the modules of the whole scope.
use Rattle.std.proofs.Common.{◌≡◌, Bool, true, false, if◌then◌else◌, List, [], ◌∷◌, ◌++◌, map, Option, Some, None, bytes_eq, refl, ap, sym, ◌∙◌, subst}
use Rattle.std.proofs.lemmas.Bool.{false≢true}
use Rattle.std.proofs.lemmas.List.{append-nil}
use Rattle.gb_terms.specs.declared.decl.Module.{Module}
use Rattle.gb_terms.specs.declared.decl.Param.{Param}
use Rattle.gb_terms.specs.declared.decl.Proc.{Proc}
use Rattle.gb_terms.specs.declared.module.Mexp.{Mexp, Row_of-Mexp, end_of-Mexp, more_of-Mexp}
use Rattle.gb_terms.specs.declared.module.Mexp.TheVariants.{Name as named, Apply'}
use Rattle.gb_terms.specs.declared.module.ProcRef.{ProcRef}
use Rattle.gb_goal.specs.Scope.{proc_of}
use Rattle.gb_meaning.specs.Names.{Name}
use Rattle.gb_meaning.specs.Declared.{Declarations, Declaration, ModuleType, module_in, module_named, abstract_type, abbreviation, operator, abstract_operator, module_type, concrete_module, abstract_module, axiom_of, lemma, terminating}
use Rattle.gb_meaning.specs.Modules.{Procedures, Applied, Modules, Reading, found, argument, closed, module_at, modules_at, procedure_at, no_module, with_module, with_params, with_procedures, module_read, modules_of}
use Rattle.gb_meaning.specs.Naming.{EachCallOf, IsFreshAmong}
use Rattle.gb_meaning.proofs.Procedures.{in_module, in_parts, stays, known}
use Rattle.gb_typing.specs.Context.{Context, procedure}
use Rattle.gb_typing.specs.Modules.{ProcedureType, FunctorType, Interface, with_interface, functor_type, of_functor_type, fits, left_over, lacking, given, interface_at, interfaces_at}
use Rattle.gb_typing.specs.Modules as typed
use Rattle.gb_typing.specs.Programs.{locals_of}
use Rattle.gb_typing.specs.Scopes.{interface_with, procedure_types, in_module as in_context, context_of, IsTypedScope}
use Rattle.gb_typing.specs.Scopes as scopes
use Rattle.gb_typing.proofs.Standing.{Among, among}
use Rattle.gb_typing.proofs.Scripts.{none_some, same_some, same_name}
use Rattle.gb_terms.specs.Rows.{mexps_in}
use Rattle.gb_goal.specs.Instances.{arguments_of, stands_for, put_in, put_in_reference, instance, name_of}
use Rattle.gb_typing.specs.Alike.{StandAlike, AreClosed, LooksAtCalls, applied_at}
use Rattle.gb_typing.specs.Following.{FollowsCalls}
use Rattle.gb_typing.proofs.Calls.{each_call}
use Rattle.gb_typing.proofs.ExpressionsAlike.{closed_argument}
use Rattle.gb_typing.proofs.OpenAlike.{open_is, modules_in, put_named, procedure_alike}
use Rattle.gb_typing.proofs.ReadingsAlike.{listed}
use Rattle.gb_typing.proofs.Known.{listed_first, around, typed_here, there_before, there_here, env, modules_before, modules_here}
use mathlib.Core.Former.{Count}

-- nothing is lacking where a procedure is there
none_left : (i : Interface) (o : Option (List FunctorType)) (f : Name) (t : ProcedureType) → typed.procedure_of (lacking i o) f ≡ Some t → o ≡ Some []
none_left i None f t e = none_some t e
none_left i (Some []) f t e = refl
none_left i (Some (u ∷ us)) f t e = none_some t e

no_params : (types : Name → Option ModuleType) (ps : List Param) (qs : Procedures ProcedureType) (f : Name) (t : ProcedureType) → typed.procedure_of (Some (interface_with types ps qs)) f ≡ Some t → ps ≡ []
no_params types [] qs f t e = refl
no_params types (p ∷ ps) qs f t e = none_some t e

-- what stands for names where there are no arguments
no_arguments : (ps : List Param) → stands_for ps [] ≡ named
no_arguments [] = refl
no_arguments (p ∷ ps) = refl

-- one module expression for each parameter, which fits its module type
module _ (ms : typed.Modules) (types : Name → Option ModuleType) where
  abbrev pub AreFit : List Param → List Mexp → Type 0
  AreFit [] [] = Unit {0}
  AreFit (p ∷ ps) (m ∷ es) = (fits (interface_at ms m) (functor_type types (types p.ty)) ≡ true) × AreFit ps es
  AreFit _ _ = ⊥

  are_fit : {n : Count} (ps : List Param) (args : Row_of-Mexp n) → left_over (map (λ p. functor_type types (types p.ty)) ps) (interfaces_at ms args) ≡ Some [] → AreFit ps (mexps_in args)
  are_fit [] end_of-Mexp e = tt
  are_fit (p ∷ ps) end_of-Mexp e = absurd (false≢true (ap is_nil e))
    where
      is_nil : Option (List FunctorType) → Bool
      is_nil (Some []) = true
      is_nil _ = false
  are_fit [] (more_of-Mexp m r) e = none_some [] e
  are_fit (p ∷ ps) (more_of-Mexp m r) e = step (fits (interface_at ms m) (functor_type types (types p.ty))) refl (are_fit ps r) e
    where
      step : (b : Bool) → fits (interface_at ms m) (functor_type types (types p.ty)) ≡ b →
          (left_over (map (λ p. functor_type types (types p.ty)) ps) (interfaces_at ms r) ≡ Some [] → AreFit ps (mexps_in r)) →
          (if b then left_over (map (λ p. functor_type types (types p.ty)) ps) (interfaces_at ms r) else None) ≡ Some [] → AreFit (p ∷ ps) (mexps_in (more_of-Mexp m r))
      step true h rest e = (h, rest e)
      step false h rest e = none_some [] e

-- Arguments under the names of parameters, and the same module expressions put in.
module _ {X : Type 0} (fm : typed.Modules) (final : Modules X) (closed_modules : AreClosed fm final) (ms : typed.Modules) (ks : Modules X)
    (base : (n : Name) (i : Interface) → ms.interfaces n ≡ Some i → StandAlike i (ks n) (final n)) where
  params_stand : (ps : List Param) (es : List Mexp) → AreFit fm ms.types ps es → (n : Name) (i : Interface) → (scopes.with_params ms ps).interfaces n ≡ Some i →
      StandAlike i (with_params ks ps (map (module_at final) es) n) (applied_at final (stands_for ps es n))
  params_stand [] [] w n i e = base n i e
  params_stand [] (u ∷ es) w n i e = absurd w
  params_stand (p ∷ ps) [] w n i e = absurd w
  params_stand (p ∷ ps) (u ∷ es) w n i e = step (bytes_eq n p.name) (params_stand ps es w.1 n i) e
    where
      step : (b : Bool) → ((scopes.with_params ms ps).interfaces n ≡ Some i → StandAlike i (with_params ks ps (map (module_at final) es) n) (applied_at final (stands_for ps es n))) →
          (if b then Some (of_functor_type (functor_type ms.types (ms.types p.ty))) else (scopes.with_params ms ps).interfaces n) ≡ Some i →
          StandAlike i (if b then argument (module_at final u) else with_params ks ps (map (module_at final) es) n) (applied_at final (if b then u else stands_for ps es n))
      step true rest e = subst (λ j. StandAlike j (argument (module_at final u)) (applied_at final u)) (same_some (of_functor_type (functor_type ms.types (ms.types p.ty))) i e)
          (closed_argument fm final final closed_modules u (functor_type ms.types (ms.types p.ty)) w.0)
      step false rest e = rest e

module _ {X : Type 0} (read : Reading X) (looks : LooksAtCalls read) (base : Modules X)
    (before after : Declarations) (n : Name) (m : Module) (scoped : IsTypedScope (before ++ (n, concrete_module m) ∷ after))
    (final : Modules X)
    (agrees : (k : Name) (i : Interface) → (context_of (before ++ (n, concrete_module m) ∷ after)).modules.interfaces k ≡ Some i → final k ≡ modules_of read base (before ++ (n, concrete_module m) ∷ after) k)
    (seen : Context) (more : (k : Name) (i : Interface) → (context_of (before ++ (n, concrete_module m) ∷ after)).modules.interfaces k ≡ Some i → seen.modules.interfaces k ≡ Some i)
    (closed_modules : AreClosed seen.modules final) where
  abbrev fm : typed.Modules
  fm = seen.modules

  abbrev c : Context
  c = around before after n m scoped

  abbrev es : Modules X
  es = env before after n m scoped read base

  abbrev types : Name → Option ModuleType
  types = c.modules.types

  -- the module as a whole is known, and so is what was known before it
  known_here : fm.interfaces n ≡ Some (interface_with types m.params (procedure_types m.procs))
  known_here = more n (interface_with types m.params (procedure_types m.procs)) (there_here before after n m scoped)

  known_before : (k : Name) (i : Interface) → c.modules.interfaces k ≡ Some i → fm.interfaces k ≡ Some i
  known_before k i e = more k i (there_before before after n m scoped k i e)

  final_here : final n ≡ module_read read es m
  final_here = agrees n (interface_with types m.params (procedure_types m.procs)) (there_here before after n m scoped) ∙ modules_here before after n m scoped read base

  final_before : (k : Name) (i : Interface) → c.modules.interfaces k ≡ Some i → final k ≡ es k
  final_before k i e = agrees k i (there_before before after n m scoped k i e) ∙ modules_before before after n m scoped read base k i e

  module _ (f : Name) (p : Proc) (a : Among c m [] m.procs f p) where
    abbrev earlier : Applied X
    earlier = with_procedures read es m no_module a.front

    abbrev own : Interface
    own = interface_with types m.params (procedure_types a.front)

    abbrev ms : typed.Modules
    ms = with_interface c.modules m.name (Some own)

    -- the earlier procedures of the module are the module's own
    earlier_stands : StandAlike own earlier (final n)
    earlier_stands fs gs w q t e =
        let y = known read es m no_module a.front fs q refl (listed a.front q t e) in
        y.1
        ∙ sym (ap (λ (z : Applied X). found (z fs) q) final_here
        ∙ ap (λ z. found (with_procedures read es m no_module z fs) q) a.place
        ∙ ap (λ (z : Applied X). found (z fs) q) (in_parts read es m no_module a.front (p ∷ a.after))
        ∙ stays read es m earlier (p ∷ a.after) fs q y.0 y.1)
        ∙ closed_modules n (interface_with types m.params (procedure_types m.procs)) known_here fs gs w q t
        (subst (λ z. found (procedure_types z) q ≡ Some t) (sym a.place) (listed_first a.front (p ∷ a.after) q t e))

    base_stands : (k : Name) (i : Interface) → ms.interfaces k ≡ Some i → StandAlike i (with_module es m.name earlier k) (final k)
    base_stands k i e = step (bytes_eq k m.name) refl e
      where
        step : (b : Bool) → bytes_eq k m.name ≡ b → (if b then Some own else c.modules.interfaces k) ≡ Some i → StandAlike i (if b then earlier else es k) (final k)
        step true h e =
            subst (λ j. StandAlike j earlier (final k)) (same_some own i e)
            (subst (λ z. StandAlike own earlier (final z)) (sym (same_name k m.name h ∙ (let w = typed_here before after n m scoped in w.name))) earlier_stands)
        step false h e = subst (λ z. StandAlike i z (final k)) (final_before k i e) (closed_modules k i (known_before k i e))

    module _ (us : List Mexp) (w : AreFit fm types m.params us) where
      abbrev local : Modules X
      local = with_params (with_module es m.name earlier) m.params (map (module_at final) us)

      -- what the procedure calls is what its instance calls in the whole scope
      callee_same : (r : ProcRef) (t : ProcedureType) → procedure (in_context c m (procedure_types a.front)) r ≡ Some t →
          procedure_at local r ≡ procedure_at final (put_in_reference (stands_for m.params us) r)
      callee_same r t e =
          procedure_alike (in_context c m (procedure_types a.front)).modules local final (stands_for m.params us)
          (params_stand fm final closed_modules ms (with_module es m.name earlier) base_stands m.params us w) r t e

      calls : EachCallOf (λ r. procedure_at local r ≡ procedure_at final (put_in_reference (stands_for m.params us) r)) p.body.list
      calls =
          each_call (in_context c m (procedure_types a.front)) (locals_of p) (λ r. procedure_at local r ≡ procedure_at final (put_in_reference (stands_for m.params us) r)) callee_same p.body.list
          (let v = a.typed in v.body.statements)

      read_is : found (final n (map (module_at final) us)) f ≡ Some (read (λ r. procedure_at final (put_in_reference (stands_for m.params us) r)) p)
      read_is =
          ap (λ (z : Applied X). found (z (map (module_at final) us)) f) final_here
          ∙ ap (found (module_read read es m (map (module_at final) us))) a.name
          ∙ in_module read es m a.front a.after p a.place (subst (IsFreshAmong a.front) a.name a.fresh) (map (module_at final) us)
          ∙ ap Some (looks (procedure_at local) (λ r. procedure_at final (put_in_reference (stands_for m.params us) r)) p calls)

  abbrev located : (f : Name) (p : Proc) → proc_of m.procs f ≡ Some p → Among c m [] m.procs f p
  located f p e = among c m m.procs [] (let w = typed_here before after n m scoped in w.procs) f p e

  -- the arguments fit where a procedure has a type
  fits_there : (x : Mexp) (f : Name) (t : ProcedureType) → name_of x ≡ n → procedure seen (record { «module» = x; name = f }) ≡ Some t →
      AreFit fm types m.params (arguments_of x)
  fits_there (named k) f t h typed_there =
      subst (λ z. AreFit fm types z [])
      (sym (no_params types m.params (procedure_types m.procs) f t
      (sym (ap (λ o. typed.procedure_of o f) (ap fm.interfaces h ∙ known_here)) ∙ typed_there))) tt
  fits_there (Apply' k j args) f t h typed_there =
      are_fit fm types m.params args
      (none_left (interface_with types m.params (procedure_types m.procs)) _ f t
      (sym (ap (λ o. typed.procedure_of (given o (interfaces_at fm args)) f) (ap fm.interfaces h ∙ known_here)) ∙ typed_there))

  found_there : (x : Mexp) (f : Name) → name_of x ≡ n → procedure_at final (record { «module» = x; name = f }) ≡ found (final n (map (module_at final) (arguments_of x))) f
  found_there (named k) f h = ap (λ z. found (final z []) f) h
  found_there (Apply' k j args) f h =
      ap (λ z. found (final z (modules_at final args ++ [])) f) h ∙ ap (λ z. found (final n z) f) (append-nil (modules_at final args) ∙ modules_in final args)

  -- a procedure of the module with arguments
  pub instance_there : FollowsCalls read → (r : ProcRef) (t : ProcedureType) → procedure seen r ≡ Some t → name_of r.«module» ≡ n →
      (p : Proc) → proc_of m.procs r.name ≡ Some p → procedure_at final r ≡ Some (read (procedure_at final) (instance m.params (arguments_of r.«module») p))
  instance_there follows r t typed_there h p e =
      found_there r.«module» r.name h
      ∙ read_is r.name p (located r.name p e) (arguments_of r.«module») (fits_there r.«module» r.name t h typed_there)
      ∙ ap Some (sym (follows (procedure_at final) (stands_for m.params (arguments_of r.«module»)) p))

  named_same : (x : Mexp) → module_at final (put_in named x) ≡ module_at final x
  named_same x = open_is final (put_in named x) ∙ (λ j rs. put_named final x (map closed rs) j) ∙ sym (open_is final x)

  -- a procedure of the module by its name alone
  pub plain_there : (f : Name) (t : ProcedureType) → procedure seen (record { «module» = named n; name = f }) ≡ Some t →
      (p : Proc) → proc_of m.procs f ≡ Some p → procedure_at final (record { «module» = named n; name = f }) ≡ Some (read (procedure_at final) p)
  plain_there f t typed_there p e =
      read_is f p (located f p e) [] (fits_there (named n) f t refl typed_there)
      ∙ (λ i. Some (read (λ r. procedure_at final (put_in_reference (no_arguments m.params i) r)) p))
      ∙ (λ i. Some (read (λ r. found (named_same r.«module» i []) r.name) p))

-- Where a declared module stands.

pub record Placed (ds : Declarations) (n : Name) (m : Module) : Type 0 where
  pub before : Declarations
  pub after : Declarations
  pub place : ds ≡ before ++ (n, concrete_module m) ∷ after

is_module : (d : Declaration) (m : Module) → module_in d ≡ Some m → d ≡ concrete_module m
is_module (concrete_module x) m e = ap concrete_module (same_some x m e)
is_module abstract_type m e = none_some m e
is_module (abbreviation stood) m e = none_some m e
is_module (operator o) m e = none_some m e
is_module (abstract_operator o) m e = none_some m e
is_module (module_type t) m e = none_some m e
is_module (abstract_module b) m e = none_some m e
is_module (axiom_of q) m e = none_some m e
is_module (lemma q) m e = none_some m e
is_module (terminating f) m e = none_some m e

pub placed : (ds : Declarations) (n : Name) (m : Module) → module_named ds n ≡ Some m → Placed ds n m
placed [] n m e = none_some m e
placed (d ∷ ds) n m e = step (bytes_eq n d.0) refl (placed ds n m) e
  where
    step : (b : Bool) → bytes_eq n d.0 ≡ b → (module_named ds n ≡ Some m → Placed ds n m) → (if b then module_in d.1 else module_named ds n) ≡ Some m → Placed (d ∷ ds) n m
    step true h rest e = record { before = []; after = ds; place = λ i. (sym (same_name n d.0 h) i, is_module d.1 m e i) ∷ ds }
    step false h rest e = let l = rest e in record { before = d ∷ l.before; after = l.after; place = ap (λ z. d ∷ z) l.place }

module _ {X : Type 0} (read : Reading X) (looks : LooksAtCalls read) (base : Modules X) (ds : Declarations) (final : Modules X) (seen : Context) (closed_modules : AreClosed seen.modules final) where
  -- the modules of the scope are those that it knows
  abbrev pub AreOf : Declarations → Type 0
  AreOf es = (k : Name) (i : Interface) → (context_of es).modules.interfaces k ≡ Some i → final k ≡ modules_of read base es k

  -- they are seen
  abbrev pub AreSeen : Declarations → Type 0
  AreSeen es = (k : Name) (i : Interface) → (context_of es).modules.interfaces k ≡ Some i → seen.modules.interfaces k ≡ Some i

  pub instance_read : IsTypedScope ds → AreOf ds → AreSeen ds → FollowsCalls read →
      (r : ProcRef) (t : ProcedureType) → procedure seen r ≡ Some t → (m : Module) → module_named ds (name_of r.«module») ≡ Some m →
      (p : Proc) → proc_of m.procs r.name ≡ Some p → procedure_at final r ≡ Some (read (procedure_at final) (instance m.params (arguments_of r.«module») p))
  instance_read scoped agrees more follows r t there m e p f =
      let l : Placed ds (name_of r.«module») m = placed ds (name_of r.«module») m e in
      subst (λ es. IsTypedScope es → AreOf es → AreSeen es → procedure_at final r ≡ Some (read (procedure_at final) (instance m.params (arguments_of r.«module») p)))
      (sym l.place)
      (λ s a k. instance_there read looks base l.before l.after (name_of r.«module») m s final a seen k closed_modules follows r t there refl p f)
      scoped agrees more

  pub plain_read : IsTypedScope ds → AreOf ds → AreSeen ds →
      (n f : Name) (t : ProcedureType) → procedure seen (record { «module» = named n; name = f }) ≡ Some t → (m : Module) → module_named ds n ≡ Some m →
      (p : Proc) → proc_of m.procs f ≡ Some p → procedure_at final (record { «module» = named n; name = f }) ≡ Some (read (procedure_at final) p)
  plain_read scoped agrees more n f t there m e p h =
      let l : Placed ds n m = placed ds n m e in
      subst (λ es. IsTypedScope es → AreOf es → AreSeen es → procedure_at final (record { «module» = named n; name = f }) ≡ Some (read (procedure_at final) p))
      (sym l.place)
      (λ s a k. plain_there read looks base l.before l.after n m s final a seen k closed_modules f t there p h)
      scoped agrees more
