-- What a typed procedure has by a reading that collects is had by procedures that are reached from it, or is all of an abstract module one of
-- whose procedures is reached, or of a module that is left open.
use Rattle.std.proofs.Common.{◌≡◌, ◌⊎◌, inl, inr, ℕ, zero, suc, ◌<◌, arith, length, length-append, Bool, true, false, if◌then◌else◌, List, [], ◌∷◌, ◌++◌, map, Option, Some, None, option_map, bytes_eq, refl, ap, sym, ◌∙◌, subst}
use Rattle.std.proofs.lemmas.Option.{none-some}
use Rattle.std.proofs.lemmas.Slice.Eq.{bytes_eq-Decides}
use Rattle.gb_core.specs.declared.var.Var.{Var}
use Rattle.gb_core.specs.declared.var.Var.TheVariants.{Glob}
use Rattle.gb_terms.specs.declared.decl.Module.{Module}
use Rattle.gb_terms.specs.declared.decl.Param.{Param}
use Rattle.gb_terms.specs.declared.decl.Proc.{Proc}
use Rattle.gb_terms.specs.declared.module.Bind.{Bind}
use Rattle.gb_terms.specs.declared.module.Mexp.{Mexp}
use Rattle.gb_terms.specs.declared.module.Mexp.TheVariants.{Name as named, Apply'}
use Rattle.gb_terms.specs.declared.module.ProcRef.{ProcRef}
use Rattle.gb_terms.specs.declared.term.Term.{Term}
use Rattle.gb_goal.specs.declared.scope.Entry.{Entry}
use Rattle.gb_goal.specs.declared.scope.Entry.TheVariants as entry
use Rattle.gb_goal.specs.Instances.{arguments_of, instance, name_of, put_in_reference, stands_for}
use Rattle.gb_goal.specs.Interfaces.{interface_of, of_entry, of_module, procedure_types, type_of_procedure}
use Rattle.gb_goal.specs.Scope as scope
use Rattle.gb_goal.specs.Scope.{as_module, entry_of, module_of, proc_of}
use Rattle.gb_meaning.specs.Names.{Name}
use Rattle.gb_meaning.specs.Program.{Oracle}
use Rattle.gb_meaning.specs.Adversary.{oracle_footprints, oracles_called}
use Rattle.gb_meaning.specs.Declared.{Declarations, ModuleType, Signature, declared, signature_in}
use Rattle.gb_meaning.specs.Footprints.{of_callee}
use Rattle.gb_meaning.specs.Linking.{oracle_of}
use Rattle.gb_meaning.specs.Modules.{Functor, Procedures, Reading, found, modules_of, no_module, procedure_at}
use Rattle.gb_meaning.specs.Modules as linked
use Rattle.gb_meaning.specs.Settings.{Interpretation, with_abstract_footprints}
use Rattle.gb_typing.specs.Alike.{LooksAtCalls, NameSigned}
use Rattle.gb_typing.specs.Chosen.{IsChosenOver}
use Rattle.gb_typing.specs.Context.{Context, procedure}
use Rattle.gb_typing.specs.Following.{FollowsCalls}
use Rattle.gb_typing.specs.Formulas.{with_module as with_bound}
use Rattle.gb_typing.specs.Modules.{FunctorType, Interface, Modules, ProcedureType, functor_type, given, interface_at, interfaces_at, lacking, left_over, of_complete, of_functor_type, procedure_of}
use Rattle.gb_typing.specs.Scopes.{context_of, IsTypedScope}
use Rattle.gb_typing.specs.Sequents.{AreBinders, with_modules}
use Rattle.gb_typing.proofs.Agreed.{resolved}
use Rattle.gb_typing.proofs.DeclaredProcedures.{names_are}
use Rattle.gb_typing.proofs.DeclaredTypes.{goal_types}
use Rattle.gb_typing.proofs.Growing.{goal_keeps}
use Rattle.gb_typing.proofs.Located.{known_there}
use Rattle.gb_typing.proofs.Touched.{touched_alike}
use Rattle.gb_prog.proofs.Oracles.{as_named}
use Rattle.gb_mods.specs.Called.{calls, calls_if}
use Rattle.gb_mods.specs.Asked.{asked_of}
use Rattle.gb_mods.specs.Meets.{open_name}
use Rattle.gb_mods.specs.Reach.{called_declared, called_from}
use Rattle.gb_mods.proofs.Closed.{IsIn}
use Rattle.gb_arguments.specs.Collect.{collect, open_binder, open_binders, values, with_open}
use Rattle.gb_arguments.proofs.AbstractThere.{at_name, gives, is_answered, is_called, is_typed, its_value}
use Rattle.gb_arguments.proofs.AbstractThere as abstract_there
use Rattle.gb_arguments.proofs.Collecting.{calls_put, collect_follows, collect_looks, each_in}
use Rattle.gb_arguments.proofs.Members.{Has}
use Rattle.gb_arguments.proofs.OpenAbstract.{touched_by}
use Rattle.gb_arguments.proofs.OpenScope.{IsTyped, calls_typed, declared_read, open_goal, seen as seen_of}

-- A name is one of those that are left open, or means what it means without them.

pub record IsOpen {X : Type 0} (v : Param → Procedures X) (qs : List Param) (final : linked.Modules X) (n : Name) : Type 0 where
  pub param : Param
  pub has : Has qs param
  pub name : n ≡ open_name param.name
  pub is : (r : Name) (fs : List (Functor X)) → found (final n fs) r ≡ found (v param) r

pub open_or : {X : Type 0} (v : Param → Procedures X) (ms : linked.Modules X) (c : Context) (qs : List Param) (n : Name) →
    IsOpen v qs (with_open v qs ms) n ⊎ ((with_modules c (open_binders qs)).modules.interfaces n ≡ c.modules.interfaces n)
open_or v ms c [] n = inr refl
open_or {X} v ms c (q ∷ qs) n = step (bytes_eq n (open_name q.name)) refl (open_or v ms (with_bound c (open_binder q)) qs n)
  where
    step : (b : Bool) → bytes_eq n (open_name q.name) ≡ b →
        IsOpen v qs (with_open v qs ms) n ⊎ ((with_modules (with_bound c (open_binder q)) (open_binders qs)).modules.interfaces n ≡ (with_bound c (open_binder q)).modules.interfaces n) →
        IsOpen v (q ∷ qs) (with_open v (q ∷ qs) ms) n ⊎ ((with_modules c (open_binders (q ∷ qs))).modules.interfaces n ≡ c.modules.interfaces n)
    step true e k =
        inl (record {
          param = q;
          has = inl refl;
          name = (bytes_eq-Decides n (open_name q.name)).0 e;
          is = λ r fs. ap (λ (b : Bool). found ((if b then (λ args. v q) else with_open v qs ms n) fs) r) e;
        })
    step false e (inl k) =
        inl (record {
          param = k.param;
          has = inr k.has;
          name = k.name;
          is = λ r fs. ap (λ (b : Bool). found ((if b then (λ args. v q) else with_open v qs ms n) fs) r) e ∙ k.is r fs;
        })
    step false e (inr k) =
        inr (k ∙ ap (λ (b : Bool). if b then Some (of_functor_type (functor_type c.modules.types (c.modules.types q.ty))) else c.modules.interfaces n) e)

-- A procedure that has a type is one of its module.

module _ (ms : Modules) (i : Interface) (f : Name) (t : ProcedureType) where
  with_lacks : (ls : List FunctorType) → of_complete ls i.procedures f ≡ Some t → found i.procedures f ≡ Some t
  with_lacks [] e = e
  with_lacks (l ∷ ls) e = absurd (none-some t e)

  in_lacking : (o : Option (List FunctorType)) → procedure_of (lacking i o) f ≡ Some t → found i.procedures f ≡ Some t
  in_lacking None e = absurd (none-some t e)
  in_lacking (Some ls) e = with_lacks ls e

  pub in_module : (m : Mexp) → ms.interfaces (name_of m) ≡ Some i → procedure_of (interface_at ms m) f ≡ Some t → found i.procedures f ≡ Some t
  in_module (named n) e h = with_lacks i.lacks (sym (ap (λ o. procedure_of o f) e) ∙ h)
  in_module (Apply' n k args) e h = in_lacking (left_over i.lacks (interfaces_at ms args)) (sym (ap (λ o. procedure_of (given o (interfaces_at ms args)) f) e) ∙ h)

pub proc_there : (ps : List Proc) (f : Name) (t : ProcedureType) → found (procedure_types ps) f ≡ Some t → (p : Proc) × (proc_of ps f ≡ Some p)
proc_there [] f t e = absurd (none-some t e)
proc_there (p ∷ ps) f t e = step (bytes_eq f p.name) (proc_there ps f t) e
  where
    step : (b : Bool) → (found (procedure_types ps) f ≡ Some t → (q : Proc) × (proc_of ps f ≡ Some q)) → (if b then Some (type_of_procedure p) else found (procedure_types ps) f) ≡ Some t →
        (q : Proc) × ((if b then Some p else proc_of ps f) ≡ Some q)
    step true go e = (p, refl)
    step false go e = go e

-- Lists.

either_of : (xs ys : List Var) (z : Var) → Has (xs ++ ys) z → Has xs z ⊎ Has ys z
either_of [] ys z h = inr h
either_of (x ∷ xs) ys z (inl e) = inl (inl e)
either_of (x ∷ xs) ys z (inr h) = later (either_of xs ys z h)
  where
    later : Has xs z ⊎ Has ys z → Has (x ∷ xs) z ⊎ Has ys z
    later (inl k) = inl (inr k)
    later (inr k) = inr k

pub by : {A B C : Type 0} → (A → C) → (B → C) → A ⊎ B → C
by f g (inl a) = f a
by f g (inr b) = g b

pub one_oracle : (os : Oracle → Option (List Var)) (us : List Oracle) (z : Var) → Has (oracle_footprints os us) z → (o : Oracle) × Has us o × Has (of_callee (os o)) z
one_oracle os [] z h = absurd h
one_oracle os (o ∷ us) z h = by (λ k. (o, inl refl, k)) (λ k. let x = one_oracle os us z k in (x.0, inr x.1, x.2)) (either_of (of_callee (os o)) (oracle_footprints os us) z h)

short_oracle : (os : Oracle → Option (List Var)) (us : List Oracle) (o : Oracle) → Has us o → length (of_callee (os o)) < suc (length (oracle_footprints os us))
short_oracle os [] o h = absurd h
short_oracle os (u ∷ us) o (inl e) =
    let l = length-append (of_callee (os u)) (oracle_footprints os us) in
    subst (λ x. length (of_callee (os x)) < suc (length (oracle_footprints os (u ∷ us)))) e (omega (arith, l))
short_oracle os (u ∷ us) o (inr h) =
    let l = length-append (of_callee (os u)) (oracle_footprints os us) in
    let k = short_oracle os us o h in omega (arith, l, k)

short_value : (f : ProcRef → Option (List Var)) (qs : List ProcRef) (q : ProcRef) → IsIn qs q → length (of_callee (f q)) < suc (length (values f qs))
short_value f [] q h = absurd h
short_value f (p ∷ qs) q (inl e) =
    let l = length-append (of_callee (f p)) (values f qs) in
    subst (λ x. length (of_callee (f x)) < suc (length (values f (p ∷ qs)))) e (omega (arith, l))
short_value f (p ∷ qs) q (inr h) =
    let l = length-append (of_callee (f p)) (values f qs) in
    let k = short_value f qs q h in omega (arith, l, k)

abbrev pub one_each : Proc → List Var
one_each p = Glob [] ∷ []

module _ (ds : scope.Declarations) (scoped : IsTypedScope (declared ds)) (qs : List Param) (f0 : Term) (w : AreBinders (context_of (declared ds)) (open_binders qs))
    (signed : (n : Name) (t : ModuleType) → (context_of (declared ds)).modules.types n ≡ Some t → NameSigned (declared ds) t t.signatures)
    (i : Interpretation) (chosen : IsChosenOver (declared ds) i) where
  abbrev D : Declarations
  D = declared ds

  abbrev seen : Context
  seen = seen_of ds scoped qs f0 w

  abbrev base : linked.Modules (List Var)
  base = with_abstract_footprints D i.programs (λ k. no_module)

  abbrev none : Param → Procedures (List Var)
  none q = []

  -- how many calls a procedure makes, one inside of the other and one after another
  abbrev counting : linked.Modules (List Var)
  counting = with_open none qs (modules_of (collect one_each) base D)

  abbrev depth : ProcRef → ℕ
  depth r = length (of_callee (procedure_at counting r))

  module _ (read : Reading (List Var)) (looks : LooksAtCalls read) (follows : FollowsCalls read) (own : Proc → List Var)
      (splits : (h : ProcRef → Option (List Var)) (p : Proc) (z : Var) → Has (read h p) z → Has (own p) z ⊎ ((q : ProcRef) × IsIn (calls p.body.list) q × Has (of_callee (h q)) z))
      (v : Param → Procedures (List Var)) where
    abbrev pub final : linked.Modules (List Var)
    final = with_open v qs (modules_of read base D)

    -- What is reached, and what it has.
    module _ (Q : ProcRef → Type 0) (on : (r q : ProcRef) → Q r → IsIn (called_from ds None r) q → Q q) (P : Var → Type 0)
        (own_in : (r : ProcRef) (m : Module) (p : Proc) → Q r → entry_of ds (name_of r.«module») ≡ Some (entry.Module m) → proc_of m.procs r.name ≡ Some p → (z : Var) →
        Has (own (instance m.params (arguments_of r.«module») p)) z → P z)
        (abstract_in : (r : ProcRef) (b : Bind) → Q r → entry_of ds (name_of r.«module») ≡ Some (entry.AbstractModule b) → P (Glob (name_of r.«module»)))
        (open_in : (r : ProcRef) (q : Param) → Q r → IsTyped ds scoped qs f0 w r → Has qs q → name_of r.«module» ≡ open_name q.name → (z : Var) → Has (of_callee (found (v q) r.name)) z → P z) where
      abbrev Goes : ℕ → Type 0
      Goes d = (r : ProcRef) → IsTyped ds scoped qs f0 w r → Q r → depth r < d → (z : Var) → Has (of_callee (procedure_at final r)) z → P z

      of_declared : (d : ℕ) → Goes d → (r : ProcRef) → IsTyped ds scoped qs f0 w r → Q r → depth r < suc d → (m : Module) → entry_of ds (name_of r.«module») ≡ Some (entry.Module m) →
          (p : Proc) → proc_of m.procs r.name ≡ Some p → (z : Var) → Has (of_callee (procedure_at final r)) z → P z
      of_declared d go r t k l m e p h z has =
          by (λ o. own_in r m p k e h z o)
          (λ c. go c.0 (each_in (IsTyped ds scoped qs f0 w) (calls inst.body.list) (calls_typed ds scoped qs f0 w r t m (ap as_module e) p h) c.0 c.1)
          (on r c.0 k (subst (λ x. IsIn x c.0) (calls_put (stands_for m.params (arguments_of r.«module»)) p.body.list ∙ sym called) c.1))
          (let s = short_value (procedure_at counting) (calls inst.body.list) c.0 c.1 in let q = ap length (ap of_callee deep) in omega (arith, s, q, l)) z c.2)
          (splits (procedure_at final) inst z (subst (λ x. Has x z) (ap of_callee (declared_read ds scoped qs f0 w read looks follows base (touched_alike D i scoped chosen) v r t m (ap as_module e) p h)) has))
        where
          inst : Proc
          inst = instance m.params (arguments_of r.«module») p

          called : called_from ds None r ≡ map (put_in_reference (stands_for m.params (arguments_of r.«module»))) (calls p.body.list)
          called =
              ap (λ x. called_declared ds x (arguments_of r.«module») r.name) e
              ∙ ap (λ o. map (put_in_reference (stands_for m.params (arguments_of r.«module»))) (calls_if o)) h

          deep : procedure_at counting r ≡ Some (collect one_each (procedure_at counting) inst)
          deep = declared_read ds scoped qs f0 w (collect one_each) (collect_looks one_each) (collect_follows one_each (λ s p. refl)) base (touched_alike D i scoped chosen) none r t m (ap as_module e) p h

      of_abstract : (d : ℕ) → Goes d → (r : ProcRef) → IsTyped ds scoped qs f0 w r → Q r → depth r < suc d → (b : Bind) → entry_of ds (name_of r.«module») ≡ Some (entry.AbstractModule b) →
          (z : Var) → Has (of_callee (procedure_at final r)) z → P z
      of_abstract d go r t k l b e z has = by_signature (signature_in ty.signatures r.name) refl (subst (λ x. Has (of_callee x) z) value has) (ap (λ x. length (of_callee x)) deep)
        where
          ty : ModuleType
          ty = abstract_there.t ds scoped qs f0 w signed r t b e

          answers : linked.Modules (List Var) → Oracle → Option (List Var)
          answers ls = oracle_of ty.params (map (λ m. m []) (gives ls r.«module»))

          value : procedure_at final r ≡ touched_by D (name_of r.«module») ty (answers final) (signature_in ty.signatures r.name)
          value = its_value ds scoped qs f0 w signed r t b e i chosen read v

          deep : procedure_at counting r ≡ touched_by D (name_of r.«module») ty (answers counting) (signature_in ty.signatures r.name)
          deep = its_value ds scoped qs f0 w signed r t b e i chosen (collect one_each) none

          by_signature : (o : Option Signature) → signature_in ty.signatures r.name ≡ o → Has (of_callee (touched_by D (name_of r.«module») ty (answers final) o)) z →
              depth r ≡ length (of_callee (touched_by D (name_of r.«module») ty (answers counting) o)) → P z
          by_signature None g h q = absurd h
          by_signature (Some s) g (inl h) q = subst P h (abstract_in r b k e)
          by_signature (Some s) g (inr h) q =
              let o = one_oracle (answers final) (oracles_called D ty s) z h in
              let x = short_oracle (answers counting) (oracles_called D ty s) o.0 o.1 in
              let y = ap (λ u. length (of_callee u)) (is_answered ds scoped qs f0 w signed r t b e s g o.0 o.1 counting) in
              go (asked_of ty.params (arguments_of r.«module») (as_named o.0)) (is_typed ds scoped qs f0 w signed r t b e s g o.0 o.1)
              (on r (asked_of ty.params (arguments_of r.«module») (as_named o.0)) k (is_called ds scoped qs f0 w signed r t b e s g o.0 o.1))
              (omega (arith, x, y, q, l)) z
              (subst (λ u. Has (of_callee u) z) (is_answered ds scoped qs f0 w signed r t b e s g o.0 o.1 final) o.2)

      -- a name under which no module is declared is that of one which is left open
      unknown : (r : ProcRef) → interface_of ds None (name_of r.«module») ≡ None → seen.modules.interfaces (name_of r.«module») ≡ (context_of D).modules.interfaces (name_of r.«module») →
          (t : ProcedureType) → procedure seen r ≡ Some t → ⊥
      unknown r e s t h = at_module r.«module» (s ∙ names_are ds scoped (name_of r.«module») ∙ ap (option_map (resolved (context_of D).modules.types)) e) h
        where
          at_module : (m : Mexp) → seen.modules.interfaces (name_of m) ≡ None → procedure_of (interface_at seen.modules m) r.name ≡ Some t → ⊥
          at_module (named n) q h = absurd (none-some t (sym (ap (λ o. procedure_of o r.name) q) ∙ h))
          at_module (Apply' n k args) q h = absurd (none-some t (sym (ap (λ o. procedure_of (given o (interfaces_at seen.modules args)) r.name) q) ∙ h))

      of_other : (r : ProcRef) → IsTyped ds scoped qs f0 w r → Q r → interface_of ds None (name_of r.«module») ≡ None → (z : Var) → Has (of_callee (procedure_at final r)) z → P z
      of_other r t k e z has =
          by (λ o. is_open o) (λ s. absurd (unknown r e s t.0 t.1)) (open_or v (modules_of read base D) (context_of D) qs (name_of r.«module»))
        where
          is_open : IsOpen v qs final (name_of r.«module») → P z
          is_open o = open_in r o.param k t o.has o.name z (subst (λ x. Has (of_callee x) z) (at_name final r ∙ o.is r.name (gives final r.«module»)) has)

      proc_of_typed : (r : ProcRef) → IsTyped ds scoped qs f0 w r → (m : Module) → entry_of ds (name_of r.«module») ≡ Some (entry.Module m) → (p : Proc) × (proc_of m.procs r.name ≡ Some p)
      proc_of_typed r t m e =
          proc_there m.procs r.name t.0
          (in_module seen.modules (resolved seen.modules.types (of_module m)) r.name t.0 r.«module»
          (known_there ds scoped seen (goal_keeps (context_of D) (open_goal f0 qs) [] w) (λ k. goal_types ds scoped (open_goal f0 qs) [] k) (name_of r.«module») (of_module m) (ap (of_entry ds) e)) t.1)

      one_more : (d : ℕ) → Goes d → Goes (suc d)
      one_more d go r t k l z has = by_found (entry_of ds (name_of r.«module»)) refl
        where
          by_entry : (x : Entry) → entry_of ds (name_of r.«module») ≡ Some x → P z
          by_entry (entry.Module m) e = let p = proc_of_typed r t m e in of_declared d go r t k l m e p.0 p.1 z has
          by_entry (entry.AbstractModule b) e = of_abstract d go r t k l b e z has
          by_entry (entry.Lemma s bs) e = of_other r t k (ap (of_entry ds) e) z has
          by_entry (entry.Type u) e = of_other r t k (ap (of_entry ds) e) z has
          by_entry entry.AbstractType e = of_other r t k (ap (of_entry ds) e) z has
          by_entry (entry.Constant u) e = of_other r t k (ap (of_entry ds) e) z has
          by_entry (entry.Operator u) e = of_other r t k (ap (of_entry ds) e) z has
          by_entry (entry.ModuleType u) e = of_other r t k (ap (of_entry ds) e) z has
          by_entry (entry.AbstractOperator u) e = of_other r t k (ap (of_entry ds) e) z has
          by_entry (entry.Terminating u) e = of_other r t k (ap (of_entry ds) e) z has

          by_found : (o : Option Entry) → entry_of ds (name_of r.«module») ≡ o → P z
          by_found None e = of_other r t k (ap (of_entry ds) e) z has
          by_found (Some x) e = by_entry x e

      goes : (d : ℕ) → Goes d
      goes zero = λ r t k l z has. absurd (omega (arith, l))
      goes (suc d) = one_more d (goes d)

      pub covered : (r : ProcRef) → IsTyped ds scoped qs f0 w r → Q r → (z : Var) → Has (of_callee (procedure_at final r)) z → P z
      covered r t k z has = goes (suc (depth r)) r t k (omega arith) z has
