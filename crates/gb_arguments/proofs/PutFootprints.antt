-- The footprint that is computed of a module has the globals of its footprint in the meaning.
use Rattle.std.proofs.Common.{◌⊎◌, ◌≡◌, inl, inr, ℕ, zero, suc, ◌<◌, ◌||◌, if◌then◌else◌, Bool, true, false, List, [], ◌∷◌, ◌++◌, map, Option, Some, None, option_map, refl, ap, sym, ◌∙◌, subst, arith, ◌^◌}
use Rattle.std.specs.Prelude.{bytes_eq}
use Rattle.gb_core.specs.declared.var.Var.{Var}
use Rattle.gb_core.specs.declared.var.Var.TheVariants as var
use Rattle.gb_terms.specs.declared.decl.Module.{Module}
use Rattle.gb_terms.specs.declared.decl.Param.{Param}
use Rattle.gb_terms.specs.declared.module.Bind.{Bind}
use Rattle.gb_terms.specs.declared.module.Mexp.{Mexp}
use Rattle.gb_terms.specs.declared.module.Mexp.TheVariants.{Name as named, Apply'}
use Rattle.gb_terms.specs.declared.module.ProcRef.{ProcRef}
use Rattle.gb_goal.specs.declared.scope.Entry.{Entry}
use Rattle.gb_goal.specs.declared.scope.Entry.TheVariants as entry
use Rattle.gb_goal.specs.Instances.{name_of, arguments_of}
use Rattle.gb_goal.specs.Interfaces.{Interface, Procedures, found, given, interface_at, interfaces_at, lacking, left_over, of_entry, of_module, of_type, procedure_types, signature_types}
use Rattle.gb_goal.specs.Scope as scope
use Rattle.gb_goal.specs.Scope.{as_module, entry_of}
use Rattle.gb_meaning.specs.Declared.{Declaration, Declarations, ModuleType, concrete_module, declared, module_in, module_named}
use Rattle.gb_meaning.specs.Footprints as meant
use Rattle.gb_meaning.specs.Footprints.{footprint_read, head_name, in_order, of_all, of_callee, own_entry, var_order}
use Rattle.gb_meaning.specs.Modules.{Applied, Modules, module_at, no_module, with_procedures, Reading, module_read, modules_of, procedure_at, with_module}
use Rattle.gb_meaning.specs.Names.{Name}
use Rattle.gb_meaning.specs.Settings.{Chosen, Interpretation, is_chosen, setting, with_abstract_footprints}
use Rattle.gb_meaning.specs.Adversary.{abstract_footprint, or_none, type_named}
use Rattle.gb_meaning.specs.Linking.{oracle_of}
use Rattle.gb_meaning.proofs.Lists.{declared-module}
use Rattle.gb_typing.specs.Alike.{NameSigned, LooksAtCalls}
use Rattle.gb_typing.specs.Chosen.{AreUnchosen, IsChosenIf, IsChosenOver, chosen_under}
use Rattle.gb_typing.specs.Modules as typed
use Rattle.gb_typing.specs.Modules.{ProcedureType}
use Rattle.gb_typing.specs.Scopes.{IsTypedScope, nothing, context_of}
use Rattle.gb_typing.proofs.AbstractModules.{abstract_in_scope}
use Rattle.gb_typing.proofs.ClosedSettings.{chosen_footprint}
use Rattle.gb_typing.proofs.DeclaredTypes.{declared_type}
use Rattle.gb_typing.proofs.KeptPrograms.{chosen_kept}
use Rattle.gb_typing.proofs.Interfaces.{itself, none_some, same_name, same_some}
use Rattle.gb_typing.proofs.ParameterTypes.{type_in_scope}
use Rattle.gb_mods.specs.Footprint.{reference}
use Rattle.gb_mods.specs.Reach.{all_from, called_from, called_declared}
use Rattle.gb_mods.proofs.Closed.{IsIn}
use Rattle.gb_prog.proofs.There.{chosen_for}
use Rattle.gb_typing.specs.Following.{FollowsCalls}
use Rattle.gb_typing.specs.Context.{Context, procedure}
use Rattle.gb_typing.proofs.Agreed.{resolved}
use Rattle.gb_typing.proofs.DeclaredProcedures.{names_are}
use Rattle.gb_typing.proofs.Follows.{footprint_follows}
use Rattle.gb_typing.proofs.ModulesAlike.{footprint-looks}
use Rattle.gb_instances.specs.Footprint.{all_touched, own, own_of, references_to, touched_at, touched_by}
use Rattle.gb_arguments.specs.Members.{Has}
use Rattle.gb_arguments.proofs.AbstractNodes.{abstract_node, applied_is, given as given_modules}
use Rattle.gb_arguments.proofs.Closed.{AreReached, all_closed, all_reached}
use Rattle.gb_arguments.proofs.FinalModules.{final_module}
use Rattle.gb_arguments.proofs.FootprintMembers.{either, has_behind, has_either, has_front, in_ordered, ordered_has, IsGlobal}
use Rattle.gb_arguments.proofs.Nodes.{HasType, IsSeen, Node, base, declared_node, footprints_all, rank, reaches, final}
use Rattle.gb_arguments.proofs.OwnNames.{Aligned, HaveOwn, aligned_none, aligned_own, found_has, one_has, own_procedures, own_signatures, procedures_aligned, signatures_aligned}

-- Names under which programs are chosen.

module _ (cs : List Chosen) where
  rest_unchosen : (d : Name × Declaration) (es : Declarations) → AreUnchosen cs (d ∷ es) → AreUnchosen cs es
  rest_unchosen (k, concrete_module x) es u = u.1
  rest_unchosen (k, _) es u = u

  here_unchosen : (d : Name × Declaration) (es : Declarations) → AreUnchosen cs (d ∷ es) → (m : Module) → module_in d.1 ≡ Some m → chosen_under cs d.0 ≡ None
  here_unchosen (k, concrete_module x) es u m e = u.0
  here_unchosen (k, _) es u m e = none_some m e

  unchosen_at : (es : Declarations) → AreUnchosen cs es → (n : Name) (m : Module) → module_named es n ≡ Some m → chosen_under cs n ≡ None
  unchosen_at [] u n m e = none_some m e
  unchosen_at (d ∷ es) u n m e = step (bytes_eq n d.0) refl e (unchosen_at es (rest_unchosen d es u) n m)
    where
      step : (b : Bool) → bytes_eq n d.0 ≡ b → (if b then module_in d.1 else module_named es n) ≡ Some m → (module_named es n ≡ Some m → chosen_under cs n ≡ None) → chosen_under cs n ≡ None
      step true k e go = ap (chosen_under cs) (same_name n d.0 k) ∙ here_unchosen d es u m e
      step false k e go = go e

none_chosen : (cs : List Chosen) (n : Name) → chosen_under cs n ≡ None → is_chosen cs n ≡ false
none_chosen [] n e = refl
none_chosen (c ∷ cs) n e = step (bytes_eq n c.bind.name) e (none_chosen cs n)
  where
    step : (b : Bool) → (if b then Some c else chosen_under cs n) ≡ None → (chosen_under cs n ≡ None → is_chosen cs n ≡ false) → (b || is_chosen cs n) ≡ false
    step true e go = none_some c (sym e)
    step false e go = go e

some_chosen : (cs : List Chosen) (n : Name) (x : Chosen) → chosen_under cs n ≡ Some x → is_chosen cs n ≡ true
some_chosen [] n x e = none_some x e
some_chosen (c ∷ cs) n x e = step (bytes_eq n c.bind.name) e (some_chosen cs n x)
  where
    step : (b : Bool) → (if b then Some c else chosen_under cs n) ≡ Some x → (chosen_under cs n ≡ Some x → is_chosen cs n ≡ true) → (b || is_chosen cs n) ≡ true
    step true e go = refl
    step false e go = go e

head_is : (x : Mexp) → head_name x ≡ name_of x
head_is (named n) = refl
head_is (Apply' n k args) = refl

-- What is known of a module expression is known of the module that it names.

module _ (ds : scope.Declarations) where
  pub of_found : (x : Mexp) (I : Interface) → interface_at ds None x ≡ Some I → (J : Interface) × (of_entry ds (entry_of ds (name_of x)) ≡ Some J) × (I.procedures ≡ J.procedures)
  of_found (named n) I e = (I, e, refl)
  of_found (Apply' n k args) I e = step (of_entry ds (entry_of ds n)) refl e
    where
      lacks : (J : Interface) (o : Option (List Param)) → lacking J o ≡ Some I → I.procedures ≡ J.procedures
      lacks J None e = none_some I e
      lacks J (Some ps) e = ap (λ (z : Interface). z.procedures) (sym (same_some (record J { lacks = ps }) I e))

      step : (o : Option Interface) → of_entry ds (entry_of ds n) ≡ o → given ds o (interfaces_at ds None args) ≡ Some I → (J : Interface) × (of_entry ds (entry_of ds n) ≡ Some J) × (I.procedures ≡ J.procedures)
      step None h e = none_some I e
      step (Some J) h e = (J, h, lacks J (left_over ds J.lacks (interfaces_at ds None args)) e)

  -- a module that is known is declared, or abstract
  pub data Kind (n : Name) (J : Interface) : Type 0 where
    a_module : (m : Module) → entry_of ds n ≡ Some (entry.Module m) → of_module m ≡ J → Kind n J
    an_abstract : (b : Bind) (t : ModuleType) → entry_of ds n ≡ Some (entry.AbstractModule b) → scope.module_type_of ds b.ty ≡ Some t → of_type t ≡ J → Kind n J

  pub kind_of : (n : Name) (J : Interface) → of_entry ds (entry_of ds n) ≡ Some J → Kind n J
  kind_of n J e = by_found (entry_of ds n) refl e
    where
      by_type : (b : Bind) → entry_of ds n ≡ Some (entry.AbstractModule b) → (o : Option ModuleType) → scope.module_type_of ds b.ty ≡ o → option_map of_type o ≡ Some J → Kind n J
      by_type b h None k e = none_some J e
      by_type b h (Some t) k e = an_abstract b t h k (same_some (of_type t) J e)

      by_entry : (x : Entry) → entry_of ds n ≡ Some x → of_entry ds (Some x) ≡ Some J → Kind n J
      by_entry (entry.Module m) h e = a_module m h (same_some (of_module m) J e)
      by_entry (entry.AbstractModule b) h e = by_type b h (scope.module_type_of ds b.ty) refl e
      by_entry _ h e = none_some J e

      by_found : (o : Option Entry) → entry_of ds n ≡ o → of_entry ds o ≡ Some J → Kind n J
      by_found None h e = none_some J e
      by_found (Some x) h e = by_entry x h e

  -- what procedures touch themselves
  pub touched_by_one : (qs : List ProcRef) (z : Var) → Has (all_touched ds qs) z → (q : ProcRef) × IsIn qs q × Has (touched_at ds q) z
  touched_by_one [] z h = absurd h
  touched_by_one (q ∷ qs) z h =
      either (λ k. (q, inl refl, k)) (λ k. let o = touched_by_one qs z k in (o.0, inr o.1, o.2)) (has_either (touched_at ds q) (all_touched ds qs) z h)

  one_touched : (qs : List ProcRef) (q : ProcRef) → IsIn qs q → (z : Var) → Has (touched_at ds q) z → Has (all_touched ds qs) z
  one_touched [] q i z h = absurd i
  one_touched (x ∷ qs) q (inl e) z h = has_front (touched_at ds x) (all_touched ds qs) z (subst (λ y. Has (touched_at ds y) z) (sym e) h)
  one_touched (x ∷ qs) q (inr i) z h = has_behind (touched_at ds x) (all_touched ds qs) z (one_touched qs q i z h)

-- references to the procedures of a module

referred : (x : Mexp) (ps : Procedures ProcedureType) (n : Name) (t : ProcedureType) → found ps n ≡ Some t → IsIn (references_to x ps) (reference x n)
referred x [] n t e = none_some t e
referred x (p ∷ ps) n t e = step (bytes_eq n p.0) refl e (referred x ps n t)
  where
    step : (b : Bool) → bytes_eq n p.0 ≡ b → (if b then Some p.1 else found ps n) ≡ Some t → (found ps n ≡ Some t → IsIn (references_to x ps) (reference x n)) → IsIn (reference x p.0 ∷ references_to x ps) (reference x n)
    step true k e go = inl (ap (reference x) (sym (same_name n p.0 k)))
    step false k e go = inr (go e)

referring : (x : Mexp) (ps : Procedures ProcedureType) (r : ProcRef) → IsIn (references_to x ps) r → (n : Name) × (t : ProcedureType) × (found ps n ≡ Some t) × (reference x n ≡ r)
referring x [] r h = absurd h
referring x (p ∷ ps) r (inl e) = (p.0, p.1, ap (λ b. if b then Some p.1 else found ps p.0) (itself p.0), e)
referring x (p ∷ ps) r (inr h) = let w = referring x ps r h in step w.0 w.1 w.2 w.3
  where
    step : (n : Name) (t : ProcedureType) → found ps n ≡ Some t → reference x n ≡ r → (n : Name) × (t : ProcedureType) × (found (p ∷ ps) n ≡ Some t) × (reference x n ≡ r)
    step n t e q = by_name (bytes_eq n p.0) refl
      where
        by_name : (b : Bool) → bytes_eq n p.0 ≡ b → (n : Name) × (t : ProcedureType) × (found (p ∷ ps) n ≡ Some t) × (reference x n ≡ r)
        by_name true k = (n, p.1, ap (λ b. if b then Some p.1 else found ps n) k, q)
        by_name false k = (n, t, ap (λ b. if b then Some p.1 else found ps n) k ∙ e, q)

some_of : (o : Option (List Var)) (z : Var) → Has (of_callee o) z → (v : List Var) × (o ≡ Some v)
some_of None z h = absurd h
some_of (Some v) z h = (v, refl)

-- a name of which nothing is declared
pub undeclared : (read : Reading (List Var)) (ms : Modules (List Var)) (es : scope.Declarations) (n : Name) → entry_of es n ≡ None → modules_of read ms (declared es) n ≡ ms n
undeclared read ms [] n e = refl
undeclared read ms ((h, y) ∷ es) n e = let z = none_parts (bytes_eq n h) y (entry_of es n) e in by_entry y z.0 (λ ks. undeclared read ks es n z.1)
  where
    none_parts : (b : Bool) (y : Entry) (o : Option Entry) → (if b then Some y else o) ≡ None → (b ≡ false) × (o ≡ None)
    none_parts true y o e = none_some y (sym e)
    none_parts false y o e = (refl, e)

    by_entry : (y : Entry) → bytes_eq n h ≡ false → ((ks : Modules (List Var)) → modules_of read ks (declared es) n ≡ ks n) → modules_of read ms (declared ((h, y) ∷ es)) n ≡ ms n
    by_entry (entry.Module m) f go = go (with_module ms h (module_read read ms m)) ∙ ap (λ b. if b then module_read read ms m else ms n) f
    by_entry (entry.AbstractModule b) f go = go ms
    by_entry (entry.Lemma q o) f go = go ms
    by_entry (entry.Type t) f go = go ms
    by_entry entry.AbstractType f go = go ms
    by_entry (entry.Constant x) f go = go ms
    by_entry (entry.Operator o) f go = go ms
    by_entry (entry.ModuleType t) f go = go ms
    by_entry (entry.AbstractOperator o) f go = go ms
    by_entry (entry.Terminating p) f go = go ms

pub unchosen_none : (es : Declarations) (cs : List Chosen) (n : Name) → chosen_under cs n ≡ None → with_abstract_footprints es cs (λ k. no_module) n ≡ no_module
unchosen_none es [] n e = refl
unchosen_none es (c ∷ cs) n e = step (bytes_eq n c.bind.name) e (unchosen_none es cs n)
  where
    step : (b : Bool) → (if b then Some c else chosen_under cs n) ≡ None → (chosen_under cs n ≡ None → with_abstract_footprints es cs (λ k. no_module) n ≡ no_module) →
        (if b then abstract_footprint es c.bind.name (type_named es c.bind.ty) else with_abstract_footprints es cs (λ k. no_module) n) ≡ no_module
    step true e go = none_some c (sym e)
    step false e go = go e

module _ (ds : scope.Declarations) (i : Interpretation) (scoped : IsTypedScope (declared ds)) (over : IsChosenOver (declared ds) i) where
  abbrev all : Modules (List Var)
  all = footprints_all ds i scoped over

  -- an abstract module, for which a program is chosen
  pub chosen_named : (n : Name) (b : Bind) → entry_of ds n ≡ Some (entry.AbstractModule b) → (x : Chosen) × (chosen_under i.programs n ≡ Some x) × (x.bind ≡ b)
  chosen_named n b at = step (chosen_under i.programs b.name) refl (chosen_for (declared ds) i ds over.chosen n b at)
    where
      step : (o : Option Chosen) → chosen_under i.programs b.name ≡ o → IsChosenIf (declared ds) i.programs (setting (declared ds) i) i.world b o →
          (x : Chosen) × (chosen_under i.programs n ≡ Some x) × (x.bind ≡ b)
      step None e k = absurd k
      step (Some x) e k = (x, ap (chosen_under i.programs) (sym (let y = abstract_in_scope ds scoped n b at in y.name)) ∙ e, k.0)

  pub abstract_is : (n : Name) (b : Bind) (t : ModuleType) → entry_of ds n ≡ Some (entry.AbstractModule b) → scope.module_type_of ds b.ty ≡ Some t → all n ≡ abstract_footprint (declared ds) n t
  abstract_is n b t at e =
      let x = chosen_named n b at in
      chosen_kept footprint_read i.programs n x.0 x.1 (declared ds) (base ds i scoped over) over.unchosen
      ∙ chosen_footprint (declared ds) i.programs (λ k. no_module) n x.0 x.1
      ∙ ap (λ (z : Bind). abstract_footprint (declared ds) z.name (type_named (declared ds) z.ty)) x.2
      ∙ ap (λ z. abstract_footprint (declared ds) z (type_named (declared ds) b.ty)) (let y = abstract_in_scope ds scoped n b at in y.name)
      ∙ ap (abstract_footprint (declared ds) n) (ap or_none (declared_type ds b.ty ∙ e))

-- a module of which the context knows something, by its name
module_known : (ms : typed.Modules) (x : Mexp) (f : Name) (u : ProcedureType) → typed.procedure_of (typed.interface_at ms x) f ≡ Some u → (J : typed.Interface) × (ms.interfaces (name_of x) ≡ Some J)
module_known ms (named n) f u e = step (ms.interfaces n) refl e
  where
    step : (o : Option typed.Interface) → ms.interfaces n ≡ o → typed.procedure_of o f ≡ Some u → (J : typed.Interface) × (ms.interfaces n ≡ Some J)
    step None h e = none_some u e
    step (Some J) h e = (J, h)
module_known ms (Apply' n k args) f u e = step (ms.interfaces n) refl e
  where
    step : (o : Option typed.Interface) → ms.interfaces n ≡ o → typed.procedure_of (typed.given o (typed.interfaces_at ms args)) f ≡ Some u → (J : typed.Interface) × (ms.interfaces n ≡ Some J)
    step None h e = none_some u e
    step (Some J) h e = (J, h)

module _ (ds : scope.Declarations) (i : Interpretation) (scoped : IsTypedScope (declared ds)) (over : IsChosenOver (declared ds) i)
    (signed : (n : Name) (t : ModuleType) → scope.module_type_of ds n ≡ Some t → NameSigned (declared ds) t t.signatures) (seen : Context) (sees : IsSeen ds i scoped over seen) where
  abbrev footprints : Modules (List Var)
  footprints = footprints_all ds i scoped over

  abbrev has : ProcRef → Var → Type 0
  has r z = Has (reaches ds i scoped over r) z

  abbrev Typed : ProcRef → Type 0
  Typed r = HasType ds i scoped over seen sees r

  abbrev depth : ProcRef → ℕ
  depth r = rank ds i scoped over r

  -- a module of which nothing is declared or chosen
  nothing_at : (read : Reading (List Var)) (looks : LooksAtCalls read) (follows : FollowsCalls read) (r : ProcRef) → entry_of ds (name_of r.«module») ≡ None → chosen_under i.programs (name_of r.«module») ≡ None →
      procedure_at (final ds i scoped over read looks follows) r ≡ None
  nothing_at read looks follows r e k =
      ap (λ xs. found xs r.name) (applied_is (final ds i scoped over read looks follows) r.«module»)
      ∙ ap (λ (g : Applied (List Var)). found (g (given_modules (final ds i scoped over read looks follows) r.«module»)) r.name)
      (undeclared read (base ds i scoped over) ds (name_of r.«module») e ∙ unchosen_none (declared ds) i.programs (name_of r.«module») k)

  nothing_node : (r : ProcRef) → entry_of ds (name_of r.«module») ≡ None → chosen_under i.programs (name_of r.«module») ≡ None → Node ds i scoped over seen sees r
  nothing_node r e k =
      let touches : touched_at ds r ≡ [] = ap (λ o. touched_by (name_of r.«module») o r.name) e in
      let calls : called_from ds None r ≡ [] = ap (λ o. called_declared ds o (arguments_of r.«module») r.name) e in
      let nothing : reaches ds i scoped over r ≡ [] = ap of_callee (nothing_at footprint_read footprint-looks footprint_follows r e k) in
      record {
        split = λ z h. absurd (subst (λ xs. Has xs z) nothing h);
        global = λ z h. absurd (subst (λ xs. Has xs z) touches h);
        own = λ z h. absurd (subst (λ xs. Has xs z) touches h);
        through = λ q h z g j. absurd (subst (λ qs. IsIn qs q) calls h);
        typed = λ q h. absurd (subst (λ qs. IsIn qs q) calls h);
        falls = λ q h. absurd (subst (λ qs. IsIn qs q) calls h);
      }

  -- what a reference with a type stands for
  pub data Means (r : ProcRef) : Type 0 where
    of_known : (J : Interface) → Kind ds (name_of r.«module») J → Means r
    of_nothing : entry_of ds (name_of r.«module») ≡ None → chosen_under i.programs (name_of r.«module») ≡ None → Means r

  pub means : (r : ProcRef) → Typed r → Means r
  means r w =
      let J = module_known seen.modules r.«module» r.name w.0 w.1 in
      step J.0 J.1 (sees.kinds (name_of r.«module») J.0 J.1)
    where
      known_of : (J : typed.Interface) → (o : Option Interface) → of_entry ds (entry_of ds (name_of r.«module»)) ≡ o → option_map (resolved (context_of (declared ds)).modules.types) o ≡ Some J → Means r
      known_of J None h e = none_some J e
      known_of J (Some I) h e = of_known I (kind_of ds (name_of r.«module») I h)

      step : (J : typed.Interface) → seen.modules.interfaces (name_of r.«module») ≡ Some J →
          ((context_of (declared ds)).modules.interfaces (name_of r.«module») ≡ Some J) ⊎ ((entry_of ds (name_of r.«module») ≡ None) × (chosen_under i.programs (name_of r.«module») ≡ None)) → Means r
      step J h (inl e) = known_of J (of_entry ds (entry_of ds (name_of r.«module»))) refl (sym (names_are ds scoped (name_of r.«module»)) ∙ e)
      step J h (inr k) = of_nothing k.0 k.1

  node : (r : ProcRef) → Typed r → Node ds i scoped over seen sees r
  node r w = step (means r w)
    where
      of_kind : (J : Interface) → Kind ds (name_of r.«module») J → Node ds i scoped over seen sees r
      of_kind J (a_module m h e) = declared_node ds i scoped over seen sees r w.0 w.1 m h
      of_kind J (an_abstract b t h k e) = abstract_node ds i scoped over signed seen sees r w.0 w.1 b h

      step : Means r → Node ds i scoped over seen sees r
      step (of_known J k) = of_kind J k
      step (of_nothing e k) = nothing_node r e k

  all_global : (d : ℕ) (r : ProcRef) → Typed r → depth r < d → (z : Var) → has r z → IsGlobal z
  all_global zero r w l z h = absurd (omega (arith, l))
  all_global (suc d) r w l z h =
      let n = node r w in
      either (λ o. n.global z o)
      (λ t. let k = n.falls t.0 t.1 in let m : depth t.0 < d = omega (arith, k, l) in all_global d t.0 (n.typed t.0 t.1) m z t.2)
      (n.split z h)

  pub reaches_global : (r : ProcRef) → Typed r → (z : Var) → has r z → IsGlobal z
  reaches_global r w z h = let b : depth r < suc (depth r) = omega arith in all_global (suc (depth r)) r w b z h

  -- what a reached procedure touches in the meaning, reached ones touch themselves
  deep : (d : ℕ) (ps qs : List ProcRef) → AreReached ds ps qs → (r : ProcRef) → Typed r → depth r < d → IsIn qs r → (z : Var) → has r z → Has (all_touched ds qs) z
  deep zero ps qs closed r w l j z h = absurd (omega (arith, l))
  deep (suc d) ps qs closed r w l j z h =
      let n = node r w in
      either (λ o. one_touched ds qs r j z o)
      (λ t. let k = n.falls t.0 t.1 in let m : depth t.0 < d = omega (arith, k, l) in
      let c = closed.closed in deep d ps qs closed t.0 (n.typed t.0 t.1) m (c r j t.0 t.1) z t.2)
      (n.split z h)

  -- y is the module expression x, with its open parameters
  module _ (x y : Mexp) (I : Interface) (there : interface_at ds None x ≡ Some I) (same : module_at footprints y [] ≡ module_at footprints x [])
      (typed_start : (m : Name) (t : ProcedureType) → found I.procedures m ≡ Some t → procedure seen (reference y m) ≡ Some t) where
    abbrev n : Name
    n = name_of x

    abbrev known : (J : Interface) × (of_entry ds (entry_of ds n) ≡ Some J) × (I.procedures ≡ J.procedures)
    known = of_found ds x I there

    -- its footprint in the meaning
    abbrev pub meaning : List Var
    meaning = meant.footprint footprints (is_chosen i.programs) x

    abbrev xs : Procedures (List Var)
    xs = module_at footprints x []

    abbrev start : List ProcRef
    start = references_to y I.procedures

    type_there : (m : Name) (t : ProcedureType) → found I.procedures m ≡ Some t → Typed (reference y m)
    type_there m t e = (t, typed_start m t e)

    -- all that is its own
    own_same : own ds x ≡ own_entry (is_chosen i.programs) x
    own_same = step known.0 (kind_of ds n known.0 known.1)
      where
        entry_is : own_entry (is_chosen i.programs) x ≡ (if is_chosen i.programs n then var.Glob n ∷ [] else [])
        entry_is = ap (λ m. if is_chosen i.programs m then var.Glob m ∷ [] else []) (head_is x)

        step : (J : Interface) → Kind ds n J → own ds x ≡ own_entry (is_chosen i.programs) x
        step J (a_module m h e) =
            ap (own_of n) h
            ∙ sym (entry_is ∙ ap (λ b. if b then var.Glob n ∷ [] else []) (none_chosen i.programs n (unchosen_at i.programs (declared ds) over.unchosen n m (declared-module ds n ∙ ap as_module h))))
        step J (an_abstract b t h k e) =
            let y = chosen_named ds i scoped over n b h in
            ap (own_of n) h ∙ sym (entry_is ∙ ap (λ b. if b then var.Glob n ∷ [] else []) (some_chosen i.programs n y.0 y.1))

    -- the names of its procedures in the meaning are those that are known
    names_same : Aligned xs I.procedures × HaveOwn I.procedures
    names_same = subst (λ ps. Aligned xs ps × HaveOwn ps) (sym known.2) (step known.0 (kind_of ds n known.0 known.1))
      where
        step : (J : Interface) → Kind ds n J → Aligned xs J.procedures × HaveOwn J.procedures
        step J (a_module m h e) =
            let l = final_module footprint_read ds [] nothing scoped (base ds i scoped over) n m (ap as_module h) in
            let same : module_at footprints x [] ≡ with_procedures footprint_read l.env m no_module m.procs (given_modules footprints x) =
            applied_is footprints x ∙ ap (λ (g : Applied (List Var)). g (given_modules footprints x)) l.is in
            subst (λ (z : Interface). Aligned xs z.procedures × HaveOwn z.procedures) e (
              subst (λ ys. Aligned ys (procedure_types m.procs)) (sym same) (procedures_aligned footprint_read l.env m no_module (given_modules footprints x) [] tt m.procs),
              own_procedures l.around m [] m.procs tt (let w = l.typed in w.procs),
            )
        step J (an_abstract b t h k e) =
            let w = type_in_scope ds scoped b.ty t k in
            subst (λ (z : Interface). Aligned xs z.procedures × HaveOwn z.procedures) e (
              subst (λ ys. Aligned ys (signature_types t.signatures)) (sym (applied_is footprints x ∙ ap (λ (g : Applied (List Var)). g (given_modules footprints x)) (abstract_is ds i scoped over n b t h k)))
                  (signatures_aligned (declared ds) n t (oracle_of t.params (map (λ m. m []) (given_modules footprints x))) t.signatures),
              own_signatures (let z = w.before in z.modules) t.params t.signatures (let z = w.typed in z.signatures),
            )

    name_known : (m : Name) (v : List Var) → found xs m ≡ Some v → (t : ProcedureType) × (found I.procedures m ≡ Some t)
    name_known m v e = step (found I.procedures m) refl
      where
        step : (o : Option ProcedureType) → found I.procedures m ≡ o → (t : ProcedureType) × (found I.procedures m ≡ Some t)
        step None h = none_some v (sym (aligned_none xs I.procedures names_same.0 m h) ∙ e)
        step (Some t) h = (t, h)

    module _ (rs : List ProcRef) (f : all_from ds None start ≡ Some rs) where
      -- what is computed
      abbrev pub computed : List Var
      computed = own ds x ++ all_touched ds rs

      abbrev IsMeant : ProcRef → Type 0
      IsMeant r = Typed r × ((z : Var) → has r z → Has meaning z)

      called_meant : (r q : ProcRef) → IsMeant r → IsIn (called_from ds None r) q → IsMeant q
      called_meant r q k j =
          let m = node r k.0 in
          let w = m.typed q j in
          (w, λ z h. k.1 z (m.through q j z (reaches_global q w z h) h))

      first_meant : (r : ProcRef) → IsIn start r → IsMeant r
      first_meant r j =
          let w = referring y I.procedures r j in
          subst IsMeant w.3 (
            type_there w.0 w.1 w.2,
            λ z h.
                ordered_has (own_entry (is_chosen i.programs) x ++ of_all xs) z (has_behind (own_entry (is_chosen i.programs) x) (of_all xs) z (found_has xs w.0 z (subst (λ ys. Has (of_callee (found ys w.0)) z) same h))),
          )

      pub reached_meant : (r : ProcRef) → IsIn rs r → IsMeant r
      reached_meant r j = all_reached ds IsMeant called_meant (2 ^ 32) 0 start rs first_meant f r j

      -- what is computed is meant
      pub computed_meant : (z : Var) → Has computed z → Has meaning z
      computed_meant z h =
          either
          (λ k. ordered_has (own_entry (is_chosen i.programs) x ++ of_all xs) z (has_front (own_entry (is_chosen i.programs) x) (of_all xs) z (subst (λ ys. Has ys z) own_same k)))
          (λ k. let o = touched_by_one ds rs z k in
          let m = reached_meant o.0 o.1 in
          m.1 z ((let y = node o.0 m.0 in y.own z o.2)))
          (has_either (own ds x) (all_touched ds rs) z h)

      -- what is meant is computed
      pub meant_computed : (z : Var) → Has meaning z → Has computed z
      meant_computed z h =
          either
          (λ k. has_front (own ds x) (all_touched ds rs) z (subst (λ ys. Has ys z) (sym own_same) k))
          (λ k. has_behind (own ds x) (all_touched ds rs) z
          (let o = one_has xs (aligned_own xs I.procedures names_same.0 names_same.1) z k in
          let v = some_of (found xs o.0) z o.1 in
          let t = name_known o.0 v.0 v.1 in
          let r = reference y o.0 in
          let c = all_closed ds start rs f in
          let b : depth r < suc (depth r) = omega arith in
          deep (suc (depth r)) start rs c r (type_there o.0 t.0 t.1) b (c.there r (referred y I.procedures o.0 t.0 t.1)) z (subst (λ ys. Has (of_callee (found ys o.0)) z) (sym same) o.1)))
          (has_either (own_entry (is_chosen i.programs) x) (of_all xs) z (in_ordered (own_entry (is_chosen i.programs) x ++ of_all xs) z h))
