-- The footprint that is computed of a module expression has the globals of its footprint in the meaning.
use Rattle.std.proofs.Common.{◌≡◌, ◌⊎◌, inl, inr, if◌then◌else◌, ℕ, zero, suc, ◌<◌, ◌==◌, ◌^◌, Bool, true, false, List, [], ◌∷◌, ◌++◌, drop, length, Option, Some, None, bytes_eq, refl, ap, sym, ◌∙◌, subst, arith}
use Rattle.std.specs.Option.{option_map}
use Rattle.std.proofs.lemmas.List.{append_assoc, append-nil}
use Rattle.gb_core.specs.declared.var.Var.{Var}
use Rattle.gb_terms.specs.declared.decl.Module.{Module}
use Rattle.gb_terms.specs.declared.decl.Param.{Param}
use Rattle.gb_terms.specs.declared.decl.Proc.{Proc}
use Rattle.gb_terms.specs.declared.module.Mexp.{Mexp}
use Rattle.gb_terms.specs.declared.module.Mexp.TheVariants.{Name as named, Apply'}
use Rattle.gb_terms.specs.declared.module.ProcRef.{ProcRef}
use Rattle.gb_goal.specs.Instances.{name_of}
use Rattle.gb_goal.specs.Interfaces.{Interface, ProcedureType, given, interface_at, interfaces_at, lacking, left_over, of_complete, of_module, procedure_in, procedure_type, procedure_types, type_of_procedure}
use Rattle.gb_goal.specs.Scope as scope
use Rattle.gb_goal.specs.Scope.{as_module, entry_of, module_of, proc_of, procedure_of}
use Rattle.gb_goal.specs.declared.scope.Entry.{Entry as Declaration}
use Rattle.gb_goal.specs.declared.scope.Entry.TheVariants as entry
use Rattle.gb_goal.proofs.Interfaces.{declared_types}
use Rattle.gb_meaning.specs.Names.{Name}
use Rattle.gb_meaning.specs.Declared.{declared}
use Rattle.gb_meaning.specs.Footprints.{body_touched, footprint_read, of_all, of_callee, variables}
use Rattle.gb_meaning.specs.Footprints as meant
use Rattle.gb_meaning.specs.Holds.{declared_modules}
use Rattle.gb_meaning.specs.Modules.{Applied, Functor, Modules, Procedures, found, module_at, module_read, modules_at, modules_of, no_module, procedure_at, with_module, with_params, with_procedure, with_procedures}
use Rattle.gb_meaning.specs.Naming.{IsFreshAmong}
use Rattle.gb_meaning.proofs.Procedures.{in_module}
use Rattle.gb_typing.specs.Context.{Context}
use Rattle.gb_typing.specs.Scopes.{nothing, AreProcedures, IsTypedScope}
use Rattle.gb_typing.proofs.DeclaredProcedures.{calls_declared, modules_alone}
use Rattle.gb_typing.proofs.Follows.{footprint_follows}
use Rattle.gb_typing.proofs.InScopes.{found_first}
use Rattle.gb_typing.proofs.ModulesAlike.{footprint-looks}
use Rattle.gb_typing.proofs.Scripts.{itself, none_some, same_some}
use Rattle.gb_typing.proofs.ScopesAlike.{script_alike}
use Rattle.gb_mods.specs.Called.{added, called, called_by, calls, is_among, reached}
use Rattle.gb_mods.specs.Footprint.{are_known, footprint_of, reference, references, touched, touched_if}
use Rattle.gb_mods.specs.Footprint as computed
use Rattle.gb_mods.specs.Meant.{meant_by}
use Rattle.gb_mods.specs.Order.{joined}
use Rattle.gb_mods.specs.Touched.{each_touched, touched_in, touched_itself}
use Rattle.gb_mods.proofs.Closed.{IsIn, AreReached, all_closed}
use Rattle.gb_elab_laws.specs.Members.{Has}
use Rattle.gb_elab_laws.proofs.FootprintBodies.{called_body, each_call, own_body, split_body}
use Rattle.gb_elab_laws.proofs.FinalModules.{Final, final_module}
use Rattle.gb_elab_laws.proofs.FootprintMembers.{either, has_behind, has_either, has_front, in_joined, in_ordered, joined_has, kept, ordered_has, was_there, IsGlobal}
use Rattle.gb_elab_laws.proofs.MeantAlone.{meant_alone, meant_there, of_found}
use Rattle.gb_elab_laws.proofs.Ranks.{falls, rank}
use Rattle.gb_elab_laws.proofs.ReadProcedures.{read_there}

module _ (ds : scope.Declarations) (scoped : IsTypedScope (declared ds)) (alone : declared_modules (declared ds) ≡ []) where
  abbrev all : Modules (List Var)
  all = modules_of footprint_read (λ k. no_module) (declared ds)

  -- what a procedure touches in the meaning
  abbrev reaches : ProcRef → List Var
  reaches r = of_callee (procedure_at all r)

  reaches_is : (r : ProcRef) (p : Proc) → procedure_of ds r ≡ Some p → reaches r ≡ footprint_read (procedure_at all) p
  reaches_is r p e = ap of_callee (read_there footprint_read footprint-looks footprint_follows (λ k. no_module) ds scoped (script_alike ds alone nothing (λ k. no_module) (λ k. no_module)) r p e)

  reaches_global : (r : ProcRef) (p : Proc) → procedure_of ds r ≡ Some p → (z : Var) → Has (reaches r) z → IsGlobal z
  reaches_global r p e z h =
      (was_there (body_touched (procedure_at all) p.body.list ++ variables p.value) z (in_ordered _ z (subst (λ xs. Has xs z) (reaches_is r p e) h))).0

  reaches_split : (r : ProcRef) (p : Proc) → procedure_of ds r ≡ Some p → (z : Var) → Has (reaches r) z →
      Has (touched_in p) z ⊎ ((q : ProcRef) × IsIn (calls p.body.list) q × Has (reaches q) z)
  reaches_split r p e z h =
      let k = was_there (body_touched (procedure_at all) p.body.list ++ variables p.value) z (in_ordered _ z (subst (λ xs. Has xs z) (reaches_is r p e) h)) in
      either
      (λ b. either (λ o. inl (kept (each_touched p.body.list ++ variables p.value) z k.0 (has_front (each_touched p.body.list) (variables p.value) z o))) (λ t. inr t)
      (split_body (procedure_at all) z p.body.list b))
      (λ v. inl (kept (each_touched p.body.list ++ variables p.value) z k.0 (has_behind (each_touched p.body.list) (variables p.value) z v)))
      (has_either (body_touched (procedure_at all) p.body.list) (variables p.value) z k.1)

  reaches_body : (r : ProcRef) (p : Proc) → procedure_of ds r ≡ Some p → (z : Var) → IsGlobal z → Has (body_touched (procedure_at all) p.body.list ++ variables p.value) z → Has (reaches r) z
  reaches_body r p e z g h =
      subst (λ xs. Has xs z) (sym (reaches_is r p e)) (ordered_has _ z (kept (body_touched (procedure_at all) p.body.list ++ variables p.value) z g h))

  reaches_own : (r : ProcRef) (p : Proc) → procedure_of ds r ≡ Some p → (z : Var) → Has (touched_in p) z → Has (reaches r) z
  reaches_own r p e z h =
      let k = was_there (each_touched p.body.list ++ variables p.value) z h in
      reaches_body r p e z k.0
      (either (λ o. has_front (body_touched (procedure_at all) p.body.list) (variables p.value) z (own_body (procedure_at all) z p.body.list o))
      (λ v. has_behind (body_touched (procedure_at all) p.body.list) (variables p.value) z v) (has_either (each_touched p.body.list) (variables p.value) z k.1))

  reaches_called : (r : ProcRef) (p : Proc) → procedure_of ds r ≡ Some p → (q : ProcRef) → IsIn (calls p.body.list) q → (z : Var) → Has (reaches q) z → Has (reaches r) z
  reaches_called r p e q c z h =
      let f = each_call (λ q. (f : Proc) × (procedure_of ds q ≡ Some f)) p.body.list (calls_declared ds scoped alone r p e) q c in
      reaches_body r p e z (reaches_global q f.0 f.1 z h) (has_front (body_touched (procedure_at all) p.body.list) (variables p.value) z (called_body (procedure_at all) z p.body.list q h c))

  -- what reached procedures touch themselves
  touched_by : (qs : List ProcRef) (r : ProcRef) (p : Proc) → procedure_of ds r ≡ Some p → IsIn qs r → (z : Var) → Has (touched_in p) z → Has (touched ds qs) z
  touched_by [] r p e i z h = absurd i
  touched_by (q ∷ qs) r p e (inl s) z h =
      has_front (touched_itself (meant_by ds q)) (touched ds qs) z (subst (λ m. Has (touched_itself m) z) (sym (ap (meant_by ds) s ∙ meant_there ds r p e)) h)
  touched_by (q ∷ qs) r p e (inr i) z h = has_behind (touched_itself (meant_by ds q)) (touched ds qs) z (touched_by qs r p e i z h)

  by_one : (qs : List ProcRef) (z : Var) → Has (touched ds qs) z → (q : ProcRef) × IsIn qs q × Has (touched_itself (meant_by ds q)) z
  by_one [] z h = absurd h
  by_one (q ∷ qs) z h =
      either (λ k. (q, inl refl, k)) (λ k. let o = by_one qs z k in (o.0, inr o.1, o.2)) (has_either (touched_itself (meant_by ds q)) (touched ds qs) z h)

  -- what a reached procedure touches in the meaning, reached ones touch themselves
  deep : (d : ℕ) (ps qs : List ProcRef) → AreReached ds ps qs → (r : ProcRef) (p : Proc) → procedure_of ds r ≡ Some p → rank ds scoped alone r < d → IsIn qs r → (z : Var) → Has (reaches r) z → Has (touched ds qs) z
  deep zero ps qs closed r p e l i z h = absurd (omega (arith, l))
  deep (suc d) ps qs closed r p e l i z h =
      either (λ o. touched_by qs r p e i z o)
      (λ t. let f = each_call (λ q. (f : Proc) × (procedure_of ds q ≡ Some f)) p.body.list (calls_declared ds scoped alone r p e) t.0 t.1 in
      let k = falls ds scoped alone r p e t.0 t.1 in
      let m : rank ds scoped alone t.0 < d = omega (arith, k, l) in
      let c = closed.closed in
      deep d ps qs closed t.0 f.0 f.1 m (c r i t.0 (subst (λ m. IsIn (called_by m) t.0) (sym (meant_there ds r p e)) t.1)) z t.2)
      (reaches_split r p e z h)

  -- What is so of procedures, and of each that one of which it is so calls, is so of all that they reach.
  module _ (P : ProcRef → Type 0) (on : (r q : ProcRef) → P r → IsIn (called_by (meant_by ds r)) q → P q) where
    abbrev All : List ProcRef → Type 0
    All ps = (q : ProcRef) → IsIn ps q → P q

    all_called : (ps : List ProcRef) → All ps → All (called ds ps)
    all_called [] h q i = absurd i
    all_called (p ∷ ps) h q i = step (called_by (meant_by ds p)) (λ k. on p q (h p (inl refl)) k) (all_called ps (λ x k. h x (inr k)) q) i
      where
        step : (xs : List ProcRef) → (IsIn xs q → P q) → (IsIn (called ds ps) q → P q) → IsIn (xs ++ called ds ps) q → P q
        step [] f g j = g j
        step (x ∷ xs) f g (inl e) = f (inl e)
        step (x ∷ xs) f g (inr j) = step xs (λ k. f (inr k)) g j

    all_added : (ps qs : List ProcRef) → All ps → All qs → All (added ps qs)
    all_added ps [] f g = f
    all_added ps (x ∷ xs) f g = all_added (if is_among ps x then ps else ps ++ x ∷ []) xs (step (is_among ps x)) (λ q i. g q (inr i))
      where
        more : (ys : List ProcRef) → All ys → All (ys ++ x ∷ [])
        more [] h q (inl e) = subst P e (g x (inl refl))
        more [] h q (inr i) = absurd i
        more (y ∷ ys) h q (inl e) = h q (inl e)
        more (y ∷ ys) h q (inr i) = more ys (λ z k. h z (inr k)) q i

        step : (b : Bool) → All (if b then ps else ps ++ x ∷ [])
        step true = f
        step false = more ps f

    all_dropped : (k : ℕ) (ps : List ProcRef) → All ps → All (drop k ps)
    all_dropped zero ps h = h
    all_dropped (suc k) [] h = h
    all_dropped (suc k) (p ∷ ps) h = all_dropped k ps (λ q i. h q (inr i))

    all_reached : (n k : ℕ) (ps qs : List ProcRef) → All ps → reached n (called ds) k ps ≡ Some qs → All qs
    unfolding reached
    all_reached zero k ps qs h e = none_some qs e
    all_reached (suc n) k ps qs h e = step (k == length ps) e (all_reached n (length ps) (added ps (called ds (drop k ps))) qs (all_added ps (called ds (drop k ps)) h (all_called (drop k ps) (all_dropped k ps h))))
      where
        step : (b : Bool) → (if b then Some ps else reached n (called ds) (length ps) (added ps (called ds (drop k ps)))) ≡ Some qs →
            (reached n (called ds) (length ps) (added ps (called ds (drop k ps))) ≡ Some qs → All qs) → All qs
        step true g go = subst All (same_some ps qs g) h
        step false g go = go g

  -- The procedures of a module.

  fresh_types : (xs : Procedures ProcedureType) (ps : List Proc) (n : Name) → found (xs ++ procedure_types ps) n ≡ None → IsFreshAmong ps n
  fresh_types [] [] n e = tt
  fresh_types [] (p ∷ ps) n e = step (bytes_eq n p.name) refl (fresh_types [] ps n) e
    where
      step : (b : Bool) → bytes_eq n p.name ≡ b → (found (procedure_types ps) n ≡ None → IsFreshAmong ps n) → (if b then Some (type_of_procedure p) else found (procedure_types ps) n) ≡ None → (bytes_eq n p.name ≡ false) × IsFreshAmong ps n
      step true q go f = cc
      step false q go f = (q, go f)
  fresh_types (x ∷ xs) ps n e = step (bytes_eq n x.0) (fresh_types xs ps n) e
    where
      step : (b : Bool) → (found (xs ++ procedure_types ps) n ≡ None → IsFreshAmong ps n) → (if b then Some x.1 else found (xs ++ procedure_types ps) n) ≡ None → IsFreshAmong ps n
      step true go f = cc
      step false go f = go f

  fresh_at : (c : Context) (m : Module) (earlier : Procedures ProcedureType) (front : List Proc) (p : Proc) (after : List Proc) → AreProcedures c m earlier (front ++ p ∷ after) →
      found (earlier ++ procedure_types front) p.name ≡ None
  fresh_at c m earlier [] p after w = subst (λ xs. found xs p.name ≡ None) (sym (append-nil earlier)) w.0
  fresh_at c m earlier (x ∷ front) p after w =
      subst (λ xs. found xs p.name ≡ None) (append_assoc earlier ((x.name, type_of_procedure x) ∷ []) (procedure_types front)) (fresh_at c m (earlier ++ (x.name, type_of_procedure x) ∷ []) front p after w.2)

  of_all_either : (xs : Procedures (List Var)) (n : Name) (v : List Var) (z : Var) → Has (of_all (xs ++ (n, v) ∷ [])) z → Has (of_all xs) z ⊎ Has v z
  of_all_either [] n v z h = either (λ k. inr k) (λ k. absurd k) (has_either v [] z h)
  of_all_either (x ∷ xs) n v z h =
      either (λ k. inl (has_front x.1 (of_all xs) z k)) (λ k. either (λ j. inl (has_behind x.1 (of_all xs) z j)) (λ j. inr j) (of_all_either xs n v z k)) (has_either x.1 (of_all (xs ++ (n, v) ∷ [])) z h)

  -- .. where its arguments are these
  module _ (args : List (Functor (List Var))) where
    record Entry (ms : Modules (List Var)) (m : Module) (e : Applied (List Var)) (ps : List Proc) (z : Var) : Type 0 where
      front : List Proc
      proc : Proc
      after : List Proc
      place : ps ≡ front ++ proc ∷ after
      has : Has (footprint_read (procedure_at (with_params (with_module ms m.name (with_procedures footprint_read ms m e front)) m.params args)) proc) z

    entry_at : (ms : Modules (List Var)) (m : Module) (e : Applied (List Var)) (ps : List Proc) (z : Var) → Has (of_all (with_procedures footprint_read ms m e ps args)) z →
        Has (of_all (e args)) z ⊎ Entry ms m e ps z
    entry_at ms m e [] z h = inl h
    entry_at ms m e (p ∷ ps) z h =
        either
        (λ k. either (λ j. inl j) (λ j. inr (record { front = []; proc = p; after = ps; place = refl; has = j }))
        (of_all_either (e args) p.name (footprint_read (procedure_at (with_params (with_module ms m.name e) m.params args)) p) z k))
        (λ x. inr (record { front = p ∷ x.front; proc = x.proc; after = x.after; place = ap (λ l. p ∷ l) x.place; has = x.has }))
        (entry_at ms m (with_procedure footprint_read ms m e p) ps z h)

  found_has : (xs : Procedures (List Var)) (n : Name) (z : Var) → Has (of_callee (found xs n)) z → Has (of_all xs) z
  found_has [] n z h = absurd h
  found_has (x ∷ xs) n z h = step (bytes_eq n x.0) (found_has xs n z) h
    where
      step : (b : Bool) → (Has (of_callee (found xs n)) z → Has (of_all xs) z) → Has (of_callee (if b then Some x.1 else found xs n)) z → Has (x.1 ++ of_all xs) z
      step true go k = has_front x.1 (of_all xs) z k
      step false go k = has_behind x.1 (of_all xs) z (go k)

  first_is : (front : List Proc) (p : Proc) (after : List Proc) → IsFreshAmong front p.name → proc_of (front ++ p ∷ after) p.name ≡ Some p
  first_is [] p after f = ap (λ b. if b then Some p else proc_of after p.name) (itself p.name)
  first_is (x ∷ front) p after f = ap (λ b. if b then Some x else proc_of (front ++ p ∷ after) p.name) f.0 ∙ first_is front p after f.1

  referred : (x : Mexp) (front : List Proc) (p : Proc) (after : List Proc) → IsIn (references x (front ++ p ∷ after)) (reference x p.name)
  referred x [] p after = inl refl
  referred x (q ∷ front) p after = inr (referred x front p after)

  referring : (x : Mexp) (ps : List Proc) (r : ProcRef) → IsIn (references x ps) r → (p : Proc) × (reference x p.name ≡ r)
  referring x [] r h = absurd h
  referring x (p ∷ ps) r (inl e) = (p, e)
  referring x (p ∷ ps) r (inr h) = referring x ps r h

  -- A module expression that is known, and the module that it names.

  record IsOf (n : Name) (i : Interface) : Type 0 where
    owner : Module
    there : module_of ds n ≡ Some owner
    types : i.procedures ≡ procedure_types owner.procs

  named_of : (n : Name) (i : Interface) (o : Option Module) → module_of ds n ≡ o → option_map of_module o ≡ Some i → IsOf n i
  named_of n i None e h = none_some i h
  named_of n i (Some m) e h = record { owner = m; there = e; types = ap (λ (j : Interface). j.procedures) (sym (same_some (of_module m) i h)) }

  given_of : (n : Name) (i : Interface) (o : Option Module) → module_of ds n ≡ o → (is : List (Option Interface)) → given ds (option_map of_module o) is ≡ Some i → IsOf n i
  given_of n i None e is h = none_some i h
  given_of n i (Some m) e is h = step (left_over ds m.params is) h
    where
      step : (l : Option (List Param)) → lacking (of_module m) l ≡ Some i → IsOf n i
      step None h = none_some i h
      step (Some qs) h = record { owner = m; there = e; types = ap (λ (j : Interface). j.procedures) (sym (same_some (record (of_module m) { lacks = qs }) i h)) }

  known_of : (x : Mexp) (i : Interface) → interface_at ds None x ≡ Some i → IsOf (name_of x) i
  known_of (named n) i e = named_of n i (module_of ds n) refl (sym (modules_alone ds alone n) ∙ e)
  known_of (Apply' n k args) i e =
      given_of n i (module_of ds n) refl (interfaces_at ds None args) (subst (λ o. given ds o (interfaces_at ds None args) ≡ Some i) (modules_alone ds alone n) e)

  -- the module that it names, with arguments
  applied : (x : Mexp) → (args : List (Functor (List Var))) × (module_at all x [] ≡ all (name_of x) args)
  applied (named n) = ([], refl)
  applied (Apply' n k args) = (modules_at all args ++ [], refl)

  module _ (x : Mexp) (i : Interface) (there : interface_at ds None x ≡ Some i) (full : i.lacks ≡ []) where
    abbrev known : IsOf (name_of x) i
    known = known_of x i there

    abbrev m : Module
    m = known.owner

    -- the footprint in the meaning
    abbrev meaning : List Var
    meaning = meant.footprint all (λ k. false) x

    abbrev start : List ProcRef
    start = references x m.procs

    meaning_has : (z : Var) → Has (of_all (module_at all x [])) z → Has meaning z
    meaning_has z h = ordered_has (of_all (module_at all x [])) z h

    IsMeant : ProcRef → Type 0
    IsMeant r = (z : Var) → Has (reaches r) z → Has meaning z

    called_meant : (r q : ProcRef) → IsMeant r → IsIn (called_by (meant_by ds r)) q → IsMeant q
    unfolding IsMeant
    called_meant r q k i z h = step (procedure_of ds r) refl (subst (λ m. IsIn (called_by m) q) (meant_alone ds alone r) i)
      where
        step : (o : Option Proc) → procedure_of ds r ≡ o → IsIn (called_by (of_found o)) q → Has meaning z
        step None e j = absurd j
        step (Some p) e j = k z (reaches_called r p e q j z h)

    first_meant : (r : ProcRef) → IsIn start r → IsMeant r
    unfolding IsMeant
    first_meant r j z h =
        let k = referring x m.procs r j in
        meaning_has z (found_has (module_at all x []) k.0.name z (subst (λ q. Has (reaches q) z) (sym k.1) h))

    declared_one : (q : ProcRef) (z : Var) (o : Option Proc) → procedure_of ds q ≡ o → Has (touched_itself (of_found o)) z → (p : Proc) × (procedure_of ds q ≡ Some p) × Has (touched_in p) z
    declared_one q z None e h = absurd h
    declared_one q z (Some p) e h = (p, e, h)

    reached_meant : (qs : List ProcRef) → reached (2 ^ 32) (called ds) 0 start ≡ Some qs → (z : Var) → Has (touched ds qs) z → Has meaning z
    unfolding IsMeant
    reached_meant qs f z h =
        let o = by_one qs z h in
        let p = declared_one o.0 z (procedure_of ds o.0) refl (subst (λ m. Has (touched_itself m) z) (meant_alone ds alone o.0) o.2) in
        all_reached IsMeant called_meant (2 ^ 32) 0 start qs first_meant f o.0 o.1 z (reaches_own o.0 p.0 p.1 z p.2)

    entry_there : (o : Option Declaration) (k : Module) → as_module o ≡ Some k → o ≡ Some (entry.Module k)
    entry_there (Some (entry.Module j)) k e = ap (λ (z : Module). Some (entry.Module z)) (same_some j k e)
    entry_there _ k e = none_some k e

    -- what is computed are the variables of all procedures that are reached
    computed_is : (xs : List Var) → computed.footprint ds x ≡ Some xs → (qs : List ProcRef) × ((reached (2 ^ 32) (called ds) 0 start ≡ Some qs) × (joined (touched ds qs) [] ≡ xs))
    unfolding computed.footprint
    computed_is xs e = by_reach (reached (2 ^ 32) (called ds) 0 start) refl (subst (λ o. footprint_of ds x o ≡ Some xs) (entry_there (entry_of ds (name_of x)) m known.there) e)
      where
        all_there : (b : Bool) (qs : List ProcRef) → (if b then Some (joined (touched ds qs) []) else None) ≡ Some xs → joined (touched ds qs) [] ≡ xs
        all_there true qs h = same_some (joined (touched ds qs) []) xs h
        all_there false qs h = none_some xs h

        by_reach : (o : Option (List ProcRef)) → reached (2 ^ 32) (called ds) 0 start ≡ o → touched_if ds [] o ≡ Some xs →
            (qs : List ProcRef) × ((reached (2 ^ 32) (called ds) 0 start ≡ Some qs) × (joined (touched ds qs) [] ≡ xs))
        by_reach None f g = none_some xs g
        by_reach (Some qs) f g = (qs, (f, all_there (are_known ds qs) qs g))

    -- what is computed is meant
    pub computed_meant : (xs : List Var) → computed.footprint ds x ≡ Some xs → (z : Var) → Has xs z → Has meaning z
    computed_meant xs e z h = let c = computed_is xs e in reached_meant c.0 c.1.0 z (in_joined (touched ds c.0) z (subst (λ ys. Has ys z) (sym c.1.1) h))

    -- each procedure of the module is a declared one, with the arguments
    declared_at : (front : List Proc) (p : Proc) (after : List Proc) → m.procs ≡ front ++ p ∷ after → IsFreshAmong front p.name → (a : Proc) × (procedure_of ds (reference x p.name) ≡ Some a)
    declared_at front p after place fresh = step (procedure_of ds (reference x p.name)) refl
      where
        typed : procedure_type ds None (reference x p.name) ≡ Some (type_of_procedure p)
        typed =
            ap (λ o. procedure_in o p.name) there ∙ ap (λ ps. of_complete ps i.procedures p.name) full ∙ ap (λ ps. found ps p.name) known.types
            ∙ found_first m.procs p.name p (ap (λ ps. proc_of ps p.name) place ∙ first_is front p after fresh)

        step : (o : Option Proc) → procedure_of ds (reference x p.name) ≡ o → (a : Proc) × (procedure_of ds (reference x p.name) ≡ Some a)
        step None e = none_some (type_of_procedure p) (sym (declared_types ds (modules_alone ds alone) (reference x p.name) ∙ ap (option_map type_of_procedure) e) ∙ typed)
        step (Some a) e = (a, e)

    -- the module in the meaning
    abbrev args : List (Functor (List Var))
    args = (applied x).0

    l : Final footprint_read all (name_of x) m
    l = final_module footprint_read ds [] nothing scoped (λ k. no_module) (name_of x) m known.there

    applied_is : module_at all x [] ≡ module_read footprint_read l.env m args
    applied_is = (applied x).1 ∙ ap (λ (g : Applied (List Var)). g args) l.is

    meant_reached : (qs : List ProcRef) → reached (2 ^ 32) (called ds) 0 start ≡ Some qs → (z : Var) → Has (of_all (module_at all x [])) z → Has (touched ds qs) z
    meant_reached qs f z h =
        either (λ k. absurd k) (λ y. at_entry y)
        (entry_at args l.env m no_module m.procs z (subst (λ ps. Has (of_all ps) z) applied_is h))
      where
        at_entry : Entry args l.env m no_module m.procs z → Has (touched ds qs) z
        at_entry y =
            let p = y.proc in
            let t = l.typed in
            let fresh = fresh_types [] y.front p.name (fresh_at l.around m [] y.front p y.after (subst (AreProcedures l.around m []) y.place t.procs)) in
            let v = in_module footprint_read l.env m y.front y.after p y.place fresh args in
            let r = reference x p.name in
            let there_is : procedure_at all r ≡ Some (footprint_read (procedure_at (with_params (with_module l.env m.name (with_procedures footprint_read l.env m no_module y.front)) m.params args)) p) =
            ap (λ ps. found ps p.name) applied_is ∙ v in
            let a = declared_at y.front p y.after y.place fresh in
            let c = all_closed ds start qs f in
            let j = c.there r (subst (λ ps. IsIn (references x ps) r) (sym y.place) (referred x y.front p y.after)) in
            let b : rank ds scoped alone r < suc (rank ds scoped alone r) = omega arith in
            deep (suc (rank ds scoped alone r)) start qs c r a.0 a.1 b j z (subst (λ o. Has (of_callee o) z) (sym there_is) y.has)

    -- what is meant is computed
    pub meant_computed : (xs : List Var) → computed.footprint ds x ≡ Some xs → (z : Var) → Has meaning z → Has xs z
    meant_computed xs e z h =
        let c = computed_is xs e in
        subst (λ ys. Has ys z) c.1.1 (joined_has (touched ds c.0) z (meant_reached c.0 c.1.0 z (in_ordered (of_all (module_at all x [])) z h)))
