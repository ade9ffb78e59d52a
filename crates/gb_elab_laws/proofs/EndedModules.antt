-- Each loop is good that a procedure of an ended module reaches, also where modules are given for the module's parameters.
use Rattle.std.proofs.Common.{◌≡◌, ℕ, inl, inr, Bool, true, false, not, ◌&&◌, ◌||◌, if◌then◌else◌, List, [], ◌∷◌, ◌++◌, Option, Some, None, bytes_eq, refl, ap, sym, ◌∙◌, subst}
use Rattle.std.proofs.lemmas.Bool.{false≢true}
use Rattle.std.proofs.lemmas.List.{append_assoc}
use Rattle.std.proofs.lemmas.Option.{same_Some}
use Rattle.std.proofs.lemmas.Slice.Eq.{bytes_eq-Decides}
use Rattle.gb_terms.specs.declared.decl.Module.{Module}
use Rattle.gb_terms.specs.declared.decl.Param.{Param}
use Rattle.gb_terms.specs.declared.decl.Proc.{Proc}
use Rattle.gb_terms.specs.declared.module.Mexp.{Mexp, Row_of-Mexp, end_of-Mexp, more_of-Mexp}
use Rattle.gb_terms.specs.declared.module.Mexp.TheVariants.{Name as named_module, Apply'}
use Rattle.gb_terms.specs.declared.module.ProcRef.{ProcRef}
use Rattle.gb_terms.specs.declared.term.Head.TheVariants.{Assign, Sample, Call', If', While'}
use Rattle.gb_terms.specs.declared.term.Instr.{Instr, Row_of-Instr, end_of-Instr, more_of-Instr}
use Rattle.gb_terms.specs.Rows.{mexps_in}
use Rattle.gb_goal.specs.declared.scope.Entry.{Entry}
use Rattle.gb_goal.specs.declared.scope.Entry.TheVariants as entry
use Rattle.gb_goal.specs.Instances.{arguments_of, instance, name_of, put_in_reference, stands_for}
use Rattle.gb_goal.specs.Interfaces.{suits}
use Rattle.gb_goal.specs.Scope.{Declarations, as_module, entry_of, is_proved, module_of, proc_at, proc_of, procedure_of}
use Rattle.gb_meaning.specs.Names.{Name}
use Rattle.gb_meaning.specs.Setting.{Setting}
use Rattle.gb_meaning.specs.Values.{World}
use Rattle.gb_meaning.specs.Declared.{declared}
use Rattle.gb_meaning.specs.Holds.{EachProgram, InEachModel, IsModel, IsSound, declared_modules, interpretation}
use Rattle.gb_meaning.specs.Naming.{EachCall, EachCallIn, EachCallOf, EachName, EachNameIn}
use Rattle.gb_meaning.specs.Settings.{Interpretation, Table, setting}
use Rattle.gb_typing.specs.Chosen.{IsChosenOver}
use Rattle.gb_typing.specs.Context.{Context, procedure}
use Rattle.gb_typing.specs.Formulas.{IsKnown}
use Rattle.gb_typing.specs.Modules.{Modules, ProcedureType, with_interface}
use Rattle.gb_typing.specs.Naming.{NoName}
use Rattle.gb_typing.specs.Programs.{locals_of}
use Rattle.gb_typing.specs.Scopes.{AreTypedAfter, IsModule, IsTypedScope, context_of, in_module, interface_with, is_declared, nothing, procedure_types}
use Rattle.gb_typing.specs.Typing.{IsThere}
use Rattle.gb_typing.proofs.Calls.{each_call as each_typed}
use Rattle.gb_typing.proofs.DeclaredProcedures.{calls_declared, module_if}
use Rattle.gb_typing.proofs.LinkedProcedures.{linked_there}
use Rattle.gb_typing.proofs.Located.{typed_in_scope}
use Rattle.gb_typing.proofs.Standing.{Among, among, module_place, of_instance, stands}
use Rattle.gb_elab_laws.specs.Speaking.{IsFirmScope, ScopeSpeaks}
use Rattle.gb_elab_laws.proofs.LinkedNames.{none_some}
use Rattle.gb_elab_laws.proofs.Models.{no_section}
use Rattle.gb_elab_laws.proofs.NamedForms.{reference_known}
use Rattle.gb_elab_laws.proofs.ProvedLoops.{proved_good, proved_plain}
use Rattle.gb_elab_laws.proofs.Staying.{split}
use Rattle.gb_elab_laws.proofs.StayingLoops.{firm_parts, module_there}
use Rattle.gb_ended.specs.Ended.{first_among, first_at, first_of, first_unproved}
use Rattle.gb_ended.specs.Loops.{named, unproved, unproved_if, unproved_of}
use Rattle.gb_ended.specs.Named.{all_named, free_of, is_one, modules_of, named_by, named_from, named_in, names_in, other, others, row_names, with_named}
use Rattle.gb_mods.specs.Called.{calls, row_calls, statement_calls}
use Rattle.gb_mods.proofs.Closed.{IsIn, in_front}
use Rattle.gb_prog.specs.Ends.{AreEnded, ReachesGoodLoops}
use Rattle.gb_elab_laws.proofs.FootprintBodies.{each_call as each_called}
use Rattle.gb_elab_laws.proofs.Closed.{procedure_ends}
use Rattle.gb_elab_laws.proofs.Instances.{calls_put, in_map, loops_same}
use Rattle.gb_elab_laws.proofs.FootprintNames.{EachIn, IsOfNone, each_by, each_map, each_map_in, of_arguments, of_name, put_names, stand_names}
use Rattle.gb_elab_laws.proofs.OwnLoops.{IsGoodIn, chosen_over, first_none_of, own_loops}
use mathlib.Core.Former.{Count}

-- Names among others.

one_front : (xs ys : List Name) (n : Name) → is_one xs n ≡ true → is_one (xs ++ ys) n ≡ true
one_front [] ys n e = absurd (false≢true e)
one_front (x ∷ xs) ys n e = step (bytes_eq n x) e (one_front xs ys n)
  where
    step : (b : Bool) → (b || is_one xs n) ≡ true → (is_one xs n ≡ true → is_one (xs ++ ys) n ≡ true) → (b || is_one (xs ++ ys) n) ≡ true
    step true e go = refl
    step false e go = go e

one_behind : (xs ys : List Name) (n : Name) → is_one ys n ≡ true → is_one (xs ++ ys) n ≡ true
one_behind [] ys n e = e
one_behind (x ∷ xs) ys n e = step (bytes_eq n x) (one_behind xs ys n e)
  where
    step : (b : Bool) → is_one (xs ++ ys) n ≡ true → (b || is_one (xs ++ ys) n) ≡ true
    step true k = refl
    step false k = k

one_first : (n : Name) (ns : List Name) → is_one (n ∷ ns) n ≡ true
one_first n ns = step (bytes_eq n n) ((bytes_eq-Decides n n).1 refl)
  where
    step : (b : Bool) → b ≡ true → (b || is_one ns n) ≡ true
    step true e = refl
    step false e = absurd (false≢true e)

-- a name stays where another one is left out
one_other : (m : Name) (ns : List Name) (k : Name) → bytes_eq k m ≡ false → is_one ns k ≡ true → is_one (others m ns) k ≡ true
one_other m [] k f e = absurd (false≢true e)
one_other m (n ∷ ns) k f e = step (bytes_eq k n) refl e (λ e. one_other m ns k f e)
  where
    kept : k ≡ n → (b : Bool) → bytes_eq m n ≡ b → is_one ((if b then [] else n ∷ []) ++ others m ns) k ≡ true
    kept s true q = absurd (false≢true (sym f ∙ (bytes_eq-Decides k m).1 (s ∙ sym ((bytes_eq-Decides m n).0 q))))
    kept s false q = ap (λ b. b || is_one (others m ns) k) ((bytes_eq-Decides k n).1 s)

    step : (b : Bool) → bytes_eq k n ≡ b → (b || is_one ns k) ≡ true → (is_one ns k ≡ true → is_one (others m ns) k ≡ true) → is_one (other m n ++ others m ns) k ≡ true
    step true q e go = kept ((bytes_eq-Decides k n).0 q) (bytes_eq m n) refl
    step false q e go = one_behind (other m n) (others m ns) k (go e)

-- .. and where those of parameters are, if it is none of them
one_free : (qs : List Param) (ns : List Name) (k : Name) → IsOfNone qs k → is_one ns k ≡ true → is_one (free_of qs ns) k ≡ true
one_free [] ns k f e = e
one_free (q ∷ qs) ns k f e = one_free qs (others q.name ns) k f.1 (one_other q.name ns k f.0 e)

with_more : (o : Option Entry) (ns : List Name) (n : Name) → is_one ns n ≡ true → is_one (with_named o ns) n ≡ true
with_more (Some (entry.Module m)) ns n e = step (is_one ns m.name)
  where
    step : (b : Bool) → is_one (if b then ns ++ named_from m else ns) n ≡ true
    step true = one_front ns (named_from m) n e
    step false = e
with_more (Some (entry.Lemma q bs)) ns n e = e
with_more (Some (entry.Type t)) ns n e = e
with_more (Some entry.AbstractType) ns n e = e
with_more (Some (entry.ModuleType y)) ns n e = e
with_more (Some (entry.AbstractModule y)) ns n e = e
with_more (Some (entry.Constant k)) ns n e = e
with_more (Some (entry.Operator o)) ns n e = e
with_more (Some (entry.AbstractOperator o)) ns n e = e
with_more (Some (entry.Terminating p)) ns n e = e
with_more None ns n e = e

all_more : (ds : Declarations) (ns : List Name) (n : Name) → is_one ns n ≡ true → is_one (all_named ds ns) n ≡ true
all_more [] ns n e = e
all_more (d ∷ ds) ns n e = with_more (Some d.1) (all_named ds ns) n (all_more ds ns n e)

all_append : (xs ys : Declarations) (ns : List Name) → all_named (xs ++ ys) ns ≡ all_named xs (all_named ys ns)
all_append [] ys ns = refl
all_append (x ∷ xs) ys ns = ap (with_named (Some x.1)) (all_append xs ys ns)

-- what a module that is named names is named
with_module : (m : Module) (ns : List Name) (n : Name) → is_one ns m.name ≡ true → is_one (named_from m) n ≡ true → is_one (with_named (Some (entry.Module m)) ns) n ≡ true
with_module m ns n e h = subst (λ b. is_one (if b then ns ++ named_from m else ns) n ≡ true) (sym e) (one_behind ns (named_from m) n h)

-- each name in a module expression is one of its names
mutual
  each_one : (m : Mexp) → EachName (λ k. is_one (names_in m) k ≡ true) m
  each_one (named_module n) = one_first n []
  each_one (Apply' n j args) = (
    one_first n (row_names args),
    each_map_in (λ k. is_one (row_names args) k ≡ true) (λ k. is_one (n ∷ row_names args) k ≡ true) (λ k e. one_behind (n ∷ []) (row_names args) k e) args (each_one_in args),
  )

  each_one_in : {n : Count} (r : Row_of-Mexp n) → EachNameIn (λ k. is_one (row_names r) k ≡ true) r
  each_one_in end_of-Mexp = tt
  each_one_in (more_of-Mexp m r) = (
    each_map (λ k. is_one (names_in m) k ≡ true) (λ k. is_one (names_in m ++ row_names r) k ≡ true) (λ k e. one_front (names_in m) (row_names r) k e) m (each_one m),
    each_map_in (λ k. is_one (row_names r) k ≡ true) (λ k. is_one (names_in m ++ row_names r) k ≡ true) (λ k e. one_behind (names_in m) (row_names r) k e) r (each_one_in r),
  )

called_named : (ps : List ProcRef) (q : ProcRef) → IsIn ps q → (k : Name) → is_one (names_in q.«module») k ≡ true → is_one (modules_of ps) k ≡ true
called_named [] q h k e = absurd h
called_named (p ∷ ps) q (inl s) k e = one_front (names_in p.«module») (modules_of ps) k (subst (λ (z : ProcRef). is_one (names_in z.«module») k ≡ true) (sym s) e)
called_named (p ∷ ps) q (inr h) k e = one_behind (names_in p.«module») (modules_of ps) k (called_named ps q h k e)

procedure_named : (fs : List Proc) (f : Name) (a : Proc) (n : Name) → proc_of fs f ≡ Some a → is_one (named_by a) n ≡ true → is_one (named_in fs) n ≡ true
procedure_named [] f a n e h = none_some a e
procedure_named (x ∷ fs) f a n e h = step (bytes_eq f x.name) e (λ e. procedure_named fs f a n e h)
  where
    step : (b : Bool) → (if b then Some x else proc_of fs f) ≡ Some a → (proc_of fs f ≡ Some a → is_one (named_in fs) n ≡ true) → is_one (named_in (x ∷ fs)) n ≡ true
    step true e go = one_front (named_by x) (named_in fs) n (subst (λ z. is_one (named_by z) n ≡ true) (sym (same_Some x a e)) h)
    step false e go = one_behind (named_by x) (named_in fs) n (go e)

-- No procedure of the modules of these names is unproved.

module _ (all : Declarations) (ns : List Name) where
  none_at : (xs ys : Declarations) (d : Name × Entry) → first_of all ns (xs ++ d ∷ ys) ≡ None → first_at all ns (Some d.1) ≡ None
  none_at [] ys d e = let k = first_none_of (first_at all ns (Some d.1)) (first_of all ns ys) e in k.0
  none_at (x ∷ xs) ys d e = let k = first_none_of (first_at all ns (Some x.1)) (first_of all ns (xs ++ d ∷ ys)) e in none_at xs ys d k.1

none_among : (all : Declarations) (m : Name) (fs : List Proc) → first_among all m fs ≡ None → (f : Name) (a : Proc) → proc_of fs f ≡ Some a → unproved all m a ≡ None
none_among all m [] e f a h = none_some a h
none_among all m (x ∷ fs) e f a h = step (bytes_eq f x.name) h (none_among all m fs parts.1 f a)
  where
    parts : (unproved all m x ≡ None) × (first_among all m fs ≡ None)
    parts = first_none_of (unproved all m x) (first_among all m fs) e

    step : (b : Bool) → (if b then Some x else proc_of fs f) ≡ Some a → (proc_of fs f ≡ Some a → unproved all m a ≡ None) → unproved all m a ≡ None
    step true h go = subst (λ z. unproved all m z ≡ None) (same_Some x a h) parts.0
    step false h go = go h

-- What is so of each procedure that a body calls is so of each of its calls.

in_behind : (ps qs : List ProcRef) (q : ProcRef) → IsIn qs q → IsIn (ps ++ qs) q
in_behind [] qs q h = h
in_behind (p ∷ ps) qs q h = inr (in_behind ps qs q h)

module _ (P : ProcRef → Type 0) where
  mutual
    statement_all : (i : Instr) → ((q : ProcRef) → IsIn (statement_calls i) q → P q) → EachCall P i
    statement_all (Assign xs e) h = tt
    statement_all (Sample x d) h = tt
    statement_all (Call' xs p n es) h = h p (inl refl)
    statement_all (If' e m a n b) h = (row_all a (λ q k. h q (in_front (row_calls a) (row_calls b) q k)), row_all b (λ q k. h q (in_behind (row_calls a) (row_calls b) q k)))
    statement_all (While' e v n a) h = row_all a h

    row_all : {n : Count} (is : Row_of-Instr n) → ((q : ProcRef) → IsIn (row_calls is) q → P q) → EachCallIn P is
    row_all end_of-Instr h = tt
    row_all (more_of-Instr i is) h = (statement_all i (λ q k. h q (in_front (statement_calls i) (row_calls is) q k)), row_all is (λ q k. h q (in_behind (statement_calls i) (row_calls is) q k)))

  body_all : (is : List Instr) → ((q : ProcRef) → IsIn (calls is) q → P q) → EachCallOf P is
  body_all [] h = tt
  body_all (i ∷ is) h = (statement_all i (λ q k. h q (in_front (statement_calls i) (calls is) q k)), body_all is (λ q k. h q (in_behind (statement_calls i) (calls is) q k)))

-- What stands at a place is found by its name.

found_here : (xs ys : Declarations) (n : Name) (e : Entry) → is_declared (declared xs) n ≡ false → entry_of (xs ++ (n, e) ∷ ys) n ≡ Some e
found_here [] ys n e h = (λ i. if (bytes_eq-Decides n n).1 refl i then Some e else entry_of ys n)
found_here (x ∷ xs) ys n e h = step (bytes_eq n x.0) h (found_here xs ys n e)
  where
    step : (b : Bool) → (b || is_declared (declared xs) n) ≡ false → (is_declared (declared xs) n ≡ false → entry_of (xs ++ (n, e) ∷ ys) n ≡ Some e) →
        (if b then Some x.1 else entry_of (xs ++ (n, e) ∷ ys) n) ≡ Some e
    step true h go = absurd (false≢true (sym h))
    step false h go = go h

-- an instance isn't proved where its procedure isn't
unproved_same : (ds : Declarations) (m : Name) (ps : List Param) (es : List Mexp) (a : Proc) → unproved ds m (instance ps es a) ≡ unproved ds m a
unproved_same ds m ps es a = ap (λ b. if b && not (is_proved ds (named m a)) then Some (named m a) else None) (loops_same (stands_for ps es) a.body.list)

module _ (ds : Declarations) (scoped : IsTypedScope (declared ds)) (firm : IsFirmScope ds) (sound : IsSound (declared ds)) (spoken : ScopeSpeaks NoName (declared ds)) where
  abbrev none : declared_modules (declared ds) ≡ []
  none = no_section ds firm

  -- A module that an ended one names, through all modules between, or the ended one itself.
  record IsEnded (n : Name) : Type 0 where
    root : Name
    ended : first_unproved ds root ≡ None
    before : Declarations
    found : Module
    after : Declarations
    place : ds ≡ before ++ (n, entry.Module found) ∷ after
    one : is_one (all_named after (root ∷ [])) found.name ≡ true

  module _ (n : Name) (before : Declarations) (found : Module) (after : Declarations) (place : ds ≡ before ++ (n, entry.Module found) ∷ after) where
    parted : IsTypedScope (declared before) × AreTypedAfter (context_of (declared before)) (declared before) (declared ((n, entry.Module found) ∷ after))
    parted =
        split (declared before) (declared ((n, entry.Module found) ∷ after)) [] nothing
        (subst IsTypedScope (module_place ds n found (record { front = before; after = after; place = place })) scoped)

    typed_at : IsModule (context_of (declared before)) n found
    typed_at = parted.1.1

    own_name : found.name ≡ n
    own_name = (let w = typed_at in w.name)

    module_is : module_of ds n ≡ Some found
    module_is = ap as_module (ap (λ z. entry_of z n) place ∙ found_here before after n (entry.Module found) parted.1.0)

  -- a module that is ended
  ended_itself : (n : Name) → first_unproved ds n ≡ None → (m : Module) → module_of ds n ≡ Some m → IsEnded n
  ended_itself n e m there =
      let l = stands ds n m there in
      record {
        root = n;
        ended = e;
        before = l.front;
        found = m;
        after = l.after;
        place = l.place;
        one = all_more l.after (n ∷ []) m.name (subst (λ k. is_one (n ∷ []) k ≡ true) (sym (own_name n l.front m l.after l.place)) (one_first n []));
      }

  module _ (n : Name) (x : IsEnded n) where
    abbrev c : Context
    c = context_of (declared x.before)

    abbrev m : Module
    m = x.found

    module_found : module_of ds n ≡ Some m
    module_found = module_is n x.before m x.after x.place

    -- none of its procedures is unproved
    none_there : (f : Name) (a : Proc) → proc_of m.procs f ≡ Some a → unproved ds n a ≡ None
    none_there f a there =
        let here : is_one (all_named ds (x.root ∷ [])) m.name ≡ true =
        subst (λ z. is_one z m.name ≡ true) (sym (ap (λ z. all_named z (x.root ∷ [])) x.place ∙ all_append x.before ((n, entry.Module m) ∷ x.after) (x.root ∷ [])))
        (all_more x.before (with_named (Some (entry.Module m)) (all_named x.after (x.root ∷ []))) m.name (with_more (Some (entry.Module m)) (all_named x.after (x.root ∷ [])) m.name x.one)) in
        let none_here : first_at ds (all_named ds (x.root ∷ [])) (Some (entry.Module m)) ≡ None =
        none_at ds (all_named ds (x.root ∷ [])) x.before x.after (n, entry.Module m) (ap (λ z. first_of ds (all_named ds (x.root ∷ [])) z) (sym x.place) ∙ x.ended) in
        let all_none : first_among ds m.name m.procs ≡ None =
        sym (ap (λ b. if b then first_among ds m.name m.procs else None) here) ∙ none_here in
        subst (λ z. unproved ds z a ≡ None) (own_name n x.before m x.after x.place) (none_among ds m.name m.procs all_none f a there)

    -- the modules that it knows, and names, are ended
    earlier : (k : Name) → IsKnown (c.modules.interfaces k) → is_one (named_from m) k ≡ true → IsEnded k
    earlier k known h =
        let p = parted n x.before m x.after x.place in
        let y = module_if x.before p.0 (no_section x.before (firm_parts x.before ((n, entry.Module m) ∷ x.after) (subst IsFirmScope x.place firm)).0) k known in
        let l = stands x.before k y.0 y.1 in
        let behind : Declarations = l.after ++ (n, entry.Module m) ∷ x.after in
        let standing : ds ≡ l.front ++ (k, entry.Module y.0) ∷ behind =
        x.place ∙ ap (λ v. v ++ (n, entry.Module m) ∷ x.after) l.place ∙ append_assoc l.front ((k, entry.Module y.0) ∷ l.after) ((n, entry.Module m) ∷ x.after) in
        let k_one : is_one (all_named behind (x.root ∷ [])) k ≡ true =
        subst (λ v. is_one v k ≡ true) (sym (all_append l.after ((n, entry.Module m) ∷ x.after) (x.root ∷ [])))
        (all_more l.after (with_named (Some (entry.Module m)) (all_named x.after (x.root ∷ []))) k (with_module m (all_named x.after (x.root ∷ [])) k x.one h)) in
        record {
          root = x.root;
          ended = x.ended;
          before = l.front;
          found = y.0;
          after = behind;
          place = standing;
          one = subst (λ z. is_one (all_named behind (x.root ∷ [])) z ≡ true) (sym (own_name k l.front y.0 behind standing)) k_one;
        }

    -- What a procedure of it calls is of ended modules, where modules with such names are given for its parameters.
    module _ (f : Name) (a : Proc) (there : proc_of m.procs f ≡ Some a) (es : List Mexp) (fit : suits ds m.params es ≡ true) (given : EachIn IsEnded es) where
      place_there : Among c m [] m.procs f a
      place_there = among c m m.procs [] (let w = typed_at n x.before m x.after x.place in w.procs) f a there

      abbrev around : Modules
      around = with_interface c.modules m.name (Some (interface_with c.modules.types m.params (procedure_types place_there.front)))

      abbrev seen : Context
      seen = in_module c m (procedure_types place_there.front)

      Knows : ProcRef → Type 0
      Knows q = EachName (λ k. IsKnown (seen.modules.interfaces k)) q.«module»

      knows : (q : ProcRef) (t : ProcedureType) → procedure seen q ≡ Some t → Knows q
      unfolding Knows
      knows q t e = reference_known seen q (subst IsThere (sym e) tt)

      known : EachCallOf Knows a.body.list
      known = each_typed seen (locals_of a) Knows knows a.body.list (let w = place_there.typed in (let b = w.body in b.statements))

      -- a name that it has, other than those of its parameters
      other_ended : (k : Name) → is_one (named_by a) k ≡ true → IsOfNone m.params k → IsKnown (around.interfaces k) → IsEnded k
      other_ended k h free known = step (bytes_eq k m.name) refl known
        where
          step : (b : Bool) → bytes_eq k m.name ≡ b →
              IsKnown (if b then Some (interface_with c.modules.types m.params (procedure_types place_there.front)) else c.modules.interfaces k) → IsEnded k
          step true q w = subst IsEnded (sym (own_name n x.before m x.after x.place) ∙ sym ((bytes_eq-Decides k m.name).0 q)) x
          step false q w = earlier k w (one_free m.params (named_in m.procs) k free (procedure_named m.procs f a k there h))

      call_names : (q : ProcRef) → IsIn (calls a.body.list) q → EachName (λ k. EachName IsEnded (stands_for m.params es k)) q.«module»
      unfolding Knows
      call_names q i =
          each_by (λ k. IsKnown (seen.modules.interfaces k)) (λ k. is_one (names_in q.«module») k ≡ true) (λ k. EachName IsEnded (stands_for m.params es k))
          (λ k w h.
          stand_names ds around IsEnded m.params es fit given k w
          (other_ended k (one_front (modules_of (calls a.body.list)) _ k (called_named (calls a.body.list) q i k h))))
          q.«module» (each_called Knows a.body.list known q i) (each_one q.«module»)

  -- The procedure of a module expression, as its module declares it: it isn't unproved where that one isn't, and what it calls is of modules
  -- that are ended where what that one calls is, with the arguments for its module's parameters.
  record Owned (e : Mexp) (f : Name) (a : Proc) : Type 0 where
    owner : Module
    there : module_of ds (name_of e) ≡ Some owner
    own : Proc
    procedure : proc_of owner.procs f ≡ Some own
    fit : suits ds owner.params (arguments_of e) ≡ true
    same : unproved ds (name_of e) a ≡ unproved ds (name_of e) own
    names : ((q : ProcRef) → IsIn (calls own.body.list) q → EachName (λ k. EachName IsEnded (stands_for owner.params (arguments_of e) k)) q.«module») →
        (q : ProcRef) → IsIn (calls a.body.list) q → EachName IsEnded q.«module»

  owned : (e : Mexp) (f : Name) (a : Proc) → proc_at ds e f ≡ Some a → Owned e f a
  owned (named_module n) f a h =
      let y = module_there (module_of ds n) f a h in
      record {
        owner = y.owner;
        there = y.there;
        own = a;
        procedure = y.procedure;
        fit = subst (λ ps. suits ds ps [] ≡ true) (sym y.plain) refl;
        same = refl;
        names = λ g q i. subst (λ ps. EachName (λ k. EachName IsEnded (stands_for ps [] k)) q.«module») y.plain (g q i);
      }
  owned (Apply' n j args) f a h =
      let y = of_instance ds n f (mexps_in args) a h in
      let s : Name → Mexp = stands_for y.found.params (mexps_in args) in
      record {
        owner = y.found;
        there = y.there;
        own = y.own;
        procedure = y.procedure;
        fit = y.fit;
        same = ap (unproved ds n) (sym y.is) ∙ unproved_same ds n y.found.params (mexps_in args) y.own;
        names = λ g q i.
            let k = in_map (put_in_reference s) (calls y.own.body.list) q (subst (λ ps. IsIn ps q) (calls_put s y.own.body.list) (subst (λ (z : Proc). IsIn (calls z.body.list) q) (sym y.is) i)) in
            subst (λ (r : ProcRef). EachName IsEnded r.«module») k.2 (put_names IsEnded s k.0.«module» (g k.0 k.1));
      }

  -- a declared procedure of modules that are ended, or that ended ones name
  abbrev IsOne : ProcRef → Type 0
  IsOne p = EachName IsEnded p.«module» × ((a : Proc) × (procedure_of ds p ≡ Some a))

  module _ (p : ProcRef) (names : EachName IsEnded p.«module») (a : Proc) (there : procedure_of ds p ≡ Some a) where
    abbrev es : List Mexp
    es = arguments_of p.«module»

    x : IsEnded (name_of p.«module»)
    x = of_name IsEnded p.«module» names

    o : Owned p.«module» p.name a
    o = owned p.«module» p.name a there

    owner_is : o.owner ≡ x.found
    owner_is = same_Some o.owner x.found (sym o.there ∙ module_found (name_of p.«module») x)

    own_there : proc_of x.found.procs p.name ≡ Some o.own
    own_there = subst (λ (m : Module). proc_of m.procs p.name ≡ Some o.own) owner_is o.procedure

    fit_there : suits ds x.found.params es ≡ true
    fit_there = subst (λ (m : Module). suits ds m.params es ≡ true) owner_is o.fit

    -- it isn't unproved
    is_proved_there : unproved_of ds p ≡ None
    is_proved_there = ap (unproved_if ds (name_of p.«module»)) there ∙ o.same ∙ none_there (name_of p.«module») x p.name o.own own_there

    -- what it calls is of such modules, too
    callees : EachCallOf IsOne a.body.list
    callees =
        body_all IsOne a.body.list
        (λ q i. (
          o.names
              (λ r j. subst (λ (m : Module). EachName (λ k. EachName IsEnded (stands_for m.params es k)) r.«module») (sym owner_is)
              (call_names (name_of p.«module») x p.name o.own own_there es fit_there (of_arguments IsEnded p.«module» names) r j)) q i,
          each_called (λ r. (b : Proc) × (procedure_of ds r ≡ Some b)) a.body.list (calls_declared ds scoped none p a there) q i,
        ))

  -- the modules of a declared procedure are declared
  all_ended : (p : ProcRef) → EachName (λ n. first_unproved ds n ≡ None) p.«module» → (a : Proc) → procedure_of ds p ≡ Some a → EachName IsEnded p.«module»
  all_ended p h a there =
      let c = context_of (declared ds) in
      let t = typed_in_scope ds scoped p a there in
      each_by (λ n. first_unproved ds n ≡ None) (λ n. IsKnown (c.modules.interfaces n)) IsEnded (λ n e k. let m = module_if ds scoped none n k in ended_itself n e m.0 m.1) p.«module» h
      (reference_known c p (subst IsThere (sym t.type) tt))

  module _ (w : World) (size : Name → ℕ) (table : Table) (model : IsModel (declared ds) (interpretation w size table)) where
    abbrev g : Setting
    g = setting (declared ds) (interpretation w size table)

    -- no program is chosen
    alone : (P : Interpretation → Type 0) → InEachModel (declared ds) P → P (interpretation w size table)
    alone P h = subst (λ bs. EachProgram (declared ds) bs (interpretation w size table) P) none (h w size table model)

    are_ended : AreEnded ds g IsOne
    are_ended p h = (
      h.1.0,
      h.1.1,
      callees p h.0 h.1.0 h.1.1,
      alone (IsGoodIn ds h.1.0)
          (own_loops ds scoped (λ q b. proved_good ds scoped firm sound spoken q b) (λ q. proved_plain ds scoped q) p h.1.0 h.1.1 (is_proved_there p h.0 h.1.0 h.1.1)),
    )

    all_good : (p : ProcRef) → IsOne p → ReachesGoodLoops g (g.procedure p)
    all_good p h = procedure_ends g IsOne ds (λ q b e. linked_there ds scoped (interpretation w size table) (alone (IsChosenOver (declared ds)) (chosen_over ds scoped)) q b e) are_ended p h

  -- each loop is good that a procedure of ended modules reaches
  pub ended_reaches : (p : ProcRef) → EachName (λ n. first_unproved ds n ≡ None) p.«module» → (a : Proc) → procedure_of ds p ≡ Some a →
      InEachModel (declared ds) (λ i. ReachesGoodLoops (setting (declared ds) i) ((setting (declared ds) i).procedure p))
  ended_reaches p h a e = λ w size table model.
      subst (λ bs. EachProgram (declared ds) bs (interpretation w size table) (λ i. ReachesGoodLoops (setting (declared ds) i) ((setting (declared ds) i).procedure p))) (sym none)
      (all_good w size table model p (all_ended p h a e, (a, e)))
