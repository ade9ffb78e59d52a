-- What is said before two calls of one procedure of an abstract module of what is to hold after both: typing and meaning.
use Rattle.std.proofs.Common.{◌≡◌, ◌<◌, ◌⊎◌, Bool, true, false, List, [], ◌∷◌, ◌++◌, length, get_or, Some, None, refl, ap, sym, ◌∙◌, subst}
use Rattle.std.proofs.lemmas.List.{append_assoc, map-append}
use Rattle.std.specs.List.{AllByRecursion}
use Rattle.gb_core.specs.declared.ty.Ty.{Ty}
use Rattle.gb_core.specs.declared.ty.Ty.TheVariants as ty
use Rattle.gb_core.specs.declared.value.Value.{Value}
use Rattle.gb_core.specs.declared.value.Value.TheVariants.{Num}
use Rattle.gb_core.specs.declared.var.Var.{Var}
use Rattle.gb_core.specs.declared.var.Var.TheVariants as var
use Rattle.gb_terms.specs.declared.decl.TypedName.{TypedName}
use Rattle.gb_terms.specs.declared.op.Read.TheVariants.{Program}
use Rattle.gb_terms.specs.declared.op.Side.{Side}
use Rattle.gb_terms.specs.declared.op.Side.TheVariants as side
use Rattle.gb_terms.specs.declared.term.Head.TheVariants as head
use Rattle.gb_terms.specs.declared.term.Term.{Term}
use Rattle.gb_walk.specs.declared.change.Change.TheVariants.{ToTerm}
use Rattle.gb_walk.specs.Change.{Changes, term_changed}
use Rattle.gb_meaning.specs.Judgments.{Judge, IsFair, IsTrueUnder, den}
use Rattle.gb_meaning.specs.Meanings.{value_in}
use Rattle.gb_meaning.specs.Memory.{Memory, assigned, read, result_name, write}
use Rattle.gb_meaning.specs.Names.{Name}
use Rattle.gb_meaning.specs.Setting.{Setting}
use Rattle.gb_meaning.specs.State.{State, Binding, between, meaning_in, memory_of}
use Rattle.gb_meaning.specs.State.Binding.{program}
use Rattle.gb_meaning.specs.Terms.{quiet, val}
use Rattle.gb_meaning.specs.Values.{has}
use Rattle.gb_meaning.proofs.Nodes.{val_node}
use Rattle.gb_laws.specs.Finite.{IsFinite}
use Rattle.gb_laws.specs.Programs.{Take}
use Rattle.gb_laws.specs.Typing.{Binder}
use Rattle.gb_laws.specs.Typing.Binder.{value as value_binder, program as module_binder}
use Rattle.gb_laws.specs.Uses.{IsWithin}
use Rattle.gb_laws.specs.Written.{Written, all_written, with_side, written_changes}
use Rattle.gb_typing.specs.Context.{Context, Frame, erased, reframed}
use Rattle.gb_typing.specs.Fits.{IsSettingOf, IsStateOf}
use Rattle.gb_typing.specs.Forms.{IsAlone, implies_form}
use Rattle.gb_typing.specs.Puts.{IsTypedPut, IsTypedWrite, Readable, reading}
use Rattle.gb_typing.specs.Rules.{outermost}
use Rattle.gb_typing.specs.Typing.{IsForm, IsIn}
use Rattle.gb_typing.proofs.Clashes.{left_of_no_clash}
use Rattle.gb_typing.proofs.Fitting.{fits_reframed}
use Rattle.gb_typing.proofs.Forms.{implies_typed, implies_use}
use Rattle.gb_typing.proofs.Quantified.{inside_all}
use Rattle.gb_prog.specs.AllValues.{Located, AreAlone, for_all, to_bound_values}
use Rattle.gb_prog.specs.Writes.{AreIn, DifferIn, IsApart, IsOneOf, TypedVariable, overwritten}
use Rattle.gb_prog.proofs.AllValues.{all_true, binder_of, binding_of, bound_term, for_all_typed, no_frame, one_put, pushed, pushed_here}
use Rattle.gb_prog.specs.Assigned.{taken}
use Rattle.gb_prog.proofs.AssignedForms.{changes_are, put_itself, writes}
use Rattle.gb_call.specs.Outcomes.{Outcome}
use Rattle.gb_call.proofs.After.{all_append, written_both}
use Rattle.gb_call.proofs.LeftSides.{AreFor, are_for, left_ends, left_puts, left_values, left_writes}
use Rattle.gb_call_both.specs.BothOutcomes.{bound_of_both, globals_of, left_side_of, result_of}
use Rattle.gb_call_both.proofs.AfterBoth.{AreAmong, Covers, IsReturned, finite_types, frame_if, globals_among, globals_located, left_returned, returned_means, said_means, said_typed, values_have}
use Rattle.gb_call_both.proofs.OneSide.{ends_with_result, ends_without_result, result_variable}
use Rattle.gb_call_both.proofs.Sided.{pushed_append, values_typed}
use Rattle.gb_adv.specs.Returns.{Returns, after_where, inside_result, oracle_writes, owner_changes, result_changes, values}

-- all that a module is of its own, at its type
abbrev pub owner : Name → TypedVariable
owner a = record { variable = var.Glob a; ty = ty.Glob a }

-- .. and other variables, where it occurs
abbrev pub with_owner : Bool → Name → List TypedVariable → List TypedVariable
with_owner true a W = owner a ∷ W
with_owner false a W = W

module _ (b : Context) (ls rs : List TypedName) (R : Ty) (W V : List TypedVariable) (left_globals : AreIn (outermost b) (Some []) W) (right_globals : AreIn (outermost b) (Some []) V) (finite : IsFinite R)
    (xs ys : List Var) (left_takes : Take (erased (outermost b)) ls xs R) (right_takes : Take (erased (outermost b)) rs ys R) (left_few : length xs < 9) (right_few : length ys < 9)
    (a : Name) (owned : IsIn (outermost b) (Some []) (var.Glob a) (ty.Glob a) × IsFinite (ty.Glob a)) where
  -- what is said to change
  abbrev pub o : Returns
  o = record { owner = a; left = record { side = side.Left; targets = xs; result = R; globals = W }; right = record { side = side.Right; targets = ys; result = R; globals = V } }

  -- the same, where all that is the module's own counts as a global of the left outcome, if it occurs
  abbrev left_outcome : Bool → Outcome
  left_outcome d = record { side = side.Left; targets = xs; result = R; globals = with_owner d a W }

  abbrev right_outcome : Outcome
  right_outcome = record { side = side.Right; targets = ys; result = R; globals = V }

  abbrev all : Bool → Bool → List Located
  all l d = bound_of_both l false (left_outcome d) right_outcome

  abbrev G : Bool → List Located
  G d = globals_of (left_outcome d) right_outcome

  abbrev X : Bool → Bool → List Binder
  X l d = pushed binder_of (all l d) []

  abbrev Y : Bool → Bool → List Frame
  Y l d = pushed no_frame (all l d) []

  abbrev inside : Bool → Bool → Context
  inside l d = inside_all b None (Some ls) (Some rs) (X l d) (Y l d)

  values_are : (l d : Bool) → values l d o ≡ all l d
  values_are true true = refl
  values_are true false = refl
  values_are false true = refl
  values_are false false = refl

  inside_are : (d : Bool) → inside_result d o ≡ G d
  inside_are true = refl
  inside_are false = refl

  -- the changes of the right memory, besides the values that are bound
  abbrev right_changes : Bool → Bool → Changes
  right_changes l d = left_side_of l right_outcome (length (G d)) ++ owner_changes d a (length (oracle_writes o))

  changes_equal : (l d : Bool) → result_changes l d o ++ owner_changes d a (length (oracle_writes o)) ≡ left_side_of l (left_outcome d) (length (G d)) ++ right_changes l d
  changes_equal true true = append_assoc (left_side_of true (left_outcome true) (length (G true))) (left_side_of true right_outcome (length (G true))) (owner_changes true a (length (oracle_writes o)))
  changes_equal true false = append_assoc (left_side_of true (left_outcome false) (length (G false))) (left_side_of true right_outcome (length (G false))) []
  changes_equal false true = refl
  changes_equal false false = refl

  -- what is said of the values, and what is said after the calls
  abbrev said_of : Bool → Bool → Term → Term
  said_of l d i = term_changed i (to_bound_values (all l d))

  abbrev after_of : Bool → Bool → Term → Term
  after_of l d q = term_changed q ((left_side_of l (left_outcome d) (length (G d)) ++ right_changes l d) ++ to_bound_values (G d))

  form_is : (l d : Bool) (i q : Term) → after_where l d o i q ≡ for_all (all l d) (implies_form (said_of l d i) (after_of l d q))
  form_is l d i q = λ k.
      for_all (values_are l d k)
      (implies_form (term_changed i (to_bound_values (values_are l d k))) (term_changed q (changes_equal l d k ++ to_bound_values (inside_are d k))))

  left_in : (d : Bool) → AreIn (outermost b) (Some []) (with_owner d a W)
  left_in true = (owned, left_globals)
  left_in false = left_globals

  right_in : (d : Bool) → AreIn (outermost b) (Some []) (with_owner d a V)
  right_in true = (owned, right_globals)
  right_in false = right_globals

  among : (d : Bool) → AreAmong b (with_owner d a W) V (G d)
  among d = globals_among b (with_owner d a W) V (left_in d) right_globals

  -- The result goes to both left sides.

  there : (d : Bool) → get_or (X true d) (length (G d)) module_binder ≡ value_binder R
  there d = pushed_here binder_of (side.Left, result_variable R) (G d) [] module_binder

  left_for : (d : Bool) → AreFor b None (Some ls) (Some rs) side.Left tt ls refl (X true d) (Y true d) (length (G d)) R finite (there d) xs (taken xs (bound_term (length (G d)) R))
  left_for d = are_for b None (Some ls) (Some rs) side.Left tt ls refl (X true d) (Y true d) (length (G d)) R finite (there d) xs left_takes left_few

  right_for : (d : Bool) → AreFor b None (Some ls) (Some rs) side.Right tt rs refl (X true d) (Y true d) (length (G d)) R finite (there d) ys (taken ys (bound_term (length (G d)) R))
  right_for d = are_for b None (Some ls) (Some rs) side.Right tt rs refl (X true d) (Y true d) (length (G d)) R finite (there d) ys right_takes right_few

  -- the value of what is the module's own
  owner_there : (l : Bool) → get_or (X l true) (length (oracle_writes o)) module_binder ≡ value_binder (ty.Glob a)
  owner_there l =
      ap (λ (bs : List Binder). get_or bs (length (oracle_writes o)) module_binder) (pushed_append binder_of (result_of l (left_outcome true)) (G true) [])
      ∙ pushed_here binder_of (side.Left, owner a) (oracle_writes o) (pushed binder_of (result_of l (left_outcome true)) []) module_binder

  abbrev right_results : Bool → Bool → (Term → Value) → List Written
  right_results true d v = writes side.Right v ys (taken ys (bound_term (length (G d)) R))
  right_results false d v = []

  abbrev owner_results : Bool → Value → List Written
  owner_results true u = record { variable = var.Glob a; side = side.Right; term = bound_term (length (oracle_writes o)) (ty.Glob a); value = u } ∷ []
  owner_results false u = []

  right_results_are : (l d : Bool) (v : Term → Value) → written_changes (right_results l d v) ≡ left_side_of l right_outcome (length (G d))
  right_results_are true d v = changes_are side.Right v ys (taken ys (bound_term (length (G d)) R))
  right_results_are false d v = refl

  owner_results_are : (d : Bool) (u : Value) → written_changes (owner_results d u) ≡ owner_changes d a (length (oracle_writes o))
  owner_results_are true u = refl
  owner_results_are false u = refl

  right_writes_are : (l d : Bool) (v : Term → Value) (u : Value) → written_changes (right_results l d v ++ owner_results d u) ≡ right_changes l d
  right_writes_are l d v u =
      map-append (λ (w : Written). ToTerm (Program w.variable w.side) w.term) (right_results l d v) (owner_results d u)
      ∙ (λ i. right_results_are l d v i ++ owner_results_are d u i)

  -- Typing.

  abbrev left_results : Bool → Bool → (Term → Value) → List Written
  left_results true d v = writes side.Left v xs (taken xs (bound_term (length (G d)) R))
  left_results false d v = []

  left_results_are : (l d : Bool) (v : Term → Value) → written_changes (left_results l d v) ≡ left_side_of l (left_outcome d) (length (G d))
  left_results_are true d v = changes_are side.Left v xs (taken xs (bound_term (length (G d)) R))
  left_results_are false d v = refl

  left_typed : (l d : Bool) (v : Term → Value) → AllByRecursion (IsTypedPut (inside l d)) (left_results l d v)
  left_typed true d v =
      left_puts b None (Some ls) (Some rs) side.Left tt ls refl (X true d) (Y true d) (length (G d)) R finite (there d) v xs (taken xs (bound_term (length (G d)) R)) (left_for d)
  left_typed false d v = tt

  right_typed : (l d : Bool) (v : Term → Value) → AllByRecursion (IsTypedPut (inside l d)) (right_results l d v)
  right_typed true d v =
      left_puts b None (Some ls) (Some rs) side.Right tt rs refl (X true d) (Y true d) (length (G d)) R finite (there d) v ys (taken ys (bound_term (length (G d)) R)) (right_for d)
  right_typed false d v = tt

  owner_typed : (l d : Bool) (u : Value) → AllByRecursion (IsTypedPut (inside l d)) (owner_results d u)
  owner_typed l true u = (one_put b None (Some ls) (Some rs) (X l true) (Y l true) (side.Right, owner a) (length (oracle_writes o)) (tt, owned.0, owned.1) (owner_there l), tt)
  owner_typed l false u = tt

  module _ (i q : Term) (l d : Bool) (kept_form : IsForm (reframed (outermost b) None (Some (frame_if l R)) (Some [])) i) (end_form : IsForm (reframed (outermost b) None (Some ls) (Some rs)) q) where
    after_typed : IsForm (inside l d) (after_of l d q)
    after_typed =
        let none : Term → Value = λ e. Num 0 in
        let us = left_results l d none in
        let vs = right_results l d none ++ owner_results d (Num 0) in
        subst (λ cs. IsForm (inside l d) (term_changed q (cs ++ to_bound_values (G d))))
        (map-append (λ (w : Written). ToTerm (Program w.variable w.side) w.term) us vs ∙ (λ k. left_results_are l d none k ++ right_writes_are l d none (Num 0) k))
        (values_typed b (Some ls) (Some rs) (X l d) (Y l d) (G d) (pushed binder_of (result_of l (left_outcome d)) []) (pushed_append binder_of (result_of l (left_outcome d)) (G d) [])
        (globals_located b ls rs (with_owner d a W) V (left_in d) right_globals) (us ++ vs)
        (all_append (IsTypedPut (inside l d)) us vs (left_typed l d none) (all_append (IsTypedPut (inside l d)) (right_results l d none) (owner_results d (Num 0)) (right_typed l d none) (owner_typed l d (Num 0)))) q end_form)

    -- what is said before the calls is a form
    pub returns_typed : IsForm (reframed (outermost b) None (Some ls) (Some rs)) (after_where l d o i q)
    returns_typed =
        subst (IsForm (reframed (outermost b) None (Some ls) (Some rs))) (sym (form_is l d i q))
        (for_all_typed b None (Some ls) (Some rs) (all l d) [] []
        (finite_types b ls rs R R (with_owner d a W) V (left_in d) right_globals finite finite xs ys left_takes right_takes left_few right_few (G d) (among d) l false) _
        (implies_typed (inside l d) (said_of l d i) (after_of l d q)
        (said_typed b ls rs R R (with_owner d a W) V (left_in d) right_globals finite finite xs ys left_takes right_takes left_few right_few (G d) (among d) i q l false kept_form end_form) after_typed))

  -- Before the calls there are the memories m and n; the procedures end in h and k, with one result, where all that is the module's own is
  -- the same.
  module _ (g : Setting) (fits : IsSettingOf (outermost b) g) (j : Judge) (fair : IsFair g j) (s : State) (fit : IsStateOf (outermost b) g s) (m n h k : Memory) (T U : List Var)
      (left_differs : DifferIn g.types T m (record { globals = h.globals; frame = m.frame })) (right_differs : DifferIn g.types U n (record { globals = k.globals; frame = n.frame }))
      (result : Value) (result_has : has g.types R result ≡ true) (left_read : read g.types h (var.Local result_name) R ≡ result) (right_read : read g.types k (var.Local result_name) R ≡ result)
      (same : read g.types h (var.Glob a) (ty.Glob a) ≡ read g.types k (var.Glob a) (ty.Glob a)) where
    abbrev fits_here : IsSettingOf (reframed (outermost b) None (Some ls) (Some rs)) g
    fits_here = fits_reframed (outermost b) g fits None (Some ls) (Some rs)

    abbrev left_base : Memory
    left_base = record { globals = h.globals; frame = m.frame }

    abbrev right_base : Memory
    right_base = record { globals = k.globals; frame = n.frame }

    abbrev v : Located → Value
    v w = read g.types (memory_of (between s h k) w.0) w.1.variable w.1.ty

    abbrev bindings : Bool → Bool → List Binding
    bindings l d = pushed (binding_of v) (all l d) s.bound

    abbrev here : Bool → Bool → State
    here l d = record (between s m n) { bound = bindings l d }

    -- what becomes of a memory by the result
    abbrev ended : Bool → List Var → Memory → Memory
    ended true zs z = assigned g.types z zs result
    ended false zs z = z

    abbrev with_own : Bool → Memory → Memory
    with_own true z = write g.types z (var.Glob a) (read g.types h (var.Glob a) (ty.Glob a))
    with_own false z = z

    -- the writes of a side
    abbrev Returned : Bool → Bool → Readable → Side → (Memory → Memory) → Changes → Type 0
    Returned l d P r change cs =
        IsReturned b ls rs R R (with_owner d a W) V (left_in d) right_globals finite finite xs ys left_takes right_takes left_few right_few (G d) (among d) g fits j fair s fit m n h k T U left_differs right_differs
        result result result_has result_has left_read right_read l false P r change cs

    left_returns : (l d : Bool) (P : Readable) → AllByRecursion (λ x. IsAlone g x (P side.Left)) xs → Returned l d P side.Left (ended l xs) (left_side_of l (left_outcome d) (length (G d)))
    left_returns true d P alone =
        left_returned b ls rs R R (with_owner d a W) V (left_in d) right_globals finite finite xs ys left_takes right_takes left_few right_few (G d) (among d) g fits j fair s fit m n h k T U left_differs right_differs
        result result result_has result_has left_read right_read P true false alone
    left_returns false d P alone =
        left_returned b ls rs R R (with_owner d a W) V (left_in d) right_globals finite finite xs ys left_takes right_takes left_few right_few (G d) (among d) g fits j fair s fit m n h k T U left_differs right_differs
        result result result_has result_has left_read right_read P false false alone

    abbrev given : Bool → Bool → Term → Value
    given l d e = value_in (val g quiet e (here l d))

    abbrev own_value : Value
    own_value = read g.types h (var.Glob a) (ty.Glob a)

    right_written : (l d : Bool) (P : Readable) → AllByRecursion (λ x. IsAlone g x (P side.Right)) ys → AllByRecursion (IsTypedWrite P (inside l d) g (here l d)) (right_results l d (given l d))
    right_written true d P alone =
        left_writes b None (Some ls) (Some rs) side.Right tt rs refl (X true d) (Y true d) (length (G d)) R finite (there d) g (here true d) P ys (taken ys (bound_term (length (G d)) R)) (right_for d) alone
    right_written false d P alone = tt

    -- it may be read with no other variable that clashes with it, where it occurs
    abbrev pub IsOwnerAlone : Bool → (Var → Bool) → Type 0
    IsOwnerAlone true P = IsAlone g (var.Glob a) P
    IsOwnerAlone false P = Unit {0}

    owner_bound : (l : Bool) → get_or (bindings l true) (length (oracle_writes o)) program ≡ binding_of v (side.Left, owner a)
    owner_bound l =
        ap (λ (z : List Binding). get_or z (length (oracle_writes o)) program) (pushed_append (binding_of v) (result_of l (left_outcome true)) (G true) s.bound)
        ∙ pushed_here (binding_of v) (side.Left, owner a) (oracle_writes o) (pushed (binding_of v) (result_of l (left_outcome true)) s.bound) program

    owner_written : (l d : Bool) (P : Readable) → IsOwnerAlone d (P side.Right) → AllByRecursion (IsTypedWrite P (inside l d) g (here l d)) (owner_results d own_value)
    owner_written l true P alone = (
      record {
        put = one_put b None (Some ls) (Some rs) (X l true) (Y l true) (side.Right, owner a) (length (oracle_writes o)) (tt, owned.0, owned.1) (owner_there l);
        spares = λ y t u p n z. left_of_no_clash g (var.Glob a) y t (alone y p n);
        value = sym (ap value_in (val_node g quiet (head.Bound (length (oracle_writes o))) [] (ty.Glob a) (here l true) ∙ ap meaning_in (owner_bound l)));
      },
      tt,
    )
    owner_written l false P alone = tt

    right_ends : (l d : Bool) (q : State) → all_written g q (right_results l d (given l d)) ≡ with_side q side.Right (ended l ys (memory_of q side.Right))
    right_ends true d q =
        let e : Term = bound_term (length (G d)) R in
        let is : given true d e ≡ result =
        ap value_in (val_node g quiet (head.Bound (length (G d))) [] R (here true d) ∙ ap meaning_in (pushed_here (binding_of v) (side.Left, result_variable R) (G d) s.bound program)) ∙ left_read in
        left_ends b None (Some ls) (Some rs) side.Right tt rs refl (X true d) (Y true d) (length (G d)) R finite (there d) g (here true d) q (given true d) ys (taken ys e) (right_for d)
        ∙ ap (with_side q side.Right)
        (left_values b None (Some ls) (Some rs) side.Right tt rs refl (X true d) (Y true d) (length (G d)) R finite (there d) g (here true d) ys result is result_has right_takes right_few (memory_of q side.Right))
    right_ends false d q = sym (put_itself q side.Right)

    owner_ends : (d : Bool) (q : State) → all_written g q (owner_results d own_value) ≡ with_side q side.Right (with_own d (memory_of q side.Right))
    owner_ends true q = refl
    owner_ends false q = sym (put_itself q side.Right)

    right_returns : (l d : Bool) (P : Readable) → AllByRecursion (λ x. IsAlone g x (P side.Right)) ys → IsOwnerAlone d (P side.Right) →
        Returned l d P side.Right (λ z. ended l ys (with_own d z)) (right_changes l d)
    right_returns l d P alone own_alone = record {
      all_writes_are = right_results l d (given l d) ++ owner_results d own_value;
      changes = right_writes_are l d (given l d) own_value;
      typed = all_append (IsTypedWrite P (inside l d) g (here l d)) (right_results l d (given l d)) (owner_results d own_value) (right_written l d P alone) (owner_written l d P own_alone);
      ends = λ q.
          written_both g q (right_results l d (given l d)) (owner_results d own_value) ∙ ap (λ e. all_written g e (right_results l d (given l d))) (owner_ends d q)
          ∙ right_ends l d (with_side q side.Right (with_own d (memory_of q side.Right)));
    }

    -- What is read after the calls.

    left_reads : (l d : Bool) (P : Var → Bool) → AllByRecursion (λ w. IsAlone g w.variable P) (with_owner d a W) → AllByRecursion (λ x. IsAlone g x P) xs → Covers g l P xs T (with_owner d a W) →
        (y : Var) (t : Ty) → IsIn (reframed (outermost b) None (Some ls) (Some rs)) (Some ls) y t → P y ≡ true →
        read g.types (ended l xs (overwritten g.types (with_owner d a W) h m)) y t ≡ read g.types (assigned g.types left_base xs result) y t
    left_reads true d P alone targets c =
        ends_with_result b None (Some ls) (Some rs) g fits_here m h T left_differs (with_owner d a W) (left_in d) P ls alone fits j fair s fit R xs left_takes result result_has targets c
    left_reads false d P alone targets c =
        ends_without_result b None (Some ls) (Some rs) g fits_here m h T left_differs (with_owner d a W) (left_in d) P ls alone xs result c

    -- all that is the module's own is what the right procedure ends with, too
    owner_overwritten : (d : Bool) → with_own d (overwritten g.types V k n) ≡ overwritten g.types (with_owner d a V) k n
    owner_overwritten true = ap (write g.types (overwritten g.types V k n) (var.Glob a)) same
    owner_overwritten false = refl

    right_after : (l d : Bool) (P : Var → Bool) → AllByRecursion (λ w. IsAlone g w.variable P) (with_owner d a V) → AllByRecursion (λ x. IsAlone g x P) ys → Covers g l P ys U (with_owner d a V) →
        (y : Var) (t : Ty) → IsIn (reframed (outermost b) None (Some ls) (Some rs)) (Some rs) y t → P y ≡ true →
        read g.types (ended l ys (overwritten g.types (with_owner d a V) k n)) y t ≡ read g.types (assigned g.types right_base ys result) y t
    right_after true d P alone targets c =
        ends_with_result b None (Some ls) (Some rs) g fits_here n k U right_differs (with_owner d a V) (right_in d) P rs alone fits j fair s fit R ys right_takes result result_has targets c
    right_after false d P alone targets c =
        ends_without_result b None (Some ls) (Some rs) g fits_here n k U right_differs (with_owner d a V) (right_in d) P rs alone ys result c

    right_reads : (l d : Bool) (P : Var → Bool) → AllByRecursion (λ w. IsAlone g w.variable P) (with_owner d a V) → AllByRecursion (λ x. IsAlone g x P) ys → Covers g l P ys U (with_owner d a V) →
        (y : Var) (t : Ty) → IsIn (reframed (outermost b) None (Some ls) (Some rs)) (Some rs) y t → P y ≡ true →
        read g.types (ended l ys (with_own d (overwritten g.types V k n))) y t ≡ read g.types (assigned g.types right_base ys result) y t
    right_reads l d P alone targets c y t i p = ap (λ z. read g.types (ended l ys z) y t) (owner_overwritten d) ∙ right_after l d P alone targets c y t i p

    owner_alone : (d : Bool) (P : Var → Bool) → AllByRecursion (λ w. IsAlone g w.variable P) (with_owner d a V) → IsOwnerAlone d P × AllByRecursion (λ w. IsAlone g w.variable P) V
    owner_alone true P h = (h.0, h.1)
    owner_alone false P h = (tt, h)

    module _ (i q : Term) (l d : Bool) (kept_form : IsForm (reframed (outermost b) None (Some (frame_if l R)) (Some [])) i) (end_form : IsForm (reframed (outermost b) None (Some ls) (Some rs)) q) where
      -- where it holds before the calls, what is kept leads to what is to hold after both
      module _ (Q : Readable) (kept_within : IsWithin (reading Q) i) (kept_alone : AreAlone g Q (all l d))
          (left_kept : (y : Var) → Q side.Left y ≡ true → IsApart g T y ⊎ IsOneOf y (with_owner d a W)) (right_kept : (y : Var) → Q side.Right y ≡ true → IsApart g U y ⊎ IsOneOf y V)
          (left_kept_alone : AllByRecursion (λ w. IsAlone g w.variable (Q side.Left)) (with_owner d a W)) (right_kept_alone : AllByRecursion (λ w. IsAlone g w.variable (Q side.Right)) V)
          (P : Readable) (end_within : IsWithin (reading P) q)
          (left_alone : AllByRecursion (λ w. IsAlone g w.variable (P side.Left)) (with_owner d a W)) (right_alone : AllByRecursion (λ w. IsAlone g w.variable (P side.Right)) (with_owner d a V))
          (left_targets : AllByRecursion (λ x. IsAlone g x (P side.Left)) xs) (right_targets : AllByRecursion (λ x. IsAlone g x (P side.Right)) ys) (globals_alone : AreAlone g P (G d))
          (left_covers : Covers g l (P side.Left) xs T (with_owner d a W)) (right_covers : Covers g l (P side.Right) ys U (with_owner d a V)) where
        after_is : den g j (after_of l d q) (here l d) ≡ den g j q (between s (assigned g.types left_base xs result) (assigned g.types right_base ys result))
        after_is =
            returned_means b ls rs R R (with_owner d a W) V (left_in d) right_globals finite finite xs ys left_takes right_takes left_few right_few (G d) (among d) g fits j fair s fit m n h k T U left_differs right_differs
            result result result_has result_has left_read right_read P left_alone (owner_alone d (P side.Right) right_alone).1 left_targets right_targets globals_alone
            l false (ended l xs) (λ z. ended l ys (with_own d z)) (left_side_of l (left_outcome d) (length (G d))) (right_changes l d)
            (left_returns l d P left_targets) (right_returns l d P right_targets (owner_alone d (P side.Right) right_alone).0)
            (assigned g.types left_base xs result) (assigned g.types right_base ys result)
            (left_reads l d (P side.Left) left_alone left_targets left_covers) (right_reads l d (P side.Right) right_alone right_targets right_covers) q end_form end_within

        pub after_returns_means : IsTrueUnder g j (after_where l d o i q) (between s m n) → IsTrueUnder g j i (between s h k) →
            IsTrueUnder g j q (between s (assigned g.types left_base xs result) (assigned g.types right_base ys result))
        after_returns_means holds kept =
            sym after_is
            ∙ implies_use g j (said_of l d i) (after_of l d q) (here l d)
            (all_true b None (Some ls) (Some rs) g fits_here j fair v (all l d) s.bound
            (values_have b ls rs R R (with_owner d a W) V (left_in d) right_globals finite finite xs ys left_takes right_takes left_few right_few (G d) (among d) g fits j fair s fit m n h k T U left_differs right_differs
            result result result_has result_has left_read right_read l false)
            (implies_form (said_of l d i) (after_of l d q)) (between s m n) (ap (λ f. den g j f (between s m n)) (sym (form_is l d i q)) ∙ holds))
            (said_means b ls rs R R (with_owner d a W) V (left_in d) right_globals finite finite xs ys left_takes right_takes left_few right_few (G d) (among d) i q l false kept_form end_form
            g fits j fair s fit m n h k T U left_differs right_differs result result result_has result_has left_read right_read Q kept_within kept_alone left_kept right_kept left_kept_alone right_kept_alone
            ∙ kept)
