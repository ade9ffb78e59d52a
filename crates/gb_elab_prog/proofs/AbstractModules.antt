-- Abstract modules that a lemma binds stand under names that nothing before them has.
use Rattle.std.proofs.Common.{◌≡◌, ℕ, Bool, true, false, if◌then◌else◌, List, [], ◌∷◌, ◌++◌, Option, Some, None, is_some, bytes_eq, refl, ap, sym, ◌∙◌, subst, append-nil, append_assoc}
use Rattle.std.proofs.lemmas.List.{map-append}
use Rattle.gb_terms.specs.declared.module.Bind.{Bind}
use Rattle.gb_goal.specs.Binders.{binder_entries}
use Rattle.gb_goal.specs.Scope.{Declarations, entry_of, AreNew}
use Rattle.gb_goal.specs.declared.scope.Entry.{Entry}
use Rattle.gb_goal.specs.declared.scope.Entry.TheVariants as entry
use Rattle.gb_elab_prog.specs.Bound.{is_module}
use Rattle.gb_elab_prog.proofs.New.{not_first}

-- what has a name in one list has it with others behind
pub found_before : (ds es : Declarations) (n : List ℕ) (e : Entry) → entry_of ds n ≡ Some e → entry_of (ds ++ es) n ≡ Some e
found_before [] es n e h = absurd (cc)
found_before (d ∷ ds) es n e h = step (bytes_eq n d.0) (found_before ds es n e) h
  where
    step : (b : Bool) → (entry_of ds n ≡ Some e → entry_of (ds ++ es) n ≡ Some e) → (if b then Some d.1 else entry_of ds n) ≡ Some e → (if b then Some d.1 else entry_of (ds ++ es) n) ≡ Some e
    step true k h = h
    step false k h = k h

-- a name that nothing in one list has is sought in the other
pub found_behind : (ds es : Declarations) (n : List ℕ) → entry_of ds n ≡ None → entry_of (ds ++ es) n ≡ entry_of es n
found_behind [] es n h = refl
found_behind (d ∷ ds) es n h =
    let k = not_first n d ds h in ap (λ b. if b then Some d.1 else entry_of (ds ++ es) n) k.0 ∙ found_behind ds es n k.1

-- what is bound is a module
pub bound_module : (bs : List Bind) (n : List ℕ) → is_module (entry_of (binder_entries bs) n) ≡ is_some (entry_of (binder_entries bs) n)
bound_module [] n = refl
bound_module (b ∷ bs) n = step (bytes_eq n b.name) (bound_module bs n)
  where
    step : (t : Bool) → is_module (entry_of (binder_entries bs) n) ≡ is_some (entry_of (binder_entries bs) n) →
        is_module (if t then Some (entry.AbstractModule b) else entry_of (binder_entries bs) n) ≡ is_some (if t then Some (entry.AbstractModule b) else entry_of (binder_entries bs) n)
    step true h = refl
    step false h = h

-- a module is declared ..
pub declared_module : (ds : Declarations) (bs : List Bind) (n : List ℕ) (e : Entry) → entry_of ds n ≡ Some e → is_module (entry_of (ds ++ binder_entries bs) n) ≡ is_module (Some e)
declared_module ds bs n e h = ap is_module (found_before ds (binder_entries bs) n e h)

-- .. or bound
pub other_module : (ds : Declarations) (bs : List Bind) (n : List ℕ) → entry_of ds n ≡ None → is_module (entry_of (ds ++ binder_entries bs) n) ≡ is_some (entry_of (binder_entries bs) n)
other_module ds bs n h = ap is_module (found_behind ds (binder_entries bs) n h) ∙ bound_module bs n

-- a name is taken by a declaration ..
pub taken_before : (ds es : Declarations) (n : List ℕ) (e : Entry) → entry_of ds n ≡ Some e → is_some (entry_of (ds ++ es) n) ≡ true
taken_before ds es n e h = ap is_some (found_before ds es n e h)

-- .. or behind all of them
pub taken_behind : (ds es : Declarations) (n : List ℕ) → entry_of ds n ≡ None → is_some (entry_of (ds ++ es) n) ≡ is_some (entry_of es n)
taken_behind ds es n h = ap is_some (found_behind ds es n h)

-- one thing more of a new name
new_last : (ds added : Declarations) (n : List ℕ) (e : Entry) → AreNew ds added → entry_of (ds ++ added) n ≡ None → AreNew ds (added ++ (n, e) ∷ [])
new_last ds [] n e h k = (subst (λ z. entry_of z n ≡ None) (append-nil ds) k, tt)
new_last ds (d ∷ added) n e h k = (h.0, new_last (ds ++ d ∷ []) added n e h.1 (subst (λ z. entry_of z n ≡ None) (sym (append_assoc ds (d ∷ []) added)) k))

-- one abstract module more, under a name that nothing has
pub module_new : (ds : Declarations) (bs all : List Bind) (b : Bind) (n : List ℕ) → entry_of (ds ++ binder_entries bs) n ≡ None → b.name ≡ n → all ≡ bs ++ b ∷ [] →
    AreNew ds (binder_entries bs) → AreNew ds (binder_entries all)
module_new ds bs all b n k e f h =
    let one = map-append (λ (c : Bind). (c.name, entry.AbstractModule c)) bs (b ∷ []) in
    subst (λ z. AreNew ds (binder_entries z)) (sym f) (subst (AreNew ds) (sym one) (new_last ds (binder_entries bs) b.name (entry.AbstractModule b) h (subst (λ z. entry_of (ds ++ binder_entries bs) z ≡ None) (sym e) k)))
