-- Abstract modules that are declared behind a scope, and the goals that bind them.
use Rattle.std.proofs.Common.{◌≡◌, Bool, true, false, ◌||◌, if◌then◌else◌, List, [], ◌∷◌, ◌++◌, Some, None, bytes_eq, refl, ap, sym, ◌∙◌, subst}
use Rattle.std.proofs.lemmas.List.{append_assoc, append-nil}
use Rattle.gb_terms.specs.declared.module.Bind.{Bind}
use Rattle.gb_goal.specs.Binders.{binder_entries, with_declared_modules}
use Rattle.gb_goal.specs.declared.scope.Entry.TheVariants as entry
use Rattle.gb_goal.specs.declared.sequent.Sequent.{Sequent}
use Rattle.gb_goal.specs.Scope as scope
use Rattle.gb_goal.specs.Scope.{AreNew, entry_of}
use Rattle.gb_meaning.specs.Names.{Name}
use Rattle.gb_meaning.specs.Declared.{Declarations, declared}
use Rattle.gb_meaning.proofs.Lists.{declared-append}
use Rattle.gb_typing.specs.Context.{Context}
use Rattle.gb_typing.specs.Formulas.{with_module}
use Rattle.gb_typing.specs.Scopes.{nothing, with_declared, with_each, context_of, is_declared, AreTypedAfter, IsTypedScope}
use Rattle.gb_typing.specs.Sequents.{AreBinders, with_modules, IsTypedSequent}
use Rattle.gb_typing.proofs.Declaring.{each_append, split}
use Rattle.gb_typing.proofs.Interfaces.{none_some}

-- their context is that of the modules, one after another

with_entries : (bs : List Bind) (c : Context) → with_each c (declared (binder_entries bs)) ≡ with_modules c bs
with_entries [] c = refl
with_entries (b ∷ bs) c = with_entries bs (with_module c b)

pub context_bound : (ds : scope.Declarations) (bs : List Bind) → context_of (declared (ds ++ binder_entries bs)) ≡ with_modules (context_of (declared ds)) bs
context_bound ds bs =
    ap context_of (declared-append ds (binder_entries bs)) ∙ each_append (declared ds) (declared (binder_entries bs)) nothing ∙ with_entries bs (context_of (declared ds))

-- Typed scopes.

typed_append : (xs ys before : Declarations) (c : Context) → AreTypedAfter c before xs → AreTypedAfter (with_each c xs) (before ++ xs) ys → AreTypedAfter c before (xs ++ ys)
typed_append [] ys before c w k = subst (λ z. AreTypedAfter c z ys) (append-nil before) k
typed_append ((n, d) ∷ xs) ys before c w k = (
  w.0,
  w.1,
  typed_append xs ys (before ++ (n, d) ∷ []) (with_declared c n d) w.2
      (subst (λ z. AreTypedAfter (with_each (with_declared c n d) xs) z ys) (sym (append_assoc before ((n, d) ∷ []) xs)) k),
)

-- what no declaration has is declared by none
undeclared : (ds : scope.Declarations) (n : Name) → entry_of ds n ≡ None → is_declared (declared ds) n ≡ false
undeclared [] n e = refl
undeclared (d ∷ ds) n e = step (bytes_eq n d.0) (undeclared ds n) e
  where
    step : (b : Bool) → (entry_of ds n ≡ None → is_declared (declared ds) n ≡ false) → (if b then Some d.1 else entry_of ds n) ≡ None → (b || is_declared (declared ds) n) ≡ false
    step true f e = none_some d.1 (sym e)
    step false f e = f e

entries_typed : (bs : List Bind) (ds : scope.Declarations) (c : Context) → AreBinders c bs → AreNew ds (binder_entries bs) → AreTypedAfter c (declared ds) (declared (binder_entries bs))
entries_typed [] ds c w new = tt
entries_typed (b ∷ bs) ds c w new = (
  undeclared ds b.name new.0,
  (refl, w.0),
  subst (λ z. AreTypedAfter (with_module c b) z (declared (binder_entries bs))) (declared-append ds ((b.name, entry.AbstractModule b) ∷ []))
      (entries_typed bs (ds ++ (b.name, entry.AbstractModule b) ∷ []) (with_module c b) w.1 new.1),
)

-- a typed scope stays typed with modules of binders over it, under new names
pub scope_bound : (ds : scope.Declarations) (bs : List Bind) → IsTypedScope (declared ds) → AreBinders (context_of (declared ds)) bs → AreNew ds (binder_entries bs) →
    IsTypedScope (declared (ds ++ binder_entries bs))
scope_bound ds bs scoped w new =
    subst IsTypedScope (sym (declared-append ds (binder_entries bs)))
    (typed_append (declared ds) (declared (binder_entries bs)) [] nothing scoped (entries_typed bs ds (context_of (declared ds)) w new))

entries_binders : (bs : List Bind) (before : Declarations) (c : Context) → AreTypedAfter c before (declared (binder_entries bs)) → AreBinders c bs
entries_binders [] before c w = tt
entries_binders (b ∷ bs) before c w = (w.1.1, entries_binders bs _ (with_module c b) w.2)

parts : (ds : scope.Declarations) (bs : List Bind) → IsTypedScope (declared (ds ++ binder_entries bs)) →
    IsTypedScope (declared ds) × AreTypedAfter (context_of (declared ds)) (declared ds) (declared (binder_entries bs))
parts ds bs scoped = split (declared ds) (declared (binder_entries bs)) [] nothing (subst IsTypedScope (declared-append ds (binder_entries bs)) scoped)

-- .. and the modules are binders over it
pub binders_typed : (ds : scope.Declarations) (bs : List Bind) → IsTypedScope (declared (ds ++ binder_entries bs)) → AreBinders (context_of (declared ds)) bs
binders_typed ds bs scoped = entries_binders bs (declared ds) (context_of (declared ds)) (parts ds bs scoped).1

pub front_typed : (ds : scope.Declarations) (bs : List Bind) → IsTypedScope (declared (ds ++ binder_entries bs)) → IsTypedScope (declared ds)
front_typed ds bs scoped = (parts ds bs scoped).0

-- Goals.

module _ (c : Context) (q : Sequent) where
  over_modules : IsTypedSequent c q → IsTypedSequent (with_modules c q.modules) (with_declared_modules q)
  over_modules t = record { modules = tt; logical = t.logical; frames = t.frames; memories = t.memories; hyps = t.hyps; conclusion = t.conclusion }

  under_modules : AreBinders c q.modules → IsTypedSequent (with_modules c q.modules) (with_declared_modules q) → IsTypedSequent c q
  under_modules w t = record { modules = w; logical = t.logical; frames = t.frames; memories = t.memories; hyps = t.hyps; conclusion = t.conclusion }

-- a goal is typed with its modules where it is typed without them over their declarations
pub goal_declared : (ds : scope.Declarations) (q : Sequent) → IsTypedSequent (context_of (declared ds)) q →
    IsTypedSequent (context_of (declared (ds ++ binder_entries q.modules))) (with_declared_modules q)
goal_declared ds q t = subst (λ c. IsTypedSequent c (with_declared_modules q)) (sym (context_bound ds q.modules)) (over_modules (context_of (declared ds)) q t)

pub goal_bound : (ds : scope.Declarations) (q : Sequent) → IsTypedScope (declared (ds ++ binder_entries q.modules)) →
    IsTypedSequent (context_of (declared (ds ++ binder_entries q.modules))) (with_declared_modules q) → IsTypedSequent (context_of (declared ds)) q
goal_bound ds q scoped t =
    under_modules (context_of (declared ds)) q (binders_typed ds q.modules scoped) (subst (λ c. IsTypedSequent c (with_declared_modules q)) (context_bound ds q.modules) t)
