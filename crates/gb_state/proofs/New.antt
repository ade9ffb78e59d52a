-- Names under which nothing is declared: that of a lemma, and those of the modules that it binds.
use Rattle.std.proofs.Common.{◌≡◌, ℕ, Bool, true, false, ◌&&◌, List, [], ◌∷◌, ◌++◌, Option, Some, None, is_none, refl, ap, ◌∙◌}
use Rattle.gb_terms.specs.declared.module.Bind.{Bind}
use Rattle.gb_goal.specs.Binders.{binder_entries}
use Rattle.gb_goal.specs.Scope.{Declarations, AreNew, entry_of}
use Rattle.gb_goal.specs.declared.scope.Binder.{Binder}
use Rattle.gb_goal.specs.declared.scope.Entry.TheVariants as entry
use Rattle.gb_goal.specs.declared.sequent.Sequent.{Sequent}
use Rattle.gb_state.specs.declared.state.Claim.{Claim}
use Rattle.gb_state.specs.declared.state.Claim.TheVariants as claim
use Rattle.gb_state.specs.Opened.{are_new, is_new, modules_of}

both : (a b : Bool) → (a && b) ≡ true → (a ≡ true) × (b ≡ true)
both true b h = (refl, h)
both false b h = absurd (cc)

none_is : {A : Type 0} (o : Option A) → is_none o ≡ true → o ≡ None
none_is None h = refl
none_is (Some x) h = absurd (cc)

-- modules that a lemma binds, one after another
modules_new : (ds : Declarations) (bs : List Bind) → are_new ds bs ≡ true → AreNew ds (binder_entries bs)
modules_new ds [] h = tt
modules_new ds (b ∷ bs) h =
    let more : Declarations = ds ++ (b.name, entry.AbstractModule b) ∷ [] in
    let e = both (is_none (entry_of ds b.name)) (are_new more bs) h in
    (none_is (entry_of ds b.name) e.0, modules_new more bs e.1)

modules_are_new : (ds : Declarations) (bs : List Bind) → AreNew ds (binder_entries bs) → are_new ds bs ≡ true
modules_are_new ds [] h = refl
modules_are_new ds (b ∷ bs) h =
    let more : Declarations = ds ++ (b.name, entry.AbstractModule b) ∷ [] in
    ap (λ o. is_none o && are_new more bs) h.0 ∙ modules_are_new more bs h.1

module _ (ds : Declarations) where
  -- nothing has the name of the lemma
  pub name_is_new : (name : List ℕ) (q : Sequent) (bs : List Binder) → is_new ds (claim.Lemma name q bs) ≡ true → entry_of ds name ≡ None
  name_is_new name q bs h = none_is (entry_of ds name) (both (is_none (entry_of ds name)) (are_new ds q.modules) h).0

  -- the modules that are declared while steps run have new names
  pub declared_are_new : (c : Claim) → is_new ds c ≡ true → AreNew ds (binder_entries (modules_of c))
  declared_are_new (claim.Lemma name q bs) h = modules_new ds q.modules (both (is_none (entry_of ds name)) (are_new ds q.modules) h).1
  declared_are_new (claim.Loops f) h = tt

  -- a lemma whose names are new may be open
  pub lemma_is_new : (name : List ℕ) (q : Sequent) (bs : List Binder) → entry_of ds name ≡ None → AreNew ds (binder_entries q.modules) → is_new ds (claim.Lemma name q bs) ≡ true
  lemma_is_new name q bs free new = ap (λ o. is_none o && are_new ds q.modules) free ∙ modules_are_new ds q.modules new
