-- What a module that fits a binder is found to be, one test after another.
use Rattle.std.proofs.Common.{◌≡◌, ℕ, Bool, true, false, if◌then◌else◌, List, [], ◌∷◌, Option, Some, None, refl, ap, sym, subst}
use Rattle.std.proofs.lemmas.Bool.{false≢true}
use Rattle.std.proofs.lemmas.Option.{none-some}
use Rattle.gb_core.specs.declared.place.Place.{Place}
use Rattle.gb_core.specs.declared.refusal.Why.{Why}
use Rattle.gb_core.specs.declared.var.Var.{Var}
use Rattle.gb_terms.specs.declared.module.Bind.{Bind}
use Rattle.gb_terms.specs.declared.module.Bound.{Bound}
use Rattle.gb_goal.specs.Answers.{Answer, ◌>>=◌}
use Rattle.gb_goal.specs.Answers.Answer.{given, refused}
use Rattle.gb_goal.specs.Interfaces.{signatures_of, takes}
use Rattle.gb_goal.specs.declared.module_type.ModuleType.{ModuleType}
use Rattle.gb_goal.specs.Scope.{Declarations, module_type_of}
use Rattle.gb_full.specs.Loss.{Loss, nowhere, sampled, called}
use Rattle.gb_mods.specs.Meets.{Known, each_calls_named, first_of, first_unmet, meets, meets_if, meets_named, unless_unmet, unmet}
use Rattle.gb_instances.specs.Footprint.{footprint}
use Rattle.gb_instances.specs.Fits.{fits, kept_off, named_as, unbounded, unless_lost}
use Rattle.gb_instances.specs.Lossless.{first_loss}

abbrev pub is_given : {A : Type 0} → Answer A → Bool
is_given (given x) = true
is_given (refused w p) = false

pub refused_not : {A P : Type 0} (w : Why) (p : Place) (x : A) → refused w p ≡ given x → P
refused_not w p x e = absurd (false≢true (ap is_given e))

-- both answers of a sequence are given
pub both_given : (a : Answer (Unit {0})) (b : Answer (Unit {0})) → (a >>= (λ x. b)) ≡ given tt → (a ≡ given tt) × (b ≡ given tt)
both_given (given tt) b e = (refl, e)
both_given (refused w p) b e = refused_not w p tt e

pub record AreFound (ds : Declarations) (k : Known) (b : Bind) (vs : Option (List Var)) (p : Place) : Type 0 where
  pub meets : meets_named ds None k b.ty p ≡ given tt
  pub apart : kept_off ds vs (footprint ds k) p ≡ given tt
  pub unbounded : b.bounds ≡ []
  pub lossless : first_loss ds k b.ty ≡ nowhere
  pub named : named_as k.1.procedures (signatures_of (module_type_of ds b.ty)) p ≡ given tt

none_bounded : (bs : List Bound) (p : Place) → unbounded bs p ≡ given tt → bs ≡ []
none_bounded [] p e = refl
none_bounded (b ∷ bs) p e = refused_not _ p tt e

none_lost : (l : Loss) (p : Place) → unless_lost l p ≡ given tt → l ≡ nowhere
none_lost nowhere p e = refl
none_lost (sampled x) p e = refused_not _ p tt e
none_lost called p e = refused_not _ p tt e

pub all_found : (ds : Declarations) (k : Known) (b : Bind) (vs : Option (List Var)) (p : Place) → fits ds k b vs p ≡ given tt → AreFound ds k b vs p
unfolding fits
all_found ds k b vs p e =
    let one = both_given (meets_named ds None k b.ty p) _ e in
    let two = both_given (kept_off ds vs (footprint ds k) p) _ one.1 in
    let three = both_given (unbounded b.bounds p) _ two.1 in
    let four = both_given (unless_lost (first_loss ds k b.ty) p) _ three.1 in
    record { meets = one.0; apart = two.0; unbounded = none_bounded b.bounds p three.0; lossless = none_lost (first_loss ds k b.ty) p four.0; named = four.1 }

-- .. of the module type
pub record AreMet (ds : Declarations) (k : Known) (t : ModuleType) (p : Place) : Type 0 where
  pub lacks : takes ds k.1.lacks t.params ≡ true
  pub signed : first_unmet k.1.procedures t.signatures ≡ None
  pub asks : each_calls_named ds None k.0 t.params t.signatures p ≡ given tt

none_unmet : (o : Option (List ℕ)) (p : Place) → unless_unmet o p ≡ given tt → o ≡ None
none_unmet None p e = refl
none_unmet (Some n) p e = refused_not _ p tt e

are_met : (ds : Declarations) (k : Known) (n : List ℕ) (t : ModuleType) (p : Place) → meets ds None k n t p ≡ given tt → AreMet ds k t p
are_met ds k n t p e =
    let one = both_given (unless_unmet (unmet ds k.1 n t) p) (each_calls_named ds None k.0 t.params t.signatures p) e in
    let two = step (takes ds k.1.lacks t.params) refl (none_unmet (unmet ds k.1 n t) p one.0) in
    record { lacks = two.0; signed = two.1; asks = one.1 }
  where
    step : (b : Bool) → takes ds k.1.lacks t.params ≡ b → (if b then first_unmet k.1.procedures t.signatures else Some (first_of n t.signatures)) ≡ None →
        (takes ds k.1.lacks t.params ≡ true) × (first_unmet k.1.procedures t.signatures ≡ None)
    step true h f = (h, f)
    step false h f = absurd (none-some (first_of n t.signatures) (sym f))

pub all_met : (ds : Declarations) (k : Known) (n : List ℕ) (t : ModuleType) (p : Place) → module_type_of ds n ≡ Some t → meets_named ds None k n p ≡ given tt → AreMet ds k t p
all_met ds k n t p h e = are_met ds k n t p (subst (λ o. meets_if ds None k n o p ≡ given tt) h e)
