-- Types that speak of no module's globals, by the test.
use Rattle.std.proofs.Common.{◌≡◌, Bool, true, false, ◌||◌, if◌then◌else◌, Some, None, [], map, refl, ap, sym, ◌∙◌}
use Rattle.std.specs.List.{list_any}
use Rattle.std.proofs.lemmas.Bool.{false≢true, and_parts}
use Rattle.gb_core.specs.declared.ty.Ty as X
use Rattle.gb_core.specs.declared.ty.Ty.{Ty, Row_of-Ty, end_of-Ty, more_of-Ty, out-Ty, roll-Ty, items-the_row-Ty, items_shown-the_row-Ty-0}
use Rattle.gb_core.specs.declared.ty.Ty.TheVariants as ty
use Rattle.gb_core.specs.declared.ty.Ty.TheOpen as layer
use Rattle.gb_core.specs.declared.ty.Ty.TheBlock as B
use Rattle.gb_core.specs.declared.ty.Ty.TheViews.{roll-out-Ty}
use Rattle.gb_core.specs.declared.ty.Ty.TheFolds.{fold-roll-Ty}
use Rattle.gb_core.specs.Types.{finite_step, is_finite, all_true}
use Rattle.gb_meaning.specs.Names.{Name}
use Rattle.gb_meaning.specs.Globs.{IsGlobless, EachGlobIn}
use Rattle.gb_labels.specs.Things.{holds_layer, holds_glob, both_names, modules_of, modules_of_all}
use mathlib.Core.Former.{Count}

out_opt : (p : _) (x : Ty) → out-Ty (ty.Opt' p (more_of-Ty x end_of-Ty)) ≡ layer.Opt x
unfolding X.out-Ty denote.Hole.Carrier.out B.shown-the_row-Ty-1 denote.Hole.Carrier.shown
out_opt p x = refl

out_map : (p q : _) (k x : Ty) → out-Ty (ty.Map' p (more_of-Ty k end_of-Ty) q (more_of-Ty x end_of-Ty)) ≡ layer.Map k x
unfolding X.out-Ty denote.Hole.Carrier.out B.shown-the_row-Ty-1 denote.Hole.Carrier.shown
out_map p q k x = refl

out_distr : (p : _) (x : Ty) → out-Ty (ty.Distr' p (more_of-Ty x end_of-Ty)) ≡ layer.Distr x
unfolding X.out-Ty denote.Hole.Carrier.out B.shown-the_row-Ty-1 denote.Hole.Carrier.shown
out_distr p x = refl

out_tuple : (n : _) (r : _) → out-Ty (ty.Tuple' n r) ≡ layer.Tuple (items-the_row-Ty _ r)
unfolding X.out-Ty denote.Hole.Carrier.out
out_tuple n r = ap layer.Tuple (items_shown-the_row-Ty-0 n r)

at_layer : (t : Ty) (l : layer.Ty-F Ty) → out-Ty t ≡ l → holds_glob t ≡ holds_glob (roll-Ty l)
at_layer t l e = ap holds_glob (sym (roll-out-Ty t) ∙ ap roll-Ty e)

holds_opt : (p : _) (x : Ty) → holds_glob (ty.Opt' p (more_of-Ty x end_of-Ty)) ≡ holds_glob x
holds_opt p x = at_layer _ _ (out_opt p x) ∙ fold-roll-Ty Bool holds_layer (layer.Opt x)

holds_map : (p q : _) (k x : Ty) → holds_glob (ty.Map' p (more_of-Ty k end_of-Ty) q (more_of-Ty x end_of-Ty)) ≡ (holds_glob k || holds_glob x)
holds_map p q k x = at_layer _ _ (out_map p q k x) ∙ fold-roll-Ty Bool holds_layer (layer.Map k x)

holds_distr : (p : _) (x : Ty) → holds_glob (ty.Distr' p (more_of-Ty x end_of-Ty)) ≡ holds_glob x
holds_distr p x = at_layer _ _ (out_distr p x) ∙ fold-roll-Ty Bool holds_layer (layer.Distr x)

holds_tuple : (n : _) (r : _) → holds_glob (ty.Tuple' n r) ≡ list_any (λ b. b) (map holds_glob (items-the_row-Ty _ r))
holds_tuple n r = at_layer _ _ (out_tuple n r) ∙ fold-roll-Ty Bool holds_layer (layer.Tuple (items-the_row-Ty _ r))

holds_of : (m : Name) → holds_glob (ty.Glob m) ≡ true
holds_of m = ap holds_glob (sym (ty.rolls-Glob m)) ∙ fold-roll-Ty Bool holds_layer (layer.Glob m)

neither : (a b : Bool) → (a || b) ≡ false → (a ≡ false) × (b ≡ false)
neither true b h = absurd (false≢true (sym h))
neither false b h = (refl, h)

mutual
  -- a type that passes no test for globals speaks of none
  pub globless : (t : Ty) → holds_glob t ≡ false → IsGlobless t
  globless (ty.Tuple' n r) h = all_globless r (sym (holds_tuple n r) ∙ h)
  globless (ty.Opt' p (more_of-Ty x end_of-Ty)) h = (globless x (sym (holds_opt p x) ∙ h), tt)
  globless (ty.Map' p (more_of-Ty k end_of-Ty) q (more_of-Ty x end_of-Ty)) h =
      let both = neither (holds_glob k) (holds_glob x) (sym (holds_map p q k x) ∙ h) in
      ((globless k both.0, tt), (globless x both.1, tt))
  globless (ty.Distr' p (more_of-Ty x end_of-Ty)) h = (globless x (sym (holds_distr p x) ∙ h), tt)
  globless (ty.Glob m) h = false≢true (sym h ∙ holds_of m)
  globless _ h = tt

  all_globless : {n : Count} (r : Row_of-Ty n) → list_any (λ b. b) (map holds_glob (items-the_row-Ty _ r)) ≡ false → EachGlobIn (λ m. ⊥) r
  all_globless end_of-Ty h = tt
  all_globless (more_of-Ty t r) h =
      let both = neither (holds_glob t) (list_any (λ b. b) (map holds_glob (items-the_row-Ty _ r))) h in
      (globless t both.0, all_globless r both.1)

finite_at : (t : Ty) (l : layer.Ty-F Ty) → out-Ty t ≡ l → is_finite t ≡ is_finite (roll-Ty l)
finite_at t l e = ap is_finite (sym (roll-out-Ty t) ∙ ap roll-Ty e)

mutual
  -- a type with values of its own speaks of no module's globals
  pub finite_globless : (t : Ty) → is_finite t ≡ true → IsGlobless t
  finite_globless (ty.Tuple' n r) h = all_finite_globless r (sym (finite_at _ _ (out_tuple n r) ∙ fold-roll-Ty Bool finite_step (layer.Tuple (items-the_row-Ty _ r))) ∙ h)
  finite_globless (ty.Opt' p (more_of-Ty x end_of-Ty)) h = (finite_globless x (sym (finite_at _ _ (out_opt p x) ∙ fold-roll-Ty Bool finite_step (layer.Opt x)) ∙ h), tt)
  finite_globless (ty.Map' p (more_of-Ty k end_of-Ty) q (more_of-Ty x end_of-Ty)) h =
      let both = and_parts (is_finite k) (is_finite x) (sym (finite_at _ _ (out_map p q k x) ∙ fold-roll-Ty Bool finite_step (layer.Map k x)) ∙ h) in
      ((finite_globless k both.0, tt), (finite_globless x both.1, tt))
  finite_globless (ty.Distr' p (more_of-Ty x end_of-Ty)) h = absurd (false≢true (sym (finite_at _ _ (out_distr p x) ∙ fold-roll-Ty Bool finite_step (layer.Distr x)) ∙ h))
  finite_globless (ty.Glob m) h = false≢true (sym (ap is_finite (sym (ty.rolls-Glob m)) ∙ fold-roll-Ty Bool finite_step (layer.Glob m)) ∙ h)
  finite_globless _ h = tt

  all_finite_globless : {n : Count} (r : Row_of-Ty n) → all_true (map is_finite (items-the_row-Ty _ r)) ≡ true → EachGlobIn (λ m. ⊥) r
  all_finite_globless end_of-Ty h = tt
  all_finite_globless (more_of-Ty t r) h =
      let both = and_parts (is_finite t) (all_true (map is_finite (items-the_row-Ty _ r))) h in
      (finite_globless t both.0, all_finite_globless r both.1)

mutual
  -- a type that holds no globals gives no modules
  pub uncounted_modules : (t : Ty) → holds_glob t ≡ false → modules_of t ≡ Some []
  uncounted_modules (ty.Tuple' n r) h = all_uncounted r (sym (holds_tuple n r) ∙ h)
  uncounted_modules (ty.Glob m) h = absurd (false≢true (sym h ∙ holds_of m))
  uncounted_modules (ty.Opt' p (more_of-Ty (ty.Glob m) end_of-Ty)) h = absurd (false≢true (sym h ∙ holds_opt p (ty.Glob m) ∙ holds_of m))
  uncounted_modules t h = ap (λ (b : Bool). if b then None else Some []) h

  all_uncounted : {n : Count} (r : Row_of-Ty n) → list_any (λ b. b) (map holds_glob (items-the_row-Ty _ r)) ≡ false → modules_of_all r ≡ Some []
  all_uncounted end_of-Ty h = refl
  all_uncounted (more_of-Ty t r) h =
      let both = neither (holds_glob t) (list_any (λ b. b) (map holds_glob (items-the_row-Ty _ r))) h in
      λ i. both_names (uncounted_modules t both.0 i) (all_uncounted r both.1 i)
