-- Types with values of their own speak of no module's globals.
use Rattle.std.proofs.Common.{◌≡◌, Bool, true, ◌∷◌, map, refl, ap, sym, ◌∙◌}
use Rattle.std.proofs.lemmas.Bool.{false≢true, and_parts}
use mathlib.Core.Former.{Count}
use Rattle.gb_core.specs.declared.ty.Ty as X
use Rattle.gb_core.specs.declared.ty.Ty.{Ty, Row_of-Ty, end_of-Ty, more_of-Ty, out-Ty, roll-Ty, items-the_row-Ty, items_shown-the_row-Ty-0}
use Rattle.gb_core.specs.declared.ty.Ty.TheVariants as ty
use Rattle.gb_core.specs.declared.ty.Ty.TheOpen as layer
use Rattle.gb_core.specs.declared.ty.Ty.TheBlock as B
use Rattle.gb_core.specs.declared.ty.Ty.TheViews.{roll-out-Ty}
use Rattle.gb_core.specs.declared.ty.Ty.TheFolds.{fold-roll-Ty}
use Rattle.gb_core.specs.Types.{finite_step, is_finite, all_true}
use Rattle.gb_laws.specs.Operators.{items}
use Rattle.gb_meaning.specs.Globs.{IsGlobless, EachGlobIn}

out_opt : (p : _) (x : Ty) → out-Ty (ty.Opt' p (more_of-Ty x end_of-Ty)) ≡ layer.Opt x
unfolding X.out-Ty denote.Hole.Carrier.out B.shown-the_row-Ty-1 denote.Hole.Carrier.shown
out_opt p x = refl

out_map : (p q : _) (k x : Ty) → out-Ty (ty.Map' p (more_of-Ty k end_of-Ty) q (more_of-Ty x end_of-Ty)) ≡ layer.Map k x
unfolding X.out-Ty denote.Hole.Carrier.out B.shown-the_row-Ty-1 denote.Hole.Carrier.shown
out_map p q k x = refl

out_distr : (p : _) (x : Ty) → out-Ty (ty.Distr' p (more_of-Ty x end_of-Ty)) ≡ layer.Distr x
unfolding X.out-Ty denote.Hole.Carrier.out B.shown-the_row-Ty-1 denote.Hole.Carrier.shown
out_distr p x = refl

out_tuple : (n : _) (r : _) → out-Ty (ty.Tuple' n r) ≡ layer.Tuple (items-the_row-Ty _ r)
unfolding X.out-Ty denote.Hole.Carrier.out
out_tuple n r = ap layer.Tuple (items_shown-the_row-Ty-0 n r)

-- a tuple type is that of its parts
items_row : {n : Count} (r : Row_of-Ty n) → items-the_row-Ty _ r ≡ items r
items_row end_of-Ty = refl
items_row (more_of-Ty t r) = ap (λ z. t ∷ z) (items_row r)

pub tuple_of : (n : _) (r : _) → ty.Tuple (items r) ≡ ty.Tuple' n r
tuple_of n r = sym (sym (roll-out-Ty (ty.Tuple' n r)) ∙ ap roll-Ty (out_tuple n r ∙ ap layer.Tuple (items_row r)) ∙ ty.rolls-Tuple (items r))

finite_at : (t : Ty) (l : layer.Ty-F Ty) → out-Ty t ≡ l → is_finite t ≡ is_finite (roll-Ty l)
finite_at t l e = ap is_finite (sym (roll-out-Ty t) ∙ ap roll-Ty e)

mutual
  pub finite_globless : (t : Ty) → is_finite t ≡ true → IsGlobless t
  finite_globless (ty.Tuple' n r) h = all_finite_globless r (sym (finite_at _ _ (out_tuple n r) ∙ fold-roll-Ty Bool finite_step (layer.Tuple (items-the_row-Ty _ r))) ∙ h)
  finite_globless (ty.Opt' p (more_of-Ty x end_of-Ty)) h = (finite_globless x (sym (finite_at _ _ (out_opt p x) ∙ fold-roll-Ty Bool finite_step (layer.Opt x)) ∙ h), tt)
  finite_globless (ty.Map' p (more_of-Ty k end_of-Ty) q (more_of-Ty x end_of-Ty)) h =
      let both = and_parts (is_finite k) (is_finite x) (sym (finite_at _ _ (out_map p q k x) ∙ fold-roll-Ty Bool finite_step (layer.Map k x)) ∙ h) in
      ((finite_globless k both.0, tt), (finite_globless x both.1, tt))
  finite_globless (ty.Distr' p (more_of-Ty x end_of-Ty)) h = absurd (false≢true (sym (finite_at _ _ (out_distr p x) ∙ fold-roll-Ty Bool finite_step (layer.Distr x)) ∙ h))
  finite_globless (ty.Glob m) h = absurd (false≢true (sym (ap is_finite (sym (ty.rolls-Glob m)) ∙ fold-roll-Ty Bool finite_step (layer.Glob m)) ∙ h))
  finite_globless _ h = tt

  all_finite_globless : {n : Count} (r : Row_of-Ty n) → all_true (map is_finite (items-the_row-Ty _ r)) ≡ true → EachGlobIn (λ m. ⊥) r
  all_finite_globless end_of-Ty h = tt
  all_finite_globless (more_of-Ty t r) h =
      let both = and_parts (is_finite t) (all_true (map is_finite (items-the_row-Ty _ r))) h in
      (finite_globless t both.0, all_finite_globless r both.1)
