-- Types with modules put in, and types that speak of the globals of a module, by their parts.
use Rattle.std.proofs.Common.{◌≡◌, ℕ, Bool, true, false, ◌||◌, List, map, refl, ap, sym, ◌∙◌}
use Rattle.std.specs.Prelude.{bytes_eq}
use Rattle.std.specs.List.{list_any}
use Rattle.std.proofs.lemmas.Bool.{false≢true}
use Rattle.gb_core.specs.declared.ty.Ty as X
use Rattle.gb_core.specs.declared.ty.Ty.{Ty, Row_of-Ty, end_of-Ty, more_of-Ty, out-Ty, roll-Ty, fold-Ty, items-the_row-Ty, items_shown-the_row-Ty-0}
use Rattle.gb_core.specs.declared.ty.Ty.TheVariants as ty
use Rattle.gb_core.specs.declared.ty.Ty.TheOpen as layer
use Rattle.gb_core.specs.declared.ty.Ty.TheBlock as B
use Rattle.gb_core.specs.declared.ty.Ty.TheViews.{roll-out-Ty}
use Rattle.gb_core.specs.declared.ty.Ty.TheFolds.{fold-roll-Ty}
use Rattle.gb_instances.specs.Put.{layer_put, layer_speaks, type_put, type_speaks}

out_opt : (p : _) (x : Ty) → out-Ty (ty.Opt' p (more_of-Ty x end_of-Ty)) ≡ layer.Opt x
unfolding X.out-Ty denote.Hole.Carrier.out B.shown-the_row-Ty-1 denote.Hole.Carrier.shown
out_opt p x = refl

out_map : (p q : _) (k x : Ty) → out-Ty (ty.Map' p (more_of-Ty k end_of-Ty) q (more_of-Ty x end_of-Ty)) ≡ layer.Map k x
unfolding X.out-Ty denote.Hole.Carrier.out B.shown-the_row-Ty-1 denote.Hole.Carrier.shown
out_map p q k x = refl

out_distr : (p : _) (x : Ty) → out-Ty (ty.Distr' p (more_of-Ty x end_of-Ty)) ≡ layer.Distr x
unfolding X.out-Ty denote.Hole.Carrier.out B.shown-the_row-Ty-1 denote.Hole.Carrier.shown
out_distr p x = refl

out_tuple : (n : _) (r : _) → out-Ty (ty.Tuple' n r) ≡ layer.Tuple (items-the_row-Ty _ r)
unfolding X.out-Ty denote.Hole.Carrier.out
out_tuple n r = ap layer.Tuple (items_shown-the_row-Ty-0 n r)

-- a type is made of its layer
made_of : (t : Ty) (l : layer.Ty-F Ty) → out-Ty t ≡ l → t ≡ roll-Ty l
made_of t l e = sym (roll-out-Ty t) ∙ ap roll-Ty e

-- the types without parts that aren't those of globals
abbrev pub is_leaf : Ty → Bool
is_leaf (ty.Tuple' n r) = false
is_leaf (ty.Opt' p x) = false
is_leaf (ty.Map' p k q x) = false
is_leaf (ty.Distr' p x) = false
is_leaf (ty.Glob m) = false
is_leaf _ = true

module _ (f : List ℕ → List ℕ) where
  pub leaf_put : (t : Ty) → is_leaf t ≡ true → type_put f t ≡ t
  leaf_put ty.Unit h = ap (type_put f) (sym ty.rolls-Unit) ∙ fold-roll-Ty Ty (layer_put f) layer.Unit
  leaf_put ty.Bool h = ap (type_put f) (sym ty.rolls-Bool) ∙ fold-roll-Ty Ty (layer_put f) layer.Bool
  leaf_put (ty.Bits n) h = ap (type_put f) (sym (ty.rolls-Bits n)) ∙ fold-roll-Ty Ty (layer_put f) (layer.Bits n)
  leaf_put (ty.Mod n) h = ap (type_put f) (sym (ty.rolls-Mod n)) ∙ fold-roll-Ty Ty (layer_put f) (layer.Mod n)
  leaf_put (ty.Enumeration x n) h = ap (type_put f) (sym (ty.rolls-Enumeration x n)) ∙ fold-roll-Ty Ty (layer_put f) (layer.Enumeration x n)
  leaf_put (ty.Abstract x) h = ap (type_put f) (sym (ty.rolls-Abstract x)) ∙ fold-roll-Ty Ty (layer_put f) (layer.Abstract x)
  leaf_put ty.Int h = ap (type_put f) (sym ty.rolls-Int) ∙ fold-roll-Ty Ty (layer_put f) layer.Int
  leaf_put ty.Real h = ap (type_put f) (sym ty.rolls-Real) ∙ fold-roll-Ty Ty (layer_put f) layer.Real
  leaf_put _ h = absurd (false≢true h)

  pub glob_put : (m : List ℕ) → type_put f (ty.Glob m) ≡ ty.Glob (f m)
  glob_put m = ap (type_put f) (sym (ty.rolls-Glob m)) ∙ fold-roll-Ty Ty (layer_put f) (layer.Glob m)

  pub opt_put : (p : _) (x : Ty) → type_put f (ty.Opt' p (more_of-Ty x end_of-Ty)) ≡ ty.Opt (type_put f x)
  opt_put p x = ap (type_put f) (made_of _ _ (out_opt p x)) ∙ fold-roll-Ty Ty (layer_put f) (layer.Opt x)

  pub map_put : (p q : _) (k x : Ty) → type_put f (ty.Map' p (more_of-Ty k end_of-Ty) q (more_of-Ty x end_of-Ty)) ≡ ty.Map (type_put f k) (type_put f x)
  map_put p q k x = ap (type_put f) (made_of _ _ (out_map p q k x)) ∙ fold-roll-Ty Ty (layer_put f) (layer.Map k x)

  pub distr_put : (p : _) (x : Ty) → type_put f (ty.Distr' p (more_of-Ty x end_of-Ty)) ≡ ty.Distr (type_put f x)
  distr_put p x = ap (type_put f) (made_of _ _ (out_distr p x)) ∙ fold-roll-Ty Ty (layer_put f) (layer.Distr x)

  pub tuple_put : (n : _) (r : _) → type_put f (ty.Tuple' n r) ≡ ty.Tuple (map (type_put f) (items-the_row-Ty _ r))
  tuple_put n r = ap (type_put f) (made_of _ _ (out_tuple n r)) ∙ fold-roll-Ty Ty (layer_put f) (layer.Tuple (items-the_row-Ty _ r))

module _ (a : List ℕ) where
  pub glob_speaks : (m : List ℕ) → type_speaks a (ty.Glob m) ≡ bytes_eq a m
  glob_speaks m = ap (type_speaks a) (sym (ty.rolls-Glob m)) ∙ fold-roll-Ty Bool (layer_speaks a) (layer.Glob m)

  pub opt_speaks : (p : _) (x : Ty) → type_speaks a (ty.Opt' p (more_of-Ty x end_of-Ty)) ≡ type_speaks a x
  opt_speaks p x = ap (type_speaks a) (made_of _ _ (out_opt p x)) ∙ fold-roll-Ty Bool (layer_speaks a) (layer.Opt x)

  pub map_speaks : (p q : _) (k x : Ty) → type_speaks a (ty.Map' p (more_of-Ty k end_of-Ty) q (more_of-Ty x end_of-Ty)) ≡ (type_speaks a k || type_speaks a x)
  map_speaks p q k x = ap (type_speaks a) (made_of _ _ (out_map p q k x)) ∙ fold-roll-Ty Bool (layer_speaks a) (layer.Map k x)

  pub distr_speaks : (p : _) (x : Ty) → type_speaks a (ty.Distr' p (more_of-Ty x end_of-Ty)) ≡ type_speaks a x
  distr_speaks p x = ap (type_speaks a) (made_of _ _ (out_distr p x)) ∙ fold-roll-Ty Bool (layer_speaks a) (layer.Distr x)

  pub tuple_speaks : (n : _) (r : _) → type_speaks a (ty.Tuple' n r) ≡ list_any (λ b. b) (map (type_speaks a) (items-the_row-Ty _ r))
  tuple_speaks n r = ap (type_speaks a) (made_of _ _ (out_tuple n r)) ∙ fold-roll-Ty Bool (layer_speaks a) (layer.Tuple (items-the_row-Ty _ r))
