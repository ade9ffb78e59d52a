-- Types by their constructors.
use Rattle.std.proofs.Common.{◌≡◌, List, [], ◌∷◌, refl, ap, sym, ◌∙◌}
use Rattle.gb_core.specs.declared.ty.Ty as X
use Rattle.gb_core.specs.declared.ty.Ty.{Ty, out-Ty, roll-Ty, items-the_row-Ty, items_shown-the_row-Ty-0}
use Rattle.gb_core.specs.declared.ty.Ty.TheVariants as ty
use Rattle.gb_core.specs.declared.ty.Ty.TheOpen as layer
use Rattle.gb_core.specs.declared.ty.Ty.TheBlock as B
use Rattle.gb_core.specs.declared.ty.Ty.TheViews.{roll-out-Ty}
use Rattle.gb_meaning.specs.Trees.{distributions, options}
use Rattle.gb_laws.specs.Operators.{row, places, maps, tuples}

out_option : (t : Ty) → out-Ty (options t) ≡ layer.Opt t
unfolding X.out-Ty denote.Hole.Carrier.out B.shown-the_row-Ty-1 denote.Hole.Carrier.shown
out_option t = refl

out_distribution : (t : Ty) → out-Ty (distributions t) ≡ layer.Distr t
unfolding X.out-Ty denote.Hole.Carrier.out B.shown-the_row-Ty-1 denote.Hole.Carrier.shown
out_distribution t = refl

out_map : (k t : Ty) → out-Ty (maps k t) ≡ layer.Map k t
unfolding X.out-Ty denote.Hole.Carrier.out B.shown-the_row-Ty-1 denote.Hole.Carrier.shown
out_map k t = refl

row_items : (ts : List Ty) → items-the_row-Ty _ (row ts) ≡ ts
row_items [] = refl
row_items (t ∷ ts) = ap (λ z. t ∷ z) (row_items ts)

out_tuple : (ts : List Ty) → out-Ty (tuples ts) ≡ layer.Tuple (items-the_row-Ty _ (row ts))
unfolding X.out-Ty denote.Hole.Carrier.out
out_tuple ts = ap layer.Tuple (items_shown-the_row-Ty-0 (places ts) (row ts))

pub option_is : (t : Ty) → ty.Opt t ≡ options t
option_is t = sym (sym (roll-out-Ty (options t)) ∙ ap roll-Ty (out_option t) ∙ ty.rolls-Opt t)

pub distribution_is : (t : Ty) → ty.Distr t ≡ distributions t
distribution_is t = sym (sym (roll-out-Ty (distributions t)) ∙ ap roll-Ty (out_distribution t) ∙ ty.rolls-Distr t)

pub map_is : (k t : Ty) → ty.Map k t ≡ maps k t
map_is k t = sym (sym (roll-out-Ty (maps k t)) ∙ ap roll-Ty (out_map k t) ∙ ty.rolls-Map k t)

pub tuple_is : (ts : List Ty) → ty.Tuple ts ≡ tuples ts
tuple_is ts = sym (sym (roll-out-Ty (tuples ts)) ∙ ap roll-Ty (out_tuple ts ∙ ap layer.Tuple (row_items ts)) ∙ ty.rolls-Tuple ts)
