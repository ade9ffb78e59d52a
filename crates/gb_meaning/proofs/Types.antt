-- The values of finite types are numbered as the code numbers them.
use Rattle.std.proofs.Common.{◌≡◌, Bool, true, false, ◌&&◌, ◌∷◌, map, refl, ap, sym, ◌∙◌}
use Rattle.std.proofs.lemmas.Bool.{false≢true, and_parts}
use Rattle.gb_core.specs.declared.ty.Ty as X
use Rattle.gb_core.specs.declared.ty.Ty.{Ty, Row_of-Ty, end_of-Ty, more_of-Ty, out-Ty, roll-Ty, items-the_row-Ty, items_shown-the_row-Ty-0}
use Rattle.gb_core.specs.declared.ty.Ty.TheVariants as ty
use Rattle.gb_core.specs.declared.ty.Ty.TheOpen as layer
use Rattle.gb_core.specs.declared.ty.Ty.TheBlock as B
use Rattle.gb_core.specs.declared.ty.Ty.TheViews.{roll-out-Ty}
use Rattle.gb_core.specs.declared.ty.Ty.TheFolds.{fold-Ty, fold-roll-Ty}
use Rattle.gb_core.specs.Numbering.{Numbering, tuple_of, option_of, map_of}
use Rattle.gb_core.specs.Types.{numbering_step, numbering, finite_step, is_finite, all_true}
use Rattle.gb_meaning.specs.Names.{Name}
use Rattle.gb_meaning.specs.Values.{Types, values_by, all_values_by, values}
use mathlib.Core.Former.{Count}

out_opt : (p : _) (x : Ty) → out-Ty (ty.Opt' p (more_of-Ty x end_of-Ty)) ≡ layer.Opt x
unfolding X.out-Ty denote.Hole.Carrier.out B.shown-the_row-Ty-1 denote.Hole.Carrier.shown
out_opt p x = refl

out_map : (p q : _) (k x : Ty) → out-Ty (ty.Map' p (more_of-Ty k end_of-Ty) q (more_of-Ty x end_of-Ty)) ≡ layer.Map k x
unfolding X.out-Ty denote.Hole.Carrier.out B.shown-the_row-Ty-1 denote.Hole.Carrier.shown
out_map p q k x = refl

out_distr : (p : _) (x : Ty) → out-Ty (ty.Distr' p (more_of-Ty x end_of-Ty)) ≡ layer.Distr x
unfolding X.out-Ty denote.Hole.Carrier.out B.shown-the_row-Ty-1 denote.Hole.Carrier.shown
out_distr p x = refl

out_tuple : (n : _) (r : _) → out-Ty (ty.Tuple' n r) ≡ layer.Tuple (items-the_row-Ty _ r)
unfolding X.out-Ty denote.Hole.Carrier.out
out_tuple n r = ap layer.Tuple (items_shown-the_row-Ty-0 n r)

-- a fold at a type is the step at its layer
fold_at : {A : Type 0} (step : layer.Ty-F A → A) (t : Ty) (l : layer.Ty-F Ty) → out-Ty t ≡ l → fold-Ty A step t ≡ fold-Ty A step (roll-Ty l)
fold_at {A} step t l e = ap (fold-Ty A step) (sym (roll-out-Ty t) ∙ ap roll-Ty e)

numbering_opt : (p : _) (x : Ty) → numbering (ty.Opt' p (more_of-Ty x end_of-Ty)) ≡ option_of (numbering x)
numbering_opt p x = fold_at numbering_step _ _ (out_opt p x) ∙ fold-roll-Ty Numbering numbering_step (layer.Opt x)

numbering_map : (p q : _) (k x : Ty) → numbering (ty.Map' p (more_of-Ty k end_of-Ty) q (more_of-Ty x end_of-Ty)) ≡ map_of (numbering k) (numbering x)
numbering_map p q k x = fold_at numbering_step _ _ (out_map p q k x) ∙ fold-roll-Ty Numbering numbering_step (layer.Map k x)

numbering_tuple : (n : _) (r : _) → numbering (ty.Tuple' n r) ≡ tuple_of (map numbering (items-the_row-Ty _ r))
numbering_tuple n r = fold_at numbering_step _ _ (out_tuple n r) ∙ fold-roll-Ty Numbering numbering_step (layer.Tuple (items-the_row-Ty _ r))

finite_opt : (p : _) (x : Ty) → is_finite (ty.Opt' p (more_of-Ty x end_of-Ty)) ≡ is_finite x
finite_opt p x = fold_at finite_step _ _ (out_opt p x) ∙ fold-roll-Ty Bool finite_step (layer.Opt x)

finite_map : (p q : _) (k x : Ty) → is_finite (ty.Map' p (more_of-Ty k end_of-Ty) q (more_of-Ty x end_of-Ty)) ≡ (is_finite k && is_finite x)
finite_map p q k x = fold_at finite_step _ _ (out_map p q k x) ∙ fold-roll-Ty Bool finite_step (layer.Map k x)

finite_distr : (p : _) (x : Ty) → is_finite (ty.Distr' p (more_of-Ty x end_of-Ty)) ≡ false
finite_distr p x = fold_at finite_step _ _ (out_distr p x) ∙ fold-roll-Ty Bool finite_step (layer.Distr x)

finite_tuple : (n : _) (r : _) → is_finite (ty.Tuple' n r) ≡ all_true (map is_finite (items-the_row-Ty _ r))
finite_tuple n r = fold_at finite_step _ _ (out_tuple n r) ∙ fold-roll-Ty Bool finite_step (layer.Tuple (items-the_row-Ty _ r))

finite_abstract : (name : Name) → is_finite (ty.Abstract name) ≡ false
finite_abstract name = ap is_finite (sym (ty.rolls-Abstract name)) ∙ fold-roll-Ty Bool finite_step (layer.Abstract name)

finite_glob : (name : Name) → is_finite (ty.Glob name) ≡ false
finite_glob name = ap is_finite (sym (ty.rolls-Glob name)) ∙ fold-roll-Ty Bool finite_step (layer.Glob name)

finite_int : is_finite ty.Int ≡ false
finite_int = ap is_finite (sym ty.rolls-Int) ∙ fold-roll-Ty Bool finite_step layer.Int

finite_real : is_finite ty.Real ≡ false
finite_real = ap is_finite (sym ty.rolls-Real) ∙ fold-roll-Ty Bool finite_step layer.Real

not_both : {A : Type 0} (b : Bool) → b ≡ false → b ≡ true → A
not_both b e h = absurd (false≢true (sym e ∙ h))

module _ (a g : Name → Numbering) where
  mutual
    by_numbering : (t : Ty) → is_finite t ≡ true → values_by a g t ≡ numbering t
    by_numbering ty.Unit h = sym (ap numbering (sym ty.rolls-Unit) ∙ fold-roll-Ty Numbering numbering_step layer.Unit)
    by_numbering ty.Bool h = sym (ap numbering (sym ty.rolls-Bool) ∙ fold-roll-Ty Numbering numbering_step layer.Bool)
    by_numbering (ty.Bits n) h = sym (ap numbering (sym (ty.rolls-Bits n)) ∙ fold-roll-Ty Numbering numbering_step (layer.Bits n))
    by_numbering (ty.Mod n) h = sym (ap numbering (sym (ty.rolls-Mod n)) ∙ fold-roll-Ty Numbering numbering_step (layer.Mod n))
    by_numbering (ty.Enumeration name n) h = sym (ap numbering (sym (ty.rolls-Enumeration name n)) ∙ fold-roll-Ty Numbering numbering_step (layer.Enumeration name n))
    by_numbering (ty.Tuple' n r) h = ap tuple_of (rows_by_numbering r (sym (finite_tuple n r) ∙ h)) ∙ sym (numbering_tuple n r)
    by_numbering (ty.Opt' p (more_of-Ty x end_of-Ty)) h = ap option_of (by_numbering x (sym (finite_opt p x) ∙ h)) ∙ sym (numbering_opt p x)
    by_numbering (ty.Map' p (more_of-Ty k end_of-Ty) q (more_of-Ty x end_of-Ty)) h =
        let both = and_parts (is_finite k) (is_finite x) (sym (finite_map p q k x) ∙ h) in
        (λ i. map_of (by_numbering k both.0 i) (by_numbering x both.1 i)) ∙ sym (numbering_map p q k x)
    by_numbering (ty.Abstract name) h = not_both _ (finite_abstract name) h
    by_numbering (ty.Glob name) h = not_both _ (finite_glob name) h
    by_numbering (ty.Distr' p (more_of-Ty x end_of-Ty)) h = not_both _ (finite_distr p x) h
    by_numbering ty.Int h = not_both _ finite_int h
    by_numbering ty.Real h = not_both _ finite_real h

    rows_by_numbering : {n : Count} (r : Row_of-Ty n) → all_true (map is_finite (items-the_row-Ty _ r)) ≡ true → all_values_by a g r ≡ map numbering (items-the_row-Ty _ r)
    rows_by_numbering end_of-Ty h = refl
    rows_by_numbering (more_of-Ty t r) h =
        let both = and_parts (is_finite t) (all_true (map is_finite (items-the_row-Ty _ r))) h in
        λ i. by_numbering t both.0 i ∷ rows_by_numbering r both.1 i

-- the values of a type with a number of values of its own are those that the code counts
pub values_finite : (t : Types) (ty : Ty) → is_finite ty ≡ true → values t ty ≡ numbering ty
values_finite t ty h = by_numbering _ _ ty h
