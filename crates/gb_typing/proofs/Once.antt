-- The globals of a footprint are of types of variables, and stand in it once.
use Rattle.std.proofs.Common.{◌≡◌, Bool, true, false, ◌||◌, if◌then◌else◌, List, [], ◌∷◌, filter, refl, sym, ◌∙◌, subst}
use Rattle.std.specs.List.{list_any}
use Rattle.std.proofs.lemmas.Bool.{false≢true}
use Rattle.gb_terms.specs.declared.module.Mexp.TheVariants.{Name as named}
use Rattle.gb_meaning.specs.Names.{Name}
use Rattle.gb_meaning.specs.Values.{Global}
use Rattle.gb_meaning.specs.Declared.{Declarations}
use Rattle.gb_meaning.specs.Footprints.{is_global}
use Rattle.gb_meaning.specs.Programs.{AreOnce}
use Rattle.gb_meaning.specs.Settings.{Interpretation, types_of, setting}
use Rattle.gb_meaning.proofs.SettingTypes.{setting-types}
use Rattle.gb_laws.specs.Finite.{AreVariables, IsInhabited}
use Rattle.gb_typing.specs.Chosen.{IsFittingWorld}

module _ (p : Global → Bool) where
  none_left : (x : Global) (xs : List Global) → list_any (is_global x) xs ≡ false → list_any (is_global x) (filter p xs) ≡ false
  none_left x [] e = refl
  none_left x (y ∷ ys) e = step (none_left x ys) (is_global x y) refl e
    where
      kept : (c : Bool) → is_global x y ≡ false → list_any (is_global x) (filter p ys) ≡ false → list_any (is_global x) (if c then y ∷ filter p ys else filter p ys) ≡ false
      kept true n e = (λ i. n i || list_any (is_global x) (filter p ys)) ∙ e
      kept false n e = e

      step : (list_any (is_global x) ys ≡ false → list_any (is_global x) (filter p ys) ≡ false) → (b : Bool) → is_global x y ≡ b → (b || list_any (is_global x) ys) ≡ false → list_any (is_global x) (filter p (y ∷ ys)) ≡ false
      step rest true n e = absurd (false≢true (sym e))
      step rest false n e = kept (p y) n (rest e)

  once_left : (xs : List Global) → AreOnce xs → AreOnce (filter p xs)
  once_left [] o = tt
  once_left (x ∷ xs) o = step (once_left xs o.1) (p x)
    where
      step : AreOnce (filter p xs) → (c : Bool) → AreOnce (if c then x ∷ filter p xs else filter p xs)
      step rest true = (none_left x xs o.0, rest)
      step rest false = rest

  variables_left : (xs : List Global) → AreVariables xs → AreVariables (filter p xs)
  variables_left [] v = tt
  variables_left (x ∷ xs) v = step (variables_left xs v.1) (p x)
    where
      step : AreVariables (filter p xs) → (c : Bool) → AreVariables (if c then x ∷ filter p xs else filter p xs)
      step rest true = (v.0, rest)
      step rest false = rest

pub types_inhabited : (ds : Declarations) (i : Interpretation) → IsFittingWorld i → IsInhabited (types_of ds i)
types_inhabited ds i w = record { sizes = w.sizes; globals = λ m. variables_left _ i.world w.variables }

pub footprints_once : (ds : Declarations) (i : Interpretation) → AreOnce i.world → (a : Name) → AreOnce ((setting ds i).types.footprint (named a))
footprints_once ds i o a = subst (λ t. AreOnce (t.footprint (named a))) (sym (setting-types ds i)) (once_left _ i.world o)
