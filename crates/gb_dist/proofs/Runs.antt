-- Runs of rows with one place.
use Rattle.std.proofs.Common.{◌≡◌, ℕ, ◌+◌, ◌*◌, ◌<◌, ◌≤◌, true, List, [], ◌∷◌, ◌++◌, length, get_or, drop, refl, ap, ◌∙◌, arith}
use Rattle.std.specs.Prelude.{◌≢◌}
use Rattle.std.specs.List.Sorted.{IsNonDecreasingBy}
use Rattle.std.proofs.lemmas.List.{get_or_default, map-append}
use Rattle.std.proofs.lemmas.List.Sums.{sum_by-drop_more, sum_by-take-drop}
use Rattle.gb_core.specs.declared.value.Value.{Value}
use Rattle.gb_dist.specs.WeightedList.{WeightedList, mass}
use Rattle.gb_dist.proofs.Masses.{mass-append}
use Rattle.gb_dist.specs.declared.row.Row.{Row}
use Rattle.gb_dist.specs.declared.sort.Placed.{Placed}
use Rattle.gb_dist.specs.Lists.{is_positive}
use Rattle.gb_dist.specs.Places.{placed_mass, places, AreSameAtPlaces}
use Rattle.gb_dist.specs.Rows.{entries, are_positive}
use Rattle.gb_dist.proofs.Steps.{entry, positive_append, above_true}

pub mass_more : (f : Value → ℕ) (ps : List Placed) (i : ℕ) (d : Placed) → i < length ps
    → placed_mass f (drop i ps) ≡ (get_or ps i d).weight * f (get_or ps i d).value + placed_mass f (drop (i + 1) ps)
mass_more f ps i d h = sum_by-drop_more (λ (p : Placed). p.weight * f p.value) ps i d h

pub mass_rest : (f : Value → ℕ) (ps : List Placed) (i : ℕ) → placed_mass f (drop i ps) ≤ placed_mass f ps
mass_rest f ps i = omega (arith, sum_by-take-drop (λ (p : Placed). p.weight * f p.value) ps i)

same_value : (ps : List Placed) (i j : ℕ) (a b d e : Placed) → AreSameAtPlaces ps → i < length ps → j < length ps → (get_or ps i a).place ≡ (get_or ps j b).place
    → (get_or ps i d).value ≡ (get_or ps j e).value
same_value ps i j a b d e same h k is =
    let at : (get_or ps i d).place ≡ (get_or ps j d).place = ap (λ (p : Placed). p.place) (get_or_default ps i d a h) ∙ is ∙ ap (λ (p : Placed). p.place) (get_or_default ps j b d k) in
    same i j d h k at ∙ ap (λ (p : Placed). p.value) (get_or_default ps j d e k)

-- a run takes the weight of a row of its place
pub run_step : (f : Value → ℕ) (ps : List Placed) (from end weight : ℕ) (a b d e : Placed) (all : ℕ) → AreSameAtPlaces ps → from < length ps → end < length ps
    → (get_or ps end a).place ≡ (get_or ps from b).place → weight * f (get_or ps from e).value + placed_mass f (drop end ps) ≡ all
    → (weight + (get_or ps end d).weight) * f (get_or ps from e).value + placed_mass f (drop (end + 1) ps) ≡ all
run_step f ps from end weight a b d e all same h k is before =
    let one : (get_or ps end d).weight * f (get_or ps end d).value ≡ (get_or ps end d).weight * f (get_or ps from e).value =
    ap (λ (v : Value). (get_or ps end d).weight * f v) (same_value ps end from a b d e same k h is) in
    omega (arith, one, mass_more f ps end d k, before)

pub mass_pushed : (rs more : List Row) (r : Row) (f : Value → ℕ) → more ≡ rs ++ r ∷ [] → mass (entries more) f ≡ mass (entries rs) f + r.weight * f r.value
mass_pushed rs more r f e =
    ap (λ (l : List Row). mass (entries l) f) e ∙ ap (λ (l : WeightedList Value). mass l f) (map-append entry rs (r ∷ []))
    ∙ mass-append (entries rs) (entry r ∷ []) f ∙ omega arith

pub positive_pushed : (rs more : List Row) (r : Row) → more ≡ rs ++ r ∷ [] → are_positive rs ≡ true → 0 < r.weight → are_positive more ≡ true
positive_pushed rs more r e h k =
    ap (λ (l : List Row). are_positive l) e ∙ ap is_positive (map-append entry rs (r ∷ []))
    ∙ positive_append (entries rs) (entry r ∷ []) h (rw (above_true r.weight k) refl)

pub places_pushed : (p : Value → ℕ) (rs more : List Row) (r : Row) → more ≡ rs ++ r ∷ [] → places p (entries more) ≡ places p (entries rs) ++ p r.value ∷ []
places_pushed p rs more r e =
    ap (λ (l : List Row). places p (entries l)) e ∙ ap (λ (l : WeightedList Value). places p l) (map-append entry rs (r ∷ []))
    ∙ map-append (λ (x : Value × ℕ). p x.0) (entries rs) (entry r ∷ [])

-- the place behind a run is above that of the run, and so is each one behind it
pub place_behind : (ps : List Placed) (from end k : ℕ) (d : Placed) → IsNonDecreasingBy (λ (p : Placed). p.place) ps → from < end → end ≤ k → k < length ps
    → (get_or ps end d).place ≢ (get_or ps from d).place → (get_or ps from d).place < (get_or ps k d).place
place_behind ps from end k d up h l m other = omega (arith, up from end d (omega arith) (omega arith), up end k d l m, other)
