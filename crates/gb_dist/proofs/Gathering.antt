-- Rows with their places, before and behind a sort.
use Rattle.std.proofs.Common.{◌≡◌, ℕ, suc, zero, ◌+◌, ◌*◌, ◌<◌, ◌≤◌, true, List, [], ◌∷◌, ◌++◌, length, get_or, drop, refl, sym, ap, ◌∙◌, arith, subst}
use Rattle.std.specs.List.{All}
use Rattle.std.specs.List.Sorted.{IsPermutation}
use Rattle.std.proofs.lemmas.List.{drop_more, drop_all, append_assoc, map-append}
use Rattle.std.proofs.lemmas.List.Sums.{sum_by_push}
use Rattle.std.proofs.lemmas.List.Sorted.{sum_by-IsPermutation, All-permutation}
use Rattle.gb_core.specs.declared.ty.Ty.{Ty}
use Rattle.gb_core.specs.declared.value.Value.{Value}
use Rattle.gb_core.specs.Types.{place_of, value_at}
use Rattle.gb_dist.specs.WeightedList.{WeightedList, mass, total}
use Rattle.gb_dist.specs.declared.row.Row.{Row}
use Rattle.gb_dist.specs.declared.sort.Placed.{Placed}
use Rattle.gb_dist.specs.Lists.{imaged, is_positive, IsIncreasing}
use Rattle.std.specs.Prelude.{Result, Ok, Err, IfOk}
use Rattle.gb_dist.specs.Places.{ArePlaced, ArePlacedBy, AreSameAtPlaces, IsGathered, IsPlaced, outcomes, placed_mass, places}
use Rattle.gb_dist.specs.Rows.{entries, are_positive}
use Rattle.gb_dist.proofs.Steps.{entry, entries_more, both, true_above}

-- a row stands with the place of its value, and has weight
pub record IsAt (ty : Ty) (p : Placed) : Type 0 where
  pub place : p.place ≡ place_of ty p.value
  pub back : value_at ty p.place ≡ p.value
  pub above : 0 < p.weight

placed_in : (ty : Ty) (rs : List Row) (i : ℕ) (d : Row) → ArePlaced ty (outcomes (entries rs)) → i < length rs → IsPlaced ty (get_or rs i d).value
placed_in ty [] i d h l = absurd (omega arith)
placed_in ty (x ∷ rs) zero d h l = h.0
placed_in ty (x ∷ rs) (suc i) d h l = placed_in ty rs i d h.1 (omega arith)

pub placed_row : (ty : Ty) (rs : List Row) (i : ℕ) (r : Row) → ArePlaced ty (outcomes (entries rs)) → i < length rs → r ≡ get_or rs i r → IsPlaced ty r.value
placed_row ty rs i r h l e = subst (λ (x : Row). IsPlaced ty x.value) (sym e) (placed_in ty rs i r h l)

positive_in : (rs : List Row) (i : ℕ) (d : Row) → are_positive rs ≡ true → i < length rs → 0 < (get_or rs i d).weight
positive_in [] i d h l = absurd (omega arith)
positive_in (x ∷ rs) zero d h l = true_above x.weight (both _ (are_positive rs) h).0
positive_in (x ∷ rs) (suc i) d h l = positive_in rs i d (both _ (are_positive rs) h).1 (omega arith)

pub positive_row : (rs : List Row) (i : ℕ) (r : Row) → are_positive rs ≡ true → i < length rs → r ≡ get_or rs i r → 0 < r.weight
positive_row rs i r h l e = subst (λ (x : Row). 0 < x.weight) (sym e) (positive_in rs i r h l)

-- a row takes its place
pub placed_step : (f : Value → ℕ) (rs : List Row) (ps more : List Placed) (p : Placed) (i : ℕ) (r : Row) (all : ℕ) → i < length rs → r ≡ get_or rs i r → more ≡ ps ++ p ∷ []
    → p.value ≡ r.value → p.weight ≡ r.weight → placed_mass f ps + mass (entries (drop i rs)) f ≡ all → placed_mass f more + mass (entries (drop (i + 1) rs)) f ≡ all
placed_step f rs ps more p i r all l e m v w before =
    let here : mass (entries (drop i rs)) f ≡ r.weight * f r.value + mass (entries (drop (i + 1) rs)) f = ap (λ (k : WeightedList Value). mass k f) (entries_more rs i r l e) in
    let pushed : placed_mass f more ≡ placed_mass f ps + p.weight * f p.value = ap (placed_mass f) m ∙ sum_by_push (λ (q : Placed). q.weight * f q.value) ps p in
    let same : p.weight * f p.value ≡ r.weight * f r.value = ap (λ (x : Value). p.weight * f x) v ∙ ap (λ n. n * f r.value) w in
    omega (arith, here, pushed, same, before)

pub placed_mass-permutation : (f : Value → ℕ) (ps qs : List Placed) → IsPermutation ps qs → placed_mass f qs ≡ placed_mass f ps
placed_mass-permutation f ps qs h = sum_by-IsPermutation (λ (p : Placed). p.weight * f p.value) ps qs h

pub same_at_places : (ty : Ty) (ps : List Placed) → All (IsAt ty) ps → AreSameAtPlaces ps
same_at_places ty ps h i j d l m e = sym (h i d l).back ∙ ap (value_at ty) e ∙ (h j d m).back

-- rows with images in place of their values
pub imaged_step : (vs : List Value) (rs out more : List Row) (i : ℕ) (v w : Value) (r : Row) (all : WeightedList Value) → i < length vs → i < length rs → v ≡ get_or vs i v
    → r ≡ get_or rs i r → w ≡ v → more ≡ out ++ (record { value = w; weight = r.weight }) ∷ []
    → entries out ++ imaged (drop i vs) (entries (drop i rs)) ≡ all → entries more ++ imaged (drop (i + 1) vs) (entries (drop (i + 1) rs)) ≡ all
imaged_step vs rs out more i v w r all h k e is same m before =
    let rest = imaged (drop (i + 1) vs) (entries (drop (i + 1) rs)) in
    let here : imaged (drop i vs) (entries (drop i rs)) ≡ (v, r.weight) ∷ rest =
    ap (λ (l : List Value). imaged l (entries (drop i rs))) (drop_more vs i v h) ∙ ap (λ (l : WeightedList Value). imaged (get_or vs i v ∷ drop (i + 1) vs) l) (entries_more rs i r k is)
    ∙ ap (λ (x : Value). (x, r.weight) ∷ rest) (sym e) in
    ap (λ (l : List Row). entries l ++ rest) m ∙ ap (λ (l : WeightedList Value). l ++ rest) (map-append entry out ((record { value = w; weight = r.weight }) ∷ []))
    ∙ append_assoc (entries out) ((w, r.weight) ∷ []) rest ∙ ap (λ (x : Value). entries out ++ (x, r.weight) ∷ rest) same ∙ ap (λ (l : WeightedList Value). entries out ++ l) (sym here) ∙ before

pub imaged_none : (vs : List Value) → imaged vs [] ≡ []
imaged_none [] = refl
imaged_none (v ∷ vs) = refl

pub positive_imaged : (vs : List Value) (l : WeightedList Value) → is_positive l ≡ true → is_positive (imaged vs l) ≡ true
positive_imaged [] l h = refl
positive_imaged (v ∷ vs) [] h = refl
positive_imaged (v ∷ vs) (e ∷ l) h = let p = both _ (is_positive l) h in rw (p.0, positive_imaged vs l p.1) refl

pub total_imaged : (vs : List Value) (l : WeightedList Value) → total (imaged vs l) ≤ total l
total_imaged [] l = omega arith
total_imaged (v ∷ vs) [] = omega arith
total_imaged (v ∷ vs) (e ∷ l) = omega (arith, total_imaged vs l)

pub placed_imaged : (ty : Ty) (vs : List Value) (l : WeightedList Value) → ArePlaced ty vs → ArePlaced ty (outcomes (imaged vs l))
placed_imaged ty [] l h = tt
placed_imaged ty (v ∷ vs) [] h = tt
placed_imaged ty (v ∷ vs) (e ∷ l) h = (h.0, placed_imaged ty vs l h.1)

done : (f : Value → ℕ) (rs : List Row) (i : ℕ) (ps : List Placed) (all : ℕ) → length rs ≤ i → placed_mass f ps + mass (entries (drop i rs)) f ≡ all → placed_mass f ps ≡ all
done f rs i ps all h e =
    let none : mass (entries (drop i rs)) f ≡ 0 = ap (λ (l : List Row). mass (entries l) f) (drop_all i rs h) in
    omega (arith, none, e)

-- what a sort keeps
pub sorted_facts : (ty : Ty) (rs : List Row) (i : ℕ) (ps qs sl : List Placed) → All (IsAt ty) ps
    → ((f : Value → ℕ) → placed_mass f ps + mass (entries (drop i rs)) f ≡ mass (entries rs) f) → length rs ≤ i → IsPermutation ps qs → sl ≡ qs
    → All (IsAt ty) sl × ((f : Value → ℕ) → placed_mass f sl ≡ mass (entries rs) f)
sorted_facts ty rs i ps qs sl all sum h perm e = (
  subst (λ (l : List Placed). All (IsAt ty) l) (sym e) (All-permutation (IsAt ty) ps qs perm all),
  λ f. ap (placed_mass f) e ∙ placed_mass-permutation f ps qs perm ∙ done f rs i ps _ h (sum f),
)

pub gathered_of : {E : Type 0} (ty : Ty) (l : WeightedList Value) (sl : List Placed) (q : Result (List Row) E) → All (IsAt ty) sl → ((f : Value → ℕ) → placed_mass f sl ≡ mass l f)
    → IfOk q (λ rs. (f : Value → ℕ) → mass (entries rs) f ≡ placed_mass f sl) → IfOk q (λ rs. are_positive rs ≡ true)
    → IfOk q (λ rs. (p : Value → ℕ) → ArePlacedBy p sl → IsIncreasing (places p (entries rs))) → IfOk q (IsGathered ty l)
gathered_of ty l sl (Ok rs) all sum m p r = record { same = λ f. m f ∙ sum f; positive = p; increasing = r (place_of ty) (λ k d h. (all k d h).place) }
gathered_of ty l sl (Err e) all sum m p r = tt
