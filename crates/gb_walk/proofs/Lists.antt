-- Lists of what arguments become.
use Rattle.std.proofs.Common.{◌≡◌, ℕ, ◌+◌, ◌<◌, ◌-◌, take, take_all, append_assoc, le_of_eq, length-drop, refl, sym, ap, ◌∙◌, List, [], ◌∷◌, ◌++◌, map, drop, length, get_or, Bool, ◌||◌}
use Rattle.std.specs.List.{list_any}
use Rattle.std.proofs.lemmas.List.{at_drop_more}
use Rattle.gb_walk.specs.Layers.{where_last, seen_by}

-- functions of a list, each at one argument
pub applied_map : {X A B : Type 0} (g : X → A → B) (k : A) (xs : List X) → map (λ f. f k) (map g xs) ≡ map (λ x. g x k) xs
applied_map g k [] = refl
applied_map g k (x ∷ xs) = ap (λ l. g x k ∷ l) (applied_map g k xs)

pub any_applied : {X A : Type 0} (g : X → A → Bool) (k : A) (xs : List X) → list_any (λ f. f k) (map g xs) ≡ list_any (λ x. g x k) xs
any_applied g k [] = refl
any_applied g k (x ∷ xs) = ap (λ b. g x k || b) (any_applied g k xs)

-- one argument more
pub seen_by_more : {X A B : Type 0} (g : X → A → B) (y z : A) (xs : List X) (i : ℕ) (x : X) → i < length xs → x ≡ get_or xs i x →
    seen_by y z (map g (drop i xs)) ≡ g x (where_last (drop (i + 1) xs) y z) ∷ seen_by y z (map g (drop (i + 1) xs))
seen_by_more {X} g y z xs i x h e =
    at_drop_more (λ ys. seen_by y z (map g ys)) xs i x h
    ∙ ap (λ v. seen_by y z (map g (v ∷ drop (i + 1) xs))) (sym e)
    ∙ ap (λ w. g x w ∷ seen_by y z (map g (drop (i + 1) xs))) (last_of_map (drop (i + 1) xs))
  where
    last_of_map : (ys : List X) → where_last (map g ys) y z ≡ where_last ys y z
    last_of_map [] = refl
    last_of_map (v ∷ ys) = refl

-- one argument made more, by what it sees
pub seen_by_pushed : {X A B : Type 0} (g : X → A → B) (y z : A) (xs : List X) (i : ℕ) (x : X) → i < length xs → x ≡ get_or xs i x →
    (out new all : List B) (b : B) (seen : A) → new ≡ out ++ (b ∷ []) → b ≡ g x seen →
    seen ≡ where_last (take (length xs - (i + 1)) (drop (i + 1) xs)) y z →
    out ++ seen_by y z (map g (drop i xs)) ≡ all → new ++ seen_by y z (map g (drop (i + 1) xs)) ≡ all
seen_by_pushed {X} g y z xs i x h e out new all b seen pushed made at before =
    ap (λ l. l ++ seen_by y z (map g behind)) pushed
    ∙ append_assoc out (b ∷ []) (seen_by y z (map g behind))
    ∙ ap (λ v. out ++ (v ∷ seen_by y z (map g behind))) (made ∙ ap (g x) (at ∙ ap (λ l. where_last l y z) (take_all (length xs - (i + 1)) behind (le_of_eq (length-drop (i + 1) xs)))))
    ∙ ap (λ l. out ++ l) (sym (seen_by_more g y z xs i x h e))
    ∙ before
  where
    behind : List X
    behind = drop (i + 1) xs

-- arguments that all see the same
pub seen_by_same : {X A B : Type 0} (g : X → A → B) (k : A) (xs : List X) → seen_by k k (map g xs) ≡ map (λ x. g x k) xs
seen_by_same g k [] = refl
seen_by_same g k (x ∷ xs) = λ j. g x (either (map g xs) j) ∷ seen_by_same g k xs j
  where
    either : {B : Type 0} (fs : List B) → where_last fs k k ≡ k
    either [] = refl
    either (f ∷ fs) = refl
