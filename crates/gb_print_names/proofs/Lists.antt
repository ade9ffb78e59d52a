-- Elements of lists, one after another.
use Rattle.std.proofs.Common.{◌≡◌, ℕ, ◌+◌, ◌<◌, List, [], ◌∷◌, Some, map, drop, get_or, length, refl, ap, sym, ◌∙◌}
use Rattle.std.specs.List.{slice_get}
use Rattle.std.proofs.lemmas.List.{at_drop_more}
use Rattle.std.proofs.lemmas.Option.{get_or_from_slice_get, slice_get_within}
use Rattle.gb_print_names.specs.Text.{each}

-- a list from one of its elements on
pub from_here : {X Y : Type 0} (f : List X → Y) (xs : List X) (i : ℕ) (x : X) → slice_get xs i ≡ Some x → f (drop i xs) ≡ f (x ∷ drop (i + 1) xs)
from_here f xs i x e = at_drop_more f xs i x (slice_get_within xs i x e) ∙ ap (λ y. f (y ∷ drop (i + 1) xs)) (get_or_from_slice_get xs i x x e)

-- a step for each element, by what a function makes of them
pub each_made : {A X : Type 0} (g : A → X → X) (us : List A) (x : X) → each (λ f. f) (map g us) x ≡ each g us x
each_made g [] x = refl
each_made g (a ∷ bs) x = each_made g bs (g a x)

-- a loop that takes a step for each element of a list, one element more
module _ {A X : Type 0} (xs : List A) (i : ℕ) (x : A) (within : i < length xs) (here : x ≡ get_or xs i x) where
  pub each_more : (f : A → X → X) (before after start : X) → after ≡ f x before → each f (drop i xs) before ≡ start → each f (drop (i + 1) xs) after ≡ start
  each_more f before after start is all =
      ap (each f (drop (i + 1) xs)) is
      ∙ sym (at_drop_more (λ ys. each f ys before) xs i x within ∙ ap (λ y. each f (y ∷ drop (i + 1) xs) before) (sym here))
      ∙ all

  -- .. by what a function makes of them
  pub each_made_more : {B : Type 0} (g : A → B) (f : B → X → X) (before after start : X) → after ≡ f (g x) before → each f (map g (drop i xs)) before ≡ start
      → each f (map g (drop (i + 1) xs)) after ≡ start
  each_made_more g f before after start is all =
      ap (each f (map g (drop (i + 1) xs))) is
      ∙ sym (at_drop_more (λ ys. each f (map g ys) before) xs i x within ∙ ap (λ y. each f (map g (y ∷ drop (i + 1) xs)) before) (sym here))
      ∙ all
