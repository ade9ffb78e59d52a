-- A loop that writes each element of a list on a page, one element more.
use Rattle.std.proofs.Common.{◌≡◌, ℕ, ◌+◌, ◌<◌, List, map, drop, get_or, length, ap, ◌∙◌}
use Rattle.gb_print_names.specs.declared.bound_names.Known.{Known}
use Rattle.gb_print_names.specs.declared.text.Page.{Page}
use Rattle.gb_print_names.specs.Text.{Text, Writing, ◌▸◌, each, word}
use Rattle.gb_print_names.proofs.Lists.{each_more, each_made_more}

module _ {A : Type 0} (xs : List A) (i : ℕ) (x : A) (within : i < length xs) (here : x ≡ get_or xs i x) where
  -- a word, and behind it the element, on a page
  pub page_more : (w : Text) (f : List Known → A → Writing) (b : List Known) (p q : Page) (between start : Text)
      → between ≡ word w p.text → q ≡ record { text = f p.bound x between; bound = p.bound } → p.bound ≡ b
      → each (λ y. word w ▸ f b y) (drop i xs) p.text ≡ start
      → record { same : q.bound ≡ b; text : each (λ y. word w ▸ f b y) (drop (i + 1) xs) q.text ≡ start }
  page_more w f b p q between start from made same all = record {
    same = ap (λ r. r.bound) made ∙ same;
    text =
        each_more xs i x within here (λ y. word w ▸ f b y) p.text q.text start
        (ap (λ r. r.text) made ∙ ap (f p.bound x) from ∙ ap (λ k. f k x (word w p.text)) same) all;
  }

  pub page_made_more : {B : Type 0} (w : Text) (g : A → B) (f : List Known → B → Writing) (b : List Known) (p q : Page) (between start : Text)
      → between ≡ word w p.text → q ≡ record { text = f p.bound (g x) between; bound = p.bound } → p.bound ≡ b
      → each (λ y. word w ▸ f b y) (map g (drop i xs)) p.text ≡ start
      → record { same : q.bound ≡ b; text : each (λ y. word w ▸ f b y) (map g (drop (i + 1) xs)) q.text ≡ start }
  page_made_more w g f b p q between start from made same all = record {
    same = ap (λ r. r.bound) made ∙ same;
    text =
        each_made_more xs i x within here g (λ y. word w ▸ f b y) p.text q.text start
        (ap (λ r. r.text) made ∙ ap (f p.bound (g x)) from ∙ ap (λ k. f k (g x) (word w p.text)) same) all;
  }
