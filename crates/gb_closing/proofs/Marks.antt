-- Lists of variables and their marks, from one place on.
use Rattle.std.proofs.Common.{◌≡◌, ℕ, ◌+◌, ◌<◌, Bool, true, false, ◌||◌, ◌&&◌, List, [], length, get_or, drop, refl, sym, ap, ◌∙◌, arith}
use Rattle.std.proofs.lemmas.List.{drop_more}
use Rattle.gb_closing.specs.Linked.{Vars, linked, share}

-- the rest of two lists, one place further
module _ (own : Vars) (all : List Vars) (marks : List Bool) (at : ℕ) (l : at < length all) (e : length marks ≡ length all) where
  pub linked_unmarked : get_or marks at false ≡ false → linked own (drop at all) (drop at marks) ≡ linked own (drop (at + 1) all) (drop (at + 1) marks)
  linked_unmarked y =
      let m : at < length marks = omega arith in
      (λ i. linked own (drop_more all at [] l i) (drop_more marks at false m i))
      ∙ ap (λ z. (z && share own (get_or all at [])) || linked own (drop (at + 1) all) (drop (at + 1) marks)) y

  apart : (b : Bool) (vs : Vars) → share own vs ≡ false → ((b && share own vs) || linked own (drop (at + 1) all) (drop (at + 1) marks)) ≡ linked own (drop (at + 1) all) (drop (at + 1) marks)
  apart false vs h = refl
  apart true vs h = ap (λ z. z || linked own (drop (at + 1) all) (drop (at + 1) marks)) h

  pub linked_apart : (vs : Vars) → vs ≡ get_or all at vs → share own vs ≡ false → linked own (drop at all) (drop at marks) ≡ linked own (drop (at + 1) all) (drop (at + 1) marks)
  linked_apart vs x h =
      let m : at < length marks = omega arith in
      (λ i. linked own (drop_more all at vs l i) (drop_more marks at false m i))
      ∙ apart (get_or marks at false) (get_or all at vs) (ap (share own) (sym x) ∙ h)
