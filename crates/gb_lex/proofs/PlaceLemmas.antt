-- Places after a text, byte by byte.
use Rattle.std.proofs.Common.{◌≡◌, ℕ, List, ◌++◌}
use Rattle.std.proofs.lemmas.List.Sums.{fold-append}
use Rattle.gb_core.specs.declared.place.Place.{Place}
use Rattle.gb_lex.specs.PlaceAfter.{next_place, place_after}

pub place_after-append : (p : Place) (a b : List ℕ) → place_after p (a ++ b) ≡ place_after (place_after p a) b
unfolding place_after
place_after-append p a b = fold-append next_place p a b

pub ruleset appended = (place_after-append)
