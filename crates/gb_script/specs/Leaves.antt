-- From which tokens the texts and places of nodes come.
use Rattle.std.specs.Prelude.{◌≡◌, ◌⊎◌, ℕ, List, []}
use Rattle.gb_core.specs.declared.place.Place.{Place}
use Rattle.gb_script.specs.declared.text.Text.{Text}
use Rattle.gb_script.specs.declared.tree.Node.{Node}
use Rattle.gb_script.specs.Text.{name_at, place_at}
use Rattle.gb_script.specs.Tree.{text_of, place_of}

module _ (t : Text) where
  -- There are no bytes, or those of a token of the text.
  abbrev pub IsNameOf : List ℕ → Type 0
  IsNameOf x = (x ≡ []) ⊎ ((at : ℕ) × (x ≡ name_at t at))

  -- A token of the text stands at the place, or its end.
  abbrev pub IsPlaceOf : Place → Type 0
  IsPlaceOf p = (at : ℕ) × (p ≡ place_at t at)

  -- The node's text and place are such ones.
  abbrev pub IsOf : Node → Type 0
  IsOf x = IsNameOf (text_of x) × IsPlaceOf (place_of x)
