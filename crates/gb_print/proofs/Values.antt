-- Values from their parts.
use Rattle.std.proofs.Common.{◌≡◌, List, codes, map, ap}
use Rattle.gb_core.specs.declared.value.Value.{Value, fold-roll-Value}
use Rattle.gb_core.specs.declared.value.Value.TheOpen as layer
use Rattle.gb_core.specs.declared.value.Value.TheVariants.{Many}
use Rattle.gb_print_names.specs.Text.{Text, Writing, ◌▸◌, word, separated}
use Rattle.gb_print.specs.Layout.{at_value, value_text}

pub many_is : (vs : List Value) (before : Text)
    → value_text (Many vs) before ≡ (word (codes "(") ▸ separated (codes ", ") (λ w. w) (map value_text vs) ▸ word (codes ")")) before
unfolding Rattle.gb_core.specs.declared.value.Value.TheViews.roll-Value denote.Hole.Carrier.roll
many_is vs before = ap (λ f. f before) (fold-roll-Value Writing at_value (layer.Many vs))
