-- Labels of rows, in their order. The labels 0 and 1 are those of false and true forms.
use Rattle.std.specs.Prelude.{ℕ, List, map, get_or}

abbrev pub label_at : List ℕ → ℕ → ℕ
label_at ls k = get_or ls k 0

-- the labels of the arguments of a row
abbrev pub labels_at : List ℕ → List ℕ → List ℕ
labels_at ls places = map (label_at ls) places
