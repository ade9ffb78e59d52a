-- Labels: numbers that stand for the values of all globals of an abstract module.
use Rattle.std.specs.Prelude.{ℕ, suc, ◌*◌, ◌/◌, ◌%◌, if◌then◌else◌, Option, Some, None, List, [], ◌∷◌, bytes_eq}
use Rattle.gb_core.specs.declared.ty.Ty.{Ty, fold-Ty}
use Rattle.gb_core.specs.declared.ty.Ty.TheVariants as ty
use Rattle.gb_core.specs.declared.ty.Ty.TheOpen as layer
use Rattle.gb_meaning.specs.Names.{Name}
use Rattle.gb_labels.specs.declared.labels.Label.{Label}

-- for each of some modules, how many labels stand for the values of its globals
abbrev pub Labels : Type 0
Labels = List Label

abbrev pub count_of : Labels → Name → Option ℕ
count_of [] m = None
count_of (l ∷ ls) m = if bytes_eq l.name m then Some l.count else count_of ls m

-- The labels: the values of one global of type `int[n]`.
abbrev pub labels : ℕ → Ty
labels n = ty.Tuple (ty.Mod n ∷ [])

abbrev pub labels_or : Option ℕ → Ty → Ty
labels_or (Some n) t = labels n
labels_or None t = t

abbrev pub labelled_layer : Labels → layer.Ty-F Ty → Ty
labelled_layer ls (layer.Glob m) = labels_or (count_of ls m) (ty.Glob m)
labelled_layer ls layer.Unit = ty.Unit
labelled_layer ls layer.Bool = ty.Bool
labelled_layer ls (layer.Bits n) = ty.Bits n
labelled_layer ls (layer.Mod n) = ty.Mod n
labelled_layer ls (layer.Enumeration x n) = ty.Enumeration x n
labelled_layer ls (layer.Tuple ts) = ty.Tuple ts
labelled_layer ls (layer.Opt t) = ty.Opt t
labelled_layer ls (layer.Map k t) = ty.Map k t
labelled_layer ls (layer.Abstract x) = ty.Abstract x
labelled_layer ls (layer.Distr t) = ty.Distr t
labelled_layer ls layer.Int = ty.Int
labelled_layer ls layer.Real = ty.Real

-- a type with labels in place of the values of the modules' globals
abbrev pub labelled_ty : Labels → Ty → Ty
labelled_ty ls = fold-Ty Ty (labelled_layer ls)

-- Choices: for each module a number of labels from 1 up to a greatest one.

-- how many there are
abbrev pub choices : Labels → ℕ
choices [] = 1
choices (l ∷ ls) = l.count * choices ls

-- the choice at a place, the first module slowest
abbrev pub choice_at : Labels → ℕ → Labels
choice_at [] i = []
choice_at (l ∷ ls) i = record { name = l.name; count = suc (i / choices ls) } ∷ choice_at ls (i % choices ls)
