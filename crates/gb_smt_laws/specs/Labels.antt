-- Settings in which all globals of a module have the values of labels.
use Rattle.std.specs.Prelude.{◌≡◌, ℕ, Some}
use Rattle.gb_core.specs.declared.ty.Ty.TheVariants.{Glob}
use Rattle.gb_meaning.specs.Names.{Name}
use Rattle.gb_meaning.specs.Values.{Types, values}
use Rattle.gb_labels.specs.Labels.{Labels, count_of, labels}

-- the values of the globals of each of these modules are as many labels as it has
abbrev pub AreLabels : Types → Labels → Type 0
AreLabels t ls = (m : Name) (k : ℕ) → count_of ls m ≡ Some k → values t (Glob m) ≡ values t (labels k)
