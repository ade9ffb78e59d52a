-- Settings in which labels stand for the values of modules' globals.
use Rattle.std.specs.Prelude.{◌≢◌, ℕ, min, Option, Some, None, List, [], ◌∷◌}
use Rattle.std.specs.List.{AllByRecursion}
use Rattle.gb_core.specs.declared.var.Var.{Var}
use Rattle.gb_core.specs.declared.var.Var.TheVariants as var
use Rattle.gb_core.specs.declared.ty.Ty.TheVariants as ty
use Rattle.gb_terms.specs.declared.module.Mexp.{Mexp}
use Rattle.gb_terms.specs.declared.module.Mexp.TheVariants.{Name as named}
use Rattle.gb_meaning.specs.Names.{Name}
use Rattle.gb_meaning.specs.Values.{Global, Types, values}
use Rattle.gb_meaning.specs.Setting.{Setting}
use Rattle.gb_walk.specs.Clash.{Exclusions}
use Rattle.gb_labels.specs.Labels.{Labels, count_of}

-- as many as the globals of the module have values, but no more than a greatest number, if it has one
abbrev pub at_most : Option ℕ → ℕ → ℕ
at_most None n = n
at_most (Some k) n = min k n

abbrev pub label_count : Types → Labels → Name → ℕ
label_count t most a = at_most (count_of most a) (values t (ty.Glob a)).size

-- the one global of a module, under a name that is told for all modules
abbrev pub label_global : Name → Name → ℕ → Global
label_global own a n = record { parent = own; name = a; ty = ty.Mod n }

abbrev pub label_footprint : Name → (Name → ℕ) → (Mexp → List Global) → Mexp → List Global
label_footprint own num f (named a) = label_global own a (num a) ∷ []
label_footprint own num f m = f m

abbrev pub label_types : Name → (Name → ℕ) → Types → Types
label_types own num t = record { size = t.size; footprint = label_footprint own num t.footprint }

-- no variable that restrictions exclude is a global of the module of this name

abbrev pub IsUnnamed : Name → Var → Type 0
IsUnnamed own (var.Global m x) = m ≢ own
IsUnnamed own x = Unit {0}

abbrev pub AreUnnamed : Name → Exclusions → Type 0
AreUnnamed own es = AllByRecursion (λ e. AllByRecursion (IsUnnamed own) e.variables) es

-- the setting, in which each module has one global, of so many values
abbrev pub with_labels : Name → (Name → ℕ) → Setting → Setting
with_labels own num g = record g { types = label_types own num g.types }
