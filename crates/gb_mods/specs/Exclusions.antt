-- What restrictions of abstract modules exclude.
use Rattle.std.specs.Prelude.{ℕ, List, [], ◌∷◌, ◌++◌, map, Option, Some}
use Rattle.gb_core.specs.declared.var.Var.{Var}
use Rattle.gb_core.specs.declared.var.Var.TheVariants.{Global, Glob}
use Rattle.gb_terms.specs.declared.decl.TypedName.{TypedName}
use Rattle.gb_terms.specs.declared.module.Bind.{Bind}
use Rattle.gb_walk.specs.declared.clash.Excluded.{Excluded}
use Rattle.gb_walk.specs.Clash.{Exclusions}
use Rattle.gb_goal.specs.declared.scope.Entry.{Entry}
use Rattle.gb_goal.specs.declared.scope.Entry.TheVariants as entry
use Rattle.gb_goal.specs.Scope.{Declarations, entry_of}

-- the globals that a module of this name declares
abbrev pub own_globals : List ℕ → List TypedName → List Var
own_globals m xs = map (λ x. Global m x.name) xs

-- what a restriction excludes that names this module: the globals that it declares, and all of an abstract one
abbrev pub excluded_by : List ℕ → Option Entry → List Var
excluded_by m (Some (entry.Module d)) = own_globals m d.globals
excluded_by m (Some (entry.AbstractModule b)) = Glob m ∷ []
excluded_by m _ = []

-- .. that names these
abbrev pub kept_out : Declarations → List (List ℕ) → List Var
kept_out ds [] = []
kept_out ds (m ∷ ms) = excluded_by m (entry_of ds m) ++ kept_out ds ms

abbrev pub exclusion : Declarations → Bind → Excluded
exclusion ds b = record { «module» = b.name; variables = kept_out ds b.minus }

-- what the restriction excludes, if this is an abstract module
abbrev pub exclusion_of : Declarations → Option Entry → Exclusions
exclusion_of ds (Some (entry.AbstractModule b)) = exclusion ds b ∷ []
exclusion_of ds _ = []

abbrev pub exclusions_among : Declarations → Declarations → Exclusions
exclusions_among ds [] = []
exclusions_among ds (d ∷ es) = exclusion_of ds (Some d.1) ++ exclusions_among ds es

-- what the restriction of each declared abstract module excludes
unfoldable pub exclusions : Declarations → Exclusions
exclusions ds = exclusions_among ds ds
