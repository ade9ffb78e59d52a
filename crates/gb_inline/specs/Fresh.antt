-- New names of locals.
use Rattle.std.specs.Prelude.{ℕ, Bool, zero, suc, ◌+◌, ◌^◌, if◌then◌else◌, List, [], ◌∷◌, ◌++◌, Option, Some, None}
use Rattle.std.specs.Fmt.{decimal}
use Rattle.std.specs.List.{list_any}
use Rattle.std.specs.Option.{option_map}
use Rattle.gb_core.specs.declared.var.Var.{Var}
use Rattle.gb_core.specs.declared.var.Var.TheVariants.{Local}
use Rattle.gb_terms.specs.declared.decl.TypedName.{TypedName}
use Rattle.gb_terms.specs.Equal.{var_eq}
use Rattle.gb_meaning.specs.Names.{Name}
use Rattle.gb_inline.specs.declared.fresh.Renaming.{Renaming}

-- `l0`, `l1`, ..
abbrev pub numbered : ℕ → Name
numbered k = 108 ∷ decimal k

-- a local among these variables has this name
abbrev pub is_taken : List Var → Name → Bool
is_taken used x = list_any (var_eq (Local x)) used

-- the first of so many names from a number on that no local among these variables has
unfoldable pub free_from : ℕ → ℕ → List Var → Option Name
free_from zero k used = None
free_from (suc n) k used = if is_taken used (numbered k) then free_from n (k + 1) used else Some (numbered k)

-- the first of `l0`, `l1`, .. that none has (there are fewer variables than names that are tried)
abbrev pub free_name : List Var → Option Name
free_name used = free_from (2 ^ 32) 0 used

-- a local under a new name
abbrev pub under_name : TypedName → Name → Renaming
under_name l x = record { old = l.name; new = record { name = x; ty = l.ty } }

abbrev pub renamed_first : TypedName → (Name → Option (List Renaming)) → Option Name → Option (List Renaming)
renamed_first l next None = None
renamed_first l next (Some x) = option_map (λ rs. under_name l x ∷ rs) (next x)

-- each of these locals under the first new name that neither these variables nor those before it have
abbrev pub new_names : List Var → List TypedName → Option (List Renaming)
new_names used [] = Some []
new_names used (l ∷ ls) = renamed_first l (λ x. new_names (used ++ Local x ∷ []) ls) (free_name used)
