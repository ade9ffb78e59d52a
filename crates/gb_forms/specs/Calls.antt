-- What is read of a memory after a call.
use Rattle.std.specs.Prelude.{Bool, not, ◌&&◌, ◌||◌, List}
use Rattle.std.specs.List.{list_any}
use Rattle.gb_core.specs.declared.var.Var.{Var}
use Rattle.gb_terms.specs.Equal.{var_eq}

-- whether a global is read of the memory after the call: by what is said of the outcome, or elsewhere than in the left side
abbrev pub is_left_of : List Var → List Var → List Var → Var → Bool
is_left_of xs said after x = list_any (var_eq x) said || (not (list_any (var_eq x) xs) && list_any (var_eq x) after)
