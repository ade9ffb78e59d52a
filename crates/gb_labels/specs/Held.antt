-- Memories of which some variables are known.
use Rattle.std.specs.Prelude.{Bool, ◌&&◌, if◌then◌else◌, Option, Some, None, List, [], ◌∷◌}
use Rattle.gb_core.specs.declared.ty.Ty.{Ty}
use Rattle.gb_core.specs.declared.value.Value.{Value}
use Rattle.gb_core.specs.declared.var.Var.{Var}
use Rattle.gb_core.specs.SameTypes.{ty_eq}
use Rattle.gb_terms.specs.Equal.{var_eq}
use Rattle.gb_labels.specs.declared.held.Held.{Held}
use Rattle.gb_labels.specs.Reads.{Vars}

-- variables with values, in order, as far as there are both
abbrev pub with_values : Vars → List Value → List Held
with_values (x ∷ xs) (v ∷ vs) = record { var = x.var; ty = x.ty; value = v } ∷ with_values xs vs
with_values _ _ = []

abbrev pub is_of : Held → Var → Ty → Bool
is_of h x ty = var_eq h.var x && ty_eq h.ty ty

-- the value of a variable at a type, where it is known
abbrev pub value_of : List Held → Var → Ty → Option Value
value_of [] x ty = None
value_of (h ∷ hs) x ty = if is_of h x ty then Some h.value else value_of hs x ty
