-- Variables at their types, in order.
use Rattle.std.specs.Prelude.{Bool, ◌&&◌, if◌then◌else◌, [], ◌∷◌}
use Rattle.gb_core.specs.SameTypes.{ty_eq}
use Rattle.gb_terms.specs.Equal.{var_eq}
use Rattle.gb_walk.specs.Clash.{comes_before}
use Rattle.gb_labels.specs.declared.reads.TypedVar.{TypedVar}
use Rattle.gb_labels.specs.Reads.{Vars}

-- the same variable at the same type
abbrev pub is_same : TypedVar → TypedVar → Bool
is_same x y = var_eq x.var y.var && ty_eq x.ty y.ty

-- a variable in its place among variables in order, each once
abbrev pub placed : TypedVar → Vars → Vars
placed x [] = x ∷ []
placed x (y ∷ ys) = if comes_before x.var y.var then x ∷ y ∷ ys else if is_same x y then y ∷ ys else y ∷ placed x ys

-- variables in their places among variables in order
abbrev pub joined : Vars → Vars → Vars
joined [] ys = ys
joined (x ∷ xs) ys = placed x (joined xs ys)
