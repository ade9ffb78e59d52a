-- Variables in order.
use Rattle.std.specs.Prelude.{if◌then◌else◌, List, [], ◌∷◌}
use Rattle.gb_core.specs.declared.var.Var.{Var}
use Rattle.gb_terms.specs.Equal.{var_eq}
use Rattle.gb_walk.specs.Clash.{comes_before}

-- a variable in its place among variables in order, each once
abbrev pub placed : Var → List Var → List Var
placed x [] = x ∷ []
placed x (y ∷ ys) = if comes_before x y then x ∷ y ∷ ys else if var_eq x y then y ∷ ys else y ∷ placed x ys

-- variables in their places among variables in order
abbrev pub joined : List Var → List Var → List Var
joined [] ys = ys
joined (x ∷ xs) ys = placed x (joined xs ys)
