-- Names of parameters.
use Rattle.std.specs.Prelude.{Bool, true, ◌&&◌, not, List, [], ◌∷◌, is_some}
use Rattle.gb_terms.specs.declared.decl.TypedName.{TypedName}
use Rattle.gb_meaning.specs.Written.{local_type}

-- Whether no two have the same name: of parameters of one name an equation would speak of one of them alone.
abbrev pub own_names : List TypedName → Bool
own_names [] = true
own_names (x ∷ xs) = not (is_some (local_type xs x.name)) && own_names xs
