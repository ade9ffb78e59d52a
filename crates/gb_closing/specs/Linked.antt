-- Lists of variables, and which of them share variables with others.
use Rattle.std.specs.Prelude.{Bool, false, ◌||◌, ◌&&◌, List, ◌∷◌}
use Rattle.std.specs.List.{list_any}
use Rattle.gb_terms.specs.declared.op.Read.{Read}
use Rattle.gb_terms.specs.Equal.{read_eq}
use Rattle.gb_closing.specs.declared.linked.Variable.{Variable}

abbrev pub Vars : Type 0
Vars = List Variable

abbrev pub is_among : Vars → Read → Bool
is_among vs r = list_any (λ v. read_eq v.read r) vs

abbrev pub share : Vars → Vars → Bool
share vs ws = list_any (λ v. is_among ws v.read) vs

-- whether one of the marked lists shares a variable with these
abbrev pub linked : Vars → List Vars → List Bool → Bool
linked own (vs ∷ all) (b ∷ bs) = (b && share own vs) || linked own all bs
linked own _ _ = false
