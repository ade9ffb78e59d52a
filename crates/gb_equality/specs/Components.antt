-- Hypotheses that are joined by the variables that they share.
use Rattle.std.specs.Prelude.{ℕ, zero, suc, Bool, true, false, not, ◌||◌, ◌&&◌, if◌then◌else◌, List, [], ◌∷◌, map, filter, length}
use Rattle.std.specs.List.{list_any}
use Rattle.gb_terms.specs.declared.term.Term.{Term}
use Rattle.gb_closing.specs.Linked.{Vars, share}
use Rattle.gb_equality.specs.Variables.{variables}

-- whether a chain of at most n of the lists leads from the first variables to these: each shares a variable with the
-- one before it
abbrev pub joined : ℕ → List Vars → Vars → Vars → Bool
joined zero all from own = false
joined (suc n) all from own = share own from || list_any (λ vs. joined n all from vs && share own vs) all

-- whether a hypothesis is joined with variables, through any others
abbrev pub is_joined : List Term → Vars → Term → Bool
is_joined hyps from h = joined (length hyps) (map variables hyps) from (variables h)

-- the hypotheses that are joined with variables, and the others
abbrev pub inside : List Term → Vars → List Term
inside hyps from = filter (is_joined hyps from) hyps

abbrev pub outside : List Term → Vars → List Term
outside hyps from = filter (λ h. not (is_joined hyps from h)) hyps

-- the terms that are marked so
abbrev pub marked : Bool → List Term → List Bool → List Term
marked wanted (t ∷ ts) (true ∷ bs) = if wanted then t ∷ marked wanted ts bs else marked wanted ts bs
marked wanted (t ∷ ts) (false ∷ bs) = if wanted then marked wanted ts bs else t ∷ marked wanted ts bs
marked wanted _ _ = []
