-- The number that lies with a goal is that of the nodes from it on.
use Rattle.std.proofs.Common.{◌≡◌, ℕ, zero, suc, List, [], ◌∷◌, map, sum, drop, Option, Some, None, refl, sym, ap, ◌∙◌}
use Rattle.std.specs.List.{slice_get}
use Rattle.gb_terms.specs.Nodes.{saturated}
use Rattle.gb_steps.specs.declared.goals.Open.{Open}
use Rattle.gb_steps.specs.Goals.{goals_of, AreCounted}
use Rattle.gb_goal.specs.Nodes.{sequent_nodes}

-- the nodes of all but the first few goals
abbrev behind : ℕ → List Open → ℕ
behind at opens = saturated (sum (map sequent_nodes (drop at (goals_of opens))))

some_is : {A : Type 0} (x y : A) → Some x ≡ Some y → x ≡ y
some_is x y e = cc

pub counted_at : (opens : List Open) (at : ℕ) (o : Open) → AreCounted opens → slice_get opens at ≡ Some o → o.nodes ≡ behind at opens
counted_at [] at o is e = absurd (cc)
counted_at (x ∷ opens) zero o is e = ap (λ (y : Open). y.nodes) (sym (some_is x o e)) ∙ is.0
counted_at (x ∷ opens) (suc at) o is e = counted_at opens at o is.1 e

pub none_behind : (opens : List Open) (at : ℕ) → slice_get opens at ≡ None → 0 ≡ behind at opens
none_behind [] zero e = refl
none_behind [] (suc at) e = refl
none_behind (x ∷ opens) zero e = absurd (cc)
none_behind (x ∷ opens) (suc at) e = none_behind opens at e
