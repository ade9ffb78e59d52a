-- Variables in order, step by step.
use Rattle.std.proofs.Common.{◌≡◌, ℕ, ◌+◌, ◌-◌, ◌<◌, [], ◌∷◌, ◌++◌, get_or, length, take, refl, ap, ◌∙◌}
use Rattle.gb_mods.proofs.OrderSteps.{front_last}
use Rattle.gb_labels.specs.declared.reads.TypedVar.{TypedVar}
use Rattle.gb_labels.specs.Reads.{Vars}
use Rattle.gb_forms.specs.Ordered.{joined, placed}

-- the last of several variables first
joined_last : (xs : Vars) (x : TypedVar) (ys : Vars) → joined (xs ++ (x ∷ [])) ys ≡ joined xs (placed x ys)
joined_last [] x ys = refl
joined_last (z ∷ xs) x ys = ap (placed z) (joined_last xs x ys)

-- one variable less
pub joined_front : (list : Vars) (k : ℕ) (x : TypedVar) (ys : Vars) → k < length list → x ≡ get_or list ((length list - 1) - k) x →
    joined (take (length list - k) list) ys ≡ joined (take (length list - (k + 1)) list) (placed x ys)
joined_front list k x ys h e = ap (λ l. joined l ys) (front_last list k x h e) ∙ joined_last (take (length list - (k + 1)) list) x ys
