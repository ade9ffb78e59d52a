-- The numbers of an operator tell which it is.
use Rattle.std.proofs.Common.{◌≡◌, ℕ, [], ◌∷◌, get_or, refl, sym, ◌∙◌}
use Rattle.gb_terms.specs.declared.op.Op.{Op}
use Rattle.gb_terms.specs.declared.op.Op.TheVariants.{Not, And, Or, Implies, Iff, Equal, NotEqual, Less, AtMost, Plus, Minus, Times, Negate, Xor, Divide, ToReal, Abs, If, Tuple, Part, Some, None, Oget, Empty, Get, Set, InMap, InSupport, Mu1, Coin, Uniform, Dunit, Product}
use Rattle.gb_terms.specs.Operators.{op_place, op_part}

-- the operator at a place
abbrev op_at : ℕ → ℕ → Op
op_at n i = get_or (Not ∷ And ∷ Or ∷ Implies ∷ Iff ∷ Equal ∷ NotEqual ∷ Less ∷ AtMost ∷ Plus ∷ Minus ∷ Times ∷ Negate ∷ Xor ∷ Divide ∷ ToReal ∷ Abs ∷ If ∷ Tuple ∷ Part i ∷ Some ∷ None ∷ Oget ∷ Empty ∷ Get ∷ Set ∷ InMap ∷ InSupport ∷ Mu1 ∷ Coin ∷ Uniform ∷ Dunit ∷ Product ∷ []) n Not

op_back : (a : Op) → op_at (op_place a) (op_part a) ≡ a
op_back (Part i) = refl
op_back _ = refl

pub same_operator : (a b : Op) → op_place a ≡ op_place b → op_part a ≡ op_part b → a ≡ b
same_operator a b p q = sym (op_back a) ∙ (λ i. op_at (p i) (q i)) ∙ op_back b
