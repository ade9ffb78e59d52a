-- Functions that are given to couple two samplings.
use Rattle.std.proofs.Common.{◌≡◌, ◌<◌, List, [], ◌∷◌, length, None, refl, arith}
use Rattle.gb_core.specs.declared.ty.Ty.{Ty}
use Rattle.gb_terms.specs.declared.term.Term.{Term}
use Rattle.gb_equiv.specs.Rnd.{maps}

pub too_many : (fs : List Term) (a b : Ty) → 2 < length fs → maps fs a b ≡ None
too_many [] a b h = absurd (omega arith)
too_many (f ∷ []) a b h = absurd (omega arith)
too_many (f ∷ g ∷ []) a b h = absurd (omega arith)
too_many (f ∷ g ∷ k ∷ fs) a b h = refl
