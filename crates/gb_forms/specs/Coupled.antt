-- What is to hold before two samplings that functions couple.
use Rattle.std.specs.Prelude.{[], ◌∷◌}
use Rattle.gb_terms.specs.declared.term.Term.{Term}
use Rattle.gb_walk.specs.declared.change.Change.TheVariants.{OfBound}
use Rattle.gb_walk.specs.Change.{term_changed}
use Rattle.gb_typing.specs.Forms.{and_form, equal_form}
use Rattle.gb_typing.specs.Supports.{nearest, in_support, weight, for_support}
use Rattle.gb_forms.specs.declared.coupled.Coupled.{Coupled}

-- `f (g v)`
abbrev pub composed : Term → Term → Term
composed f g = term_changed f (OfBound 0 g ∷ [])

-- Each value on the right is the image of its source on the left, and the two weigh the same:
-- `forall v, v \in d2 => v = f (g v) /\ mu1 d2 v = mu1 d1 (g v)`.
abbrev pub keeps_weights : Coupled → Term
keeps_weights c =
    for_support c.right.ty c.right.from
    (and_form (equal_form (nearest c.right.ty) (composed c.maps.forth c.maps.back))
    (equal_form (weight c.right.from (nearest c.right.ty)) (weight c.left.from c.maps.back)))

-- Each value on the left has an image on the right, whose source it is, and Q holds of the two:
-- `forall v, v \in d1 => f v \in d2 /\ v = g (f v) /\ Q`.
abbrev pub couples : Coupled → Term → Term
couples c q =
    for_support c.left.ty c.left.from
    (and_form (and_form (in_support c.maps.forth c.right.from) (equal_form (nearest c.left.ty) (composed c.maps.back c.maps.forth))) q)

-- what is to hold before the two samplings, Q being said of their values
abbrev pub coupled_post : Coupled → Term → Term
coupled_post c q = and_form (keeps_weights c) (couples c q)
