-- Comparisons of a probability with a bound: what their parts are, and that these are typed.
use Rattle.std.proofs.Common.{◌≡◌, Bool, true, false, [], ◌∷◌, Option, Some, None, refl, sym, subst}
use Rattle.std.proofs.lemmas.Option.{same_Some, none-some}
use Rattle.gb_core.specs.declared.ty.Ty.TheVariants as ty
use Rattle.gb_terms.specs.declared.op.Op.TheVariants as op
use Rattle.gb_terms.specs.declared.op.Rel.{Rel}
use Rattle.gb_terms.specs.declared.op.Rel.TheVariants.{AtMost, Equal, AtLeast}
use Rattle.gb_terms.specs.declared.term.Head.TheVariants as head
use Rattle.gb_terms.specs.declared.term.Term.{Term}
use Rattle.gb_meaning.specs.Written.{type_of}
use Rattle.gb_typing.specs.Context.{Context}
use Rattle.gb_typing.specs.Typing.{IsForm, IsTyped}
use Rattle.gb_typing.proofs.Made.{parts_typed}
use Rattle.gb_prog.specs.Compared.{compared}
use Rattle.gb_steps.specs.Chances.{Chance, Bounded, bounded_by, bounded_in, bounded_of, chance_of, compared_of, speaks, unless}
use Rattle.gb_pr.proofs.ChanceForms.{comparison_is}

-- a probability that is compared with a bound
pub record IsBounded (f : Term) (b : Bounded) : Type 0 where
  pub term : Term
  pub chance : chance_of term ≡ Some b.chance
  pub is : f ≡ compared b.rel term b.bound

given_unless : {A : Type 0} (b : Bool) (x y : A) → unless b x ≡ Some y → x ≡ y
given_unless true x y e = absurd (none-some y e)
given_unless false x y e = same_Some x y e

module _ (f : Term) (b : Bounded) where
  -- the probability stands on the left
  on_left : (r : Rel) (a c : Term) (k : Chance) → f ≡ compared r a c → chance_of a ≡ Some k → unless (speaks true c) (record { chance = k; rel = r; bound = c }) ≡ Some b → IsBounded f b
  on_left r a c k h p e = subst (IsBounded f) (given_unless (speaks true c) (record { chance = k; rel = r; bound = c }) b e) (record { term = a; chance = p; is = h })

  -- or on the right
  on_right : (a c : Term) (k : Chance) → f ≡ compared AtMost a c → chance_of c ≡ Some k → unless (speaks true a) (record { chance = k; rel = AtLeast; bound = a }) ≡ Some b → IsBounded f b
  on_right a c k h p e = subst (IsBounded f) (given_unless (speaks true a) (record { chance = k; rel = AtLeast; bound = a }) b e) (record { term = c; chance = p; is = h })

  by_sides : (r : Rel) (a c : Term) → f ≡ compared r a c → (x y : Option Chance) → chance_of a ≡ x → chance_of c ≡ y → bounded_by r x y a c ≡ Some b → IsBounded f b
  by_sides AtMost a c h (Some k) y p q e = on_left AtMost a c k h p e
  by_sides Equal a c h (Some k) y p q e = on_left Equal a c k h p e
  by_sides AtLeast a c h (Some k) y p q e = on_left AtLeast a c k h p e
  by_sides AtMost a c h None (Some k) p q e = on_right a c k h q e
  by_sides AtMost a c h None None p q e = absurd (none-some b e)
  by_sides Equal a c h None y p q e = absurd (none-some b e)
  by_sides AtLeast a c h None y p q e = absurd (none-some b e)

  pub is_bounded : type_of f ≡ ty.Bool → bounded_of f ≡ Some b → IsBounded f b
  is_bounded w e = step (compared_of f) refl e
    where
      step : (o : Option (Rel × Term × Term)) → compared_of f ≡ o → bounded_in o ≡ Some b → IsBounded f b
      step (Some (r, a, c)) h e = by_sides r a c (comparison_is f w r a c h) (chance_of a) (chance_of c) refl refl e
      step None h e = absurd (none-some b e)

-- the sides of a comparison are typed, and of one type
pub sides_made : (c : Context) (r : Rel) (a b : Term) → IsTyped c (compared r a b) → IsTyped c a × IsTyped c b × (type_of b ≡ type_of a)
sides_made c AtMost a b w = let k = parts_typed c (head.Builtin op.AtMost) (a ∷ b ∷ []) ty.Bool w in (k.3.0, k.3.1, sym k.0.1)
sides_made c Equal a b w = let k = parts_typed c (head.Builtin op.Equal) (a ∷ b ∷ []) ty.Bool w in (k.3.0, k.3.1, sym k.0.1)
sides_made c AtLeast a b w = let k = parts_typed c (head.Builtin op.AtMost) (b ∷ a ∷ []) ty.Bool w in (k.3.1, k.3.0, k.0.1)

-- so is the probability, where the comparison is
pub term_typed : (c : Context) (f : Term) → IsForm c f → (b : Bounded) (z : IsBounded f b) → IsTyped c z.term
term_typed c f w b z = (sides_made c b.rel z.term b.bound (subst (IsTyped c) z.is w.typed)).0
