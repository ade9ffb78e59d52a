-- What is said of nodes, from their heads and parts.
use Rattle.std.proofs.Common.{◌≡◌, ◌⊎◌, inl, inr, ℕ, ◌<◌, ◌≤◌, Bool, false, ◌&&◌, List, [], ◌∷◌, map, length, get_or, Option, None, refl, ap, arith}
use Rattle.gb_core.specs.declared.place.Place.{Place}
use Rattle.gb_script.specs.declared.head.Head.{Head}
use Rattle.gb_script.specs.declared.head.Head.TheVariants as head
use Rattle.gb_script.specs.declared.tree.Node.{Node}
use Rattle.gb_script.specs.Tree.{head_of, text_of, parts_of, place_of}
use Rattle.gb_names.proofs.Nodes.{said_is}
use Rattle.gb_operators.specs.Literals.{dividing, divisor, divisor_in, inner, number_in, numbering, place_inside, placing, with_divisors, with_numbers, with_places}
use Rattle.gb_names.proofs.Parts.{one, two}
use Rattle.gb_operators.specs.Open.{is_open, is_some_name, open_alone, open_applied, open_both, opens, with_openness}

pub is_open_is : (t : Node) → is_open t ≡ opens (head_of t) (text_of t) (with_openness (parts_of t))
unfolding is_open
is_open_is t = said_is (λ h x ps p. opens h x ps) t

pub number_in_is : (t : Node) → number_in t ≡ numbering (head_of t) (text_of t) (with_numbers (parts_of t))
unfolding number_in
number_in_is t = said_is (λ h x ps p. numbering h x ps) t

pub divisor_in_is : (t : Node) → divisor_in t ≡ dividing (head_of t) (with_divisors (parts_of t))
unfolding divisor_in
divisor_in_is t = said_is (λ h x ps p. dividing h ps) t

pub place_inside_is : (t : Node) → place_inside t ≡ placing (head_of t) (with_places (parts_of t)) (place_of t)
unfolding place_inside
place_inside_is t = said_is (λ h x ps p. placing h ps p) t

-- forms of one part, of two, and names with an argument
module _ (h : Head) (x : List ℕ) (ps : List (Node × Bool)) where
  pub alone_is : (h ≡ head.Bracketed) ⊎ (h ≡ head.Negative) → opens h x ps ≡ open_alone ps
  unfolding opens
  alone_is (inl e) = ap (λ h. opens h x ps) e
  alone_is (inr e) = ap (λ h. opens h x ps) e

  pub both_is : (h ≡ head.Sum) ⊎ ((h ≡ head.Difference) ⊎ ((h ≡ head.Xor) ⊎ (h ≡ head.Product))) → opens h x ps ≡ open_both ps
  unfolding opens
  both_is (inl e) = ap (λ h. opens h x ps) e
  both_is (inr (inl e)) = ap (λ h. opens h x ps) e
  both_is (inr (inr (inl e))) = ap (λ h. opens h x ps) e
  both_is (inr (inr (inr e))) = ap (λ h. opens h x ps) e

  pub applied_is : h ≡ head.Apply → opens h x ps ≡ open_applied ps
  unfolding opens
  applied_is e = ap (λ h. opens h x ps) e

pub alone_one : (ts : List Node) (a : Node) → 1 ≤ length ts → length ts < 2 → a ≡ get_or ts 0 a → open_alone (with_openness ts) ≡ is_open a
alone_one ts a h k e = ap (λ us. open_alone (with_openness us)) (one ts a h k e)

pub alone_few : (ts : List Node) → length ts < 1 → open_alone (with_openness ts) ≡ false
alone_few [] h = refl
alone_few (t ∷ ts) h = absurd (omega (arith, h))

pub both_two : (ts : List Node) (a b : Node) → 2 ≤ length ts → length ts < 3 → a ≡ get_or ts 0 a → b ≡ get_or ts 1 b → open_both (with_openness ts) ≡ (is_open a && is_open b)
both_two ts a b h k e f = ap (λ us. open_both (with_openness us)) (two ts a b h k e f)

pub both_few : (ts : List Node) → length ts < 2 → open_both (with_openness ts) ≡ false
both_few [] h = refl
both_few (t ∷ []) h = refl
both_few (t ∷ u ∷ ts) h = absurd (omega (arith, h))

pub applied_two : (ts : List Node) (f a : Node) → 2 ≤ length ts → length ts < 3 → f ≡ get_or ts 0 f → a ≡ get_or ts 1 a
    → open_applied (with_openness ts) ≡ (is_some_name (head_of f) (text_of f) && is_open a)
applied_two ts f a h k e g = ap (λ us. open_applied (with_openness us)) (two ts f a h k e g)

pub applied_few : (ts : List Node) → length ts < 2 → open_applied (with_openness ts) ≡ false
applied_few [] h = refl
applied_few (t ∷ []) h = refl
applied_few (t ∷ u ∷ ts) h = absurd (omega (arith, h))

-- what the one part inside brackets gives
module _ {A : Type 0} (f : Node → Option A) where
  abbrev inside : List Node → Option A
  inside ts = inner (map (λ t. (t, f t)) ts)

  pub inner_one : (ts : List Node) (a : Node) → 1 ≤ length ts → length ts < 2 → a ≡ get_or ts 0 a → inside ts ≡ f a
  inner_one ts a h k e = ap inside (one ts a h k e)

  pub inner_few : (ts : List Node) → length ts < 1 → inside ts ≡ None
  inner_few [] h = refl
  inner_few (t ∷ ts) h = absurd (omega (arith, h))

pub divisor_one : (ts : List Node) (a : Node) → 1 ≤ length ts → length ts < 2 → a ≡ get_or ts 0 a → divisor (with_divisors ts) ≡ number_in a
divisor_one ts a h k e = ap (λ us. divisor (with_divisors us)) (one ts a h k e)

pub divisor_few : (ts : List Node) → length ts < 1 → divisor (with_divisors ts) ≡ None
divisor_few [] h = refl
divisor_few (t ∷ ts) h = absurd (omega (arith, h))

pub fraction_is : (h : Head) (ps : List (Node × Option ℕ)) → h ≡ head.ToReal → dividing h ps ≡ divisor ps
unfolding dividing
fraction_is h ps e = ap (λ h. dividing h ps) e

pub divided_is : (h : Head) (ps : List (Node × Option ℕ)) → h ≡ head.Bracketed → dividing h ps ≡ inner ps
unfolding dividing
divided_is h ps e = ap (λ h. dividing h ps) e

-- forms of other heads
pub not_open : (h : Head) (x : List ℕ) (ps : List (Node × Bool)) → (h ≡ head.Number → ⊥) → (h ≡ head.Name → ⊥) → (h ≡ head.Bracketed → ⊥) → (h ≡ head.Negative → ⊥) → (h ≡ head.Sum → ⊥) → (h ≡ head.Difference → ⊥) → (h ≡ head.Xor → ⊥) → (h ≡ head.Product → ⊥) → (h ≡ head.Apply → ⊥) → opens h x ps ≡ false
unfolding opens
not_open head.Number x ps a b c d e f g i j = absurd (a refl)
not_open head.Name x ps a b c d e f g i j = absurd (b refl)
not_open head.Bracketed x ps a b c d e f g i j = absurd (c refl)
not_open head.Negative x ps a b c d e f g i j = absurd (d refl)
not_open head.Sum x ps a b c d e f g i j = absurd (e refl)
not_open head.Difference x ps a b c d e f g i j = absurd (f refl)
not_open head.Xor x ps a b c d e f g i j = absurd (g refl)
not_open head.Product x ps a b c d e f g i j = absurd (i refl)
not_open head.Apply x ps a b c d e f g i j = absurd (j refl)
not_open _ x ps a b c d e f g i j = refl

pub no_number : (h : Head) (x : List ℕ) (ps : List (Node × Option ℕ)) → (h ≡ head.Number → ⊥) → (h ≡ head.Bracketed → ⊥) → numbering h x ps ≡ None
unfolding numbering
no_number head.Number x ps a b = absurd (a refl)
no_number head.Bracketed x ps a b = absurd (b refl)
no_number _ x ps a b = refl

pub no_divisor : (h : Head) (ps : List (Node × Option ℕ)) → (h ≡ head.ToReal → ⊥) → (h ≡ head.Bracketed → ⊥) → dividing h ps ≡ None
unfolding dividing
no_divisor head.ToReal ps a b = absurd (a refl)
no_divisor head.Bracketed ps a b = absurd (b refl)
no_divisor _ ps a b = refl

pub own_place : (h : Head) (ps : List (Node × Place)) (p : Place) → (h ≡ head.Bracketed → ⊥) → placing h ps p ≡ p
unfolding placing
own_place head.Bracketed ps p a = absurd (a refl)
own_place _ ps p a = refl
