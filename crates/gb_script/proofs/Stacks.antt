-- Values on stacks.
use Rattle.std.specs.Prelude.{ℕ, zero, suc, ◌≡◌, ◌<◌, List, [], ◌∷◌, ◌++◌, take, drop, length, map, Result, IfOk}
use Rattle.std.proofs.Common.{refl, ap, sym, subst, ◌∙◌, append_assoc, arith, length-append}
use Rattle.gb_core.specs.declared.place.Place.{Place}
use Rattle.std.specs.declared.alloc.AllocError.{AllocError}
use Rattle.gb_script.specs.declared.tree.Node.{Node}
use Rattle.gb_script.specs.declared.value.Value.{Value}
use Rattle.gb_script.specs.Value.{trees_of, flattened}
use Rattle.gb_script.specs.Build.{into, extended_behind, extended}

module _ {A : Type 0} where
  pub take_none : (n : ℕ) → take n (let e : List A = [] in e) ≡ []
  take_none zero = refl
  take_none (suc n) = refl

  pub drop_none : (n : ℕ) → drop n (let e : List A = [] in e) ≡ []
  drop_none zero = refl
  drop_none (suc n) = refl

  pub append_nil : (xs : List A) → xs ++ [] ≡ xs
  append_nil [] = refl
  append_nil (x ∷ xs) = ap (λ l. x ∷ l) (append_nil xs)

  pub taken_more : (taken taken' stack new all : List A) (x : A) (m n : ℕ) → stack ≡ x ∷ new → taken' ≡ taken ++ x ∷ [] → m ≡ suc n → taken ++ take m stack ≡ all → taken' ++ take n new ≡ all
  taken_more taken taken' stack new all x m n e f g h =
      ap (λ (l : List A). l ++ take n new) f ∙ append_assoc taken (x ∷ []) (take n new)
      ∙ ap (λ (k : ℕ). taken ++ take k (x ∷ new)) (sym g) ∙ ap (λ (l : List A). taken ++ take m l) (sym e) ∙ h

  pub dropped_more : (stack new all : List A) (x : A) (m n : ℕ) → stack ≡ x ∷ new → m ≡ suc n → drop m stack ≡ all → drop n new ≡ all
  dropped_more stack new all x m n e g h = ap (λ (k : ℕ). drop k (x ∷ new)) (sym g) ∙ ap (λ (l : List A). drop m l) (sym e) ∙ h

  pub taken_all : (taken stack all : List A) (n : ℕ) → stack ≡ [] → taken ++ take n stack ≡ all → taken ≡ all
  taken_all taken stack all n e h =
      sym (append_nil taken) ∙ ap (λ (l : List A). taken ++ l) (sym (take_none n)) ∙ ap (λ (l : List A). taken ++ take n l) (sym e) ∙ h

  pub moved : (rest front stack on all : List A) (x : A) → rest ≡ front ++ x ∷ [] → on ≡ x ∷ stack → rest ++ stack ≡ all → front ++ on ≡ all
  moved rest front stack on all x e f h = ap (λ (l : List A). front ++ l) f ∙ (sym (append_assoc front (x ∷ []) stack) ∙ (ap (λ (l : List A). l ++ stack) (sym e) ∙ h))

  pub shorter : (rest front : List A) (x : A) → rest ≡ front ++ x ∷ [] → length front < length rest
  shorter rest front x e = let n = ap (λ (l : List A). length l) e in omega (arith, n, length-append front (x ∷ []))

pub flat_end : (front : List Value) (v : Value) → flattened (front ++ v ∷ []) ≡ flattened front ++ trees_of v
flat_end [] v = append_nil (trees_of v)
flat_end (x ∷ front) v = ap (λ (l : List Node). trees_of x ++ l) (flat_end front v) ∙ sym (append_assoc (trees_of x) (flattened front) (trees_of v))

pub flat_moved : (rest front : List Value) (v : Value) (all on whole : List Node) → rest ≡ front ++ v ∷ [] → on ≡ trees_of v ++ all → flattened rest ++ all ≡ whole → flattened front ++ on ≡ whole
flat_moved rest front v all on whole e f h =
    ap (λ (l : List Node). flattened front ++ l) f ∙ sym (append_assoc (flattened front) (trees_of v) all)
    ∙ ap (λ (l : List Node). l ++ all) (sym (flat_end front v)) ∙ ap (λ (l : List Value). flattened l ++ all) (sym e) ∙ h

map_end : (f : Value → Node) (front : List Value) (v : Value) → map f (front ++ v ∷ []) ≡ map f front ++ f v ∷ []
map_end f [] v = refl
map_end f (x ∷ front) v = ap (λ l. f x ∷ l) (map_end f front v)

pub map_moved : (f : Value → Node) (rest front : List Value) (v : Value) (all on whole : List Node) → rest ≡ front ++ v ∷ [] → on ≡ f v ∷ all → map f rest ++ all ≡ whole → map f front ++ on ≡ whole
map_moved f rest front v all on whole e g h =
    ap (λ (l : List Node). map f front ++ l) g ∙ sym (append_assoc (map f front) (f v ∷ []) all)
    ∙ ap (λ (l : List Node). l ++ all) (sym (map_end f front v)) ∙ ap (λ (l : List Value). map f l ++ all) (sym e) ∙ h

-- values in front of the last one
extension : (p : Place) (before front : List Value) (v : Value) → extended_behind p before (front ++ v ∷ []) ≡ into p (before ++ front) v
extension p before [] v = ap (λ (l : List Value). into p l v) (sym (append_nil before))
extension p before (x ∷ []) v = refl
extension p before (x ∷ y ∷ front) v = extension p (before ++ x ∷ []) (y ∷ front) v ∙ ap (λ (l : List Value). into p l v) (append_assoc before (x ∷ []) (y ∷ front))

pub extends : (p : Place) (values front : List Value) (v : Value) (r : Result Value AllocError) → values ≡ front ++ v ∷ [] → IfOk r (λ z. z ≡ into p front v) → IfOk r (λ z. z ≡ extended p values)
extends p values front v r e f = subst (λ (x : Value). IfOk r (λ z. z ≡ x)) (sym (extension p [] front v) ∙ ap (λ (l : List Value). extended p l) (sym e)) f
