-- The globals of a world that a test takes, where each stands there once, are in the order of the world, each at its type.
use Rattle.std.proofs.Common.{◌≡◌, Bool, true, false, ◌&&◌, ◌||◌, List, [], ◌∷◌, filter, Some, if◌then◌else◌, bytes_eq, refl, ap, sym, ◌∙◌, subst}
use Rattle.std.specs.List.{list_any}
use Rattle.std.proofs.lemmas.Bool.{false≢true, and_parts}
use Rattle.std.proofs.lemmas.Slice.Eq.{bytes_eq-Decides}
use Rattle.gb_core.specs.declared.var.Var.{Var}
use Rattle.gb_core.specs.declared.var.Var.TheVariants as var
use Rattle.gb_meaning.specs.Names.{Name}
use Rattle.gb_meaning.specs.Values.{Global, World}
use Rattle.gb_meaning.specs.Footprints.{footprint_globals, is_global, stands_for}
use Rattle.gb_meaning.specs.Programs.{AreIn, AreInOrder, AreOnce}
use Rattle.gb_meaning.specs.Typing.{global_type}

pub itself : (g : Global) → is_global g g ≡ true
itself g = λ i. (bytes_eq-Decides g.parent g.parent).1 refl i && (bytes_eq-Decides g.name g.name).1 refl i

-- a test that takes a global by its names
module _ (p : Global → Bool) (by_names : (x y : Global) → is_global x y ≡ true → p x ≡ p y) where
  -- what is taken is taken by a global of these names
  taken : (w : World) (g : Global) → list_any (is_global g) (filter p w) ≡ true → p g ≡ true
  taken [] g e = absurd (false≢true e)
  taken (x ∷ w) g e = step (p x) refl (taken w g) e
    where
      here : p x ≡ true → (b : Bool) → is_global g x ≡ b → (list_any (is_global g) (filter p w) ≡ true → p g ≡ true) → (b || list_any (is_global g) (filter p w)) ≡ true → p g ≡ true
      here k true h rest e = by_names g x h ∙ k
      here k false h rest e = rest e

      step : (b : Bool) → p x ≡ b → (list_any (is_global g) (filter p w) ≡ true → p g ≡ true) → list_any (is_global g) (if b then x ∷ filter p w else filter p w) ≡ true → p g ≡ true
      step true k rest e = here k (is_global g x) refl rest e
      step false k rest e = rest e

  -- more is found where more is in the list
  abbrev Finds : List Global → Global → Type 0
  Finds ys g = list_any (is_global g) ys ≡ true

  found_here : (x : Global) (ys : List Global) → Finds (x ∷ ys) x
  found_here x ys = ap (λ b. b || list_any (is_global x) ys) (itself x)

  found_more : (b : Bool) (c : Bool) → c ≡ true → (b || c) ≡ true
  found_more true c e = refl
  found_more false c e = e

  -- globals of a world are taken by the list of those that are taken, exactly where they are taken
  module _ (ys : List Global) (only : (g : Global) → Finds ys g → p g ≡ true) where
    same_test : (g : Global) → (p g ≡ true → Finds ys g) → list_any (is_global g) ys ≡ p g
    same_test g there = step (list_any (is_global g) ys) refl (p g) refl
      where
        step : (a : Bool) → list_any (is_global g) ys ≡ a → (b : Bool) → p g ≡ b → a ≡ b
        step true h true k = refl
        step false h false k = refl
        step true h false k = absurd (false≢true (sym k ∙ only g h))
        step false h true k = absurd (false≢true (sym h ∙ there k))

    -- those of the world that are among them, where each that is taken is among them
    all_filtered : (w : World) → ((g : Global) → list_any (is_global g) (filter p w) ≡ true → Finds ys g) → filter (λ g. list_any (is_global g) ys) w ≡ filter p w
    all_filtered [] f = refl
    all_filtered (x ∷ w) f = step (p x) refl f (all_filtered w)
      where
        last : (b : Bool) → p x ≡ b → list_any (is_global x) ys ≡ b → filter (λ g. list_any (is_global g) ys) w ≡ filter p w →
            filter (λ g. list_any (is_global g) ys) (x ∷ w) ≡ (if b then x ∷ filter p w else filter p w)
        last b k h rest = (λ i. if h i then x ∷ filter (λ g. list_any (is_global g) ys) w else filter (λ g. list_any (is_global g) ys) w) ∙ (λ i. if b then x ∷ rest i else rest i)

        step : (b : Bool) → p x ≡ b → ((g : Global) → list_any (is_global g) (if b then x ∷ filter p w else filter p w) ≡ true → Finds ys g) →
            (((g : Global) → list_any (is_global g) (filter p w) ≡ true → Finds ys g) → filter (λ g. list_any (is_global g) ys) w ≡ filter p w) →
            filter (λ g. list_any (is_global g) ys) (x ∷ w) ≡ (if b then x ∷ filter p w else filter p w)
        step true k f rest =
            last true k (same_test x (λ e. f x (found_here x (filter p w))) ∙ k) (rest (λ g e. f g (found_more (is_global g x) (list_any (is_global g) (filter p w)) e)))
        step false k f rest = last false k (same_test x (λ e. absurd (false≢true (sym k ∙ e))) ∙ k) (rest f)

  pub filtered_ordered : (w : World) → AreInOrder w (filter p w)
  filtered_ordered w = all_filtered (filter p w) (taken w) w (λ g e. e)

-- Each at its type.

pub same_found : (v : World) (y x : Global) → is_global y x ≡ true → list_any (is_global y) v ≡ true → list_any (is_global x) v ≡ true
same_found v y x k e =
    let z = and_parts (bytes_eq y.parent x.parent) (bytes_eq y.name x.name) k in
    subst (λ n. list_any (λ g. bytes_eq x.parent g.parent && bytes_eq n g.name) v ≡ true) ((bytes_eq-Decides y.name x.name).0 z.1)
    (subst (λ m. list_any (λ g. bytes_eq m g.parent && bytes_eq y.name g.name) v ≡ true) ((bytes_eq-Decides y.parent x.parent).0 z.0) e)

-- a global of a list without these names has other names
other_names : (v : World) (x : Global) → list_any (is_global x) v ≡ false → (y : Global) → list_any (is_global y) v ≡ true → is_global y x ≡ false
other_names v x o y e = step (is_global y x) refl
  where
    step : (b : Bool) → is_global y x ≡ b → b ≡ false
    step true k = absurd (false≢true (sym o ∙ same_found v y x k e))
    step false k = refl

pub or_true : (b c : Bool) → c ≡ true → (b || c) ≡ true
or_true true c e = refl
or_true false c e = e

module _ (p : Global → Bool) where
  -- the first list gives the globals of the second one the types that this does
  abbrev Behind : World → World → Type 0
  Behind w v = (x : Global) → list_any (is_global x) v ≡ true → global_type w x.parent x.name ≡ global_type v x.parent x.name

  behind_rest : (w : World) (x : Global) (v : World) → list_any (is_global x) v ≡ false → Behind w (x ∷ v) → Behind w v
  behind_rest w x v o h y e =
      h y (or_true (is_global y x) (list_any (is_global y) v) e)
      ∙ ap (λ (b : Bool). if b then Some x.ty else global_type v y.parent y.name) (other_names v x o y e)

  behind_here : (w : World) (x : Global) (v : World) → Behind w (x ∷ v) → global_type w x.parent x.name ≡ Some x.ty
  behind_here w x v h =
      h x (ap (λ b. b || list_any (is_global x) v) (itself x))
      ∙ ap (λ (b : Bool). if b then Some x.ty else global_type v x.parent x.name) (itself x)

  kept_in : (w : World) (x : Global) (ys : List Global) (b : Bool) → global_type w x.parent x.name ≡ Some x.ty → AreIn w ys → AreIn w (if b then x ∷ ys else ys)
  kept_in w x ys true e k = (e, k)
  kept_in w x ys false e k = k

  each_in : (w v : World) → AreOnce v → Behind w v → AreIn w (filter p v)
  each_in w [] o h = tt
  each_in w (x ∷ v) o h = kept_in w x (filter p v) (p x) (behind_here w x v h) (each_in w v o.1 (behind_rest w x v o.0 h))

  pub filtered_in : (w : World) → AreOnce w → AreIn w (filter p w)
  filtered_in w o = each_in w w o (λ x e. refl)

-- Footprints.

module _ (f : Name → List Global) where
  entry_same : (x y : Global) → is_global x y ≡ true → (v : Var) → stands_for f x v ≡ stands_for f y v
  entry_same x y e v =
      let z = and_parts (bytes_eq x.parent y.parent) (bytes_eq x.name y.name) e in
      by_parts x y ((bytes_eq-Decides x.parent y.parent).0 z.0) ((bytes_eq-Decides x.name y.name).0 z.1) v
    where
      by_parts : (x y : Global) → x.parent ≡ y.parent → x.name ≡ y.name → (v : Var) → stands_for f x v ≡ stands_for f y v
      by_parts x y p q (var.Global m n) = λ i. bytes_eq m (p i) && bytes_eq n (q i)
      by_parts x y p q (var.Local n) = refl
      by_parts x y p q (var.Glob a) = λ i. list_any (λ g. bytes_eq (p i) g.parent && bytes_eq (q i) g.name) (f a)

  entries_same : (xs : List Var) (x y : Global) → is_global x y ≡ true → list_any (stands_for f x) xs ≡ list_any (stands_for f y) xs
  entries_same [] x y e = refl
  entries_same (v ∷ xs) x y e = λ i. entry_same x y e v i || entries_same xs x y e i

  ordered_with : (w : World) (xs : List Var) → AreInOrder w (footprint_globals w f xs)
  ordered_with w xs = filtered_ordered (λ g. list_any (stands_for f g) xs) (entries_same xs) w

pub footprint_ordered : (w : World) (f : Name → List Global) (xs : List Var) → AreInOrder w (footprint_globals w f xs)
footprint_ordered w f xs = ordered_with f w xs

pub footprint_in : (w : World) → AreOnce w → (f : Name → List Global) (xs : List Var) → AreIn w (footprint_globals w f xs)
footprint_in w o f xs = filtered_in (λ g. list_any (stands_for f g) xs) w o
