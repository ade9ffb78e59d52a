-- Things, each noted once: what stands in the list, and how many modules' names they give.
use Rattle.std.proofs.Common.{◌≡◌, ◌⊎◌, inl, inr, ◌+◌, ◌<◌, ℕ, zero, suc, Bool, true, false, not, ◌||◌, if◌then◌else◌, Some, List, [], ◌∷◌, ◌++◌, refl, ap, sym, ◌∙◌, subst, arith}
use Rattle.std.proofs.lemmas.Bool.{false≢true}
use Rattle.gb_terms.specs.declared.op.Read.{Read}
use Rattle.gb_terms.specs.Equal.{read_eq}
use Rattle.gb_terms.proofs.Equality.{read_eq-Decides}
use Rattle.gb_meaning.specs.Names.{Name}
use Rattle.gb_labels.specs.declared.things.Source.{Source}
use Rattle.gb_labels.specs.declared.things.Source.TheVariants.{Variable, Opened, Place}
use Rattle.gb_labels.specs.declared.things.Thing.{Thing}
use Rattle.gb_labels.specs.Things.{holds_glob, modules_of, modules_in, is_once, is_noted, with_new, noted}
use Rattle.gb_labels.proofs.Same.{are_one}
use Rattle.gb_closing_laws.specs.Needs.{names_in, times}
use Rattle.gb_closing_laws.proofs.Globless.{uncounted_modules}
use Rattle.gb_closing_laws.proofs.Room.{times_append, both_some}

pub read_is : (r q : Read) → read_eq r q ≡ true → r ≡ q
read_is r q = (read_eq-Decides r q).0

same_read : (r : Read) → read_eq r r ≡ true
same_read r = (read_eq-Decides r r).1 refl

-- sources that count once are one
pub once_is : (s q : Source) → is_once s q ≡ true → q ≡ s
once_is (Variable r) (Variable q) e = ap Variable (read_is q r e)
once_is (Opened t) (Opened u) e = ap Opened (are_one u t e)
once_is (Variable r) (Opened u) e = absurd (false≢true e)
once_is (Variable r) Place e = absurd (false≢true e)
once_is (Opened t) (Variable q) e = absurd (false≢true e)
once_is (Opened t) Place e = absurd (false≢true e)
once_is Place q e = absurd (false≢true e)

-- the thing stands in the list
abbrev pub Among : Thing → List Thing → Type 0
Among x [] = ⊥
Among x (y ∷ ys) = (y ≡ x) ⊎ Among x ys

abbrev pub Each : (Thing → Type 0) → List Thing → Type 0
Each P [] = Unit {0}
Each P (x ∷ xs) = P x × Each P xs

module _ (P : Thing → Type 0) where
  pub each_at : (x : Thing) (xs : List Thing) → Each P xs → Among x xs → P x
  each_at x [] k q = absurd q
  each_at x (y ∷ ys) k (inl e) = subst P e k.0
  each_at x (y ∷ ys) k (inr q) = each_at x ys k.1 q

  pub each_append : (xs ys : List Thing) → Each P xs → Each P ys → Each P (xs ++ ys)
  each_append [] ys k l = l
  each_append (x ∷ xs) ys k l = (k.0, each_append xs ys k.1 l)

  pub each_left : (xs ys : List Thing) → Each P (xs ++ ys) → Each P xs
  each_left [] ys k = tt
  each_left (x ∷ xs) ys k = (k.0, each_left xs ys k.1)

  pub each_right : (xs ys : List Thing) → Each P (xs ++ ys) → Each P ys
  each_right [] ys k = k
  each_right (x ∷ xs) ys k = each_right xs ys k.1

  pub each_of : (xs : List Thing) → ((x : Thing) → Among x xs → P x) → Each P xs
  each_of [] k = tt
  each_of (x ∷ xs) k = (k x (inl refl), each_of xs (λ y q. k y (inr q)))

  -- what holds of things, holds of those that are noted
  pub noted_each : (seen xs : List Thing) → Each P seen → Each P xs → Each P (noted seen xs)
  noted_each seen [] k l = k
  noted_each seen (x ∷ xs) k l = noted_each (with_new seen x) xs (step (not (holds_glob x.ty) || is_noted seen x.source)) l.1
    where
      step : (b : Bool) → Each P (if b then seen else seen ++ x ∷ [])
      step true = k
      step false = each_append seen (x ∷ []) k (l.0, tt)

among_left : (x : Thing) (xs ys : List Thing) → Among x xs → Among x (xs ++ ys)
among_left x [] ys q = absurd q
among_left x (y ∷ xs) ys (inl e) = inl e
among_left x (y ∷ xs) ys (inr q) = inr (among_left x xs ys q)

among_right : (x : Thing) (xs ys : List Thing) → Among x ys → Among x (xs ++ ys)
among_right x [] ys q = q
among_right x (y ∷ xs) ys q = inr (among_right x xs ys q)

not_true : (b c : Bool) → (not b || c) ≡ false → b ≡ true
not_true true c e = refl
not_true false c e = absurd (false≢true (sym e))

-- each thing that is noted is of a type that holds globals
pub noted_holds : (seen xs : List Thing) → Each (λ x. holds_glob x.ty ≡ true) seen → Each (λ x. holds_glob x.ty ≡ true) (noted seen xs)
noted_holds seen [] k = k
noted_holds seen (x ∷ xs) k = noted_holds (with_new seen x) xs (step (not (holds_glob x.ty) || is_noted seen x.source) refl)
  where
    step : (b : Bool) → (not (holds_glob x.ty) || is_noted seen x.source) ≡ b → Each (λ y. holds_glob y.ty ≡ true) (if b then seen else seen ++ x ∷ [])
    step true e = k
    step false e = each_append (λ y. holds_glob y.ty ≡ true) seen (x ∷ []) k (not_true (holds_glob x.ty) (is_noted seen x.source) e, tt)

noted_kept : (y : Thing) (seen xs : List Thing) → Among y seen → Among y (noted seen xs)
noted_kept y seen [] q = q
noted_kept y seen (x ∷ xs) q = noted_kept y (with_new seen x) xs (step (not (holds_glob x.ty) || is_noted seen x.source))
  where
    step : (b : Bool) → Among y (if b then seen else seen ++ x ∷ [])
    step true = q
    step false = among_left y seen (x ∷ []) q

-- the thing, or one of the same source
abbrev pub Stands : Thing → List Thing → Type 0
Stands x ys = (y : Thing) × Among y ys × (y.source ≡ x.source) × (x.source ≡ Place → y ≡ x)

-- what is noted stands there
pub noted_source : (s : Source) (ys : List Thing) → is_noted ys s ≡ true → (y : Thing) × Among y ys × (y.source ≡ s)
noted_source s [] e = absurd (false≢true e)
noted_source s (y ∷ ys) e = step (noted_source s ys) (is_once s y.source) refl e
  where
    step : (is_noted ys s ≡ true → (z : Thing) × Among z ys × (z.source ≡ s)) → (b : Bool) → is_once s y.source ≡ b → (b || is_noted ys s) ≡ true → (z : Thing) × Among z (y ∷ ys) × (z.source ≡ s)
    step u true p e = (y, inl refl, once_is s y.source p)
    step u false p e = let w = u e in (w.0, inr w.1, w.2)

-- and a read that stands there is noted
pub read_noted : (r : Read) (y : Thing) (ys : List Thing) → Among y ys → y.source ≡ Variable r → is_noted ys (Variable r) ≡ true
read_noted r y [] q e = absurd q
read_noted r y (z ∷ ys) (inl p) e = ap (λ o. is_once (Variable r) o || is_noted ys (Variable r)) (ap (λ (w : Thing). w.source) p ∙ e) ∙ ap (λ b. b || is_noted ys (Variable r)) (same_read r)
read_noted r y (z ∷ ys) (inr q) e = step (is_once (Variable r) z.source) (read_noted r y ys q e)
  where
    step : (b : Bool) → is_noted ys (Variable r) ≡ true → (b || is_noted ys (Variable r)) ≡ true
    step true k = refl
    step false k = k

-- a thing at its place is none that is noted
place_unnoted : (ys : List Thing) → is_noted ys Place ≡ false
place_unnoted [] = refl
place_unnoted (y ∷ ys) = place_unnoted ys

-- each thing of a type that holds globals is noted
pub noted_stands : (x : Thing) (seen xs : List Thing) → Among x xs → holds_glob x.ty ≡ true → Stands x (noted seen xs)
noted_stands x seen [] q h = absurd q
noted_stands x seen (y ∷ xs) (inr q) h = noted_stands x (with_new seen y) xs q h
noted_stands x seen (y ∷ xs) (inl e) h =
    let w = step (is_noted seen x.source) refl in
    (w.0, noted_kept w.0 (with_new seen y) xs (subst (λ z. Among w.0 (with_new seen z)) (sym e) w.1), w.2, w.3)
  where
    step : (b : Bool) → is_noted seen x.source ≡ b → Stands x (with_new seen x)
    step false n = (x, subst (Among x) (λ i. if not (sym h i) || sym n i then seen else seen ++ x ∷ []) (among_right x seen (x ∷ []) (inl refl)), refl, λ k. refl)
    step true n =
        let w = noted_source x.source seen n in (
          w.0,
          subst (Among w.0) (λ i. if not (holds_glob x.ty) || sym n i then seen else seen ++ x ∷ []) (kept (not (holds_glob x.ty)) w.0 w.1),
          w.2,
          λ k. absurd (false≢true (sym (place_unnoted seen) ∙ ap (is_noted seen) (sym k) ∙ n)),
        )
      where
        kept : (b : Bool) (z : Thing) → Among z seen → Among z (if b || true then seen else seen ++ x ∷ [])
        kept true z q = q
        kept false z q = q

-- Names.

abbrev pub names_at : Thing → List Name
names_at x = names_in (modules_of x.ty)

abbrev pub all_names_of : List Thing → List Name
all_names_of [] = []
all_names_of (x ∷ xs) = names_at x ++ all_names_of xs

-- kinds of sources

abbrev pub is_variable : Source → Bool
is_variable (Variable r) = true
is_variable _ = false

abbrev pub is_opened : Source → Bool
is_opened (Opened t) = true
is_opened _ = false

abbrev pub is_place : Source → Bool
is_place Place = true
is_place _ = false

-- the names of the things of a kind
abbrev pub names_of : (Source → Bool) → List Thing → List Name
names_of kind [] = []
names_of kind (x ∷ xs) = (if kind x.source then names_at x else []) ++ names_of kind xs

-- all names together
pub modules_names : (xs : List Thing) (ms : List Name) → modules_in xs ≡ Some ms → all_names_of xs ≡ ms
modules_names [] ms e = ap names_in e
modules_names (x ∷ xs) ms e =
    let s = both_some (modules_of x.ty) (modules_in xs) ms e in
    (λ i. names_in (s.2 i) ++ modules_names xs s.1 s.3 i) ∙ s.4

-- each thing has names
pub modules_each : (xs : List Thing) (ms : List Name) → modules_in xs ≡ Some ms → Each (λ x. (ns : List Name) × (modules_of x.ty ≡ Some ns)) xs
modules_each [] ms e = tt
modules_each (x ∷ xs) ms e =
    let s = both_some (modules_of x.ty) (modules_in xs) ms e in
    ((s.0, s.2), modules_each xs s.1 s.3)

module _ (m : Name) where
  kinds_split : (s : Source) (ns : List Name) → times m ns ≡ times m (if is_place s then ns else []) + times m (if is_opened s then ns else []) + times m (if is_variable s then ns else [])
  kinds_split (Variable r) ns = omega arith
  kinds_split (Opened t) ns = omega arith
  kinds_split Place ns = omega arith

  pub names_split : (xs : List Thing) → times m (all_names_of xs) ≡ times m (names_of is_place xs) + times m (names_of is_opened xs) + times m (names_of is_variable xs)
  names_split [] = omega arith
  names_split (x ∷ xs) =
      let a = times_append m (names_at x) (all_names_of xs) in
      let b = times_append m (if is_place x.source then names_at x else []) (names_of is_place xs) in
      let c = times_append m (if is_opened x.source then names_at x else []) (names_of is_opened xs) in
      let d = times_append m (if is_variable x.source then names_at x else []) (names_of is_variable xs) in
      let one = kinds_split x.source (names_at x) in
      let rest = names_split xs in
      omega (arith, a, b, c, d, one, rest)

  module _ (kind : Source → Bool) where
    pub names_append : (xs ys : List Thing) → times m (names_of kind (xs ++ ys)) ≡ times m (names_of kind xs) + times m (names_of kind ys)
    names_append [] ys = omega arith
    names_append (x ∷ xs) ys =
        let here = if kind x.source then names_at x else [] in
        let a = times_append m here (names_of kind (xs ++ ys)) in
        let b = times_append m here (names_of kind xs) in
        let rest = names_append xs ys in
        omega (arith, a, b, rest)

    -- a thing that gives the name, where one does
    pub giver : (xs : List Thing) → 0 < times m (names_of kind xs) → (x : Thing) × Among x xs × (kind x.source ≡ true) × (0 < times m (names_at x))
    giver [] l = absurd (omega arith)
    giver (x ∷ xs) l = step (giver xs) (kind x.source) refl (times m (names_at x)) refl
      where
        behind : times m (if kind x.source then names_at x else []) ≡ 0 → 0 < times m (names_of kind xs)
        behind e = let a = times_append m (if kind x.source then names_at x else []) (names_of kind xs) in omega (arith, a, e, l)

        further : (0 < times m (names_of kind xs) → (z : Thing) × Among z xs × (kind z.source ≡ true) × (0 < times m (names_at z))) → times m (if kind x.source then names_at x else []) ≡ 0 →
            (z : Thing) × Among z (x ∷ xs) × (kind z.source ≡ true) × (0 < times m (names_at z))
        further rest e = let w = rest (behind e) in (w.0, inr w.1, w.2, w.3)

        step : (0 < times m (names_of kind xs) → (z : Thing) × Among z xs × (kind z.source ≡ true) × (0 < times m (names_at z))) → (b : Bool) → kind x.source ≡ b → (n : ℕ) → times m (names_at x) ≡ n →
            (z : Thing) × Among z (x ∷ xs) × (kind z.source ≡ true) × (0 < times m (names_at z))
        step rest false e n p = further rest (ap (λ b. times m (if b then names_at x else [])) e)
        step rest true e zero p = further rest (ap (λ b. times m (if b then names_at x else [])) e ∙ p)
        step rest true e (suc n) p = (x, inl refl, e, omega (arith, p))

    pub given : (y : Thing) (xs : List Thing) → Among y xs → kind y.source ≡ true → 0 < times m (names_at y) → 0 < times m (names_of kind xs)
    given y [] q e l = absurd q
    given y (x ∷ xs) (inl p) e l =
        let here = if kind x.source then names_at x else [] in
        let a = times_append m here (names_of kind xs) in
        let same : times m here ≡ times m (names_at y) = ap (λ (z : Thing). times m (if kind z.source then names_at z else [])) p ∙ ap (λ b. times m (if b then names_at y else [])) e in
        omega (arith, a, same, l)
    given y (x ∷ xs) (inr q) e l =
        let a = times_append m (if kind x.source then names_at x else []) (names_of kind xs) in
        let rest = given y xs q e l in
        omega (arith, a, rest)

  -- noting leaves out nothing that is at its place
  pub noted_places : (seen xs : List Thing) → times m (names_of is_place (noted seen xs)) ≡ times m (names_of is_place seen) + times m (names_of is_place xs)
  noted_places seen [] = omega arith
  noted_places seen (x ∷ xs) =
      let a = noted_places (with_new seen x) xs in
      let b = times_append m (if is_place x.source then names_at x else []) (names_of is_place xs) in
      let c = one (is_place x.source) refl (holds_glob x.ty) refl in
      omega (arith, a, b, c)
    where
      last : times m (names_of is_place (seen ++ x ∷ [])) ≡ times m (names_of is_place seen) + times m (if is_place x.source then names_at x else [])
      last =
          let a = names_append is_place seen (x ∷ []) in
          let b = times_append m (if is_place x.source then names_at x else []) [] in
          omega (arith, a, b)

      -- where the thing gives no names
      none : times m (if is_place x.source then names_at x else []) ≡ 0 → (b : Bool) → times m (names_of is_place (if b then seen else seen ++ x ∷ [])) ≡ times m (names_of is_place seen) + times m (if is_place x.source then names_at x else [])
      none e true = omega (arith, e)
      none e false = last

      place : (s : Source) → is_place s ≡ true → s ≡ Place
      place (Variable r) e = absurd (false≢true e)
      place (Opened t) e = absurd (false≢true e)
      place Place e = refl

      one : (p : Bool) → is_place x.source ≡ p → (b : Bool) → holds_glob x.ty ≡ b → times m (names_of is_place (with_new seen x)) ≡ times m (names_of is_place seen) + times m (if is_place x.source then names_at x else [])
      one false p b h = none (ap (λ q. times m (if q then names_at x else [])) p) (not (holds_glob x.ty) || is_noted seen x.source)
      one true p false h =
          none (ap (λ q. times m (if q then names_at x else [])) p ∙ ap (λ o. times m (names_in o)) (uncounted_modules x.ty h)) (not (holds_glob x.ty) || is_noted seen x.source)
      one true p true h =
          let new : is_noted seen x.source ≡ false = ap (is_noted seen) (place x.source p) ∙ place_unnoted seen in
          (λ i. times m (names_of is_place (if not (h i) || new i then seen else seen ++ x ∷ []))) ∙ last
