-- Tests of each entry of a list.
use Rattle.std.proofs.Common.{◌≡◌, Bool, true, false, ◌&&◌, [], ◌∷◌, refl}
use Rattle.std.proofs.lemmas.Bool.{and_parts, and_from}
use Rattle.gb_dist.specs.WeightedList.{WeightedList, Every}
use Rattle.gb_laws.proofs.Zips.{Zip}

abbrev pub implied : Bool → Bool → Bool
implied true b = b
implied false b = true

pub implied_use : (a b : Bool) → implied a b ≡ true → a ≡ true → b ≡ true
implied_use true b e h = e
implied_use false b e h = cc

pub implied_make : (a b : Bool) → (a ≡ true → b ≡ true) → implied a b ≡ true
implied_make true b h = h refl
implied_make false b h = refl

-- whether a test holds of each entry of a list
abbrev pub every_test : {A : Type 0} → WeightedList A → (A → Bool) → Bool
every_test [] h = true
every_test (e ∷ l) h = h e.0 && every_test l h

pub every_use : {A : Type 0} (l : WeightedList A) (h : A → Bool) → every_test l h ≡ true → Every (λ n. h n ≡ true) l
every_use [] h e = tt
every_use (a ∷ l) h e = let p = and_parts (h a.0) (every_test l h) e in (p.0, every_use l h p.1)

pub every_make : {A : Type 0} (l : WeightedList A) (h : A → Bool) → Every (λ n. h n ≡ true) l → every_test l h ≡ true
every_make [] h o = refl
every_make (a ∷ l) h o = and_from (h a.0) (every_test l h) o.0 (every_make l h o.1)

pub zip_every : {A B : Type 0} (R : A → B → Type 0) (l : WeightedList A) (m : WeightedList B) (f : A → Bool) (h : B → Bool) → Zip R l m → ((a : A) (b : B) → R a b → f a ≡ h b) →
    every_test l f ≡ every_test m h
zip_every R [] [] f h z y = refl
zip_every R [] (b ∷ m) f h z y = absurd z
zip_every R (a ∷ l) [] f h z y = absurd z
zip_every R (a ∷ l) (b ∷ m) f h z y = cc (y a.0 b.0 z.1, zip_every R l m f h z.2 y)
