-- Weighted lists that agree entry by entry: equal weights, related outcomes.
use Rattle.std.proofs.Common.{◌≡◌, ℕ, zero, suc, ◌+◌, ◌*◌, Bool, true, false, ◌&&◌, ◌||◌, if◌then◌else◌, leb, eqb, [], ◌∷◌, ◌++◌, refl, ap, ◌∙◌, subst}
use Rattle.gb_dist.specs.WeightedList.{WeightedList, mass, weight, total, bit, scale, bind, dmap}
use Rattle.gb_dist.specs.Existence.{passes_hall, passes_hall_beside, has_coupling}
use Rattle.gb_meaning.specs.Memory.{Memory}
use Rattle.gb_meaning.specs.Runs.{turns}
pub use Rattle.gb_laws.specs.Pairs.{Zip}

module _ {A B : Type 0} (R : A → B → Type 0) where
  pub zip-append : (l : WeightedList A) (m : WeightedList B) (r : WeightedList A) (s : WeightedList B) → Zip R l m → Zip R r s → Zip R (l ++ r) (m ++ s)
  zip-append [] [] r s z y = y
  zip-append [] (f ∷ m) r s z y = absurd z
  zip-append (e ∷ l) [] r s z y = absurd z
  zip-append (e ∷ l) (f ∷ m) r s z y = (z.0, z.1, zip-append l m r s z.2 y)

  pub zip-scale : (c d : ℕ) → c ≡ d → (l : WeightedList A) (m : WeightedList B) → Zip R l m → Zip R (scale c l) (scale d m)
  zip-scale c d h [] [] z = tt
  zip-scale c d h [] (f ∷ m) z = absurd z
  zip-scale c d h (e ∷ l) [] z = absurd z
  zip-scale c d h (e ∷ l) (f ∷ m) z = (ap (λ x. x * e.1) h ∙ ap (λ x. d * x) z.0, z.1, zip-scale c d h l m z.2)

  pub zip-if : (a b : Bool) → a ≡ b → (l l' : WeightedList A) (r r' : WeightedList B) → Zip R l r → Zip R l' r' → Zip R (if a then l else l') (if b then r else r')
  zip-if true true e l l' r r' z y = z
  zip-if true false e l l' r r' z y = absurd (cc)
  zip-if false true e l l' r r' z y = absurd (cc)
  zip-if false false e l l' r r' z y = y

  pub zip_mass : (l : WeightedList A) (m : WeightedList B) (f : A → ℕ) (h : B → ℕ) → Zip R l m → ((a : A) (b : B) → R a b → f a ≡ h b) → mass l f ≡ mass m h
  zip_mass [] [] f h z y = refl
  zip_mass [] (b ∷ m) f h z y = absurd z
  zip_mass (a ∷ l) [] f h z y = absurd z
  zip_mass (a ∷ l) (b ∷ m) f h z y = cc (z.0, y a.0 b.0 z.1, zip_mass l m f h z.2 y)

  pub zip_weight : (l : WeightedList A) (m : WeightedList B) (f : A → Bool) (h : B → Bool) → Zip R l m → ((a : A) (b : B) → R a b → f a ≡ h b) → weight l f ≡ weight m h
  zip_weight l m f h z y = zip_mass l m (λ a. bit (f a)) (λ b. bit (h b)) z (λ a b r. ap bit (y a b r))

  pub zip_weaken : (S : A → B → Type 0) → ((a : A) (b : B) → R a b → S a b) → (l : WeightedList A) (m : WeightedList B) → Zip R l m → Zip S l m
  zip_weaken S h [] [] z = tt
  zip_weaken S h [] (b ∷ m) z = absurd z
  zip_weaken S h (a ∷ l) [] z = absurd z
  zip_weaken S h (a ∷ l) (b ∷ m) z = (z.0, h a.0 b.0 z.1, zip_weaken S h l m z.2)

pub zip-bind : {A B C D : Type 0} (R : A → B → Type 0) (S : C → D → Type 0) (l : WeightedList A) (m : WeightedList B) (k : A → WeightedList C) (h : B → WeightedList D) → Zip R l m →
    ((a : A) (b : B) → R a b → Zip S (k a) (h b)) → Zip S (bind l k) (bind m h)
zip-bind R S [] [] k h z y = tt
zip-bind R S [] (f ∷ m) k h z y = absurd z
zip-bind R S (e ∷ l) [] k h z y = absurd z
zip-bind R S (e ∷ l) (f ∷ m) k h z y = zip-append S (scale e.1 (k e.0)) (scale f.1 (h f.0)) (bind l k) (bind m h)
    (zip-scale S e.1 f.1 z.0 (k e.0) (h f.0) (y e.0 f.0 z.1)) (zip-bind R S l m k h z.2 y)

pub zip-dmap : {A B C D : Type 0} (R : A → B → Type 0) (S : C → D → Type 0) (l : WeightedList A) (m : WeightedList B) (k : A → C) (h : B → D) → Zip R l m →
    ((a : A) (b : B) → R a b → S (k a) (h b)) → Zip S (dmap k l) (dmap h m)
zip-dmap R S [] [] k h z y = tt
zip-dmap R S [] (f ∷ m) k h z y = absurd z
zip-dmap R S (e ∷ l) [] k h z y = absurd z
zip-dmap R S (e ∷ l) (f ∷ m) k h z y = (z.0, y e.0 f.0 z.1, zip-dmap R S l m k h z.2 y)

pub zip-same : {A : Type 0} (l : WeightedList A) → Zip (λ (a b : A). a ≡ b) l l
zip-same [] = tt
zip-same (e ∷ l) = (refl, refl, zip-same l)

-- equal lists agree
pub zip-equal : {A : Type 0} (l r : WeightedList A) → l ≡ r → Zip (λ (a b : A). a ≡ b) l r
zip-equal l r e = subst (λ x. Zip (λ a b. a ≡ b) l x) e (zip-same l)

pub zip-turns : (R : Memory → Memory → Type 0) (p q : Memory → Bool) (body other : Memory → WeightedList Memory) (k : ℕ) →
    ((m n : Memory) → R m n → p m ≡ q n) → ((m n : Memory) → R m n → Zip R (body m) (other n)) →
    (i j : ℕ) → i ≡ j → (m n : Memory) → R m n → Zip R (turns p body k i m) (turns q other k j n)
zip-turns R p q body other k hp hb i j e m n r = subst (λ z. Zip R (turns p body k i m) (turns q other k z n)) e (go i m n r)
  where
    go : (i : ℕ) (m n : Memory) → R m n → Zip R (turns p body k i m) (turns q other k i n)
    go zero m n r = (refl, r, tt)
    go (suc i) m n r = zip-if R (p m) (q n) (hp m n r) _ _ _ _ (zip-bind R R (body m) (other n) (turns p body k i) (turns q other k i) (hb m n r) (go i)) (refl, r, tt)

-- the test of couplings, of lists that agree
module _ {A B C D : Type 0} (R : A → C → Type 0) (S : B → D → Type 0) (r : A → B → Bool) (s : C → D → Bool)
    (h : (a : A) (c : C) (b : B) (d : D) → R a c → S b d → r a b ≡ s c d) where
  beside : (a : WeightedList A) (c : WeightedList C) (b : WeightedList B) (d : WeightedList D) → Zip R a c → Zip S b d → (u : B → Bool) (v : D → Bool) → ((x : B) (y : D) → S x y → u x ≡ v y) →
      (i j : ℕ) → i ≡ j → passes_hall_beside r a b u i ≡ passes_hall_beside s c d v j
  beside [] [] b d z y u v w i j e = ap (λ x. leb x (weight b u)) e ∙ ap (leb j) (zip_weight S b d u v y w)
  beside [] (f ∷ c) b d z y u v w i j e = absurd z
  beside (f ∷ a) [] b d z y u v w i j e = absurd z
  beside (f ∷ a) (k ∷ c) b d z y u v w i j e =
      let one = beside a c b d z.2 y u v w i j e in
      let two = beside a c b d z.2 y (λ x. u x || r f.0 x) (λ x. v x || s k.0 x) (λ p q o. cc (w p q o, h f.0 k.0 p q z.1 o)) (i + f.1) (j + k.1) (cc (e, z.0)) in
      cc (one, two)

  pub zip_has_coupling : (a : WeightedList A) (c : WeightedList C) (b : WeightedList B) (d : WeightedList D) → Zip R a c → Zip S b d → (k1 k2 : ℕ) →
      has_coupling r a k1 b k2 ≡ has_coupling s c k1 d k2
  zip_has_coupling a c b d z y k1 k2 =
      let one : total a ≡ total c = zip_mass R a c (λ x. 1) (λ x. 1) z (λ p q o. refl) in
      let two : total b ≡ total d = zip_mass S b d (λ x. 1) (λ x. 1) y (λ p q o. refl) in
      let three = beside (scale k2 a) (scale k2 c) (scale k1 b) (scale k1 d) (zip-scale R k2 k2 refl a c z) (zip-scale S k1 k1 refl b d y) (λ x. false) (λ x. false) (λ p q o. refl) 0 0 refl in
      ap (λ x. eqb (x * k2) (total b * k1) && passes_hall r (scale k2 a) (scale k1 b)) one
      ∙ ap (λ x. eqb (total c * k2) (x * k1) && passes_hall r (scale k2 a) (scale k1 b)) two
      ∙ ap (λ x. eqb (total c * k2) (total d * k1) && x) three
