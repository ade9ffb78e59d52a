-- What holds of each entry of a weighted list.
use Rattle.std.proofs.Common.{ℕ, ◌+◌, ◌*◌, ◌<◌, [], ◌∷◌, ◌++◌, arith}
use Rattle.std.proofs.Math.Nat.{mul-pos}
use Rattle.gb_dist.specs.WeightedList.{WeightedList, mass, scale, unit, bind, dmap, On, Every, IsPositive}

pub On-append : {A : Type 0} (P : A → Type 0) (l r : WeightedList A) → On P l → On P r → On P (l ++ r)
On-append P [] r o p = p
On-append P (e ∷ l) r o p = (o.0, o.1, On-append P l r o.2 p)

pub On-scale : {A : Type 0} (P : A → Type 0) (c : ℕ) (l : WeightedList A) → 0 < c → On P l → On P (scale c l)
On-scale P c [] h o = tt
On-scale P c (e ∷ l) h o = (mul-pos h o.0, o.1, On-scale P c l h o.2)

pub On-unit : {A : Type 0} (P : A → Type 0) (a : A) → P a → On P (unit a)
On-unit P a p = (omega arith, p, tt)

pub On-bind : {A B : Type 0} (P : A → Type 0) (Q : B → Type 0) (l : WeightedList A) (k : A → WeightedList B) →
    On P l → ((a : A) → P a → On Q (k a)) → On Q (bind l k)
On-bind P Q [] k o h = tt
On-bind P Q (e ∷ l) k o h =
    On-append Q (scale e.1 (k e.0)) (bind l k) (On-scale Q e.1 (k e.0) o.0 (h e.0 o.1)) (On-bind P Q l k o.2 h)

pub On-dmap : {A B : Type 0} {P : A → Type 0} (Q : B → Type 0) (g : A → B) (l : WeightedList A) → ((a : A) → P a → Q (g a)) →
    On P l → On Q (dmap g l)
On-dmap Q g [] h o = tt
On-dmap Q g (e ∷ l) h o = (o.0, h e.0 o.1, On-dmap Q g l h o.2)

pub On-weaken : {A : Type 0} {P Q : A → Type 0} (l : WeightedList A) → ((a : A) → P a → Q a) → On P l → On Q l
On-weaken [] h o = tt
On-weaken (e ∷ l) h o = (o.0, h e.0 o.1, On-weaken l h o.2)

pub On-both : {A : Type 0} (P Q : A → Type 0) (l : WeightedList A) → On P l → On Q l → On (λ a. P a × Q a) l
On-both P Q [] o p = tt
On-both P Q (e ∷ l) o p = (o.0, (o.1, p.1), On-both P Q l o.2 p.2)

pub On-positive : {A : Type 0} (P : A → Type 0) (l : WeightedList A) → On P l → IsPositive l
On-positive P l o = On-weaken {P = P} {Q = λ a. Unit {0}} l (λ a p. tt) o

-- each outcome in P, and each weight at least 1
pub On_of_Every : {A : Type 0} (P : A → Type 0) (l : WeightedList A) → IsPositive l → Every P l → On P l
On_of_Every P [] o p = tt
On_of_Every P (e ∷ l) o p = (o.0, p.0, On_of_Every P l o.2 p.1)

pub Every_of_On : {A : Type 0} (P : A → Type 0) (l : WeightedList A) → On P l → Every P l
Every_of_On P [] o = tt
Every_of_On P (e ∷ l) o = (o.1, Every_of_On P l o.2)

pub Every-append : {A : Type 0} (P : A → Type 0) (l r : WeightedList A) → Every P l → Every P r → Every P (l ++ r)
Every-append P [] r o p = p
Every-append P (e ∷ l) r o p = (o.0, Every-append P l r o.1 p)

pub Every-scale : {A : Type 0} (P : A → Type 0) (c : ℕ) (l : WeightedList A) → Every P l → Every P (scale c l)
Every-scale P c [] o = tt
Every-scale P c (e ∷ l) o = (o.0, Every-scale P c l o.1)

pub Every-bind : {A B : Type 0} (P : A → Type 0) (Q : B → Type 0) (l : WeightedList A) (k : A → WeightedList B) →
    Every P l → ((a : A) → P a → Every Q (k a)) → Every Q (bind l k)
Every-bind P Q [] k o h = tt
Every-bind P Q (e ∷ l) k o h =
    Every-append Q (scale e.1 (k e.0)) (bind l k) (Every-scale Q e.1 (k e.0) (h e.0 o.0)) (Every-bind P Q l k o.1 h)

pub Every-dmap : {A B : Type 0} {P : A → Type 0} (Q : B → Type 0) (g : A → B) (l : WeightedList A) → ((a : A) → P a → Q (g a)) →
    Every P l → Every Q (dmap g l)
Every-dmap Q g [] h o = tt
Every-dmap Q g (e ∷ l) h o = (h e.0 o.0, Every-dmap Q g l h o.1)

pub Every-weaken : {A : Type 0} {P Q : A → Type 0} (l : WeightedList A) → ((a : A) → P a → Q a) → Every P l → Every Q l
Every-weaken [] h o = tt
Every-weaken (e ∷ l) h o = (h e.0 o.0, Every-weaken l h o.1)

-- each entry has a part in the sum of a function that is positive there
pub On-reflexive : {A : Type 0} (P : A → Type 0) (l : WeightedList A) (g : A → A → ℕ) → ((a : A) → 0 < g a a) → On P l →
    On (λ a. P a × (0 < mass l (g a))) l
On-reflexive P [] g h o = tt
On-reflexive P (e ∷ l) g h o = (
  o.0,
  (o.1, first (mul-pos o.0 (h e.0))),
  On-weaken {P = λ a. P a × (0 < mass l (g a))} {Q = λ a. P a × (0 < e.1 * g a e.0 + mass l (g a))} l (λ a p. (p.0, later a p.1))
      (On-reflexive P l g h o.2),
)
  where
    first : 0 < e.1 * g e.0 e.0 → 0 < e.1 * g e.0 e.0 + mass l (g e.0)
    first p = omega arith

    later : (a : _) → 0 < mass l (g a) → 0 < e.1 * g a e.0 + mass l (g a)
    later a p = omega arith
