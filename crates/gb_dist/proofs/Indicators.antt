-- The functions that are 1 at one outcome and 0 elsewhere.
use Rattle.std.proofs.Common.{◌≡◌, ℕ, ◌*◌, ◌<◌, ◌≤◌, ◌⊎◌, inl, inr, [], ◌∷◌, refl, ap, sym, ◌∙◌, subst, arith}
use Rattle.gb_dist.specs.WeightedList.{WeightedList, mass, bit_of_decision, indicator, IsInSupport, On, IsPositive}
use Rattle.gb_dist.proofs.Entries.{On-reflexive, On-weaken}

pub indicator_self : {A : Type 0} (d : Discrete A) (x : A) → indicator d x x ≡ 1
indicator_self d x = elim (d x x) as (λ v. bit_of_decision v ≡ 1) [ yes p ↦ refl | no n ↦ absurd (n refl) ]

pub indicator_cases : {A : Type 0} (d : Discrete A) (x y : A) → (indicator d x y ≡ 0) ⊎ (x ≡ y)
indicator_cases d x y = elim (d x y) as (λ v. (bit_of_decision v ≡ 0) ⊎ (x ≡ y)) [ yes p ↦ inr p | no n ↦ inl refl ]

pub indicator-le_one : {A : Type 0} (d : Discrete A) (x y : A) → indicator d x y ≤ 1
indicator-le_one d x y = elim (d x y) as (λ v. bit_of_decision v ≤ 1) [ yes p ↦ omega arith | no n ↦ omega arith ]

pub indicator_comm : {A : Type 0} (d : Discrete A) (x y : A) → indicator d x y ≡ indicator d y x
indicator_comm d x y = elim (indicator_cases d x y) [
  | inl a ↦ elim (indicator_cases d y x) [ inl b ↦ a ∙ sym b | inr q ↦ subst (λ z. indicator d z y ≡ indicator d y z) q refl ]
  | inr p ↦ subst (λ z. indicator d x z ≡ indicator d z x) p refl
]

-- indicators at outcomes that are equal exactly together
pub indicator_same : {A B : Type 0} (da : Discrete A) (db : Discrete B) (a a' : A) (b b' : B) →
    (a ≡ a' → b ≡ b') → (b ≡ b' → a ≡ a') → indicator da a a' ≡ indicator db b b'
indicator_same da db a a' b b' f g = step (da a a') (db b b')
  where
    step : (u : Dec (a ≡ a')) (v : Dec (b ≡ b')) → bit_of_decision u ≡ bit_of_decision v
    step (yes p) (yes q) = refl
    step (yes p) (no n) = absurd (n (f p))
    step (no n) (yes q) = absurd (n (g q))
    step (no n) (no k) = refl

-- a factor that depends on x may depend on y in its place
pub indicator_move : {A : Type 0} (d : Discrete A) (f : A → ℕ) (x y : A) → f x * indicator d x y ≡ f y * indicator d y x
indicator_move d f x y = elim (indicator_cases d x y) [
  | inl a ↦ omega (arith, ap (λ z. f x * z) a, ap (λ z. f y * z) (sym (indicator_comm d x y) ∙ a))
  | inr p ↦ subst (λ z. f x * indicator d x z ≡ f z * indicator d z x) p refl
]

-- each entry has the weight of its outcome, read through a key
pub On-key : {A B : Type 0} (d : Discrete B) (P : A → Type 0) (l : WeightedList A) (key : A → B) → On P l →
    On (λ a. P a × (0 < mass l (λ b. indicator d (key a) (key b)))) l
On-key d P l key o = On-reflexive P l (λ a b. indicator d (key a) (key b)) (λ a. omega (arith, indicator_self d (key a))) o

-- the outcomes of a list are in its support
pub On-support : {A : Type 0} (d : Discrete A) (P : A → Type 0) (l : WeightedList A) → On P l → On (λ a. P a × IsInSupport d l a) l
On-support d P l o = On-key d P l (λ a. a) o

-- what is in the support is an outcome of the list
pub support_in : {A : Type 0} (d : Discrete A) (P : A → Type 0) (l : WeightedList A) (x : A) → On P l → IsInSupport d l x → P x
support_in d P [] x o p = absurd (omega arith)
support_in d P (e ∷ l) x o p = step (λ q. support_in d P l x o.2 q) (indicator_cases d x e.0)
  where
    step : (0 < mass l (indicator d x) → P x) → (indicator d x e.0 ≡ 0) ⊎ (x ≡ e.0) → P x
    step h (inl q) = h (omega (arith, ap (λ z. e.1 * z) q))
    step h (inr q) = subst P (sym q) o.1

-- what holds of the support holds of each entry
pub On_of_support : {A : Type 0} (d : Discrete A) (P : A → Type 0) (l : WeightedList A) → IsPositive l →
    ((x : A) → IsInSupport d l x → P x) → On P l
On_of_support d P l o h =
    On-weaken {P = λ x. Unit {0} × IsInSupport d l x} {Q = P} l (λ x i. h x i.1) (On-support d (λ x. Unit {0}) l o)
