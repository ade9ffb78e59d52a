-- What one arm of a test of equality answers.
use Rattle.std.proofs.Common.{◌≡◌, Bool, true, false, refl, sym, ap, ◌∙◌, ◌↔◌, IsTrue}
use Rattle.std.proofs.lemmas.Bool.{false≢true}

-- both are this value
pub agree : {A : Type 0} (a b v : A) → a ≡ v → b ≡ v → IsTrue true ↔ (a ≡ b)
agree a b v p q = (λ t. p ∙ sym q, λ e. refl)

-- one of them is
pub differ : {A : Type 0} (a b v : A) → a ≡ v → (b ≡ v → ⊥) → IsTrue false ↔ (a ≡ b)
differ a b v p n = (λ t. absurd (false≢true t), λ e. absurd (n (sym e ∙ p)))

-- they are made of parts that are tested
pub carried : {A X : Type 0} (a b : A) (f : X → A) (x y : X) (r : Bool) → a ≡ f x → b ≡ f y → (f x ≡ f y → x ≡ y) → IsTrue r ↔ (x ≡ y) → IsTrue r ↔ (a ≡ b)
carried a b f x y r p q one h = (λ t. p ∙ ap f (h.0 t) ∙ sym q, λ e. h.1 (one (sym p ∙ e ∙ q)))

-- things of two parts, of which the first are equal
pub carried_on : {A X Y : Type 0} (a b : A) (f : X → Y → A) (x y : X) (u v : Y) (r : Bool) → a ≡ f x u → b ≡ f y v → (f x u ≡ f y v → u ≡ v) → x ≡ y → IsTrue r ↔ (u ≡ v) → IsTrue r ↔ (a ≡ b)
carried_on a b f x y u v r p q one same h =
    (λ t. p ∙ (λ i. f (same i) (h.0 t i)) ∙ sym q, λ e. h.1 (one (sym p ∙ e ∙ q)))

-- things of two parts, of which the first aren't equal
pub apart : {A X Y : Type 0} (a b : A) (f : X → Y → A) (x y : X) (u v : Y) (r : Bool) → a ≡ f x u → b ≡ f y v → (f x u ≡ f y v → x ≡ y) → r ≡ false → IsTrue r ↔ (x ≡ y) → IsTrue r ↔ (a ≡ b)
apart a b f x y u v r p q one isnt h =
    (λ t. absurd (false≢true (sym isnt ∙ t)), λ e. h.1 (one (sym p ∙ e ∙ q)))

-- parts that are reached through pointers
pub reached : {X : Type 0} (x y x' y' : X) (r : Bool) → x' ≡ x → y' ≡ y → IsTrue r ↔ (x' ≡ y') → IsTrue r ↔ (x ≡ y)
reached x y x' y' r p q h = (λ t. sym p ∙ h.0 t ∙ q, λ e. h.1 (p ∙ e ∙ sym q))
