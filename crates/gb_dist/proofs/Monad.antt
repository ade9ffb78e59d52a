-- Weighted lists are a monad: the laws are equalities of lists.
use Rattle.std.proofs.Common.{◌≡◌, ℕ, ◌*◌, [], ◌∷◌, ◌++◌, refl, ap, sym, ◌∙◌}
use Rattle.std.proofs.Math.Nat.{mul_assoc, one-mul, mul-one}
use Rattle.std.proofs.lemmas.List.{append-nil, append_assoc}
use Rattle.gb_dist.specs.WeightedList.{WeightedList, scale, unit, bind, dmap}

pub scale-append : {A : Type 0} (c : ℕ) (l r : WeightedList A) → scale c (l ++ r) ≡ scale c l ++ scale c r
scale-append c [] r = refl
scale-append c (e ∷ l) r = ap (λ z. (e.0, c * e.1) ∷ z) (scale-append c l r)

pub scale-scale : {A : Type 0} (c d : ℕ) (l : WeightedList A) → scale c (scale d l) ≡ scale (c * d) l
scale-scale c d [] = refl
scale-scale c d (e ∷ l) = cc (mul_assoc c d e.1, scale-scale c d l)

pub scale-one : {A : Type 0} (l : WeightedList A) → scale 1 l ≡ l
scale-one [] = refl
scale-one (e ∷ l) = ap (λ w. (e.0, w) ∷ scale 1 l) (one-mul e.1) ∙ ap (λ z. e ∷ z) (scale-one l)

pub bind-append : {A B : Type 0} (l r : WeightedList A) (k : A → WeightedList B) → bind (l ++ r) k ≡ bind l k ++ bind r k
bind-append [] r k = refl
bind-append (e ∷ l) r k =
    ap (λ z. scale e.1 (k e.0) ++ z) (bind-append l r k) ∙ sym (append_assoc (scale e.1 (k e.0)) (bind l k) (bind r k))

pub bind-scale : {A B : Type 0} (c : ℕ) (l : WeightedList A) (k : A → WeightedList B) → bind (scale c l) k ≡ scale c (bind l k)
bind-scale c [] k = refl
bind-scale c (e ∷ l) k = cc (scale-scale c e.1 (k e.0), bind-scale c l k, scale-append c (scale e.1 (k e.0)) (bind l k))

pub bind-unit : {A B : Type 0} (a : A) (k : A → WeightedList B) → bind (unit a) k ≡ k a
bind-unit a k = append-nil (scale 1 (k a)) ∙ scale-one (k a)

pub bind-unit_right : {A : Type 0} (l : WeightedList A) → bind l (λ a. unit a) ≡ l
bind-unit_right [] = refl
bind-unit_right (e ∷ l) = ap (λ w. (e.0, w) ∷ bind l (λ a. unit a)) (mul-one e.1) ∙ ap (λ z. e ∷ z) (bind-unit_right l)

pub bind-bind : {A B C : Type 0} (l : WeightedList A) (k : A → WeightedList B) (h : B → WeightedList C) →
    bind (bind l k) h ≡ bind l (λ a. bind (k a) h)
bind-bind [] k h = refl
bind-bind (e ∷ l) k h = bind-append (scale e.1 (k e.0)) (bind l k) h ∙ cc (bind-scale e.1 (k e.0) h, bind-bind l k h)

pub bind-dmap : {A B C : Type 0} (g : A → B) (l : WeightedList A) (k : B → WeightedList C) →
    bind (dmap g l) k ≡ bind l (λ a. k (g a))
bind-dmap g [] k = refl
bind-dmap g (e ∷ l) k = ap (λ z. scale e.1 (k (g e.0)) ++ z) (bind-dmap g l k)

pub dmap-append : {A B : Type 0} (g : A → B) (l r : WeightedList A) → dmap g (l ++ r) ≡ dmap g l ++ dmap g r
dmap-append g [] r = refl
dmap-append g (e ∷ l) r = ap (λ z. (g e.0, e.1) ∷ z) (dmap-append g l r)

pub dmap-scale : {A B : Type 0} (g : A → B) (c : ℕ) (l : WeightedList A) → dmap g (scale c l) ≡ scale c (dmap g l)
dmap-scale g c [] = refl
dmap-scale g c (e ∷ l) = ap (λ z. (g e.0, c * e.1) ∷ z) (dmap-scale g c l)

pub dmap-bind : {A B C : Type 0} (g : B → C) (l : WeightedList A) (k : A → WeightedList B) →
    dmap g (bind l k) ≡ bind l (λ a. dmap g (k a))
dmap-bind g [] k = refl
dmap-bind g (e ∷ l) k = dmap-append g (scale e.1 (k e.0)) (bind l k) ∙ cc (dmap-scale g e.1 (k e.0), dmap-bind g l k)

pub dmap-dmap : {A B C : Type 0} (g : B → C) (h : A → B) (l : WeightedList A) → dmap g (dmap h l) ≡ dmap (λ a. g (h a)) l
dmap-dmap g h [] = refl
dmap-dmap g h (e ∷ l) = ap (λ z. (g (h e.0), e.1) ∷ z) (dmap-dmap g h l)

-- mapping is a bind with units
pub dmap_by_bind : {A B : Type 0} (g : A → B) (l : WeightedList A) → dmap g l ≡ bind l (λ a. unit (g a))
dmap_by_bind g l = sym (bind-unit_right (dmap g l)) ∙ bind-dmap g l (λ b. unit b)
