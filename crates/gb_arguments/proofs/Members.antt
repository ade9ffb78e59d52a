-- What is in lists of variables.
use Rattle.std.proofs.Common.{◌≡◌, inl, inr, Bool, true, false, ◌||◌, if◌then◌else◌, List, [], ◌∷◌, refl, ap, sym, ◌∙◌, subst}
use Rattle.std.specs.List.{list_any}
use Rattle.std.proofs.lemmas.Bool.{false≢true}
use Rattle.gb_core.specs.declared.var.Var.{Var}
use Rattle.gb_terms.specs.Equal.{var_eq}
use Rattle.gb_terms.proofs.Equality.{var_eq-Decides}
use Rattle.gb_walk.specs.Clash.{comes_before}
use Rattle.gb_mods.specs.Order.{joined, placed}
pub use Rattle.gb_arguments.specs.Members.{Has}

-- one of these is in p
pub one_is : {A : Type 0} (p : A → Bool) (xs : List A) → list_any p xs ≡ true → (x : A) × Has xs x × (p x ≡ true)
one_is p [] e = absurd (false≢true e)
one_is {A} p (x ∷ xs) e = step (p x) refl e (one_is p xs)
  where
    step : (b : Bool) → p x ≡ b → (b || list_any p xs) ≡ true → (list_any p xs ≡ true → (y : A) × Has xs y × (p y ≡ true)) → (y : A) × Has (x ∷ xs) y × (p y ≡ true)
    step true q e go = (x, inl refl, q)
    step false q e go = let y = go e in (y.0, inr y.1, y.2)

pub any_is : {A : Type 0} (p : A → Bool) (xs : List A) (x : A) → Has xs x → p x ≡ true → list_any p xs ≡ true
any_is p [] x h e = absurd h
any_is p (y ∷ xs) x (inl q) e = ap (λ b. b || list_any p xs) (ap p q ∙ e)
any_is p (y ∷ xs) x (inr h) e = step (p y) (any_is p xs x h e)
  where
    step : (b : Bool) → list_any p xs ≡ true → (b || list_any p xs) ≡ true
    step true k = refl
    step false k = k

-- Variables that are put in order.

placed_itself : (x : Var) (ys : List Var) → Has (placed x ys) x
placed_itself x [] = inl refl
placed_itself x (y ∷ ys) = step (comes_before x y) (var_eq x y) refl (placed_itself x ys)
  where
    step : (b c : Bool) → var_eq x y ≡ c → Has (placed x ys) x → Has (if b then x ∷ y ∷ ys else if c then y ∷ ys else y ∷ placed x ys) x
    step true c q k = inl refl
    step false true q k = inl (sym ((var_eq-Decides x y).0 q))
    step false false q k = inr k

placed_others : (x : Var) (ys : List Var) (z : Var) → Has ys z → Has (placed x ys) z
placed_others x [] z h = absurd h
placed_others x (y ∷ ys) z h = step (comes_before x y) (var_eq x y) h (placed_others x ys z)
  where
    step : (b c : Bool) → Has (y ∷ ys) z → (Has ys z → Has (placed x ys) z) → Has (if b then x ∷ y ∷ ys else if c then y ∷ ys else y ∷ placed x ys) z
    step true c h go = inr h
    step false true h go = h
    step false false (inl q) go = inl q
    step false false (inr h) go = inr (go h)

pub joined_has : (xs ys : List Var) (z : Var) → Has xs z → Has (joined xs ys) z
joined_has [] ys z h = absurd h
joined_has (x ∷ xs) ys z (inl q) = subst (Has (placed x (joined xs ys))) q (placed_itself x (joined xs ys))
joined_has (x ∷ xs) ys z (inr h) = placed_others x (joined xs ys) z (joined_has xs ys z h)
