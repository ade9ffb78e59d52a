-- Variables in order, step by step.
use Rattle.std.proofs.Common.{◌≡◌, if◌then◌else◌, ℕ, suc, ◌+◌, ◌-◌, ◌<◌, false, List, [], ◌∷◌, ◌++◌, length, get_or, take, drop, refl, ap, sym, ◌∙◌, arith}
use Rattle.std.proofs.Math.Seq.{take-length, take-suc}
use Rattle.std.proofs.lemmas.List.{at_drop_more, drop_more, length-drop}
use Rattle.gb_core.specs.declared.var.Var.{Var}
use Rattle.gb_terms.specs.Equal.{var_eq}
use Rattle.gb_terms.proofs.Equality.{var_eq-Decides}
use Rattle.gb_walk.specs.Clash.{comes_before}
use Rattle.gb_mods.specs.Order.{placed, joined}

-- a variable that is there, and one that stands later
pub placed_same : (x : Var) (list : List Var) (i : ℕ) (y : Var) → i < length list → y ≡ get_or list i y → comes_before x y ≡ false → x ≡ y →
    placed x (drop i list) ≡ take (length list - i) (drop i list)
placed_same x list i y h e b s =
    at_drop_more (placed x) list i y h ∙ ap (λ z. placed x (z ∷ drop (i + 1) list)) (sym e)
    ∙ (λ k. if b k then x ∷ y ∷ drop (i + 1) list else if (var_eq-Decides x y).1 s k then y ∷ drop (i + 1) list else y ∷ placed x (drop (i + 1) list))
    ∙ ap (λ z. z ∷ drop (i + 1) list) e ∙ sym (drop_more list i y h)
    ∙ sym (ap (λ n. take n (drop i list)) (sym (length-drop i list)) ∙ take-length (drop i list))

pub placed_later : (x : Var) (list : List Var) (i : ℕ) (y : Var) → i < length list → y ≡ get_or list i y → comes_before x y ≡ false → var_eq x y ≡ false →
    placed x (drop i list) ≡ y ∷ placed x (drop (i + 1) list)
placed_later x list i y h e b s =
    at_drop_more (placed x) list i y h ∙ ap (λ z. placed x (z ∷ drop (i + 1) list)) (sym e)
    ∙ (λ k. if b k then x ∷ y ∷ drop (i + 1) list else if s k then y ∷ drop (i + 1) list else y ∷ placed x (drop (i + 1) list))

-- the last of several variables first
joined_last : (xs : List Var) (x : Var) (ys : List Var) → joined (xs ++ (x ∷ [])) ys ≡ joined xs (placed x ys)
joined_last [] x ys = refl
joined_last (z ∷ xs) x ys = ap (placed z) (joined_last xs x ys)

-- the first elements of a list, and the one behind them
pub front_last : {A : Type 0} (list : List A) (k : ℕ) (x : A) → k < length list → x ≡ get_or list ((length list - 1) - k) x →
    take (length list - k) list ≡ take (length list - (k + 1)) list ++ (x ∷ [])
front_last list k x h e =
    let m : ℕ = length list - (k + 1) in
    let i : (length list - 1) - k ≡ m = omega arith in
    let j : length list - k ≡ suc m = omega arith in
    let l : m < length list = omega arith in
    ap (λ n. take n list) j ∙ take-suc list m x l ∙ ap (λ z. take m list ++ (z ∷ [])) (sym (e ∙ ap (λ n. get_or list n x) i))

-- one variable less
pub joined_front : (list : List Var) (k : ℕ) (x : Var) (ys : List Var) → k < length list → x ≡ get_or list ((length list - 1) - k) x →
    joined (take (length list - k) list) ys ≡ joined (take (length list - (k + 1)) list) (placed x ys)
joined_front list k x ys h e = ap (λ l. joined l ys) (front_last list k x h e) ∙ joined_last (take (length list - (k + 1)) list) x ys
