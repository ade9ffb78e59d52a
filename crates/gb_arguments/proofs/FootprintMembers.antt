-- What is in lists of variables that are joined, kept and put in order.
use Rattle.std.proofs.Common.{◌≡◌, ◌⊎◌, inl, inr, if◌then◌else◌, ℕ, Bool, true, false, List, [], ◌∷◌, ◌++◌, Ordering, Less, Equal, Greater, refl, ap, sym, subst}
use Rattle.std.specs.Ordering.{nat_cmp, ordering_then}
use Rattle.gb_core.specs.declared.var.Var.{Var}
use Rattle.gb_core.specs.declared.var.Var.TheVariants.{Global, Local, Glob}
use Rattle.gb_terms.specs.Equal.{var_eq}
use Rattle.gb_terms.proofs.Equality.{var_eq-Decides}
use Rattle.gb_walk.specs.Clash.{comes_before}
use Rattle.gb_meaning.specs.Names.{path_order}
use Rattle.gb_meaning.proofs.Maps.{path_order-same}
use Rattle.gb_meaning.specs.Footprints.{globals_among, in_order, inserted, var_order}
use Rattle.gb_meaning.specs.Footprints as ordered
use Rattle.gb_mods.specs.Order.{joined, placed}
use Rattle.gb_arguments.specs.Members.{Has}

-- by cases
pub either : {A B C : Type 0} → (A → C) → (B → C) → A ⊎ B → C
either f g (inl a) = f a
either f g (inr b) = g b

pub has_front : (xs ys : List Var) (z : Var) → Has xs z → Has (xs ++ ys) z
has_front [] ys z h = absurd h
has_front (x ∷ xs) ys z (inl e) = inl e
has_front (x ∷ xs) ys z (inr h) = inr (has_front xs ys z h)

pub has_behind : (xs ys : List Var) (z : Var) → Has ys z → Has (xs ++ ys) z
has_behind [] ys z h = h
has_behind (x ∷ xs) ys z h = inr (has_behind xs ys z h)

pub has_either : (xs ys : List Var) (z : Var) → Has (xs ++ ys) z → Has xs z ⊎ Has ys z
has_either [] ys z h = inr h
has_either (x ∷ xs) ys z (inl e) = inl (inl e)
has_either (x ∷ xs) ys z (inr h) = later (has_either xs ys z h)
  where
    later : Has xs z ⊎ Has ys z → Has (x ∷ xs) z ⊎ Has ys z
    later (inl k) = inl (inr k)
    later (inr k) = inr k

-- a variable that is no local
abbrev pub IsGlobal : Var → Type 0
IsGlobal (Local x) = ⊥
IsGlobal z = Unit {0}

pub kept : (xs : List Var) (z : Var) → IsGlobal z → Has xs z → Has (globals_among xs) z
kept [] z g h = absurd h
kept (Local x ∷ xs) z g (inl e) = absurd (subst IsGlobal (sym e) g)
kept (Local x ∷ xs) z g (inr h) = kept xs z g h
kept (Global m x ∷ xs) z g (inl e) = inl e
kept (Global m x ∷ xs) z g (inr h) = inr (kept xs z g h)
kept (Glob m ∷ xs) z g (inl e) = inl e
kept (Glob m ∷ xs) z g (inr h) = inr (kept xs z g h)

pub was_there : (xs : List Var) (z : Var) → Has (globals_among xs) z → IsGlobal z × Has xs z
was_there [] z h = absurd h
was_there (Local x ∷ xs) z h = let k = was_there xs z h in (k.0, inr k.1)
was_there (Global m x ∷ xs) z (inl e) = (subst IsGlobal e tt, inl e)
was_there (Global m x ∷ xs) z (inr h) = let k = was_there xs z h in (k.0, inr k.1)
was_there (Glob m ∷ xs) z (inl e) = (subst IsGlobal e tt, inl e)
was_there (Glob m ∷ xs) z (inr h) = let k = was_there xs z h in (k.0, inr k.1)

-- variables that no order tells apart are one
both_equal : (k r : Ordering) → ordering_then k r ≡ Equal → (k ≡ Equal) × (r ≡ Equal)
both_equal Less r e = cc
both_equal Equal r e = (refl, e)
both_equal Greater r e = cc

same_two : (m x n y : List ℕ) → m ∷ x ∷ [] ≡ n ∷ y ∷ [] → (m ≡ n) × (x ≡ y)
same_two m x n y e = (cc, cc)

same_one : (m n : List ℕ) → m ∷ [] ≡ n ∷ [] → m ≡ n
same_one m n e = cc

order_same : (x y : Var) → var_order x y ≡ Equal → x ≡ y
order_same (Global m x) (Global n y) e =
    let p = same_two m x n y (path_order-same (m ∷ x ∷ []) (n ∷ y ∷ []) (both_equal (nat_cmp 0 0) (path_order (m ∷ x ∷ []) (n ∷ y ∷ [])) e).1) in λ i. Global (p.0 i) (p.1 i)
order_same (Local x) (Local y) e = ap Local (same_one x y (path_order-same (x ∷ []) (y ∷ []) (both_equal (nat_cmp 1 1) (path_order (x ∷ []) (y ∷ [])) e).1))
order_same (Glob m) (Glob n) e = ap Glob (same_one m n (path_order-same (m ∷ []) (n ∷ []) (both_equal (nat_cmp 2 2) (path_order (m ∷ []) (n ∷ [])) e).1))
order_same _ _ e = cc

pub in_placed : (o : Ordering) (x y : Var) (ys further : List Var) (z : Var) → Has (ordered.placed o x y ys further) z → (Has further z → (x ≡ z) ⊎ Has ys z) → (x ≡ z) ⊎ Has (y ∷ ys) z
in_placed Less x y ys further z (inl e) go = inl e
in_placed Less x y ys further z (inr h) go = inr h
in_placed Equal x y ys further z h go = inr h
in_placed Greater x y ys further z (inl e) go = inr (inl e)
in_placed Greater x y ys further z (inr h) go = later (go h)
  where
    later : (x ≡ z) ⊎ Has ys z → (x ≡ z) ⊎ Has (y ∷ ys) z
    later (inl e) = inl e
    later (inr k) = inr (inr k)

in_inserted : (x : Var) (ys : List Var) (z : Var) → Has (inserted var_order x ys) z → (x ≡ z) ⊎ Has ys z
in_inserted x [] z (inl e) = inl e
in_inserted x [] z (inr h) = absurd h
in_inserted x (y ∷ ys) z h = in_placed (var_order x y) x y ys (inserted var_order x ys) z h (in_inserted x ys z)

inserted_it : (x : Var) (ys : List Var) → Has (inserted var_order x ys) x
inserted_it x [] = inl refl
inserted_it x (y ∷ ys) = step (var_order x y) refl (inserted_it x ys)
  where
    step : (o : Ordering) → var_order x y ≡ o → Has (inserted var_order x ys) x → Has (ordered.placed o x y ys (inserted var_order x ys)) x
    step Less e h = inl refl
    step Equal e h = inl (sym (order_same x y e))
    step Greater e h = inr h

inserted_others : (x : Var) (ys : List Var) (z : Var) → Has ys z → Has (inserted var_order x ys) z
inserted_others x [] z h = absurd h
inserted_others x (y ∷ ys) z h = step (var_order x y) h (inserted_others x ys z)
  where
    step : (o : Ordering) → Has (y ∷ ys) z → (Has ys z → Has (inserted var_order x ys) z) → Has (ordered.placed o x y ys (inserted var_order x ys)) z
    step Less h go = inr h
    step Equal h go = h
    step Greater (inl e) go = inl e
    step Greater (inr k) go = inr (go k)

pub in_ordered : (xs : List Var) (z : Var) → Has (in_order var_order xs) z → Has xs z
in_ordered [] z h = h
in_ordered (x ∷ xs) z h = either (λ e. inl e) (λ k. inr (in_ordered xs z k)) (in_inserted x (in_order var_order xs) z h)

pub ordered_has : (xs : List Var) (z : Var) → Has xs z → Has (in_order var_order xs) z
ordered_has [] z h = h
ordered_has (x ∷ xs) z (inl e) = subst (Has (inserted var_order x (in_order var_order xs))) e (inserted_it x (in_order var_order xs))
ordered_has (x ∷ xs) z (inr h) = inserted_others x (in_order var_order xs) z (ordered_has xs z h)

-- .. and in the order of the code
placed_in : (x : Var) (ys : List Var) (z : Var) → Has (placed x ys) z → (x ≡ z) ⊎ Has ys z
placed_in x [] z (inl e) = inl e
placed_in x [] z (inr h) = absurd h
placed_in x (y ∷ ys) z h = step (comes_before x y) (var_eq x y) h (placed_in x ys z)
  where
    step : (b c : Bool) → Has (if b then x ∷ y ∷ ys else if c then y ∷ ys else y ∷ placed x ys) z → (Has (placed x ys) z → (x ≡ z) ⊎ Has ys z) → (x ≡ z) ⊎ Has (y ∷ ys) z
    step true c (inl e) go = inl e
    step true c (inr k) go = inr k
    step false true k go = inr k
    step false false (inl e) go = inr (inl e)
    step false false (inr k) go = later (go k)
      where
        later : (x ≡ z) ⊎ Has ys z → (x ≡ z) ⊎ Has (y ∷ ys) z
        later (inl e) = inl e
        later (inr k) = inr (inr k)

placed_it : (x : Var) (ys : List Var) → Has (placed x ys) x
placed_it x [] = inl refl
placed_it x (y ∷ ys) = step (comes_before x y) (var_eq x y) refl (placed_it x ys)
  where
    step : (b c : Bool) → var_eq x y ≡ c → Has (placed x ys) x → Has (if b then x ∷ y ∷ ys else if c then y ∷ ys else y ∷ placed x ys) x
    step true c e h = inl refl
    step false true e h = inl (sym ((var_eq-Decides x y).0 e))
    step false false e h = inr h

placed_others : (x : Var) (ys : List Var) (z : Var) → Has ys z → Has (placed x ys) z
placed_others x [] z h = absurd h
placed_others x (y ∷ ys) z h = step (comes_before x y) (var_eq x y) h (placed_others x ys z)
  where
    step : (b c : Bool) → Has (y ∷ ys) z → (Has ys z → Has (placed x ys) z) → Has (if b then x ∷ y ∷ ys else if c then y ∷ ys else y ∷ placed x ys) z
    step true c h go = inr h
    step false true h go = h
    step false false (inl e) go = inl e
    step false false (inr k) go = inr (go k)

pub in_joined : (xs : List Var) (z : Var) → Has (joined xs []) z → Has xs z
in_joined [] z h = h
in_joined (x ∷ xs) z h = either (λ e. inl e) (λ k. inr (in_joined xs z k)) (placed_in x (joined xs []) z h)

pub joined_has : (xs : List Var) (z : Var) → Has xs z → Has (joined xs []) z
joined_has [] z h = h
joined_has (x ∷ xs) z (inl e) = subst (Has (placed x (joined xs []))) e (placed_it x (joined xs []))
joined_has (x ∷ xs) z (inr h) = placed_others x (joined xs []) z (joined_has xs z h)
