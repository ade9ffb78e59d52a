-- Counting modules one after another.
use Rattle.std.proofs.Common.{◌≡◌, ℕ, suc, ◌+◌, ◌<◌, ◌≤◌, Bool, true, false, if◌then◌else◌, Option, Some, None, List, [], ◌∷◌, ◌++◌, take, drop, set, map, length, get_or, refl, sym, ap, ◌∙◌, append_assoc, add-one}
use Rattle.std.specs.Prelude.{bytes_eq}
use Rattle.std.specs.Option.{option_map}
use Rattle.std.proofs.lemmas.List.{at_drop_more, at_drop_all, take_more, take_all, set_split}
use Rattle.gb_meaning.specs.Names.{Name}
use Rattle.gb_labels.specs.declared.labels.Label.{Label}
use Rattle.gb_labels.specs.Labels.{Labels}
use Rattle.gb_labels.specs.Things.{all_names, both_names, counted, with_one}

counted_append : (ls : Labels) (ms ns : List Name) → counted ls (ms ++ ns) ≡ counted (counted ls ms) ns
counted_append ls [] ns = refl
counted_append ls (m ∷ ms) ns = counted_append (with_one ls m) ms ns

counted_some : (ls more : Labels) (o p : Option (List Name)) → Some more ≡ option_map (counted ls) o → option_map (counted more) p ≡ option_map (counted ls) (both_names o p)
counted_some ls more None p e = absurd (cc)
counted_some ls more (Some ms) None e = refl
counted_some ls more (Some ms) (Some ns) e =
    let m : more ≡ counted ls ms = cc in
    ap Some (ap (λ l. counted l ns) m ∙ sym (counted_append ls ms ns))

counted_none : (ls : Labels) (o p : Option (List Name)) → None ≡ option_map (counted ls) o → None ≡ option_map (counted ls) (both_names o p)
counted_none ls None p e = refl
counted_none ls (Some ms) p e = absurd (cc)

module _ {X : Type 0} (f : X → Option (List Name)) (ls : Labels) (xs : List X) (i : ℕ) (x : X) (l : i < length xs) (e : x ≡ get_or xs i x) where
  next : option_map (counted ls) (all_names (map f (drop i xs))) ≡ option_map (counted ls) (both_names (f x) (all_names (map f (drop (i + 1) xs))))
  next =
      at_drop_more (λ ys. option_map (counted ls) (all_names (map f ys))) xs i x l
      ∙ ap (λ y. option_map (counted ls) (both_names (f y) (all_names (map f (drop (i + 1) xs))))) (sym e)

  -- one more of a list whose modules are counted
  pub counted_more : (more : Labels) → Some more ≡ option_map (counted ls) (f x) → option_map (counted more) (all_names (map f (drop (i + 1) xs))) ≡ option_map (counted ls) (all_names (map f (drop i xs)))
  counted_more more h = counted_some ls more (f x) (all_names (map f (drop (i + 1) xs))) h ∙ sym next

  -- one that has none
  pub counted_stop : None ≡ option_map (counted ls) (f x) → None ≡ option_map (counted ls) (all_names (map f (drop i xs)))
  counted_stop h = counted_none ls (f x) (all_names (map f (drop (i + 1) xs))) h ∙ sym next

-- a module counted once more

-- the first of some modules, by whether it is the one that is counted
abbrev stepped : Label → Labels → Labels → Bool → Labels
stepped x others behind b = if b then record x { count = suc x.count } ∷ others else x ∷ behind

module _ (xs : Labels) (i : ℕ) (x : Label) (m : Name) (l : i < length xs) (e : x ≡ get_or xs i x) where
  abbrev others : Labels
  others = drop (i + 1) xs

  here : with_one (drop i xs) m ≡ stepped x others (with_one others m) (bytes_eq x.name m)
  here =
      let f : Label → Labels = λ y. stepped y others (with_one others m) (bytes_eq y.name m) in
      at_drop_more (λ ys. with_one ys m) xs i x l ∙ ap f (sym e)

  pub counted_there : (all new : Labels) (more : Label) → bytes_eq x.name m ≡ true → more ≡ record { name = x.name; count = suc x.count } → new ≡ set xs i more → take i xs ++ with_one (drop i xs) m ≡ all → new ≡ all
  counted_there all new more h is n so_far =
      n
      ∙ set_split xs i more l
      ∙ ap (λ k. take i xs ++ more ∷ drop k xs) (sym (add-one i))
      ∙ ap (λ y. take i xs ++ y ∷ others) is
      ∙ ap (λ b. take i xs ++ stepped x others (with_one others m) b) (sym h)
      ∙ ap (λ ys. take i xs ++ ys) (sym here)
      ∙ so_far

  pub counted_behind : (all : Labels) → bytes_eq x.name m ≡ false → take i xs ++ with_one (drop i xs) m ≡ all → take (i + 1) xs ++ with_one (drop (i + 1) xs) m ≡ all
  counted_behind all h so_far =
      ap (λ ys. ys ++ with_one others m) (take_more xs i x l ∙ ap (λ y. take i xs ++ y ∷ []) (sym e))
      ∙ append_assoc (take i xs) (x ∷ []) (with_one others m)
      ∙ ap (λ b. take i xs ++ stepped x others (with_one others m) b) (sym h)
      ∙ ap (λ ys. take i xs ++ ys) (sym here)
      ∙ so_far

-- one that isn't there yet
pub counted_new : (xs all new : Labels) (i : ℕ) (m n : Name) → length xs ≤ i → n ≡ m → new ≡ xs ++ record { name = n; count = 1 } ∷ [] → take i xs ++ with_one (drop i xs) m ≡ all → new ≡ all
counted_new xs all new i m n l is e so_far =
    e
    ∙ (λ j. sym (take_all i xs l) j ++ record { name = is j; count = 1 } ∷ [])
    ∙ ap (λ ys. take i xs ++ ys) (sym (at_drop_all (λ ys. with_one ys m) xs i l))
    ∙ so_far
