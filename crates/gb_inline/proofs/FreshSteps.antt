-- New names, step by step.
use Rattle.std.proofs.Common.{◌≡◌, ℕ, zero, suc, ◌+◌, ◌<◌, ◌≤◌, ◌^◌, Bool, true, false, cond, ◌||◌, if◌then◌else◌, List, [], ◌∷◌, ◌++◌, drop, get_or, length, append_assoc, Option, Some, None, String, string_bytes, string_eq, bytes_eq, refl, ap, sym, subst, ◌∙◌, arith}
use Rattle.std.proofs.lemmas.Map.Text.{hash_set_updates_text}
use Rattle.std.proofs.lemmas.Slice.Eq.{bytes_eq-Decides}
use Rattle.std.specs.Cmp.Lexicographic.{nat_list_eq_equiv}
use Rattle.std.specs.HashSet.{HashSet, contains_text, UpdatesBy}
use Rattle.std.specs.Option.{option_map}
use Rattle.gb_core.specs.declared.var.Var.{Var}
use Rattle.gb_core.specs.declared.var.Var.TheVariants.{Local}
use Rattle.gb_terms.specs.declared.decl.TypedName.{TypedName}
use Rattle.gb_terms.specs.Equal.{var_eq}
use Rattle.gb_meaning.specs.Names.{Name}
use Rattle.gb_inline.specs.declared.fresh.Renaming.{Renaming}
use Rattle.gb_inline.specs.Fresh.{free_from, free_name, is_taken, numbered, renamed_first, under_name, new_names}
use Rattle.gb_inline.specs.Taken.{Adds, AreNamesOf, AreTaken, IsFirstFree}

by_order : {P : Type 0} (j k : ℕ) → (j < k → P) → (k ≤ j → P) → P
by_order j zero a b = b (omega arith)
by_order zero (suc k) a b = a (omega arith)
by_order (suc j) (suc k) a b = by_order j k (λ h. a (omega (arith, h))) (λ h. b (omega (arith, h)))

-- where all of so many numbers are taken, none is free
free_none : (n k : ℕ) (used : List Var) → ((j : ℕ) → k ≤ j → j < k + n → is_taken used (numbered j) ≡ true) → free_from n k used ≡ None
unfolding free_from
free_none zero k used h = refl
free_none (suc n) k used h =
    (λ i. if h k (omega arith) (omega arith) i then free_from n (k + 1) used else Some (numbered k))
    ∙ free_none n (k + 1) used (λ j a b. h j (omega (arith, a)) (omega (arith, b)))

-- a free number behind so many that are taken
free_behind : (d n k m : ℕ) (used : List Var) → m ≡ k + d → d < n → is_taken used (numbered m) ≡ false → ((j : ℕ) → k ≤ j → j < m → is_taken used (numbered j) ≡ true) →
    free_from n k used ≡ Some (numbered m)
unfolding free_from
free_behind d zero k m used e b f h = absurd (omega (arith, b))
free_behind zero (suc n) k m used e b f h =
    let same : m ≡ k = omega (arith, e) in
    (λ i. if subst (λ z. is_taken used (numbered z) ≡ false) same f i then free_from n (k + 1) used else Some (numbered k)) ∙ ap (λ z. Some (numbered z)) (sym same)
free_behind (suc d) (suc n) k m used e b f h =
    (λ i. if h k (omega arith) (omega (arith, e)) i then free_from n (k + 1) used else Some (numbered k))
    ∙ free_behind d n (k + 1) m used (omega (arith, e)) (omega (arith, b)) f (λ j a c. h j (omega (arith, a)) c)

either_is : (a b : Bool) → cond a true b ≡ (a || b)
either_is true b = refl
either_is false b = refl

true_last : (a b : Bool) → b ≡ true → (a || b) ≡ true
true_last true b e = refl
true_last false b e = e

swapped : (a b c : Bool) → (a || (b || c)) ≡ (b || (a || c))
swapped false b c = refl
swapped true false c = refl
swapped true true c = refl

split : {A : Type 0} (xs : List A) (k : ℕ) (x : A) → k < length xs → x ≡ get_or xs k x → drop k xs ≡ x ∷ drop (k + 1) xs
split [] k x h e = absurd (omega (arith, h))
split (y ∷ xs) zero x h e = ap (λ z. z ∷ xs) (sym e)
split (y ∷ xs) (suc k) x h e = split xs k x (omega (arith, h)) e ∙ ap (λ n. x ∷ drop n (y ∷ xs)) (let m : suc (k + 1) ≡ suc k + 1 = omega arith in m)

-- with a local behind these variables
taken_more : (used : List Var) (n x : Name) → (bytes_eq x n || is_taken used x) ≡ is_taken (used ++ Local n ∷ []) x
taken_more [] n x = refl
taken_more (v ∷ used) n x = swapped (bytes_eq x n) (var_eq (Local x) v) (is_taken used x) ∙ ap (λ b. var_eq (Local x) v || b) (taken_more used n x)

module _ {Y S : Type 0} where
  pub added : (names more : HashSet (String Y) S) (n : Name) → UpdatesBy string_eq (λ k. bytes_eq n (string_bytes k)) names more true → Adds names n more
  added names more n h x =
      hash_set_updates_text n names more true h x ∙ either_is (bytes_eq n x) (contains_text names x) ∙ ap (λ b. b || contains_text names x) (nat_list_eq_equiv.symm n x)

  taken_none : (names : HashSet (String Y) S) (k : ℕ) → AreTaken names k k
  taken_none names k j a b = absurd (omega (arith, a, b))

  taken_next : (names : HashSet (String Y) S) (first k : ℕ) → contains_text names (numbered k) ≡ true → AreTaken names first k → AreTaken names first (k + 1)
  taken_next names first k e t j a b = by_order j k (t j a) (λ h. subst (λ z. contains_text names (numbered z) ≡ true) (let m : k ≡ j = omega (arith, b, h) in m) e)

  joined : (names : HashSet (String Y) S) (first k : ℕ) → AreTaken names 0 first → AreTaken names first k → AreTaken names 0 k
  joined names first k s t j a b = by_order j first (s j a) (λ h. t j h b)

  kept : (names more : HashSet (String Y) S) (n : Name) (first k : ℕ) → Adds names n more → AreTaken names first k → AreTaken more first k
  kept names more n first k a t j b c = a (numbered j) ∙ true_last (bytes_eq (numbered j) n) (contains_text names (numbered j)) (t j b c)

  there : (names more : HashSet (String Y) S) (n : Name) → Adds names n more → contains_text more n ≡ true
  there names more n a = a n ∙ ap (λ b. b || contains_text names n) ((bytes_eq-Decides n n).1 refl)

  -- as the numbers before it are taken, the first free one from a number on is the first of all
  first_free : (used : List Var) (names : HashSet (String Y) S) (first : ℕ) (made : Option ℕ) → AreNamesOf used names → AreTaken names 0 first → IsFirstFree names first made →
      free_name used ≡ option_map numbered made
  first_free used names first None a t f = free_none (2 ^ 32) 0 used (λ j b c. sym (a (numbered j)) ∙ joined names first (2 ^ 32) t f j b (omega (arith, c)))
  first_free used names first (Some k) a t f =
      free_behind k (2 ^ 32) 0 k used (omega arith) f.0 (sym (a (numbered k)) ∙ f.1) (λ j b c. sym (a (numbered j)) ∙ joined names first k t f.2 j b c)

-- behind names that are found, those of the rest
abbrev pub with_rest : List Renaming → Option (List Renaming) → Option (List Renaming)
with_rest rs o = option_map (λ more. rs ++ more) o

behind_one : (rs : List Renaming) (r : Renaming) (o : Option (List Renaming)) → with_rest rs (option_map (λ more. r ∷ more) o) ≡ with_rest (rs ++ r ∷ []) o
behind_one rs r None = refl
behind_one rs r (Some more) = ap Some (sym (append_assoc rs (r ∷ []) more))

names_next : (used : List Var) (rs : List Renaming) (l : TypedName) (ls : List TypedName) (x : Name) → Some x ≡ free_name used →
    with_rest rs (new_names used (l ∷ ls)) ≡ with_rest (rs ++ under_name l x ∷ []) (new_names (used ++ Local x ∷ []) ls)
names_next used rs l ls x e = ap (λ o. with_rest rs (renamed_first l (λ x. new_names (used ++ Local x ∷ []) ls) o)) (sym e) ∙ behind_one rs (under_name l x) (new_names (used ++ Local x ∷ []) ls)

names_none : (used : List Var) (rs : List Renaming) (l : TypedName) (ls : List TypedName) → None ≡ free_name used → None ≡ with_rest rs (new_names used (l ∷ ls))
names_none used rs l ls e = ap (λ o. with_rest rs (renamed_first l (λ x. new_names (used ++ Local x ∷ []) ls) o)) e

none_before : (o : Option (List Renaming)) → with_rest [] o ≡ o
none_before None = refl
none_before (Some rs) = refl

module _ {Y S : Type 0} where
  -- locals have new names, up to a number; those of the rest follow from the variables that are known then, these are the names of the locals among them, and numbers are taken up to one
  abbrev pub IsUnderway : List Var → List TypedName → ℕ → List Renaming → HashSet (String Y) S → ℕ → Type 0
  IsUnderway used ls i rs names first = (known : List Var) × (with_rest rs (new_names known (drop i ls)) ≡ new_names used ls) × AreNamesOf known names × AreTaken names 0 first

  pub names_first : (used : List Var) (ls : List TypedName) (names : HashSet (String Y) S) → AreNamesOf used names → IsUnderway used ls 0 [] names 0
  names_first used ls names a = (used, none_before (new_names used ls), a, taken_none names 0)

  pub names_later : (used : List Var) (ls : List TypedName) (i : ℕ) (rs all : List Renaming) (names more : HashSet (String Y) S) (first k : ℕ) (l : TypedName) (x : Name) (r : Renaming) →
      i < length ls → l ≡ get_or ls i l → IsFirstFree names first (Some k) → x ≡ numbered k → Adds names x more → r ≡ under_name l x → all ≡ rs ++ r ∷ [] → IsUnderway used ls i rs names first →
      IsUnderway used ls (i + 1) all more (k + 1)
  names_later used ls i rs all names more first k l x r h e f p a w v u =
      let known = u.0 in
      let q : Some x ≡ free_name known = ap Some p ∙ sym (first_free known names first (Some k) u.2 u.3 f) in
      let found : all ≡ rs ++ under_name l x ∷ [] = v ∙ ap (λ z. rs ++ z ∷ []) w in (
        known ++ Local x ∷ [],
        (λ j. with_rest (found j) (new_names (known ++ Local x ∷ []) (drop (i + 1) ls))) ∙ sym (names_next known rs l (drop (i + 1) ls) x q)
            ∙ ap (λ z. with_rest rs (new_names known z)) (sym (split ls i l h e)) ∙ u.1,
        λ y. a y ∙ ap (λ b. bytes_eq y x || b) (u.2 y) ∙ taken_more known x y,
        taken_next more 0 k (subst (λ z. contains_text more z ≡ true) p (there names more x a)) (kept names more x 0 k a (joined names first k u.3 f.2)),
      )

  pub names_over : (used : List Var) (ls : List TypedName) (i : ℕ) (rs : List Renaming) (names : HashSet (String Y) S) (first : ℕ) (l : TypedName) → i < length ls → l ≡ get_or ls i l →
      IsFirstFree names first None → IsUnderway used ls i rs names first → None ≡ new_names used ls
  names_over used ls i rs names first l h e f u =
      names_none u.0 rs l (drop (i + 1) ls) (sym (first_free u.0 names first None u.2 u.3 f)) ∙ ap (λ z. with_rest rs (new_names u.0 z)) (sym (split ls i l h e)) ∙ u.1
