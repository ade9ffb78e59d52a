-- Names by sorts: a part of the sort of names is a name.
use Rattle.std.proofs.Common.{◌≡◌, ◌⊎◌, inl, inr, ℕ, Bool, true, false, not, ◌&&◌, ◌||◌, nat_eq, nat_lt, if◌then◌else◌, List, [], ◌∷◌, refl, ap, sym, ◌∙◌, subst}
use Rattle.std.proofs.lemmas.Bool.{eqb-true, false≢true}
use Rattle.std.specs.List.{AllByRecursion, list_all}
use Rattle.gb_language.specs.Sorts.{name_kind, names_kind, name_sort, names_sort, role, signature, signatures}
use Rattle.gb_script.specs.declared.head.Head.{Head}
use Rattle.gb_script.specs.declared.head.Head.TheVariants as head
use Rattle.gb_script.specs.declared.tree.Node.{Node}
use Rattle.gb_script.specs.Each.{Each, EachOf}
use Rattle.gb_script.specs.Each.Each.{each}
use Rattle.gb_script.specs.Each.EachOf.{none, more as each_more}
use Rattle.gb_script.specs.Sorts.{Sort, Role, Is, Parts, Fits, holds}
use Rattle.gb_script.specs.Sorts.Role.{whole, item, list}
use Rattle.gb_script.specs.Sorts.Is.{formed, listed}
use Rattle.gb_script.specs.Sorts.Parts.{own, longer}
use Rattle.gb_script.specs.Sorts.Fits.{end, more, next}
use Rattle.gb_script.specs.Spelled.{apart}
use Rattle.gb_script.specs.Tree.{head_of, parts_of}
use Rattle.gb_shown.specs.Words.{HasItsNames, IsName}
use Rattle.gb_shown.proofs.Later.{both_hold}

-- nodes that lack the name in front of their parts: no part of a whole tree is one
abbrev bad : Sort
bad = 48 ∷ 49 ∷ 66 ∷ 69 ∷ []

abbrev role_fine : Role → Bool
role_fine (item o j) = apart o bad && (not (nat_eq name_kind j) && not (nat_eq names_kind j))
role_fine (list e) = apart e bad
role_fine whole = true

fine_if : (b : Bool) (r s : Role) → role_fine r ≡ true → role_fine s ≡ true → role_fine (if b then r else s) ≡ true
fine_if true r s h k = h
fine_if false r s h k = k

roles_fine : (n : ℕ) → role_fine (role n) ≡ true
roles_fine n =
    fine_if (nat_lt n 64) _ _ (fine_if (nat_lt n 32) _ _ (fine_if (nat_lt n 16) _ _ (fine_if (nat_lt n 8) _ _ (fine_if (nat_lt n 4) _ _ (fine_if (nat_lt n 2)
    _ _ (fine_if (nat_lt n 1) _ _ refl refl) (fine_if (nat_lt n 3) _ _ refl refl)) (fine_if (nat_lt n 6) _ _ (fine_if (nat_lt n 5) _ _ refl refl) (fine_if (nat_lt n 7)
    _ _ refl refl))) (fine_if (nat_lt n 12) _ _ (fine_if (nat_lt n 10) _ _ (fine_if (nat_lt n 9) _ _ refl refl) (fine_if (nat_lt n 11) _ _ refl refl)) (fine_if (nat_lt n 14)
    _ _ (fine_if (nat_lt n 13) _ _ refl refl) (fine_if (nat_lt n 15) _ _ refl refl)))) (fine_if (nat_lt n 24) _ _ (fine_if (nat_lt n 20) _ _ (fine_if (nat_lt n 18)
    _ _ (fine_if (nat_lt n 17) _ _ refl refl) (fine_if (nat_lt n 19) _ _ refl refl)) (fine_if (nat_lt n 22) _ _ (fine_if (nat_lt n 21) _ _ refl refl) (fine_if (nat_lt n 23)
    _ _ refl refl))) (fine_if (nat_lt n 28) _ _ (fine_if (nat_lt n 26) _ _ (fine_if (nat_lt n 25) _ _ refl refl) (fine_if (nat_lt n 27) _ _ refl refl)) (fine_if (nat_lt n 30)
    _ _ (fine_if (nat_lt n 29) _ _ refl refl) (fine_if (nat_lt n 31) _ _ refl refl))))) (fine_if (nat_lt n 48) _ _ (fine_if (nat_lt n 40) _ _ (fine_if (nat_lt n 36)
    _ _ (fine_if (nat_lt n 34) _ _ (fine_if (nat_lt n 33) _ _ refl refl) (fine_if (nat_lt n 35) _ _ refl refl)) (fine_if (nat_lt n 38) _ _ (fine_if (nat_lt n 37)
    _ _ refl refl) (fine_if (nat_lt n 39) _ _ refl refl))) (fine_if (nat_lt n 44) _ _ (fine_if (nat_lt n 42) _ _ (fine_if (nat_lt n 41) _ _ refl refl) (fine_if (nat_lt n 43)
    _ _ refl refl)) (fine_if (nat_lt n 46) _ _ (fine_if (nat_lt n 45) _ _ refl refl) (fine_if (nat_lt n 47) _ _ refl refl)))) (fine_if (nat_lt n 56) _ _ (fine_if (nat_lt n 52)
    _ _ (fine_if (nat_lt n 50) _ _ (fine_if (nat_lt n 49) _ _ refl refl) (fine_if (nat_lt n 51) _ _ refl refl)) (fine_if (nat_lt n 54) _ _ (fine_if (nat_lt n 53)
    _ _ refl refl) (fine_if (nat_lt n 55) _ _ refl refl))) (fine_if (nat_lt n 60) _ _ (fine_if (nat_lt n 58) _ _ (fine_if (nat_lt n 57) _ _ refl refl) (fine_if (nat_lt n 59)
    _ _ refl refl)) (fine_if (nat_lt n 62) _ _ (fine_if (nat_lt n 61) _ _ refl refl) (fine_if (nat_lt n 63) _ _ refl refl)))))) (fine_if (nat_lt n 96) _ _ (fine_if (nat_lt n 80)
    _ _ (fine_if (nat_lt n 72) _ _ (fine_if (nat_lt n 68) _ _ (fine_if (nat_lt n 66) _ _ (fine_if (nat_lt n 65) _ _ refl refl) (fine_if (nat_lt n 67) _ _ refl refl))
    (fine_if (nat_lt n 70) _ _ (fine_if (nat_lt n 69) _ _ refl refl) (fine_if (nat_lt n 71) _ _ refl refl))) (fine_if (nat_lt n 76) _ _ (fine_if (nat_lt n 74)
    _ _ (fine_if (nat_lt n 73) _ _ refl refl) (fine_if (nat_lt n 75) _ _ refl refl)) (fine_if (nat_lt n 78) _ _ (fine_if (nat_lt n 77) _ _ refl refl) (fine_if (nat_lt n 79)
    _ _ refl refl)))) (fine_if (nat_lt n 88) _ _ (fine_if (nat_lt n 84) _ _ (fine_if (nat_lt n 82) _ _ (fine_if (nat_lt n 81) _ _ refl refl) (fine_if (nat_lt n 83)
    _ _ refl refl)) (fine_if (nat_lt n 86) _ _ (fine_if (nat_lt n 85) _ _ refl refl) (fine_if (nat_lt n 87) _ _ refl refl))) (fine_if (nat_lt n 92) _ _ (fine_if (nat_lt n 90)
    _ _ (fine_if (nat_lt n 89) _ _ refl refl) (fine_if (nat_lt n 91) _ _ refl refl)) (fine_if (nat_lt n 94) _ _ (fine_if (nat_lt n 93) _ _ refl refl) (fine_if (nat_lt n 95)
    _ _ refl refl))))) (fine_if (nat_lt n 112) _ _ (fine_if (nat_lt n 104) _ _ (fine_if (nat_lt n 100) _ _ (fine_if (nat_lt n 98) _ _ (fine_if (nat_lt n 97)
    _ _ refl refl) (fine_if (nat_lt n 99) _ _ refl refl)) (fine_if (nat_lt n 102) _ _ (fine_if (nat_lt n 101) _ _ refl refl) (fine_if (nat_lt n 103) _ _ refl refl)))
    (fine_if (nat_lt n 108) _ _ (fine_if (nat_lt n 106) _ _ (fine_if (nat_lt n 105) _ _ refl refl) (fine_if (nat_lt n 107) _ _ refl refl)) (fine_if (nat_lt n 110)
    _ _ (fine_if (nat_lt n 109) _ _ refl refl) (fine_if (nat_lt n 111) _ _ refl refl)))) (fine_if (nat_lt n 113) _ _ refl refl)))

-- the sorts of the parts of a head
own_fine : (h : Head) → (list_all (λ s. apart s bad) (signature h).parts.first && apart (signature h).parts.rest bad) ≡ true
own_fine head.List = refl
own_fine _ = refl

-- a name alone is of the kind of names, and nothing is of that of lists of names
name_head : (h : Head) → nat_eq name_kind (signature h).kind ≡ true → h ≡ head.Name
name_head head.Name e = refl
name_head _ e = absurd (false≢true e)

no_names_head : (h : Head) → nat_eq names_kind (signature h).kind ≡ true → ⊥
no_names_head head.List e = false≢true e
no_names_head _ e = false≢true e

only : (b : Bool) → (b || false) ≡ true → b ≡ true
only true e = refl
only false e = e

not_so : (b : Bool) → not b ≡ true → b ≡ true → ⊥
not_so true e k = false≢true e
not_so false e k = false≢true k

item_fine : (k : ℕ) (o : Sort) (j : ℕ) → role k ≡ item o j → role_fine (item o j) ≡ true
item_fine k o j e = subst (λ r. role_fine r ≡ true) e (roles_fine k)

name_parts : {h : Head} {k : ℕ} {xs : List Node} → Parts signatures h k xs → holds name_sort k ≡ true → h ≡ head.Name
name_parts (own {h = h} f) e = name_head h (only (nat_eq name_kind (signature h).kind) e)
name_parts (longer {k = k} o j r i p) e =
    let f = both_hold (apart o bad) _ (item_fine k o j r) in
    let g = both_hold (not (nat_eq name_kind j)) (not (nat_eq names_kind j)) f.1 in
    absurd (not_so (nat_eq name_kind j) g.0 (only (nat_eq name_kind j) e))

names_parts : {h : Head} {k : ℕ} {xs : List Node} → Parts signatures h k xs → holds names_sort k ≡ true → ⊥
names_parts (own {h = h} f) e = no_names_head h (only (nat_eq names_kind (signature h).kind) e)
names_parts (longer {k = k} o j r i p) e =
    let f = both_hold (apart o bad) _ (item_fine k o j r) in
    let g = both_hold (not (nat_eq name_kind j)) (not (nat_eq names_kind j)) f.1 in
    not_so (nat_eq names_kind j) g.1 (only (nat_eq names_kind j) e)

kind_is : (j k : ℕ) → holds (j ∷ []) k ≡ true → j ≡ k
kind_is j k e = eqb-true j k (only (nat_eq j k) e)

-- what is a name by its sort is one by its head
name_is : {x : Node} → Is signatures name_sort x → head_of x ≡ head.Name
name_is (formed k h t p) = name_parts p h
name_is (listed k s h r m t f) = let e : role name_kind ≡ list s = ap role (kind_is name_kind k m) ∙ r in absurd (cc)

-- nodes of the sort of names
abbrev AllNames : List Node → Type 0
AllNames xs = AllByRecursion (λ x. head_of x ≡ head.Name) xs

fits_names : {xs : List Node} → Fits signatures [] name_sort xs → AllNames xs
fits_names end = tt
fits_names (more i f) = (name_is i, fits_names f)

same_list : (e s : Sort) → list e ≡ list s → e ≡ s
same_list e s h = cc

names_are : {x : Node} → Is signatures names_sort x → AllNames (parts_of x)
names_are (formed k h t p) = absurd (names_parts p h)
names_are (listed {x = x} k s h r m t f) =
    let e : role names_kind ≡ list s = ap role (kind_is names_kind k m) ∙ r in
    fits_names (subst (λ z. Fits signatures [] z (parts_of x)) (sym (same_list name_sort s e)) f)

-- Parts of nodes that are whole, and of those that lack one.

whole_parts : {h : Head} {k : ℕ} {xs : List Node} → role (signature h).kind ≡ whole → Parts signatures h k xs → (k ≡ (signature h).kind) × Fits signatures (signature h).parts.first (signature h).parts.rest xs
whole_parts w (own f) = (refl, f)
whole_parts w (longer {k = k} o j r i p) = let a = whole_parts w p in let e : whole ≡ item o j = sym w ∙ ap role (sym a.0) ∙ r in absurd (cc)

-- a node with the part that it lacks without it
pub record Completed (h : Head) (o : Sort) (xs : List Node) : Type 0 where
  pub first : Node
  pub others : List Node
  pub are : xs ≡ first ∷ others
  pub is : Is signatures o first
  pub fits : Fits signatures (signature h).parts.first (signature h).parts.rest others

same_sort_of : (o p : Sort) (i j : ℕ) → item o i ≡ item p j → o ≡ p
same_sort_of o p i j e = cc

same_kind_of : (o p : Sort) (i j : ℕ) → item o i ≡ item p j → i ≡ j
same_kind_of o p i j e = cc

completed : {h : Head} {k : ℕ} {xs : List Node} (o : Sort) (j : ℕ) → role (signature h).kind ≡ item o j → role j ≡ whole → Parts signatures h k xs →
    ((k ≡ (signature h).kind) × Fits signatures (signature h).parts.first (signature h).parts.rest xs) ⊎ ((k ≡ j) × Completed h o xs)
completed o j a b (own f) = inl (refl, f)
completed {h = h} o j a b (longer {k = k} {x = x} {xs = xs} p i r is inner) = by_inner (completed o j a b inner)
  where
    by_inner : ((k ≡ (signature h).kind) × Fits signatures (signature h).parts.first (signature h).parts.rest xs) ⊎ ((k ≡ j) × Completed h o xs) →
        ((i ≡ (signature h).kind) × Fits signatures (signature h).parts.first (signature h).parts.rest (x ∷ xs)) ⊎ ((i ≡ j) × Completed h o (x ∷ xs))
    by_inner (inl c) =
        let e : item o j ≡ item p i = sym a ∙ ap role (sym c.0) ∙ r in
        inr (sym (same_kind_of o p j i e), record { first = x; others = xs; are = refl; is = subst (λ z. Is signatures z x) (sym (same_sort_of o p j i e)) is; fits = c.1 })
    by_inner (inr c) = let e : whole ≡ item p i = sym b ∙ ap role (sym c.0) ∙ r in absurd (cc)

-- The names of nodes.

-- each node that is a name is one
abbrev pub IsWorded : Node → Type 0
IsWorded x = head_of x ≡ head.Name → IsName x

worded : {x : Node} → Each IsWorded x → IsWorded x
worded (each w ws) = w

worded_parts : {x : Node} → Each IsWorded x → EachOf IsWorded (parts_of x)
worded_parts (each w ws) = ws

-- what is a name by its sort is one
a_name : {x : Node} → Is signatures name_sort x → Each IsWorded x → IsName x
a_name i w = worded w (name_is i)

named_all : (xs : List Node) → AllNames xs → EachOf IsWorded xs → AllByRecursion IsName xs
named_all [] k w = tt
named_all (x ∷ xs) k (each_more v w) = (worded v k.0, named_all xs k.1 w)

names_in : {x : Node} → Is signatures names_sort x → Each IsWorded x → AllByRecursion IsName (parts_of x)
names_in {x = x} i w = named_all (parts_of x) (names_are i) (worded_parts w)

fits_named : {xs : List Node} → Fits signatures [] name_sort xs → EachOf IsWorded xs → AllByRecursion IsName xs
fits_named end w = tt
fits_named (more i f) (each_more v w) = (a_name i v, fits_named f w)

-- the first part is a name
first_name : {f : List Sort} {r : Sort} {xs : List Node} (h : Head) → Fits signatures (name_sort ∷ f) r xs → EachOf IsWorded xs → ((x : Node) (ys : List Node) → IsName x → HasItsNames h (x ∷ ys)) → HasItsNames h xs
first_name h (next {x = x} {xs = ys} i f) (each_more v w) k = k x ys (a_name i v)

first_names : {f : List Sort} {r : Sort} {xs : List Node} (h : Head) → Fits signatures (names_sort ∷ f) r xs → EachOf IsWorded xs → ((x : Node) (ys : List Node) → AllByRecursion IsName (parts_of x) → HasItsNames h (x ∷ ys)) → HasItsNames h xs
first_names h (next {x = x} {xs = ys} i f) (each_more v w) k = k x ys (names_in i v)

-- a name in front of what a node lacks it for
in_front : (h : Head) {k : ℕ} {xs : List Node} (j : ℕ) → role (signature h).kind ≡ item name_sort j → role j ≡ whole → holds bad (signature h).kind ≡ true → Parts signatures h k xs → holds bad k ≡ false →
    EachOf IsWorded xs → ((x : Node) (ys : List Node) → IsName x → Fits signatures (signature h).parts.first (signature h).parts.rest ys → EachOf IsWorded ys → HasItsNames h (x ∷ ys)) → HasItsNames h xs
in_front h {k = k} {xs = xs} j a b c p good w done = by_case (completed name_sort j a b p)
  where
    by_first : (x : Node) (ys : List Node) → xs ≡ x ∷ ys → EachOf IsWorded (x ∷ ys) → Is signatures name_sort x → Fits signatures (signature h).parts.first (signature h).parts.rest ys → HasItsNames h xs
    by_first x ys e (each_more v u) i f = subst (HasItsNames h) (sym e) (done x ys (a_name i v) f u)

    by_case : ((k ≡ (signature h).kind) × Fits signatures (signature h).parts.first (signature h).parts.rest xs) ⊎ ((k ≡ j) × Completed h name_sort xs) → HasItsNames h xs
    by_case (inl s) = absurd (false≢true (sym good ∙ ap (holds bad) s.0 ∙ c))
    by_case (inr s) = let m = s.1 in by_first m.first m.others m.are (subst (EachOf IsWorded) m.are w) m.is m.fits

names_by_head : (h : Head) {k : ℕ} {xs : List Node} → Parts signatures h k xs → holds bad k ≡ false → EachOf IsWorded xs → HasItsNames h xs
names_by_head head.Values p good w =
    in_front head.Values 5 refl refl refl p good w (λ x ys n f u. by_fits x ys n f u)
  where
    by_fits : (x : Node) (ys : List Node) → IsName x → Fits signatures (signature head.Values).parts.first (signature head.Values).parts.rest ys → EachOf IsWorded ys → HasItsNames head.Values (x ∷ ys)
    by_fits x ys n (next {x = y} {xs = zs} i f) (each_more v u) = (n, names_in i v)
names_by_head head.ModuleBind p good w = in_front head.ModuleBind 6 refl refl refl p good w (λ x ys n f u. n)
names_by_head head.Module p good w = in_front head.Module 18 refl refl refl p good w (λ x ys n f u. n)
names_by_head head.AscribedModule p good w = in_front head.AscribedModule 18 refl refl refl p good w (λ x ys n f u. n)
names_by_head head.HaveForm p good w = in_front head.HaveForm 37 refl refl refl p good w (λ x ys n f u. n)
names_by_head head.HaveLemma p good w = in_front head.HaveLemma 37 refl refl refl p good w (λ x ys n f u. n)
names_by_head head.Memory p good w = first_name head.Memory (whole_parts refl p).1 w (λ x ys n. n)
names_by_head head.Globals p good w = first_names head.Globals (whole_parts refl p).1 w (λ x ys n. n)
names_by_head head.Procedure p good w = first_name head.Procedure (whole_parts refl p).1 w (λ x ys n. n)
names_by_head head.Formal p good w = first_name head.Formal (whole_parts refl p).1 w (λ x ys n. n)
names_by_head head.Variables p good w = first_names head.Variables (whole_parts refl p).1 w (λ x ys n. n)
names_by_head head.TypeDeclaration p good w = first_name head.TypeDeclaration (whole_parts refl p).1 w (λ x ys n. n)
names_by_head head.OperatorDeclaration p good w = first_name head.OperatorDeclaration (whole_parts refl p).1 w (λ x ys n. n)
names_by_head head.ModuleType p good w = first_name head.ModuleType (whole_parts refl p).1 w (λ x ys n. n)
names_by_head head.ModuleParameter p good w = first_name head.ModuleParameter (whole_parts refl p).1 w (λ x ys n. n)
names_by_head head.Signature p good w = first_name head.Signature (whole_parts refl p).1 w (λ x ys n. n)
names_by_head head.Lemma p good w = first_name head.Lemma (whole_parts refl p).1 w (λ x ys n. n)
names_by_head head.Enumeration p good w = by_fits (whole_parts refl p).1 w
  where
    by_fits : {xs : List Node} → Fits signatures (name_sort ∷ []) name_sort xs → EachOf IsWorded xs → AllByRecursion IsName xs
    by_fits (next i f) (each_more v u) = (a_name i v, fits_named f u)
names_by_head _ p good w = tt

-- Trees.

pub record IsNamedNode (x : Node) : Type 0 where
  pub word : IsWorded x
  pub names : HasItsNames (head_of x) (parts_of x)

abbrev fine : Sort → Type 0
fine s = apart s bad ≡ true

not_bad : (s : Sort) (k : ℕ) → fine s → holds s k ≡ true → holds bad k ≡ false
not_bad [] k f e = absurd (false≢true e)
not_bad (j ∷ s) k f e = step (nat_eq j k) refl (both_hold (not (holds bad j)) (apart s bad) f) (λ i g. not_bad s k g i) e
  where
    negated : (b : Bool) → not b ≡ true → b ≡ false
    negated true i = absurd (false≢true i)
    negated false i = refl

    step : (b : Bool) → nat_eq j k ≡ b → (not (holds bad j) ≡ true) × (apart s bad ≡ true) → (holds s k ≡ true → apart s bad ≡ true → holds bad k ≡ false) → (b || holds s k) ≡ true → holds bad k ≡ false
    step true same g behind i = subst (λ z. holds bad z ≡ false) (eqb-true j k same) (negated (holds bad j) g.0)
    step false same g behind i = behind i g.1

mutual
  pub tree_named : {s : Sort} {x : Node} → Is signatures s x → fine s → Each IsWorded x → Each IsNamedNode x
  tree_named {s = s} (formed {x = x} k h t p) f (each w ws) =
      each (record { word = w; names = names_by_head (head_of x) p (not_bad s k f h) ws }) (parts_named p ws)
  tree_named (listed {x = x} k e h r m t q) f (each w ws) =
      each (record { word = w; names = subst (λ z. HasItsNames z (parts_of x)) (sym h) tt }) (fits_all q refl (subst (λ z. role_fine z ≡ true) r (roles_fine k)) ws)

  parts_named : {h : Head} {k : ℕ} {xs : List Node} → Parts signatures h k xs → EachOf IsWorded xs → EachOf IsNamedNode xs
  parts_named (own {h = h} q) ws = let f = both_hold (list_all (λ s. apart s bad) (signature h).parts.first) (apart (signature h).parts.rest bad) (own_fine h) in fits_all q f.0 f.1 ws
  parts_named (longer {k = k} o j r i p) (each_more v ws) = let f = both_hold (apart o bad) _ (item_fine k o j r) in each_more (tree_named i f.0 v) (parts_named p ws)

  fits_all : {f : List Sort} {r : Sort} {xs : List Node} → Fits signatures f r xs → list_all (λ s. apart s bad) f ≡ true → fine r → EachOf IsWorded xs → EachOf IsNamedNode xs
  fits_all end a b none = none
  fits_all (more i q) a b (each_more v ws) = each_more (tree_named i b v) (fits_all q a b ws)
  fits_all (next {s = s} {f = f} i q) a b (each_more v ws) = let g = both_hold (apart s bad) (list_all (λ s. apart s bad) f) a in each_more (tree_named i g.0 v) (fits_all q g.1 b ws)
