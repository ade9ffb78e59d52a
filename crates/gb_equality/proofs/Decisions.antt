-- What can be decided of labels and of terms.
use Rattle.std.proofs.Common.{◌≡◌, ◌≢◌, ℕ, zero, suc, ◌<◌, ◌⊎◌, inl, inr, Bool, true, false, List, [], ◌∷◌, length, get_or, Option, Some, None, refl, sym, ap, ◌∙◌, subst, arith}
use Rattle.std.specs.List.{All, Contains}
use Rattle.std.proofs.lemmas.Bool.{false≢true, cases_order}
use Rattle.std.proofs.lemmas.List.Elements.{All-nil, All-cons, All-head, All-tail}
use Rattle.gb_core.specs.declared.ty.Ty.{Ty}
use Rattle.gb_core.specs.declared.ty.Ty.TheVariants as ty
use Rattle.gb_terms.specs.declared.term.Term.{Term}
use Rattle.gb_terms.specs.declared.term.Head.TheViews.{out-Term, out-roll-Term}
use Rattle.gb_terms.specs.declared.term.Head.{Head}
use Rattle.gb_terms.specs.declared.term.Head.TheVariants as head
use Rattle.gb_meaning.proofs.SameTerms.{same_terms}
use Rattle.gb_equality.specs.Parts.{Operator, operator_of}
use Rattle.gb_equality.specs.Connectives.{shown, AreDifferent}
use Rattle.gb_equality.proofs.Places.{some_same}
use Rattle.gb_equality.proofs.Rows.{made_of}

abbrev pub Decided : Type 0 → Type 0
Decided A = A ⊎ (A → ⊥)

pub both_or : {A B : Type 0} → Decided A → Decided B → Decided (A × B)
both_or (inl a) (inl b) = inl (a, b)
both_or (inl a) (inr n) = inr (λ x. n x.1)
both_or (inr n) b = inr (λ x. n x.0)

pub implies_or : {A B : Type 0} → Decided A → Decided B → Decided (A → B)
implies_or a (inl b) = inl (λ x. b)
implies_or (inl a) (inr n) = inr (λ f. n (f a))
implies_or (inr m) (inr n) = inl (λ a. absurd (m a))

pub not_or : {A : Type 0} → Decided A → Decided (A → ⊥)
not_or (inl a) = inr (λ n. n a)
not_or (inr n) = inl n

pub like_or : {A B : Type 0} → (A → B) → (B → A) → Decided A → Decided B
like_or f g (inl a) = inl (f a)
like_or f g (inr n) = inr (λ b. n (g b))

-- numbers and lists of them

pub numbers_or : (x y : ℕ) → Decided (x ≡ y)
numbers_or x y = by_order (cases_order x y)
  where
    by_order : (x ≡ y) ⊎ ((x < y) ⊎ (y < x)) → Decided (x ≡ y)
    by_order (inl e) = inl e
    by_order (inr (inl l)) = inr (λ e. omega (arith, e, l))
    by_order (inr (inr l)) = inr (λ e. omega (arith, e, l))

pub truths_or : (x : ℕ) → Decided (x < 2)
truths_or zero = inl (omega arith)
truths_or (suc zero) = inl (omega arith)
truths_or (suc (suc x)) = inr (λ l. omega (arith, l))

pub bools_or : (b : Bool) → Decided (b ≡ true)
bools_or true = inl refl
bools_or false = inr (λ e. false≢true e)

pub lists_or : (xs ys : List ℕ) → Decided (xs ≡ ys)
lists_or [] [] = inl refl
lists_or [] (y ∷ ys) = inr (λ e. cc)
lists_or (x ∷ xs) [] = inr (λ e. cc)
lists_or (x ∷ xs) (y ∷ ys) = like_or (λ p i. p.0 i ∷ p.1 i) parts (both_or (numbers_or x y) (lists_or xs ys))
  where
    parts : x ∷ xs ≡ y ∷ ys → (x ≡ y) × (xs ≡ ys)
    parts e =
        let a : x ≡ y = cc in
        let b : xs ≡ ys = cc in (a, b)

-- terms, operators, heads and types

pub terms_or : (a b : Term) → Decided (a ≡ b)
terms_or a b = of_test (same_terms a b)
  where
    of_test : Dec (a ≡ b) → Decided (a ≡ b)
    of_test (yes p) = inl p
    of_test (no n) = inr n

operator_in : Term → Operator
operator_in t = record { head = (out-Term t).head; kept = (out-Term t).args; ty = (out-Term t).ty }

abbrev bare : Operator → Term
bare o = made_of o []

operator_of_bare : (o : Operator) → operator_in (bare o) ≡ o
unfolding operator_in
operator_of_bare o = ap (λ x. record { head = x.head; kept = x.args; ty = x.ty }) (out-roll-Term (record { head = o.head; args = o.kept; ty = o.ty }))

operators_or : (o p : Operator) → Decided (o ≡ p)
operators_or o p = like_or (λ e. sym (operator_of_bare o) ∙ ap operator_in e ∙ operator_of_bare p) (ap bare) (terms_or (bare o) (bare p))

pub same_operators_or : (t u : Term) → Decided (operator_of t ≡ operator_of u)
same_operators_or t u = operators_or (operator_of t) (operator_of u)

abbrev of_head : Head → Operator
of_head h = record { head = h; kept = []; ty = ty.Bool }

abbrev of_type : Ty → Operator
of_type t = record { head = head.AllMemory; kept = []; ty = t }

heads_or : (h k : Head) → Decided (h ≡ k)
heads_or h k = like_or (ap (λ o. o.head)) (ap of_head) (operators_or (of_head h) (of_head k))

types_or : (a b : Ty) → Decided (a ≡ b)
types_or a b = like_or (ap (λ o. o.ty)) (ap of_type) (operators_or (of_type a) (of_type b))

-- different literals

pub different_or : (t u : Term) → Decided (AreDifferent t u)
different_or t u = by_shown (shown t) (shown u) refl refl
  where
    by_shown : (x y : Option Head) → shown t ≡ x → shown u ≡ y → Decided (AreDifferent t u)
    by_shown None y e f = inr (λ d. let q : None ≡ Some d.first = sym e ∙ d.first_shown in cc)
    by_shown (Some a) None e f = inr (λ d. let q : None ≡ Some d.second = sym f ∙ d.second_shown in cc)
    by_shown (Some a) (Some b) e f =
        like_or
        (λ p. record { one_type = p.0; first = a; second = b; first_shown = e; second_shown = f; different = p.1 })
        (λ d. (d.one_type, λ q. d.different (some_same d.first a (sym d.first_shown ∙ e) ∙ q ∙ sym (some_same d.second b (sym d.second_shown ∙ f)))))
        (both_or (types_or (out-Term t).ty (out-Term u).ty) (not_or (heads_or a b)))

-- all elements of a list

pub each_or : {X : Type 0} (P : X → Type 0) → ((x : X) → Decided (P x)) → (xs : List X) → Decided ((x : X) → Contains xs x → P x)
each_or P d [] = inl (λ x k. absurd (omega (arith, k.1)))
each_or {X} P d (y ∷ ys) = like_or (λ p x k. at x p.0 p.1 k) (λ f. (f y (0, omega arith, refl), λ x k. f x (suc k.0, omega (arith, k.1), k.2))) (both_or (d y) (each_or P d ys))
  where
    at : (x : X) → P y → ((x : X) → Contains ys x → P x) → Contains (y ∷ ys) x → P x
    at x p q (zero, l, e) = subst P e p
    at x p q (suc k, l, e) = q x (k, omega (arith, l), e)

pub all_or : {X : Type 0} (P : X → Type 0) → ((x : X) → Decided (P x)) → (xs : List X) → Decided (All P xs)
all_or P d [] = inl (All-nil P)
all_or P d (x ∷ xs) = like_or (λ p. All-cons P x xs p.0 p.1) (λ a. (All-head P x xs a, All-tail P x xs a)) (both_or (d x) (all_or P d xs))

-- Lists of a length with numbers below a bound: one of them is as wanted, or none is.

abbrev pub AllBelow : ℕ → List ℕ → Type 0
AllBelow b [] = Unit {0}
AllBelow b (l ∷ ls) = (l < b) × AllBelow b ls

abbrev pub Some_or_none : ℕ → ℕ → (List ℕ → Type 0) → Type 0
Some_or_none b n P = ((ls : List ℕ) × P ls) ⊎ ((ls : List ℕ) → length ls ≡ n → AllBelow b ls → P ls → ⊥)

abbrev NoneAt : ℕ → ℕ → (List ℕ → Type 0) → ℕ → Type 0
NoneAt b n P k = (ls : List ℕ) → length ls ≡ n → AllBelow b ls → P (k ∷ ls) → ⊥

-- the same of lists that begin with a number below another one
first_or : (b n : ℕ) (P : List ℕ → Type 0) → ((k : ℕ) → Some_or_none b n (λ ls. P (k ∷ ls))) → (m : ℕ) → ((ls : List ℕ) × P ls) ⊎ ((k : ℕ) → k < m → NoneAt b n P k)
first_or b n P d zero = inr (λ k l. absurd (omega (arith, l)))
first_or b n P d (suc m) = together (first_or b n P d m) (d m)
  where
    together : ((ls : List ℕ) × P ls) ⊎ ((k : ℕ) → k < m → NoneAt b n P k) → Some_or_none b n (λ ls. P (m ∷ ls)) → ((ls : List ℕ) × P ls) ⊎ ((k : ℕ) → k < suc m → NoneAt b n P k)
    together (inl x) y = inl x
    together (inr f) (inl x) = inl (m ∷ x.0, x.1)
    together (inr f) (inr g) = inr (λ k l. by_order k l (cases_order k m))
      where
        by_order : (k : ℕ) → k < suc m → (k ≡ m) ⊎ ((k < m) ⊎ (m < k)) → NoneAt b n P k
        by_order k l (inl e) = subst (NoneAt b n P) (sym e) g
        by_order k l (inr (inl h)) = f k h
        by_order k l (inr (inr h)) = absurd (omega (arith, l, h))

pub some_or_none : (b n : ℕ) (P : List ℕ → Type 0) → ((ls : List ℕ) → Decided (P ls)) → Some_or_none b n P
some_or_none b zero P d = of_empty (d [])
  where
    none_empty : (P [] → ⊥) → (ls : List ℕ) → length ls ≡ 0 → AllBelow b ls → P ls → ⊥
    none_empty n [] e w p = n p
    none_empty n (l ∷ ls) e w p = omega (arith, e)

    of_empty : Decided (P []) → Some_or_none b 0 P
    of_empty (inl p) = inl ([], p)
    of_empty (inr n) = inr (none_empty n)
some_or_none b (suc n) P d = of_first (first_or b n P (λ k. some_or_none b n (λ ls. P (k ∷ ls)) (λ ls. d (k ∷ ls))) b)
  where
    none_longer : ((k : ℕ) → k < b → NoneAt b n P k) → (ls : List ℕ) → length ls ≡ suc n → AllBelow b ls → P ls → ⊥
    none_longer f [] e w p = omega (arith, e)
    none_longer f (l ∷ ls) e w p = f l w.0 ls (omega (arith, e)) w.1 p

    of_first : ((ls : List ℕ) × P ls) ⊎ ((k : ℕ) → k < b → NoneAt b n P k) → Some_or_none b (suc n) P
    of_first (inl x) = inl x
    of_first (inr f) = inr (none_longer f)
