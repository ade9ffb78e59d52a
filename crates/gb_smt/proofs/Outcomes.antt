-- There is an answer to leaves.
use Rattle.std.proofs.Common.{◌≡◌, ℕ, zero, suc, ◌<◌, ◌⊎◌, inl, inr, Option, Some, None, List, [], ◌∷◌, ◌++◌, length, get_or, refl, ap, arith}
use Rattle.std.specs.List.{Contains}
use Rattle.std.proofs.lemmas.List.Elements.{All-nil, All-cons}
use Rattle.gb_core.specs.declared.refusal.Why.{Why}
use Rattle.gb_core.specs.declared.refusal.Why.TheVariants as why
use Rattle.gb_terms.specs.declared.term.Term.{Term}
use Rattle.gb_goal.specs.Scope.{Declarations}
use Rattle.gb_smt.specs.declared.leaves.Leaf.{Leaf}
use Rattle.gb_smt.specs.declared.apply.Tried.{Tried}
use Rattle.gb_smt.specs.declared.apply.Tried.TheVariants.{Closed, Refuted, Undecided, OutOfRange}
use Rattle.gb_smt.specs.Equations.{used_up}
use Rattle.gb_smt.specs.Claims.{claims_of}
use Rattle.gb_smt.specs.Atoms.{atoms_of, AreAdded, IsCount}
use Rattle.gb_smt.specs.ByEquality.{ClosesByEquality}
use Rattle.gb_smt.specs.Apply.{outcome_of, IsClosed, IsAnswer, IsAnswerOf}
use Rattle.gb_smt.proofs.Answered.{closed_exactly}
use Rattle.gb_smt.proofs.ByEquality.{closes_or_not}
use Rattle.gb_smt.proofs.Counting.{added_none, added_more, added_old, added_new, counted}

-- where equality of terms is decided
module _ (same : Discrete Term) (ds : Declarations) where
  none_in : (t : Term) → Contains [] t → ⊥
  none_in t c = let h = c.1 in absurd (omega arith)

  behind : (x : Term) (xs : List Term) (t : Term) → (x ≡ t → ⊥) → (Contains xs t → ⊥) → (k : ℕ) → k < length (x ∷ xs) → get_or (x ∷ xs) k t ≡ t → ⊥
  behind x xs t n none zero l e = n e
  behind x xs t n none (suc k) l e = none (k, omega arith, e)

  among_or_not : (x : Term) (xs : List Term) (t : Term) → Dec (x ≡ t) → Dec (Contains xs t) → Dec (Contains (x ∷ xs) t)
  among_or_not x xs t (yes e) d = yes (0, omega arith, e)
  among_or_not x xs t (no n) (yes c) = let h = c.1 in yes (suc c.0, omega arith, c.2)
  among_or_not x xs t (no n) (no none) = no (λ c. behind x xs t n none c.0 c.1 c.2)

  is_among : (ts : List Term) (t : Term) → Dec (Contains ts t)
  is_among [] t = no (none_in t)
  is_among (x ∷ xs) t = among_or_not x xs t (same x t) (is_among xs t)

  abbrev Added : List Term → List Term → Type 0
  Added first ts = (all : List Term) × AreAdded first ts all

  with_new : (first : List Term) (t : Term) → Dec (Contains first t) → Added first (t ∷ [])
  with_new first t (yes c) = (first, added_old first t c)
  with_new first t (no none) = (first ++ t ∷ [], added_new first t none)

  with_all : (first ts : List Term) → Added first ts
  with_all first [] = (first, added_none first)
  with_all first (t ∷ ts) =
      let one = with_new first t (is_among first t) in
      let all = with_all one.0 ts in
      (all.0, added_more first (t ∷ []) ts one.0 all.0 one.1 all.1)

  count : (ts : List Term) → (n : ℕ) × IsCount ts n
  count ts = let all = with_all [] ts in (length all.0, counted ts all.0 all.1)

  -- a leaf that doesn't close by equality alone, by what trying its claims comes to
  answered : (l : Leaf) → (ClosesByEquality l → ⊥) → (t : Tried) → outcome_of ds (claims_of (used_up l)) ≡ t → (o : Option Why) × IsAnswer ds l o
  answered l n Closed e = (None, inr ((closed_exactly ds (claims_of (used_up l))).0 e))
  answered l n (Refuted values) e = (Some (why.False values), (n, e))
  answered l n (OutOfRange o) e = (Some (why.Overflow o.left o.right), (n, e))
  answered l n (Undecided width) e = let k = count (atoms_of (used_up l)) in (Some (why.Undecided width k.0), (n, (e, k.1)))

  answer : (l : Leaf) → (o : Option Why) × IsAnswer ds l o
  answer l = by_equality (let k = count (atoms_of (used_up l)) in closes_or_not l k.0 k.1)
    where
      by_equality : ClosesByEquality l ⊎ (ClosesByEquality l → ⊥) → (o : Option Why) × IsAnswer ds l o
      by_equality (inl c) = (None, inl c)
      by_equality (inr n) = answered l n (outcome_of ds (claims_of (used_up l))) refl

  -- the first leaf, and those behind it
  first_of_all : (l : Leaf) (ls : List Leaf) (o a : Option Why) → IsAnswer ds l o → IsAnswerOf ds ls a → (b : Option Why) × IsAnswerOf ds (l ∷ ls) b
  first_of_all l ls (Some w) a i j = (Some w, record { closed = []; leaf = l; others = ls; order = refl; before = All-nil (IsClosed ds); reason = i })
  first_of_all l ls None None i j = (None, All-cons (IsClosed ds) l ls i j)
  first_of_all l ls None (Some w) i j = (
    Some w,
    record {
      closed = l ∷ j.closed;
      leaf = j.leaf;
      others = j.others;
      order = ap (λ xs. l ∷ xs) j.order;
      before = All-cons (IsClosed ds) l j.closed i j.before;
      reason = j.reason;
    },
  )

  pub an_answer : (leaves : List Leaf) → (a : Option Why) × IsAnswerOf ds leaves a
  an_answer [] = (None, All-nil (IsClosed ds))
  an_answer (l ∷ ls) =
      let here = answer l in
      let behind = an_answer ls in
      first_of_all l ls here.0 behind.0 here.1 behind.1
