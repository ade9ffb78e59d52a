-- Things in order of declaration, step by step.
use Rattle.std.proofs.Common.{◌≡◌, ◌↔◌, IsTrue, ℕ, zero, suc, ◌+◌, ◌-◌, ◌<◌, Bool, false, ◌||◌, if◌then◌else◌, bytes_eq, get_or, List, [], ◌∷◌, ◌++◌, length, take, drop, Some, refl, ap, sym, ◌∙◌, arith}
use Rattle.std.proofs.lemmas.Bool.Decides.{same_from_decides}
use Rattle.std.proofs.lemmas.List.{at_drop_more}
use Rattle.std.proofs.lemmas.Slice.Eq.{bytes_eq-Decides}
use Rattle.gb_goal.specs.Scope.{Declarations, entry_at}
use Rattle.gb_ended.specs.Loops.{first}
use Rattle.gb_ended.specs.Named.{all_named, all_names_in, is_one, names_in, other, row_names, with_named}
use Rattle.gb_terms.specs.declared.module.Mexp.{Mexp, Row_of-Mexp, end_of-Mexp, more_of-Mexp, items-the_row-Mexp, items_hidden-the_row-Mexp-0}
use Rattle.gb_terms.specs.declared.module.Mexp.TheBlock as M
use Rattle.gb_terms.specs.declared.module.Mexp.TheVariants.{Apply}
use mathlib.Core.Former.{Count}
use Rattle.gb_ended.specs.Ended.{first_at, first_of}

named_at : (ds : Declarations) (i : ℕ) (ns : List (List ℕ)) → all_named (take (suc i) ds) ns ≡ all_named (take i ds) (with_named (entry_at ds i) ns)
named_at [] zero ns = refl
named_at [] (suc i) ns = refl
named_at (d ∷ ds) zero ns = refl
named_at (d ∷ ds) (suc i) ns = ap (with_named (Some d.1)) (named_at ds i ns)

-- the last thing of several first
pub named_front : (ds : Declarations) (k : ℕ) (ns : List (List ℕ)) → k < length ds →
    all_named (take (length ds - k) ds) ns ≡ all_named (take (length ds - (k + 1)) ds) (with_named (entry_at ds ((length ds - 1) - k)) ns)
named_front ds k ns h =
    let m : ℕ = length ds - (k + 1) in
    let i : (length ds - 1) - k ≡ m = omega arith in
    let j : length ds - k ≡ suc m = omega (arith, h) in
    ap (λ n. all_named (take n ds) ns) j ∙ named_at ds m ns ∙ ap (λ n. all_named (take m ds) (with_named (entry_at ds n) ns)) (sym i)

next_is : (i : ℕ) → i + 1 ≡ suc i
next_is i = omega arith

next_at : (all : Declarations) (ns : List (List ℕ)) (ds : Declarations) (i : ℕ) → first_of all ns (drop i ds) ≡ first (first_at all ns (entry_at ds i)) (first_of all ns (drop (suc i) ds))
next_at all ns [] zero = refl
next_at all ns [] (suc i) = refl
next_at all ns (d ∷ ds) zero = refl
next_at all ns (d ∷ ds) (suc i) = next_at all ns ds i

-- one thing further
pub first_next : (all : Declarations) (ns : List (List ℕ)) (ds : Declarations) (i : ℕ) →
    first_of all ns (drop i ds) ≡ first (first_at all ns (entry_at ds i)) (first_of all ns (drop (i + 1) ds))
first_next all ns ds i = next_at all ns ds i ∙ ap (λ k. first (first_at all ns (entry_at ds i)) (first_of all ns (drop k ds))) (sym (next_is i))

-- A test that is true exactly at equal names is that of their bytes.
name_test : (b : Bool) (m n : List ℕ) → IsTrue b ↔ (m ≡ n) → b ≡ bytes_eq m n
name_test b m n h = same_from_decides b (bytes_eq m n) h (bytes_eq-Decides m n)

-- one of several names, by the next of them
pub one_next : (names : List (List ℕ)) (i : ℕ) (y n : List ℕ) → i < length names → y ≡ get_or names i y → (b : Bool) → IsTrue b ↔ (n ≡ y) →
    is_one (drop i names) n ≡ (b || is_one (drop (i + 1) names) n)
one_next names i y n h e b t =
    at_drop_more (λ z. is_one z n) names i y h ∙ ap (λ z. is_one (z ∷ drop (i + 1) names) n) (sym e) ∙ ap (λ c. c || is_one (drop (i + 1) names) n) (sym (name_test b n y t))

pub other_same : (m n : List ℕ) → m ≡ n → other m n ≡ []
other_same m n e = ap (λ b. if b then [] else n ∷ []) ((bytes_eq-Decides m n).1 e)

pub other_new : (m n : List ℕ) (b : Bool) → IsTrue b ↔ (m ≡ n) → b ≡ false → other m n ≡ n ∷ []
other_new m n b t f = ap (λ c. if c then [] else n ∷ []) (sym (name_test b m n t) ∙ f)

names_row : {n : Count} (r : Row_of-Mexp n) → row_names r ≡ all_names_in (items-the_row-Mexp _ r)
names_row end_of-Mexp = refl
names_row (more_of-Mexp m r) = ap (λ ns. names_in m ++ ns) (names_row r)

-- the names in a functor with arguments
pub names_applied : (n : List ℕ) (es : List Mexp) → names_in (Apply n es) ≡ n ∷ all_names_in es
names_applied n es = ap (λ ns. n ∷ ns) (names_row (M.hidden-the_row-Mexp-0 es) ∙ ap all_names_in (items_hidden-the_row-Mexp-0 es))
