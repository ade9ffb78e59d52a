-- `wp` of a branch, by the lists of its sides.
use Rattle.std.proofs.Common.{◌≡◌, ℕ, zero, suc, ◌+◌, ◌-◌, ◌<◌, subst, true, false, ◌&&◌, List, [], ◌∷◌, ◌++◌, length, take, drop, get_or, refl, ap, sym, ◌∙◌, arith}
use Rattle.std.proofs.Math.Seq.{take-suc}
use Rattle.std.proofs.lemmas.Bool.{and_parts}
use Rattle.gb_terms.specs.declared.op.Side.{Side}
use Rattle.gb_terms.specs.declared.term.Term.{Term}
use Rattle.gb_terms.specs.declared.term.Cmd.{Cmd, items-the_row-Instr, items_hidden-the_row-Instr-1}
use Rattle.gb_terms.specs.declared.term.Instr.{Instr, Row_of-Instr, end_of-Instr, more_of-Instr}
use Rattle.gb_terms.specs.declared.term.Head.TheBlock as B
use Rattle.gb_terms.specs.declared.term.Head.TheVariants.{If}
use Rattle.gb_goal.specs.Answers.{Answer, ◌>>=◌}
use Rattle.gb_goal.specs.Answers.Answer.{given, refused}
use Rattle.gb_walk.specs.Clash.{Exclusions}
use Rattle.gb_typing.specs.Forms.{located}
use Rattle.gb_bodies.specs.Wp.{is_straight, row_is_straight, are_straight, before, before_row, before_all, with_front, staying}
use Rattle.gb_forms.specs.Branches.{by_test}
use mathlib.Core.Former.{Count}

straight_row : {n : Count} (r : Row_of-Instr n) → row_is_straight r ≡ are_straight (items-the_row-Instr _ r)
straight_row end_of-Instr = refl
straight_row (more_of-Instr i r) = ap (λ b. is_straight i && b) (straight_row r)

straight_list : (is : List Instr) → row_is_straight (B.hidden-the_row-Instr-1 is) ≡ are_straight is
straight_list is = straight_row (B.hidden-the_row-Instr-1 is) ∙ ap are_straight (items_hidden-the_row-Instr-1 is)

pub straight_if : (e : Term) (a b : Cmd) → is_straight (If e a b) ≡ (are_straight a.list && are_straight b.list)
straight_if e a b = λ i. straight_list a.list i && straight_list b.list i

row_before : {n : Count} (ex : Exclusions) (s : Side) (r : Row_of-Instr n) (q : Term) → before_row ex s r q ≡ before_all ex s (items-the_row-Instr _ r) q
row_before ex s end_of-Instr q = refl
row_before ex s (more_of-Instr i r) q = ap (λ a. a >>= before ex s i) (row_before ex s r q)

list_before : (ex : Exclusions) (s : Side) (is : List Instr) (q : Term) → before_row ex s (B.hidden-the_row-Instr-1 is) q ≡ before_all ex s is q
list_before ex s is q = row_before ex s (B.hidden-the_row-Instr-1 is) q ∙ ap (λ is. before_all ex s is q) (items_hidden-the_row-Instr-1 is)

pub before_if : (ex : Exclusions) (s : Side) (e : Term) (a b : Cmd) (q : Term) →
    before ex s (If e a b) q ≡ (before_all ex s a.list q >>= λ f. before_all ex s b.list q >>= λ h. given (by_test (located s e) f h))
before_if ex s e a b q = λ i. list_before ex s a.list q i >>= λ f. list_before ex s b.list q i >>= λ h. given (by_test (located s e) f h)

-- one statement more, from the last one on

bound_twice : {A B C : Type 0} (a : Answer A) (f : A → Answer B) (g : B → Answer C) → (a >>= f) >>= g ≡ (a >>= λ x. f x >>= g)
bound_twice (given x) f g = refl
bound_twice (refused w p) f g = refl

bound_given : {A : Type 0} (a : Answer A) → a ≡ (a >>= λ x. given x)
bound_given (given x) = refl
bound_given (refused w p) = refl

before_end : (ex : Exclusions) (s : Side) (is : List Instr) (i : Instr) (q : Term) → before_all ex s (is ++ i ∷ []) q ≡ (before ex s i q >>= λ w. before_all ex s is w)
before_end ex s [] i q = bound_given (before ex s i q)
before_end ex s (j ∷ is) i q = ap (λ a. a >>= before ex s j) (before_end ex s is i q) ∙ bound_twice (before ex s i q) (λ w. before_all ex s is w) (before ex s j)

pub before_last : (ex : Exclusions) (s : Side) (is : List Instr) (n : ℕ) (i : Instr) (q : Term) → n < length is → i ≡ get_or is n i → before_all ex s (take (suc n) is) q ≡ (before ex s i q >>= λ w. before_all ex s (take n is) w)
before_last ex s is n i q h e = ap (λ js. before_all ex s js q) (take-suc is n i h ∙ ap (λ j. take n is ++ (j ∷ [])) (sym e)) ∙ before_end ex s (take n is) i q

-- how many stay

all_leave : (is : List Instr) → are_straight is ≡ true → staying is ≡ zero
all_leave [] h = refl
all_leave (i ∷ is) h = let k = and_parts (is_straight i) (are_straight is) h in λ z. with_front (k.0 z) (all_leave is k.1 z)

pub none_stay : (is : List Instr) → are_straight is ≡ true → staying is ≡ zero
none_stay = all_leave

pub some_stay : (is : List Instr) (n : ℕ) (i : Instr) → are_straight (drop (suc n) is) ≡ true → n < length is → i ≡ get_or is n i → is_straight i ≡ false → staying is ≡ suc n
some_stay [] n i h l e f = absurd (grind (arith, l))
some_stay (j ∷ is) zero i h l e f = λ z. with_front ((ap is_straight (sym e) ∙ f) z) (all_leave is h z)
some_stay (j ∷ is) (suc n) i h l e f = ap (with_front (is_straight j)) (some_stay is n i h (grind (arith, l)) e f)

-- The same, of the statement before so many others at the end.

module _ (is : List Instr) (k : ℕ) (h : k < length is) (i : Instr) (e : i ≡ get_or is (length is - 1 - k) i) where
  abbrev place : ℕ
  place = length is - 1 - k

  next : length is - k ≡ suc place
  next = omega (arith, h)

  within : place < length is
  within = omega (arith, h)

  pub before_last_at : (ex : Exclusions) (s : Side) (q : Term) → before_all ex s (take (length is - k) is) q ≡ (before ex s i q >>= λ w. before_all ex s (take (length is - (k + 1)) is) w)
  before_last_at ex s q =
      let b : length is - (k + 1) ≡ place = omega (arith, h) in
      ap (λ m. before_all ex s (take m is) q) next ∙ before_last ex s is place i q within e ∙ ap (λ m. before ex s i q >>= λ w. before_all ex s (take m is) w) (sym b)

  pub some_stay_at : are_straight (drop (length is - k) is) ≡ true → is_straight i ≡ false → place + 1 ≡ staying is
  some_stay_at l f =
      let b : place + 1 ≡ suc place = omega arith in
      b ∙ sym (some_stay is place i (subst (λ m. are_straight (drop m is) ≡ true) next l) within e f)

pub none_stay_at : (is : List Instr) (n : ℕ) → n ≡ 0 → are_straight (drop n is) ≡ true → 0 ≡ staying is
none_stay_at is n z h = sym (none_stay is (subst (λ m. are_straight (drop m is) ≡ true) z h))
