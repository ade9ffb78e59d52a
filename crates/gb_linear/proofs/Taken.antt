-- A term is taken apart at its head and the list of its arguments.
use Rattle.std.proofs.Common.{◌≡◌, ◌^◌, ◌<◌, ◌≤◌, ℤ, unsigned_abs, Option, None, if◌then◌else◌, List, [], ◌∷◌, length, get_or, map, refl, sym, ap, ◌∙◌, arith}
use Rattle.gb_terms.specs.declared.term.Term.{Term, Term', Row_of-Term, end_of-Term, more_of-Term, end_of-Head, more_of-Head, items-the_row-Term, items_shown-the_row-Term-0}
use Rattle.gb_terms.specs.declared.term.Head.TheViews.{out-Term, outs-struct-Term}
use Rattle.gb_core.specs.declared.ty.Ty.{Ty}
use Rattle.gb_dist.specs.Fractions.{of_whole}
use Rattle.gb_dist.proofs.Sizes.{small, large}
use Rattle.gb_terms.specs.declared.op.Op.{Op}
use Rattle.gb_terms.specs.declared.term.Head.{Head}
use Rattle.gb_goal.specs.Answers.Answer.{given}
use Rattle.gb_linear.specs.declared.linear.Prefix.{Prefix}
use Rattle.gb_linear.specs.Forms.{alone, of_number}
use Rattle.gb_linear.specs.Linear.{at_head, joining, linear, numeral, of_one, of_two, part, parts, plain, prefixed}

parts_row : (n : _) (r : Row_of-Term n) → parts r ≡ map part (items-the_row-Term n r)
parts_row n end_of-Term = refl
parts_row n (more_of-Term t r) = ap (λ l. part t ∷ l) (parts_row _ r)

pub linear_out : (t : Term) → linear t ≡ at_head (out-Term t).head (map part (out-Term t).args) t
unfolding Rattle.gb_terms.specs.declared.term.Head.TheBlock.shown-the_row-Head-2 denote.Hole.Carrier.shown
linear_out (Term' p (more_of-Head h end_of-Head) n r ty) =
    ap (λ l. at_head h l (Term' p (more_of-Head h end_of-Head) n r ty)) (parts_row _ r ∙ sym (ap (map part) (items_shown-the_row-Term-0 n r)))
    ∙ sym (ap (λ z. at_head z.head (map part z.args) (Term' p (more_of-Head h end_of-Head) n r ty)) (outs-struct-Term p (more_of-Head h end_of-Head) n r ty))

-- by the number of the arguments

one_of : (xs : List Term) (a : Term) → length xs ≡ 1 → a ≡ get_or xs 0 a → xs ≡ a ∷ []
one_of [] a l e = absurd (omega (arith, l))
one_of (x ∷ []) a l e = ap (λ y. y ∷ []) (sym e)
one_of (x ∷ y ∷ xs) a l e = absurd (omega (arith, l))

two_of : (xs : List Term) (a b : Term) → length xs ≡ 2 → a ≡ get_or xs 0 a → b ≡ get_or xs 1 b → xs ≡ a ∷ b ∷ []
two_of [] a b l d e = absurd (omega (arith, l))
two_of (x ∷ []) a b l d e = absurd (omega (arith, l))
two_of (x ∷ y ∷ []) a b l d e = ap (λ u. u ∷ y ∷ []) (sym d) ∙ ap (λ u. a ∷ u ∷ []) (sym e)
two_of (x ∷ y ∷ z ∷ xs) a b l d e = absurd (omega (arith, l))

other_of : (h : Head) (xs : List Term) (t : Term) → (length xs ≡ 1 → ⊥) → (length xs ≡ 2 → ⊥) → at_head h (map part xs) t ≡ given (plain h t)
other_of h [] t l m = refl
other_of h (x ∷ []) t l m = absurd (l refl)
other_of h (x ∷ y ∷ []) t l m = absurd (m refl)
other_of h (x ∷ y ∷ z ∷ xs) t l m = refl

none_of : (h : Head) (xs : List Term) (t : Term) → length xs ≡ 2 → joining h ≡ None → at_head h (map part xs) t ≡ given (plain h t)
none_of h [] t l e = absurd (omega (arith, l))
none_of h (x ∷ []) t l e = absurd (omega (arith, l))
none_of h (x ∷ y ∷ []) t l e = ap (λ o. of_two o (part x) (part y) h t) e
none_of h (x ∷ y ∷ z ∷ xs) t l e = absurd (omega (arith, l))

first_is : (xs : List Term) (a d : Term) → length xs ≡ 1 → a ≡ get_or xs 0 a → a ≡ get_or xs 0 d
first_is [] a d l e = absurd (omega (arith, l))
first_is (x ∷ xs) a d l e = e

-- the second of two, whatever stands where there is none
pub second_is : (xs : List Term) (d : Term) → length xs ≡ 2 → get_or xs 1 d ≡ get_or xs 1 (get_or xs 1 d)
second_is [] d l = absurd (omega (arith, l))
second_is (x ∷ []) d l = absurd (omega (arith, l))
second_is (x ∷ y ∷ xs) d l = refl

module _ (t : Term) (xs : List Term) (q : xs ≡ (out-Term t).args) where
  of_args : linear t ≡ at_head (out-Term t).head (map part xs) t
  of_args = linear_out t ∙ ap (λ ys. at_head (out-Term t).head (map part ys) t) (sym q)

  pub at_one : (h : Head) (u : Ty) (p : Prefix) (a d : Term) → length xs ≡ 1 → a ≡ get_or xs 0 a → h ≡ (out-Term t).head → u ≡ (out-Term (get_or xs 0 d)).ty → p ≡ prefixed h u →
      linear t ≡ of_one p (part a) (out-Term t).head t
  at_one h u p a d l e f g k =
      let same : a ≡ get_or xs 0 d = first_is xs a d l e in
      of_args ∙ ap (λ ys. at_head (out-Term t).head (map part ys) t) (one_of xs a l e)
      ∙ ap (λ o. of_one o (part a) (out-Term t).head t)
      (ap (λ z. prefixed (out-Term t).head (out-Term z).ty) same ∙ ap (λ z. prefixed (out-Term t).head z) (sym g) ∙ ap (λ z. prefixed z u) (sym f) ∙ sym k)

  pub at_two : (h : Head) (o : Option Op) (a b : Term) → length xs ≡ 2 → a ≡ get_or xs 0 a → b ≡ get_or xs 1 b → h ≡ (out-Term t).head → o ≡ joining h →
      linear t ≡ of_two o (part a) (part b) (out-Term t).head t
  at_two h o a b l d e f k =
      of_args ∙ ap (λ ys. at_head (out-Term t).head (map part ys) t) (two_of xs a b l d e)
      ∙ ap (λ z. of_two (joining z) (part a) (part b) (out-Term t).head t) (sym f)
      ∙ ap (λ o. of_two o (part a) (part b) (out-Term t).head t) (sym k)

  pub at_none : (h : Head) → length xs ≡ 2 → h ≡ (out-Term t).head → None ≡ joining h → linear t ≡ given (plain (out-Term t).head t)
  at_none h l f k = of_args ∙ none_of (out-Term t).head xs t l (ap joining (sym f) ∙ sym k)

  pub at_other : (length xs ≡ 1 → ⊥) → (length xs ≡ 2 → ⊥) → linear t ≡ given (plain (out-Term t).head t)
  at_other l m = of_args ∙ other_of (out-Term t).head xs t l m

pub small_numeral : (n : ℤ) (t : Term) → unsigned_abs n < 2 ^ 127 → numeral n t ≡ of_number (of_whole n)
small_numeral n t h = ap (λ b. if b then of_number (of_whole n) else alone t) (small n h)

pub large_numeral : (n : ℤ) (t : Term) → 2 ^ 127 ≤ unsigned_abs n → numeral n t ≡ alone t
large_numeral n t h = ap (λ b. if b then of_number (of_whole n) else alone t) (large n h)
