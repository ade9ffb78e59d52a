-- Comparisons of probabilities: typing and meaning.
use Rattle.std.proofs.Common.{◌≡◌, ℤ, pos, true, false, List, [], ◌∷◌, Option, Some, None, refl, ap, sym, ◌∙◌}
use Rattle.std.proofs.lemmas.Option.{same_Some, none-some}
use Rattle.gb_core.specs.declared.ty.Ty.TheVariants as ty
use Rattle.gb_terms.specs.declared.op.Op.TheVariants as op
use Rattle.gb_terms.specs.declared.op.Rel.{Rel}
use Rattle.gb_terms.specs.declared.op.Rel.TheVariants.{AtMost, Equal, AtLeast}
use Rattle.gb_terms.specs.declared.term.Term.{Term, Term', Row_of-Term, end_of-Term, more_of-Term, end_of-Head, more_of-Head, out-Term}
use Rattle.gb_terms.specs.declared.term.Head.{Head}
use Rattle.gb_terms.specs.declared.term.Head.TheVariants.{Whole, Builtin}
use Rattle.gb_terms.specs.Make.{node}
use Rattle.gb_meaning.specs.Fractions.{Fraction}
use Rattle.gb_meaning.specs.Meanings.{truth, same, fraction_in}
use Rattle.gb_meaning.specs.Operators.{at_most}
use Rattle.gb_meaning.specs.Setting.{Setting}
use Rattle.gb_meaning.specs.Setting.Meaning.{whole, fraction}
use Rattle.gb_meaning.specs.Commands.{terms_in}
use Rattle.gb_meaning.specs.State.{State}
use Rattle.gb_meaning.specs.Terms.{at_head, val, parts}
use Rattle.gb_meaning.specs.Judgments.{Judge, speaking, den, compares}
use Rattle.gb_meaning.specs.Written.{type_of}
use Rattle.gb_laws.proofs.Trees.{out_is}
use Rattle.gb_meaning.proofs.Nodes.{val_node}
use Rattle.gb_meaning.proofs.Truths.{truth_of}
use Rattle.gb_typing.specs.Context.{Context}
use Rattle.gb_typing.specs.Typing.{IsTyped, IsForm}
use Rattle.gb_typing.specs.Changes.{Made}
use Rattle.gb_typing.proofs.Made.{made_node}
use Rattle.gb_typing.specs.Forms.{and_form, implies_form, not_form, equal_form}
use Rattle.gb_typing.proofs.Forms.{form_made, and_typed, implies_typed, not_typed}
use Rattle.gb_prog.specs.Compared.{number, one, zero, at_most_form, compared, certain_or_not, whole_at, literal_at, literal}
use mathlib.Core.Former.{Count}

module _ (c : Context) where
  pub number_made : (n : ℤ) → Made c ty.Real (number n)
  number_made n =
      made_node c (Builtin op.ToReal) (ty.Int ∷ []) (node (Whole n) [] ty.Int ∷ []) ty.Real (tt, refl) tt [] (made_node c (Whole n) [] [] ty.Int refl tt [] tt)

  pub real_made : (b : Term) → IsTyped c b → type_of b ≡ ty.Real → Made c ty.Real b
  real_made b w e = record { typed = w; written = e }

  at_most_typed : (a b : Term) → Made c ty.Real a → Made c ty.Real b → IsForm c (at_most_form a b)
  at_most_typed a b v w = form_made c (at_most_form a b) (made_node c (Builtin op.AtMost) (ty.Real ∷ ty.Real ∷ []) (a ∷ b ∷ []) ty.Bool (tt, refl, refl) tt [] (v, w))

  equal_reals_typed : (a b : Term) → Made c ty.Real a → Made c ty.Real b → IsForm c (equal_form a b)
  equal_reals_typed a b v w = form_made c (equal_form a b) (made_node c (Builtin op.Equal) (ty.Real ∷ ty.Real ∷ []) (a ∷ b ∷ []) ty.Bool (tt, refl, refl) tt [] (v, w))

  pub compared_typed : (r : Rel) (a b : Term) → Made c ty.Real a → Made c ty.Real b → IsForm c (compared r a b)
  compared_typed AtMost a b v w = at_most_typed a b v w
  compared_typed Equal a b v w = equal_reals_typed a b v w
  compared_typed AtLeast a b v w = at_most_typed b a w v

  pub certain_typed : (r : Rel) (q b : Term) → IsForm c q → Made c ty.Real b → IsForm c (certain_or_not r q b)
  certain_typed r q b v w =
      and_typed c (implies_form q (compared r one b)) (implies_form (not_form q) (compared r zero b))
      (implies_typed c q (compared r one b) v (compared_typed r one b (number_made (pos 1)) w))
      (implies_typed c (not_form q) (compared r zero b) (not_typed c q v) (compared_typed r zero b (number_made (pos 0)) w))

module _ (g : Setting) (j : Judge) (s : State) where
  pub number_is : (n : ℤ) → val g (speaking g j) (number n) s ≡ fraction (n, 1)
  number_is n =
      val_node g (speaking g j) (Builtin op.ToReal) (node (Whole n) [] ty.Int ∷ []) ty.Real s
      ∙ ap (λ x. fraction (fraction_in x)) (val_node g (speaking g j) (Whole n) [] ty.Int s)

  module _ (a b : Term) (x y : Fraction) (p : val g (speaking g j) a s ≡ fraction x) (q : val g (speaking g j) b s ≡ fraction y) where
    at_most_is : den g j (at_most_form a b) s ≡ compares AtMost x y
    at_most_is =
        ap truth (val_node g (speaking g j) (Builtin op.AtMost) (a ∷ b ∷ []) ty.Bool s)
        ∙ truth_of (at_most (val g (speaking g j) a s) (val g (speaking g j) b s))
        ∙ (λ i. at_most (p i) (q i))

    same_is : den g j (equal_form a b) s ≡ compares Equal x y
    same_is =
        ap truth (val_node g (speaking g j) (Builtin op.Equal) (a ∷ b ∷ []) ty.Bool s)
        ∙ truth_of (same (val g (speaking g j) a s) (val g (speaking g j) b s))
        ∙ (λ i. same (p i) (q i))

  -- a comparison of reals is one of fractions
  pub compared_is : (r : Rel) (a b : Term) (x y : Fraction) → val g (speaking g j) a s ≡ fraction x → val g (speaking g j) b s ≡ fraction y → den g j (compared r a b) s ≡ compares r x y
  compared_is AtMost a b x y p q = at_most_is a b x y p q
  compared_is Equal a b x y p q = same_is a b x y p q
  compared_is AtLeast a b x y p q = at_most_is b a y x q p

-- What a literal is.

whole_is : (g : Setting) (j : Judge) (x : Term) (n : ℤ) → whole_at (out-Term x).head ≡ Some n → (s : State) → val g (speaking g j) x s ≡ whole n
whole_is g j (Term' tt (more_of-Head h end_of-Head) k ts u) n e s = of_head h (sym (ap (λ z. whole_at z.head) (out_is h k ts u)) ∙ e)
  where
    of_head : (h : Head) → whole_at h ≡ Some n → at_head g (speaking g j) (Term' tt (more_of-Head h end_of-Head) k ts u) h (parts g (speaking g j) ts) u s ≡ whole n
    of_head (Whole m) e = ap whole (same_Some m n e)
    of_head _ e = absurd (none-some n e)

-- a literal means its number
pub literal_value : (g : Setting) (j : Judge) (b : Term) (n : ℤ) → literal b ≡ Some n → (s : State) → val g (speaking g j) b s ≡ fraction (n, 1)
literal_value g j (Term' p (more_of-Head h end_of-Head) k ts u) n e s =
    of_head (Term' p (more_of-Head h end_of-Head) k ts u) h ts (sym (ap (λ z. literal_at z.head z.args) (out_is h k ts u)) ∙ e)
  where
    of_head : {i : Count} (t : Term) (h : Head) (ts : Row_of-Term i) → literal_at h (terms_in ts) ≡ Some n →
        at_head g (speaking g j) t h (parts g (speaking g j) ts) u s ≡ fraction (n, 1)
    of_head t (Builtin op.ToReal) (more_of-Term x end_of-Term) e = ap (λ y. fraction (fraction_in y)) (whole_is g j x n e s)
    of_head t (Builtin op.ToReal) end_of-Term e = absurd (none-some n e)
    of_head t (Builtin op.ToReal) (more_of-Term x (more_of-Term y ts)) e = absurd (none-some n e)
    of_head t _ ts e = absurd (none-some n e)
