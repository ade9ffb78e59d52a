-- The linear form of a term is worth what the term means.
use Rattle.std.proofs.Common.{◌≡◌, ℕ, zero, suc, ◌<◌, Bool, true, false, ◌&&◌, if◌then◌else◌, ℤ, pos, List, [], ◌∷◌, refl, ap, sym, ◌∙◌, subst, arith}
use Rattle.std.specs.List.{list_all}
use Rattle.std.proofs.lemmas.Bool.{false≢true, and_parts}
use Rattle.std.proofs.lemmas.Bool.Decides.{Decides-int_eq}
use Rattle.gb_core.specs.declared.ty.Ty.{Ty}
use Rattle.gb_core.specs.declared.ty.Ty.TheVariants as ty
use Rattle.gb_dist.specs.Fractions.{Fraction, of_whole}
use Rattle.gb_dist.specs.Operations.{is_small}
use Rattle.gb_terms.specs.declared.op.Op.TheVariants as op
use Rattle.gb_terms.specs.declared.term.Term.{Term, Term', Row_of-Term, end_of-Term, more_of-Term, end_of-Head, more_of-Head, out-Term}
use Rattle.gb_terms.specs.declared.decl.TypedName.{TypedName}
use Rattle.gb_terms.specs.declared.term.Head.{Head}
use Rattle.gb_terms.specs.declared.term.Head.TheVariants as head
use Rattle.gb_meaning.specs.Setting.{Setting, Meaning}
use Rattle.gb_meaning.specs.Meanings.{fraction_in}
use Rattle.gb_meaning.specs.State.{State}
use Rattle.gb_meaning.specs.Terms.{at_head, parts, val}
use Rattle.gb_meaning.specs.Judgments.{Judge, speaking}
use Rattle.gb_meaning.specs.Written.{type_of}
use Rattle.gb_meaning.proofs.Nodes.{each_is_node}
use Rattle.gb_meaning.specs.Operators.{sum_at, difference_at, negated}
use Rattle.gb_laws.specs.Operators.{IsSigned}
use Rattle.gb_laws.specs.Meant.{IsOf}
use Rattle.gb_laws.proofs.Nodes.{type_of_node}
use Rattle.gb_laws.specs.Typing.{types_of, IsHead}
use Rattle.gb_typing.specs.Context.{Context, erased}
use Rattle.gb_typing.specs.Typing.{first, middle, last, IsTyped, AreTyped}
use Rattle.gb_typing.specs.Fits.{IsSettingOf, IsStateOf}
use Rattle.gb_goal.specs.Answers.{◌>>=◌}
use Rattle.gb_goal.specs.Answers.Answer.{given}
use Rattle.gb_closing.specs.declared.numbers.Sign.{Sign}
use Rattle.gb_closing.specs.declared.numbers.Sign.TheVariants.{Plus, Minus}
use Rattle.gb_linear.specs.declared.numbers.Stands.{Stands}
use Rattle.gb_linear.specs.declared.numbers.Stands.TheVariants.{Left, Right}
use Rattle.gb_closing.specs.declared.summands.Summand.{Summand}
use Rattle.gb_linear.specs.declared.forms.LinearForm.{LinearForm}
use Rattle.gb_closing.specs.Numbers as numbers
use Rattle.gb_linear.specs.Numbers.{is_zero, is_divisor, inverse}
use Rattle.gb_linear.specs.Forms.{combined, scaled, is_constant, of_number, alone}
use Rattle.gb_linear.specs.declared.linear.Prefix.TheVariants as Prefixes
use Rattle.gb_linear.specs.Linear as forms
use Rattle.gb_linear.specs.Linear.{is_int, numeral, product_of, quotient_of, of_one, part, linear}
use Rattle.gb_closing_laws.proofs.Numbers.{Number, Same, nought, unit, plus, times, opposite, signed, same_refl, same_sym, same_trans, same_plus, same_times, same_signed, nought_plus, plus_nought, nought_times, times_comm}
use Rattle.gb_closing_laws.proofs.Fractions.{of}
use Rattle.gb_closing_laws.proofs.Found.{given_is, given_bind, divisor_is, inverse_is}
use Rattle.gb_closing_laws.proofs.LinearForms.{worth, total, value, Worth, combined_is, scaled_is, alone_is, number_is}
use Rattle.gb_closing_laws.proofs.Meanings.{IsKind, kind, num, sum_is, difference_is, product_is, negated_is, quotient_is}
use Rattle.gb_closing_laws.proofs.Positive.{meaning_of}
use mathlib.Core.Former.{Count}

pub type_is : (t : Term) → (out-Term t).ty ≡ type_of t
type_is t = sym (ap type_of (each_is_node t) ∙ type_of_node (out-Term t).head (out-Term t).args (out-Term t).ty)

int_is : (u : Ty) → is_int u ≡ true → u ≡ ty.Int
int_is ty.Int e = refl
int_is _ e = absurd (false≢true e)

-- a number of which no part is left
nought_over : (d : ℕ) → Same (of (pos 0, d)) nought
nought_over zero = refl
nought_over (suc d) = omega arith

pub zero_is : (c : Fraction) → is_zero c ≡ true → Same (of c) nought
zero_is (z, d) e = subst (λ y. Same (of (y, d)) nought) (sym ((Decides-int_eq z (pos 0)).0 e)) (nought_over d)

module _ (V : Term → Number) where
  total_nought : (xs : List Summand) → list_all (λ x. is_zero x.coefficient) xs ≡ true → Same (total V xs) nought
  total_nought [] e = refl
  total_nought (x ∷ xs) e =
      let b = and_parts (is_zero x.coefficient) (list_all (λ x. is_zero x.coefficient) xs) e in
      same_trans (plus (worth V x) (total V xs)) (plus nought nought) nought
      (same_plus (worth V x) nought (total V xs) nought
      (same_trans (worth V x) (times nought (V x.term)) nought (same_times (of x.coefficient) nought (V x.term) (V x.term) (zero_is x.coefficient b.0) (same_refl (V x.term))) (nought_times (V x.term)))
      (total_nought xs b.1))
      (nought_plus nought)

  -- a form of which no term is left is worth its constant
  pub constant_is : (a : LinearForm) → is_constant a ≡ true → Same (value V a) (of a.constant)
  constant_is a e =
      same_trans (value V a) (plus (of a.constant) nought) (of a.constant)
      (same_plus (of a.constant) (of a.constant) (total V a.summands) nought (same_refl (of a.constant)) (total_nought a.summands e))
      (plus_nought (of a.constant))

  pub worth_as : (a : LinearForm) (x y : Number) → Worth V a x → Same x y → Worth V a y
  worth_as a x y w e = (w.0, same_trans (value V a) x y w.1 e)

  -- forms of numbers
  pub both_is : (s : Sign) (a b r : LinearForm) (x y : Number) → Worth V a x → Worth V b y → combined s a b ≡ given r → Worth V r (plus x (signed s y))
  both_is s a b r x y u v e =
      worth_as r (plus (value V a) (signed s (value V b))) (plus x (signed s y)) (combined_is V s a b r u.0 v.0 e)
      (same_plus (value V a) x (signed s (value V b)) (signed s y) u.1 (same_signed s (value V b) y v.1))

  pub times_is : (on : Stands) (k : Fraction) (a r : LinearForm) (x : Number) → 0 < k.1 → Worth V a x → scaled on k a ≡ given r → Worth V r (times (of k) x)
  times_is on k a r x h u e =
      worth_as r (times (of k) (value V a)) (times (of k) x) (scaled_is V on k h a r u.0 e) (same_times (of k) (of k) (value V a) x (same_refl (of k)) u.1)

module _ (c : Context) (g : Setting) (fits : IsSettingOf c g) (i : Judge) (s : State) (fit : IsStateOf c g s) where
  abbrev M : Term → Meaning
  M t = val g (speaking g i) t s

  abbrev pub V : Term → Number
  V t = num (M t)

  pub kind_of : (t : Term) (u : Ty) → IsTyped c t → type_of t ≡ u → IsSigned u → IsKind u (M t)
  kind_of t u w e k = kind g.types u (M t) k (subst (λ u. IsOf g.types u (M t)) e (meaning_of g i c fits t w s fit))

  lone : (t : Term) (r : LinearForm) → given (alone t) ≡ given r → Worth V r (V t)
  lone t r e = subst (λ z. Worth V z (V t)) (given_is (alone t) r e) (alone_is V t)

  numeral_is : (m : ℤ) (t : Term) (r : LinearForm) → V t ≡ of (m, 1) → given (numeral m t) ≡ given r → Worth V r (V t)
  numeral_is m t r v e = step (is_small m) e
    where
      step : (b : Bool) → given (if b then of_number (of_whole m) else alone t) ≡ given r → Worth V r (V t)
      step true k = subst (λ z. Worth V z (V t)) (given_is (of_number (of_whole m)) r k) (subst (Worth V (of_number (of_whole m))) (sym v) (number_is V (of_whole m) (omega arith)))
      step false k = lone t r k

  product_meant : (a b r : LinearForm) (t x y : Term) → Same (V t) (times (V x) (V y)) → Worth V a (V x) → Worth V b (V y) → product_of a b t ≡ given r → Worth V r (V t)
  product_meant a b r t x y e u v k = first (is_constant a) refl k
    where
      second : (q : Bool) → is_constant b ≡ q → (if q then scaled Right b.constant a else given (alone t)) ≡ given r → Worth V r (V t)
      second true q k =
          let d = same_trans (of b.constant) (value V b) (V y) (same_sym (value V b) (of b.constant) (constant_is V b q)) v.1 in
          worth_as V r (times (of b.constant) (V x)) (V t) (times_is V Right b.constant a r (V x) v.0.0 u k)
          (same_trans (times (of b.constant) (V x)) (times (V y) (V x)) (V t) (same_times (of b.constant) (V y) (V x) (V x) d (same_refl (V x)))
          (same_trans (times (V y) (V x)) (times (V x) (V y)) (V t) (times_comm (V y) (V x)) (same_sym (V t) (times (V x) (V y)) e)))
      second false q k = lone t r k

      first : (p : Bool) → is_constant a ≡ p → (if p then scaled Left a.constant b else if is_constant b then scaled Right b.constant a else given (alone t)) ≡ given r → Worth V r (V t)
      first true p k =
          let d = same_trans (of a.constant) (value V a) (V x) (same_sym (value V a) (of a.constant) (constant_is V a p)) u.1 in
          worth_as V r (times (of a.constant) (V y)) (V t) (times_is V Left a.constant b r (V y) u.0.0 v k)
          (same_trans (times (of a.constant) (V y)) (times (V x) (V y)) (V t) (same_times (of a.constant) (V x) (V y) (V y) d (same_refl (V y))) (same_sym (V t) (times (V x) (V y)) e))
      first false p k = second (is_constant b) refl k

  quotient_meant : (a b r : LinearForm) (t x y : Term) → ((n : ℕ) (k : Number) → Same (of (pos (suc n), 1)) (V y) → Same (times k (V y)) unit → Same (V t) (times k (V x))) →
      Worth V a (V x) → Worth V b (V y) → quotient_of a b t ≡ given r → Worth V r (V t)
  quotient_meant a b r t x y f u v k = step (is_constant b) (is_divisor b.constant) refl refl k
    where
      step : (p q : Bool) → is_constant b ≡ p → is_divisor b.constant ≡ q → (if p && q then (inverse b.constant >>= λ m. scaled Right m a) else given (alone t)) ≡ given r → Worth V r (V t)
      step true true p q k =
          let d = divisor_is b.constant q in
          let m = given_bind (inverse b.constant) (λ m. scaled Right m a) r k in
          let y_is = same_trans (of (pos (suc d.0), 1)) (value V b) (V y)
          (subst (λ z. Same (of z) (value V b)) d.1 (same_sym (value V b) (of b.constant) (constant_is V b p))) v.1 in
          let inverted = inverse_is d.0 m.0 (subst (λ z. inverse z ≡ given m.0) d.1 m.1) in
          let one = same_trans (times (of m.0) (V y)) (times (of m.0) (of (pos (suc d.0), 1))) unit
          (same_times (of m.0) (of m.0) (V y) (of (pos (suc d.0), 1)) (same_refl (of m.0)) (same_sym (of (pos (suc d.0), 1)) (V y) y_is)) inverted.1 in
          worth_as V r (times (of m.0) (V x)) (V t) (times_is V Right m.0 a r (V x) inverted.0 u m.2) (same_sym (V t) (times (of m.0) (V x)) (f d.0 (of m.0) y_is one))
      step true false p q k = lone t r k
      step false q p e k = lone t r k

  combined_meant : (o : Sign) (t : Term) (x y : Number) (a b r : LinearForm) → Same (plus x (signed o y)) (V t) → Worth V a x → Worth V b y → combined o a b ≡ given r → Worth V r (V t)
  combined_meant o t x y a b r k u v e = worth_as V r (plus x (signed o y)) (V t) (both_is V o a b r x y u v e) k

  negate_meant : (a t : Term) (u : Ty) (x r : LinearForm) → V t ≡ num (negated (M a)) → IsKind u (M a) → Worth V x (V a) → combined Minus (of_number numbers.zero) x ≡ given r → Worth V r (V t)
  negate_meant a t u x r v k y e =
      let zero = of numbers.zero in
      combined_meant Minus t zero (V a) (of_number numbers.zero) x r
      (subst (Same (plus zero (opposite (V a)))) (sym v)
      (same_trans (plus zero (opposite (V a))) (opposite (V a)) (num (negated (M a))) (nought_plus (opposite (V a)))
      (same_sym (num (negated (M a))) (opposite (V a)) (negated_is u (M a) k))))
      (number_is V numbers.zero (omega arith)) y e

  to_real_meant : (a : Term) (t : Term) (r : LinearForm) → V t ≡ V a → (type_of a ≡ ty.Int → (linear a ≡ given r) → Worth V r (V a)) →
      of_one (if is_int (out-Term a).ty then Prefixes.Same else Prefixes.Other) (part a) (head.Builtin op.ToReal) t ≡ given r → Worth V r (V t)
  to_real_meant a t r v f k = step (is_int (out-Term a).ty) refl k
    where
      step : (b : Bool) → is_int (out-Term a).ty ≡ b → of_one (if b then Prefixes.Same else Prefixes.Other) (part a) (head.Builtin op.ToReal) t ≡ given r → Worth V r (V t)
      step true e k = subst (Worth V r) (sym v) (f (sym (type_is a) ∙ int_is (out-Term a).ty e) k)
      step false e k = lone t r k

  -- a typed real has a denominator
  above : (a : Term) → IsKind ty.Real (M a) → 0 < (fraction_in (M a)).1
  above a k = subst (λ z. 0 < (fraction_in z).1) (sym k.1) k.2

  -- the form of a typed number is worth what it means
  mutual
    pub meant : (t : Term) → IsTyped c t → IsSigned (type_of t) → (r : LinearForm) → linear t ≡ given r → Worth V r (V t)
    meant (Term' p (more_of-Head h end_of-Head) n ts u) w k r e =
        at_parts h ts u (Term' p (more_of-Head h end_of-Head) n ts u) r refl w.2 w.0 w.3 k e

    at_parts : {n : Count} (h : Head) (ts : Row_of-Term n) (u : Ty) (t : Term) (r : LinearForm) → V t ≡ num (at_head g (speaking g i) t h (parts g (speaking g i) ts) u s) →
        (ls : List TypedName) → IsHead (erased c) h (types_of ts) u → AreTyped (first c h) (middle c h) (last c ls h (types_of ts)) ts → IsSigned u →
        forms.at_head h (forms.parts ts) t ≡ given r → Worth V r (V t)
    at_parts (head.Whole m) end_of-Term u t r v ls w x k e = numeral_is m t r v e
    at_parts (head.Whole m) (more_of-Term a end_of-Term) u t r v ls w x k e = numeral_is m t r v e
    at_parts (head.Whole m) (more_of-Term a (more_of-Term b end_of-Term)) u t r v ls w x k e = numeral_is m t r v e
    at_parts (head.Whole m) (more_of-Term a (more_of-Term b (more_of-Term d ts))) u t r v ls w x k e = numeral_is m t r v e
    at_parts (head.Builtin op.Negate) (more_of-Term a end_of-Term) u t r v ls w x k e =
        let y = given_bind (linear a) (λ y. combined Minus (of_number numbers.zero) y) r e in
        negate_meant a t u y.0 r v (kind_of a u x w.1 k) (meant a x (subst IsSigned (sym w.1) k) y.0 y.1) y.2
    at_parts (head.Builtin op.ToReal) (more_of-Term a end_of-Term) u t r v ls w x k e =
        to_real_meant a t r v (λ is f. meant a x (subst IsSigned (sym is) tt) r f) e
    at_parts (head.Builtin op.Plus) (more_of-Term a (more_of-Term b end_of-Term)) u t r v ls w x k e =
        let y = given_bind (linear a) (λ y. linear b >>= λ z. combined Plus y z) r e in
        let z = given_bind (linear b) (λ z. combined Plus y.0 z) r y.2 in
        combined_meant Plus t (V a) (V b) y.0 z.0 r
        (subst (Same (plus (V a) (V b))) (sym v)
        (same_sym (num (sum_at u (M a) (M b))) (plus (V a) (V b)) (sum_is u u (M a) (M b) (kind_of a u x.0 w.1.0 k) (kind_of b u x.1 w.1.1.0 k))))
        (meant a x.0 (subst IsSigned (sym w.1.0) k) y.0 y.1) (meant b x.1 (subst IsSigned (sym w.1.1.0) k) z.0 z.1) z.2
    at_parts (head.Builtin op.Minus) (more_of-Term a (more_of-Term b end_of-Term)) u t r v ls w x k e =
        let y = given_bind (linear a) (λ y. linear b >>= λ z. combined Minus y z) r e in
        let z = given_bind (linear b) (λ z. combined Minus y.0 z) r y.2 in
        combined_meant Minus t (V a) (V b) y.0 z.0 r
        (subst (Same (plus (V a) (opposite (V b)))) (sym v)
        (same_sym (num (difference_at u (M a) (M b))) (plus (V a) (opposite (V b))) (difference_is u u (M a) (M b) (kind_of a u x.0 w.1.0 k) (kind_of b u x.1 w.1.1.0 k))))
        (meant a x.0 (subst IsSigned (sym w.1.0) k) y.0 y.1) (meant b x.1 (subst IsSigned (sym w.1.1.0) k) z.0 z.1) z.2
    at_parts (head.Builtin op.Times) (more_of-Term a (more_of-Term b end_of-Term)) u t r v ls w x k e =
        let y = given_bind (linear a) (λ y. linear b >>= λ z. product_of y z t) r e in
        let z = given_bind (linear b) (λ z. product_of y.0 z t) r y.2 in
        product_meant y.0 z.0 r t a b
        (subst (λ q. Same q (times (V a) (V b))) (sym v) (product_is u u (M a) (M b) (kind_of a u x.0 w.1.0 k) (kind_of b u x.1 w.1.1.0 k)))
        (meant a x.0 (subst IsSigned (sym w.1.0) k) y.0 y.1) (meant b x.1 (subst IsSigned (sym w.1.1.0) k) z.0 z.1) z.2
    at_parts (head.Builtin op.Divide) (more_of-Term a (more_of-Term b end_of-Term)) u t r v ls w x k e =
        let y = given_bind (linear a) (λ y. linear b >>= λ z. quotient_of y z t) r e in
        let z = given_bind (linear b) (λ z. quotient_of y.0 z t) r y.2 in
        quotient_meant y.0 z.0 r t a b
        (λ n q f o. subst (λ z. Same z (times q (V a))) (sym v)
        (quotient_is (fraction_in (M a)) (fraction_in (M b)) n q (above a (kind_of a ty.Real x.0 w.0 tt)) (above b (kind_of b ty.Real x.1 w.1.0 tt)) f o))
        (meant a x.0 (subst IsSigned (sym w.0) tt) y.0 y.1) (meant b x.1 (subst IsSigned (sym w.1.0) tt) z.0 z.1) z.2
    at_parts h end_of-Term u t r v ls w x k e = lone t r e
    at_parts h (more_of-Term a end_of-Term) u t r v ls w x k e = lone t r e
    at_parts h (more_of-Term a (more_of-Term b end_of-Term)) u t r v ls w x k e = lone t r e
    at_parts h (more_of-Term a (more_of-Term b (more_of-Term d ts))) u t r v ls w x k e = lone t r e
