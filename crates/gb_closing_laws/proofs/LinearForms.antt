-- What linear forms are worth, where each term is worth a number.
use Rattle.std.proofs.Common.{◌≡◌, ◌<◌, Bool, true, false, if◌then◌else◌, List, [], ◌∷◌, refl, subst, arith}
use Rattle.std.proofs.lemmas.Bool.{false≢true}
use Rattle.gb_dist.specs.Fractions.{Fraction}
use Rattle.gb_terms.specs.declared.term.Term.{Term}
use Rattle.gb_meaning.proofs.SameTerms.{same_terms}
use Rattle.gb_goal.specs.Answers.{Answer, ◌>>=◌}
use Rattle.gb_goal.specs.Answers.Answer.{given}
use Rattle.gb_closing.specs.declared.numbers.Sign.{Sign}
use Rattle.gb_linear.specs.declared.numbers.Stands.{Stands}
use Rattle.gb_closing.specs.declared.summands.Summand.{Summand}
use Rattle.gb_linear.specs.declared.forms.LinearForm.{LinearForm}
use Rattle.gb_closing.specs.Numbers as numbers
use Rattle.gb_linear.specs.Numbers as sums
use Rattle.gb_closing.specs.Numbers.{operated}
use Rattle.gb_linear.specs.Numbers.{multiplied}
use Rattle.gb_closing.specs.Summands.{besides, with_coefficient}
use Rattle.gb_linear.specs.Forms.{is_yes, is_same, coefficient, without, merged, each_scaled, combined, scaled, of_number, alone}
use Rattle.gb_closing_laws.proofs.Numbers.{Number, Same, nought, plus, times, signed, same_refl, same_sym, same_trans, same_plus, same_times, same_signed, nought_plus, plus_nought, left_comm, interchange, times_plus, plus_times, times_assoc, times_nought, signed_nought, signed_plus, signed_times}
use Rattle.gb_closing_laws.proofs.Fractions.{of}
use Rattle.gb_closing_laws.proofs.Found.{given_is, given_bind, operated_is, multiplied_is}

by_yes : {A : Type 0} (d : Dec A) → is_yes d ≡ true → A
by_yes (yes p) e = p
by_yes (no n) e = absurd (false≢true e)

same_of : (a b : Term) → is_same a b ≡ true → a ≡ b
unfolding is_same
same_of a b e = by_yes (same_terms a b) e

-- all denominators are above 0
abbrev pub AreProper : List Summand → Type 0
AreProper [] = Unit {0}
AreProper (x ∷ xs) = (0 < x.coefficient.1) × AreProper xs

abbrev pub IsProper : LinearForm → Type 0
IsProper a = (0 < a.constant.1) × AreProper a.summands

module _ (V : Term → Number) where
  abbrev pub worth : Summand → Number
  worth x = times (of x.coefficient) (V x.term)

  abbrev pub total : List Summand → Number
  total [] = nought
  total (x ∷ xs) = plus (worth x) (total xs)

  abbrev pub value : LinearForm → Number
  value a = plus (of a.constant) (total a.summands)

  -- the summand of a term and the others
  abbrev taken : List Summand → Term → Number
  taken ys t = plus (times (of (coefficient ys t)) (V t)) (total (without ys t))

  record Taken (ys : List Summand) (t : Term) : Type 0 where
    above : 0 < (coefficient ys t).1
    proper : AreProper (without ys t)
    same : Same (total ys) (taken ys t)

  abbrev With : Bool → Summand → List Summand → Term → Type 0
  With b y ys t =
      (0 < (if b then y.coefficient else coefficient ys t).1)
      × AreProper (if b then ys else y ∷ without ys t)
      × Same (plus (worth y) (total ys)) (plus (times (of (if b then y.coefficient else coefficient ys t)) (V t)) (total (if b then ys else y ∷ without ys t)))

  take : (ys : List Summand) (t : Term) → AreProper ys → Taken ys t
  take [] t w = record { above = omega arith; proper = tt; same = none (V t) }
    where
      none : (v : Number) → Same nought (plus (times (of numbers.zero) v) nought)
      none v = omega arith
  take (y ∷ ys) t w = let k = step (is_same y.term t) refl (take ys t w.1) in record { above = k.0; proper = k.1; same = k.2 }
    where
      step : (b : Bool) → is_same y.term t ≡ b → Taken ys t → With b y ys t
      step true e k = (w.0, w.1, subst (λ u. Same (plus (worth y) (total ys)) (plus (times (of y.coefficient) (V u)) (total ys))) (same_of y.term t e) (same_refl (plus (worth y) (total ys))))
      step false e k = (
        k.above,
        (w.0, k.proper),
        same_trans (plus (worth y) (total ys)) (plus (worth y) (taken ys t)) (plus (times (of (coefficient ys t)) (V t)) (plus (worth y) (total (without ys t))))
            (same_plus (worth y) (worth y) (total ys) (taken ys t) (same_refl (worth y)) k.same)
            (left_comm (worth y) (times (of (coefficient ys t)) (V t)) (total (without ys t))),
      )

  -- a summand with the number that was computed
  made : (t : Term) (a : Answer Fraction) (z : Summand) → with_coefficient t a ≡ given z → (c : Fraction) × (a ≡ given c) × (record { term = t; coefficient = c } ≡ z)
  made t a z e = let k = given_bind a (λ c. given (record { term = t; coefficient = c })) z e in (k.0, k.1, given_is (record { term = t; coefficient = k.0 }) z k.2)

  abbrev Are : List Summand → Number → Type 0
  Are zs x = AreProper zs × Same (total zs) x

  module _ (s : Sign) where
    abbrev one_besides : Summand → Answer Summand
    one_besides y = with_coefficient y.term (operated s numbers.zero y.coefficient)

    -- what the second form has besides
    besides_is : (ys zs : List Summand) → AreProper ys → besides s ys ≡ given zs → Are zs (signed s (total ys))
    besides_is [] zs w e = subst (λ xs. Are xs (signed s nought)) (given_is [] zs e) (tt, signed_nought s)
    besides_is (y ∷ ys) zs w e =
        let a = given_bind (one_besides y) (λ z. besides s ys >>= λ xs. given (z ∷ xs)) zs e in
        let b = given_bind (besides s ys) (λ xs. given (a.0 ∷ xs)) zs a.2 in
        let m = made y.term (operated s numbers.zero y.coefficient) a.0 a.1 in
        let c = operated_is s numbers.zero y.coefficient m.0 (omega arith) w.0 m.1 in
        let r = besides_is ys b.0 w.1 b.1 in
        let v = V y.term in
        let first = same_trans (times (of m.0) v) (times (signed s (of y.coefficient)) v) (signed s (worth y))
        (same_times (of m.0) (signed s (of y.coefficient)) v v
        (same_trans (of m.0) (plus (of numbers.zero) (signed s (of y.coefficient))) (signed s (of y.coefficient)) c.1 (zero_plus (signed s (of y.coefficient)))) (same_refl v))
        (signed_times s (of y.coefficient) v) in
        let both = same_trans (plus (times (of m.0) v) (total b.0)) (plus (signed s (worth y)) (signed s (total ys))) (signed s (plus (worth y) (total ys)))
        (same_plus (times (of m.0) v) (signed s (worth y)) (total b.0) (signed s (total ys)) first r.1)
        (signed_plus s (worth y) (total ys)) in
        subst (λ xs. Are xs (signed s (plus (worth y) (total ys)))) (given_is (a.0 ∷ b.0) zs b.2)
        (subst (λ z. Are (z ∷ b.0) (signed s (plus (worth y) (total ys)))) m.2 ((c.0, r.0), both))
      where
        zero_plus : (x : Number) → Same (plus (of numbers.zero) x) x
        zero_plus x = omega arith

    merged_is : (xs ys zs : List Summand) → AreProper xs → AreProper ys → merged s xs ys ≡ given zs → Are zs (plus (total xs) (signed s (total ys)))
    merged_is [] ys zs w k e =
        let r = besides_is ys zs k e in
        (r.0, same_trans (total zs) (signed s (total ys)) (plus nought (signed s (total ys))) r.1 (same_sym (plus nought (signed s (total ys))) (signed s (total ys)) (nought_plus (signed s (total ys)))))
    merged_is (x ∷ xs) ys zs w k e =
        let one = with_coefficient x.term (operated s x.coefficient (coefficient ys x.term)) in
        let a = given_bind one (λ z. merged s xs (without ys x.term) >>= λ rs. given (z ∷ rs)) zs e in
        let b = given_bind (merged s xs (without ys x.term)) (λ rs. given (a.0 ∷ rs)) zs a.2 in
        let m = made x.term (operated s x.coefficient (coefficient ys x.term)) a.0 a.1 in
        let t = take ys x.term k in
        let c = operated_is s x.coefficient (coefficient ys x.term) m.0 w.0 t.above m.1 in
        let r = merged_is xs (without ys x.term) b.0 w.1 t.proper b.1 in
        let v = V x.term in
        let o = of (coefficient ys x.term) in
        let rest = total (without ys x.term) in
        let first : Same (times (of m.0) v) (plus (worth x) (signed s (times o v))) =
        same_trans (times (of m.0) v) (times (plus (of x.coefficient) (signed s o)) v) (plus (worth x) (signed s (times o v)))
        (same_times (of m.0) (plus (of x.coefficient) (signed s o)) v v c.1 (same_refl v))
        (same_trans (times (plus (of x.coefficient) (signed s o)) v) (plus (worth x) (times (signed s o) v)) (plus (worth x) (signed s (times o v)))
        (plus_times (of x.coefficient) (signed s o) v)
        (same_plus (worth x) (worth x) (times (signed s o) v) (signed s (times o v)) (same_refl (worth x)) (signed_times s o v))) in
        let both : Same (plus (times (of m.0) v) (total b.0)) (plus (plus (worth x) (total xs)) (signed s (total ys))) =
        same_trans (plus (times (of m.0) v) (total b.0)) (plus (plus (worth x) (signed s (times o v))) (plus (total xs) (signed s rest))) (plus (plus (worth x) (total xs)) (signed s (total ys)))
        (same_plus (times (of m.0) v) (plus (worth x) (signed s (times o v))) (total b.0) (plus (total xs) (signed s rest)) first r.1)
        (same_trans (plus (plus (worth x) (signed s (times o v))) (plus (total xs) (signed s rest))) (plus (plus (worth x) (total xs)) (plus (signed s (times o v)) (signed s rest)))
        (plus (plus (worth x) (total xs)) (signed s (total ys)))
        (interchange (worth x) (signed s (times o v)) (total xs) (signed s rest))
        (same_plus (plus (worth x) (total xs)) (plus (worth x) (total xs)) (plus (signed s (times o v)) (signed s rest)) (signed s (total ys)) (same_refl (plus (worth x) (total xs)))
        (same_trans (plus (signed s (times o v)) (signed s rest)) (signed s (plus (times o v) rest)) (signed s (total ys)) (signed_plus s (times o v) rest)
        (same_signed s (plus (times o v) rest) (total ys) (same_sym (total ys) (plus (times o v) rest) t.same))))) in
        subst (λ q. Are q (plus (plus (worth x) (total xs)) (signed s (total ys)))) (given_is (a.0 ∷ b.0) zs b.2)
        (subst (λ z. Are (z ∷ b.0) (plus (plus (worth x) (total xs)) (signed s (total ys)))) m.2 ((c.0, r.0), both))

  -- a form with proper numbers is worth this
  abbrev pub Worth : LinearForm → Number → Type 0
  Worth a x = IsProper a × Same (value a) x

  pub combined_is : (s : Sign) (a b r : LinearForm) → IsProper a → IsProper b → combined s a b ≡ given r → Worth r (plus (value a) (signed s (value b)))
  combined_is s a b r w k e =
      let c = given_bind (operated s a.constant b.constant) (λ c. merged s a.summands b.summands >>= λ xs. given (record { constant = c; summands = xs })) r e in
      let m = given_bind (merged s a.summands b.summands) (λ xs. given (record { constant = c.0; summands = xs })) r c.2 in
      let x = operated_is s a.constant b.constant c.0 w.0 k.0 c.1 in
      let y = merged_is s a.summands b.summands m.0 w.1 k.1 m.1 in
      let target = plus (value a) (signed s (value b)) in
      subst (λ z. Worth z target) (given_is (record { constant = c.0; summands = m.0 }) r m.2) (
        (x.0, y.0),
        same_trans (plus (of c.0) (total m.0)) (plus (plus (of a.constant) (signed s (of b.constant))) (plus (total a.summands) (signed s (total b.summands)))) target
            (same_plus (of c.0) (plus (of a.constant) (signed s (of b.constant))) (total m.0) (plus (total a.summands) (signed s (total b.summands))) x.1 y.1)
            (same_trans (plus (plus (of a.constant) (signed s (of b.constant))) (plus (total a.summands) (signed s (total b.summands))))
            (plus (value a) (plus (signed s (of b.constant)) (signed s (total b.summands)))) target
            (interchange (of a.constant) (signed s (of b.constant)) (total a.summands) (signed s (total b.summands)))
            (same_plus (value a) (value a) (plus (signed s (of b.constant)) (signed s (total b.summands))) (signed s (value b)) (same_refl (value a)) (signed_plus s (of b.constant) (total b.summands)))),
      )

  module _ (on : Stands) (k : Fraction) (above : 0 < k.1) where
    abbrev scaling : Summand → Answer Summand
    scaling x = with_coefficient x.term (multiplied on k x.coefficient)

    scaled_all : (xs zs : List Summand) → AreProper xs → each_scaled on k xs ≡ given zs → Are zs (times (of k) (total xs))
    scaled_all [] zs w e = subst (λ q. Are q (times (of k) nought)) (given_is [] zs e) (tt, same_sym (times (of k) nought) nought (times_nought (of k)))
    scaled_all (x ∷ xs) zs w e =
        let a = given_bind (scaling x) (λ z. each_scaled on k xs >>= λ rs. given (z ∷ rs)) zs e in
        let b = given_bind (each_scaled on k xs) (λ rs. given (a.0 ∷ rs)) zs a.2 in
        let m = made x.term (multiplied on k x.coefficient) a.0 a.1 in
        let c = multiplied_is on k x.coefficient m.0 above w.0 m.1 in
        let r = scaled_all xs b.0 w.1 b.1 in
        let v = V x.term in
        let first = same_trans (times (of m.0) v) (times (times (of k) (of x.coefficient)) v) (times (of k) (worth x))
        (same_times (of m.0) (times (of k) (of x.coefficient)) v v c.1 (same_refl v)) (times_assoc (of k) (of x.coefficient) v) in
        let both = same_trans (plus (times (of m.0) v) (total b.0)) (plus (times (of k) (worth x)) (times (of k) (total xs))) (times (of k) (plus (worth x) (total xs)))
        (same_plus (times (of m.0) v) (times (of k) (worth x)) (total b.0) (times (of k) (total xs)) first r.1)
        (same_sym (times (of k) (plus (worth x) (total xs))) (plus (times (of k) (worth x)) (times (of k) (total xs))) (times_plus (of k) (worth x) (total xs))) in
        subst (λ q. Are q (times (of k) (plus (worth x) (total xs)))) (given_is (a.0 ∷ b.0) zs b.2)
        (subst (λ z. Are (z ∷ b.0) (times (of k) (plus (worth x) (total xs)))) m.2 ((c.0, r.0), both))

    pub scaled_is : (a r : LinearForm) → IsProper a → scaled on k a ≡ given r → Worth r (times (of k) (value a))
    scaled_is a r w e =
        let c = given_bind (multiplied on k a.constant) (λ c. each_scaled on k a.summands >>= λ xs. given (record { constant = c; summands = xs })) r e in
        let m = given_bind (each_scaled on k a.summands) (λ xs. given (record { constant = c.0; summands = xs })) r c.2 in
        let x = multiplied_is on k a.constant c.0 above w.0 c.1 in
        let y = scaled_all a.summands m.0 w.1 m.1 in
        subst (λ z. Worth z (times (of k) (value a))) (given_is (record { constant = c.0; summands = m.0 }) r m.2) (
          (x.0, y.0),
          same_trans (plus (of c.0) (total m.0)) (plus (times (of k) (of a.constant)) (times (of k) (total a.summands))) (times (of k) (value a))
              (same_plus (of c.0) (times (of k) (of a.constant)) (total m.0) (times (of k) (total a.summands)) x.1 y.1)
              (same_sym (times (of k) (value a)) (plus (times (of k) (of a.constant)) (times (of k) (total a.summands))) (times_plus (of k) (of a.constant) (total a.summands))),
        )

  -- a term alone
  pub alone_is : (t : Term) → Worth (alone t) (V t)
  alone_is t = ((omega arith, (omega arith, tt)), one_of (V t))
    where
      one_of : (v : Number) → Same (plus (of numbers.zero) (plus (times (of sums.one) v) nought)) v
      one_of v = omega arith

  -- a number alone
  pub number_is : (c : Fraction) → 0 < c.1 → Worth (of_number c) (of c)
  number_is c h = ((h, tt), plus_nought (of c))
