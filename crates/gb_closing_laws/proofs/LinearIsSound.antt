-- A goal that stated multiples close holds.
use Rattle.std.proofs.Common.{◌≡◌, ℕ, zero, suc, ◌<◌, Bool, true, false, not, ◌||◌, if◌then◌else◌, pos, List, [], ◌∷◌, Option, Some, None, refl, ap, sym, subst, arith}
use Rattle.std.specs.List.{AllByRecursion, list_all, slice_get}
use Rattle.std.proofs.lemmas.Bool.{false≢true, and_parts}
use Rattle.std.proofs.lemmas.Int.{ints}
use Rattle.gb_core.specs.declared.place.Place.{Place}
use Rattle.gb_core.specs.declared.refusal.Why.{Why}
use Rattle.gb_core.specs.declared.refusal.Why.TheVariants as why
use Rattle.gb_dist.specs.Fractions.{Fraction}
use Rattle.gb_terms.specs.declared.term.Term.{Term}
use Rattle.gb_goal.specs.declared.sequent.Hyp.{Hyp}
use Rattle.gb_goal.specs.declared.sequent.Sequent.{Sequent}
use Rattle.gb_goal.specs.Answers.{Answer, ◌>>=◌, given_or, nowhere, placed_at}
use Rattle.gb_goal.specs.Answers.Answer.{given, refused}
use Rattle.gb_steps.specs.declared.step.Multiple.{Multiple}
use Rattle.gb_meaning.specs.Setting.{Setting}
use Rattle.gb_meaning.specs.State.{State}
use Rattle.gb_meaning.specs.Judgments.{Judge, IsFair}
use Rattle.gb_meaning.specs.Written.{type_of}
use Rattle.gb_meaning.specs.Declared.{Declarations}
use Rattle.gb_meaning.specs.Settings.{Interpretation, setting}
use Rattle.gb_meaning.specs.Holds.{AreTrue, Holds}
use Rattle.gb_meaning.proofs.Fronts.{without_modules}
use Rattle.gb_laws.specs.Operators.{IsSigned}
use Rattle.gb_typing.specs.Context.{Context}
use Rattle.gb_typing.specs.Typing.{IsTyped}
use Rattle.gb_typing.specs.Sequents.{AreHypotheses, IsTypedSequent}
use Rattle.gb_typing.specs.Scopes.{context_of, IsTypedScope}
use Rattle.gb_typing.specs.Fits.{IsSettingOf, IsStateOf}
use Rattle.gb_amb.proofs.Around.{here, parts_lead}
use Rattle.gb_closing.specs.declared.numbers.Sign.TheVariants.{Plus, Minus}
use Rattle.gb_linear.specs.declared.numbers.Stands.TheVariants.{Left}
use Rattle.gb_linear.specs.declared.forms.LinearForm.{LinearForm}
use Rattle.gb_linear.specs.declared.apply.Comparison.{Comparison}
use Rattle.gb_linear.specs.declared.apply.Assumption.{Assumption}
use Rattle.gb_closing.specs.Numbers.{is_proper, is_negative, may_have}
use Rattle.gb_linear.specs.Numbers.{is_zero, is_positive}
use Rattle.gb_linear.specs.Forms.{combined, scaled, is_constant}
use Rattle.gb_linear.specs.Linear.{linear}
use Rattle.gb_linear.specs.Closing.{compared, hypothesis, if_usable, assumed, in_front, all_assumed, is_allowed, factor_of, difference, added, with_all, rest, is_closed, closed_by, allowed, closed_with, closing, linear_answer}
use Rattle.gb_closing_laws.proofs.Numbers.{Number, Same, nought, plus, times, opposite, same_refl, same_sym, same_trans, same_plus, same_times, plus_nought, nought_plus, times_nought}
use Rattle.gb_closing_laws.proofs.Fractions.{of}
use Rattle.gb_closing_laws.proofs.Found.{given_is, given_bind}
use Rattle.gb_closing_laws.proofs.LinearForms.{value, Worth}
use Rattle.gb_closing_laws.proofs.Order.{IsNonneg, nonpos_same, nonneg_plus, nonneg_times, at_most_of_rest, difference_nonneg, difference_nought, nought_nonneg, same_of_rest, factor_nonneg, constant_nonpos}
use Rattle.gb_closing_laws.proofs.Meant.{zero_is, constant_is, worth_as, both_is, times_is, V, meant}
use Rattle.gb_closing_laws.proofs.Compared.{Stands, conclusion_comparison, form_comparison}

-- what hypotheses add together: at least 0, and exactly 0 where all are equations
abbrev Adds : Bool → Number → Type 0
Adds true n = Same n nought
Adds false n = IsNonneg n

proper : (k : Fraction) → is_proper k ≡ true → 0 < k.1
proper k e = omega (arith, ints, e)

none_some : {A B : Type 0} (x : A) → None ≡ Some x → B
none_some x e = cc

abbrev allowed_if : Bool → Answer (Unit {0})
allowed_if b = if b then given tt else refused why.Argument nowhere

allowed_all : (hs : List Assumption) (b : Bool) → list_all is_allowed hs ≡ b → (x : Unit {0}) → allowed_if b ≡ given x → list_all is_allowed hs ≡ true
allowed_all hs true e x k = e
allowed_all hs false e x k = cc

closed : (equal : Bool) (r : LinearForm) (qs : List Sequent) → closed_by equal r ≡ given qs → (is_closed equal r ≡ true) × ([] ≡ qs)
closed equal r qs e = step (is_closed equal r) refl e
  where
    step : (b : Bool) → is_closed equal r ≡ b → (if b then given [] else refused (why.NotLinear r.constant.0 (pos r.constant.1) (not (is_constant r))) nowhere) ≡ given qs → (b ≡ true) × ([] ≡ qs)
    step true k e = (refl, given_is [] qs e)
    step false k e = cc

-- no goal is left
nothing_left : (x : Comparison) (hs : List Assumption) (qs : List Sequent) → closed_with x hs ≡ given qs → [] ≡ qs
nothing_left x hs qs e =
    let a = given_bind (allowed hs) (λ _. rest x hs >>= λ r. closed_by x.equal r) qs e in
    let b = given_bind (rest x hs) (closed_by x.equal) qs a.2 in
    (closed x.equal b.0 qs b.2).1

unplaced : {A : Type 0} (place : Place) (a : Answer A) (x : A) → placed_at place a ≡ given x → a ≡ given x
unplaced place (given y) x e = e
unplaced place (refused w p) x e = cc

pub closes : (ms : List Multiple) (place : Place) (q : Sequent) (qs : List Sequent) → linear_answer ms place q ≡ given qs → [] ≡ qs
unfolding closing
closes ms place q qs e =
    let a = given_bind (given_or (compared q.conclusion) why.Shape nowhere) (λ x. given_or (all_assumed x.equal q.hyps ms) why.Shape nowhere >>= closed_with x) qs (unplaced place (closing ms q) qs e) in
    let b = given_bind (given_or (all_assumed (let x = a.0 in x.equal) q.hyps ms) why.Shape nowhere) (closed_with a.0) qs a.2 in
    nothing_left a.0 b.0 qs b.2

module _ (c : Context) (g : Setting) (fits : IsSettingOf c g) (i : Judge) (s : State) (fit : IsStateOf c g s) where
  abbrev W : Term → Number
  W = V c g fits i s fit

  -- a comparison of typed numbers that is true
  record IsTrueComparison (x : Comparison) : Type 0 where
    left : IsTyped c x.left
    right : IsTyped c x.right
    left_signed : IsSigned (type_of x.left)
    right_signed : IsSigned (type_of x.right)
    stands : Stands x.equal (W x.left) (W x.right)

  difference_is : (a b : Term) (r : LinearForm) → IsTyped c a → IsTyped c b → IsSigned (type_of a) → IsSigned (type_of b) → difference a b ≡ given r → Worth W r (plus (W a) (opposite (W b)))
  difference_is a b r t u k l e =
      let x = given_bind (linear a) (λ x. linear b >>= λ y. combined Minus x y) r e in
      let y = given_bind (linear b) (λ y. combined Minus x.0 y) r x.2 in
      both_is W Minus x.0 y.0 r (W a) (W b) (meant c g fits i s fit a t k x.0 x.1) (meant c g fits i s fit b u l y.0 y.1) y.2

  -- what the multiple of a hypothesis adds
  multiple_adds : (equal used : Bool) (k : Fraction) (a b : Number) → (not equal || used) ≡ true → (used || not (is_negative k)) ≡ true → Stands used a b → Adds equal (times (of k) (plus b (opposite a)))
  multiple_adds true true k a b u m h = same_trans (times (of k) (plus b (opposite a))) (times (of k) nought) nought (same_times (of k) (of k) (plus b (opposite a)) nought (same_refl (of k)) (difference_nought a b h)) (times_nought (of k))
  multiple_adds true false k a b u m h = absurd (false≢true u)
  multiple_adds false true k a b u m h = nought_nonneg (times (of k) (plus b (opposite a))) (same_trans (times (of k) (plus b (opposite a))) (times (of k) nought) nought (same_times (of k) (of k) (plus b (opposite a)) nought (same_refl (of k)) (difference_nought a b h)) (times_nought (of k)))
  multiple_adds false false k a b u m h = nonneg_times (of k) (plus b (opposite a)) (factor_nonneg k (turned (is_negative k) m)) (difference_nonneg a b h)
    where
      turned : (b : Bool) → not b ≡ true → b ≡ false
      turned false e = refl
      turned true e = absurd (false≢true e)

  -- a hypothesis that is true and may be used for this goal
  record IsUsed (equal : Bool) (a : Assumption) : Type 0 where
    says : IsTrueComparison a.says
    usable : (not equal || a.says.equal) ≡ true

  added_is : (equal : Bool) (a : Assumption) (r : LinearForm) → IsUsed equal a → is_allowed a ≡ true → added a ≡ given r → (n : Number) × Worth W r n × Adds equal n
  added_is equal a r u m e = step a.factor refl m
    where
      step : (k : Option Fraction) → a.factor ≡ k → may_have a.says.equal k ≡ true → (n : Number) × Worth W r n × Adds equal n
      step None f m = absurd (false≢true m)
      step (Some k) f m =
          let p = and_parts (is_proper k) (a.says.equal || not (is_negative k)) m in
          let d = given_bind (difference a.says.right a.says.left) (λ x. scaled Left (factor_of a.factor) x) r e in
          let w = difference_is a.says.right a.says.left d.0 u.says.right u.says.left u.says.right_signed u.says.left_signed d.1 in
          let n = plus (W a.says.right) (opposite (W a.says.left)) in (
            times (of k) n,
            times_is W Left k d.0 r n (proper k p.0) w (subst (λ o. scaled Left (factor_of o) d.0 ≡ given r) f d.2),
            multiple_adds equal a.says.equal k (W a.says.left) (W a.says.right) u.usable p.1 u.says.stands,
          )

  nothing_adds : (equal : Bool) → Adds equal nought
  nothing_adds true = refl
  nothing_adds false = nought_nonneg nought refl

  both_add : (equal : Bool) (m n : Number) → Adds equal m → Adds equal n → Adds equal (plus m n)
  both_add true m n h k = same_trans (plus m n) (plus nought nought) nought (same_plus m nought n nought h k) (nought_plus nought)
  both_add false m n h k = nonneg_plus m n h k

  -- the rest is the difference of the sides of the goal and what the hypotheses add
  with_all_is : (equal : Bool) (x : LinearForm) (n m : Number) (hs : List Assumption) (r : LinearForm) → Worth W x (plus m n) → Adds equal n → AllByRecursion (IsUsed equal) hs → list_all is_allowed hs ≡ true →
      with_all x hs ≡ given r → (n : Number) × Worth W r (plus m n) × Adds equal n
  with_all_is equal x n m [] r w a u l e = (n, subst (λ z. Worth W z (plus m n)) (given_is x r e) w, a)
  with_all_is equal x n m (h ∷ hs) r w a u l e =
      let p = and_parts (is_allowed h) (list_all is_allowed hs) l in
      let y = given_bind (added h) (λ y. combined Plus x y >>= λ s. with_all s hs) r e in
      let z = given_bind (combined Plus x y.0) (λ s. with_all s hs) r y.2 in
      let k = added_is equal h y.0 u.0 p.0 y.1 in
      with_all_is equal z.0 (plus n k.0) m hs r
      (worth_as W z.0 (plus (plus m n) k.0) (plus m (plus n k.0)) (both_is W Plus x y.0 z.0 (plus m n) k.0 w k.1 z.1) (assoc m n k.0))
      (both_add equal n k.0 a k.2) u.1 p.1 z.2
    where
      assoc : (a b c : Number) → Same (plus (plus a b) c) (plus a (plus b c))
      assoc a b c = omega arith

  -- a rest that closes
  closed_stands : (equal : Bool) (r : LinearForm) (a b n : Number) → Worth W r (plus (plus a (opposite b)) n) → Adds equal n → is_closed equal r ≡ true → Stands equal a b
  closed_stands true r a b n w h e =
      let p = and_parts (is_constant r) (is_zero r.constant) e in
      same_of_rest a b n h
      (same_trans (plus (plus a (opposite b)) n) (value W r) nought (same_sym (value W r) (plus (plus a (opposite b)) n) w.1)
      (same_trans (value W r) (of r.constant) nought (constant_is W r p.0) (zero_is r.constant p.1)))
  closed_stands false r a b n w h e =
      let p = and_parts (is_constant r) (not (is_positive r.constant)) e in
      at_most_of_rest a b n h
      (nonpos_same (of r.constant) (plus (plus a (opposite b)) n)
      (same_trans (of r.constant) (value W r) (plus (plus a (opposite b)) n) (same_sym (value W r) (of r.constant) (constant_is W r p.0)) w.1)
      (constant_nonpos r.constant (turned (is_positive r.constant) p.1)))
    where
      turned : (b : Bool) → not b ≡ true → b ≡ false
      turned false e = refl
      turned true e = absurd (false≢true e)

  goal_stands : (x : Comparison) (hs : List Assumption) (qs : List Sequent) → IsTyped c x.left → IsTyped c x.right → IsSigned (type_of x.left) → IsSigned (type_of x.right) → AllByRecursion (IsUsed x.equal) hs →
      closed_with x hs ≡ given qs → Stands x.equal (W x.left) (W x.right)
  goal_stands x hs qs t u k l used e =
      let a = given_bind (allowed hs) (λ _. rest x hs >>= λ r. closed_by x.equal r) qs e in
      let b = given_bind (rest x hs) (closed_by x.equal) qs a.2 in
      let d = given_bind (difference x.left x.right) (λ r. with_all r hs) b.0 b.1 in
      let m = plus (W x.left) (opposite (W x.right)) in
      let w = difference_is x.left x.right d.0 t u k l d.1 in
      let z = with_all_is x.equal d.0 nought m hs b.0 (worth_as W d.0 m (plus m nought) w (same_sym (plus m nought) m (plus_nought m))) (nothing_adds x.equal) used (allowed_all hs (list_all is_allowed hs) refl a.0 a.1) d.2 in
      closed_stands x.equal b.0 (W x.left) (W x.right) z.0 z.1 z.2 (closed x.equal b.0 qs b.2).0

-- The goal of a sequent.

some_given : {A : Type 0} (o : Option A) (w : Why) (p : Place) (x : A) → given_or o w p ≡ given x → o ≡ Some x
some_given (Some y) w p x e = ap Some (given_is y x e)
some_given None w p x e = cc

module _ (ds : Declarations) (scope : IsTypedScope ds) (q : Sequent) (t : IsTypedSequent (context_of ds) q) where
  abbrev c : Context
  c = here ds scope q t

  module _ (k : Interpretation) (fits : IsSettingOf c (setting ds k)) (s : State) (fit : IsStateOf c (setting ds k) s) (i : Judge) (fair : IsFair (setting ds k) i) where
    abbrev IsUsedHere : Bool → Assumption → Type 0
    IsUsedHere equal a = IsUsed c (setting ds k) fits i s fit equal a

    true_hypothesis : (hs : List Hyp) (n : ℕ) (h : Hyp) (x : Comparison) → AreHypotheses c hs → AreTrue ds hs k s → slice_get hs n ≡ Some h → compared h.form ≡ Some x →
        IsTrueComparison c (setting ds k) fits i s fit x
    true_hypothesis [] n h x w l e r = none_some h e
    true_hypothesis (y ∷ hs) zero h x w l e r =
        let same : y ≡ h = cc in
        let v = form_comparison c y.form x (subst (λ z. compared z.form ≡ Some x) (sym same) r) w.0 in
        record {
          left = v.left;
          right = v.right;
          left_signed = v.left_signed;
          right_signed = v.right_signed;
          stands = v.used (setting ds k) fits i s fit ((without_modules ds y.form k s v.front).0 l.0 i fair);
        }
    true_hypothesis (y ∷ hs) (suc n) h x w l e r = true_hypothesis hs n h x w.1 l.1 e r

    one_used : (equal : Bool) (m : Multiple) (a : Assumption) → AreTrue ds q.hyps k s → assumed equal q.hyps m ≡ Some a → IsUsedHere equal a
    one_used equal m a l e = found (slice_get q.hyps m.hyp) refl e
      where
        usable : (h : Hyp) (x : Comparison) → slice_get q.hyps m.hyp ≡ Some h → compared h.form ≡ Some x → (b : Bool) → (not equal || x.equal) ≡ b →
            (if b then Some (record { factor = m.factor; says = x }) else None) ≡ Some a → IsUsedHere equal a
        usable h x u r true b e =
            let is : record { factor = m.factor; says = x } ≡ a = cc in
            subst (IsUsedHere equal) is (record { says = true_hypothesis q.hyps m.hyp h x t.hyps l u r; usable = b })
        usable h x u r false b e = none_some a e

        says : (h : Hyp) → slice_get q.hyps m.hyp ≡ Some h → (o : Option Comparison) → compared h.form ≡ o → if_usable equal m.factor o ≡ Some a → IsUsedHere equal a
        says h u None r e = none_some a e
        says h u (Some x) r e = usable h x u r (not equal || x.equal) refl e

        found : (o : Option Hyp) → slice_get q.hyps m.hyp ≡ o → if_usable equal m.factor (hypothesis o) ≡ Some a → IsUsedHere equal a
        found None u e = none_some a e
        found (Some h) u e = says h u (compared h.form) refl e

    all_used : (equal : Bool) (ms : List Multiple) (hs : List Assumption) → AreTrue ds q.hyps k s → all_assumed equal q.hyps ms ≡ Some hs → AllByRecursion (IsUsedHere equal) hs
    all_used equal [] hs l e = let is : [] ≡ hs = cc in subst (AllByRecursion (IsUsedHere equal)) is tt
    all_used equal (m ∷ ms) hs l e = step (assumed equal q.hyps m) (all_assumed equal q.hyps ms) refl (λ cs v. all_used equal ms cs l v) refl e
      where
        step : (a : Option Assumption) (bs : Option (List Assumption)) → assumed equal q.hyps m ≡ a → ((bs : List Assumption) → all_assumed equal q.hyps ms ≡ Some bs → AllByRecursion (IsUsedHere equal) bs) → all_assumed equal q.hyps ms ≡ bs → in_front a bs ≡ Some hs →
            AllByRecursion (IsUsedHere equal) hs
        step (Some a) (Some bs) u f v e = let is : a ∷ bs ≡ hs = cc in subst (AllByRecursion (IsUsedHere equal)) is (one_used equal m a l u, f bs v)
        step (Some a) None u f v e = none_some hs e
        step None bs u f v e = none_some hs e

  pub closed_holds : (ms : List Multiple) (place : Place) (qs : List Sequent) → linear_answer ms place q ≡ given qs →
      AllByRecursion (IsTypedSequent (context_of ds)) qs × (AllByRecursion (Holds ds) qs → Holds ds q)
  unfolding closing
  closed_holds ms place qs e =
      let a = given_bind (given_or (compared q.conclusion) why.Shape nowhere) (λ x. given_or (all_assumed x.equal q.hyps ms) why.Shape nowhere >>= closed_with x) qs (unplaced place (closing ms q) qs e) in
      let x = a.0 in
      let b = given_bind (given_or (all_assumed x.equal q.hyps ms) why.Shape nowhere) (closed_with x) qs a.2 in
      let v = conclusion_comparison c q.conclusion x (some_given (compared q.conclusion) why.Shape nowhere x a.1) t.conclusion in
      let w = parts_lead ds scope q t [] tt
      (λ k fits s fit y h. (without_modules ds q.conclusion k s v.front).1
      (λ i fair. v.made (setting ds k) fits i s fit
      (goal_stands c (setting ds k) fits i s fit x b.0 qs v.left v.right v.left_signed v.right_signed
      (all_used k fits s fit i fair x.equal ms b.0 h (some_given (all_assumed x.equal q.hyps ms) why.Shape nowhere b.0 b.1)) b.2))) in
      let none = nothing_left x b.0 qs b.2 in
      subst (λ z. AllByRecursion (IsTypedSequent (context_of ds)) z × (AllByRecursion (Holds ds) z → Holds ds q)) none (w.typed, w.leads)
