-- Productions of operands and operators do to levels what their parts do.
use Rattle.std.specs.Prelude.{ℕ, ◌≡◌, ◌+◌, ◌≤◌, Bool, true, false, ◌&&◌, nat_le, List, [], ◌∷◌}
use Rattle.std.proofs.Common.{refl, ap, ap₂, sym, ◌∙◌, subst, arith}
use Rattle.std.proofs.lemmas.Bool.{leb-true}
use Rattle.std.proofs.lemmas.Bool.Decides.{nat_tests}
use Rattle.gb_script.specs.declared.table.Symbol.TheVariants.{Token, Part}
use Rattle.gb_script.specs.Grammar.{Production}
use Rattle.gb_limits.specs.declared.level.Bracket.TheVariants.{Neither}
use Rattle.gb_limits.specs.declared.level.Level.{Level}
use Rattle.gb_limits.specs.Level.{one_more, counted, nested, top_is_long}
use Rattle.gb_script.specs.declared.action.Action.{Action}
use Rattle.gb_script.specs.declared.action.Mark.TheVariants as mark
use Rattle.gb_script.specs.declared.action.Rule.{Rule}
use Rattle.gb_script.specs.declared.terminal.Terminal.{Terminal}
use Rattle.gb_print.proofs.Tokens.{both}
use Rattle.gb_print.proofs.Chains.{begun_by, shut, Known, new, low, is_shut, Within, Fits, Becomes, Ends, is_low, is_low_form, may_imply, may_disjoin, may_conjoin, may_sum, may_compare, is_free_open, may_operate, may_begin, implying, disjoining, conjoining, summed, beginning, Effects, nothing, over_token, over_part, Passes, Conforms, bracket_kind, over_bracket}
use Rattle.gb_print.proofs.Levelled.{short_of, Top, top_of, on_top, fits_wider, low_is}
use Rattle.gb_print.proofs.Productions as p

le_test : (a b : ℕ) → a ≤ b → nat_le a b ≡ true
le_test a b h = grind (arith, nat_tests)

four : (p q r s : Bool) → p ≡ true → q ≡ true → r ≡ true → s ≡ true → (p && (q && (r && s))) ≡ true
four p q r s a b c d = ap₂ (λ x y. x && y) a (ap₂ (λ x y. x && y) b (ap₂ (λ x y. x && y) c d))

pub one_more_is : (n : ℕ) → one_more n ≤ n + 1
one_more_is n = omega arith

-- what passes through the innermost level
module _ {a : Known} {rest : List Level} {xs bs : List Known} {ls : List Level} (t : Top a rest xs ls) where
  pub pass_top : (r : Production Rule) (operands credit : ℕ) → operands ≤ credit → (b : Terminal) → ((ns : List Level) → nested r.rule.mark ns ≡ ns) → (k : Known) → is_shut k.minuses ≡ true → Within k (counted r.rule.mark b t.level)
      → (behind : List Known) → Effects credit r.body (k ∷ xs) behind → ((ns : List Level) → Fits rest behind ns → Fits rest bs ns) → Passes r operands b rest bs ls
  pass_top r operands credit h b nest k closed w behind e within = record {
    short = ap (λ ns. top_is_long (begun_by r.rule.mark b ns)) t.is ∙ w.short;
    credit = credit;
    enough = h;
    below = rest;
    known_before = k ∷ xs;
    known_behind = behind;
    fits = subst (λ ns. Fits rest (k ∷ xs) ns) (sym (nest (begun_by r.rule.mark b ls) ∙ ap (begun_by r.rule.mark b) t.is))
        (on_top (record { level = counted r.rule.mark b t.level; more = t.more; is = refl; within = w; outside = t.outside }) closed);
    effects = e;
    within = within;
  }

pub becomes_here : (test : Known → Bool) (f : Known → Known) (k : Known) (xs : List Known) → test k ≡ true → Becomes test f (k ∷ xs) (f k ∷ xs)
becomes_here test f k xs h = record { first = k; more = xs; is = refl; fits = h; becomes = refl }

ends_here : (k : Known) (xs : List Known) → is_low_form k ≡ true → Ends is_low_form (k ∷ xs) xs
ends_here k xs h = record { first = k; is = refl; fits = h }

-- The facts of tests.

record Imply (n : ℕ) (a : Known) : Type 0 where
  closed : is_shut a.minuses ≡ true
  implied : a.implied + n ≤ 200
  disjuncts : a.disjuncts ≤ 100
  conjuncts : a.conjuncts ≤ 100
  sums : a.sums ≤ 100

imply : (n : ℕ) (a : Known) → may_imply n a ≡ true → Imply n a
imply n a h =
    let x = both (is_shut a.minuses) _ h in
    let y = both (nat_le (a.implied + n) 200) _ x.1 in
    let z = both (nat_le a.disjuncts 100) _ y.1 in
    let w = both (nat_le a.conjuncts 100) (nat_le a.sums 100) z.1 in
    record { closed = x.0; implied = leb-true (a.implied + n) 200 y.0; disjuncts = leb-true a.disjuncts 100 z.0; conjuncts = leb-true a.conjuncts 100 w.0; sums = leb-true a.sums 100 w.1 }

may_imply_so : (n : ℕ) (a : Known) → Imply n a → may_imply n a ≡ true
may_imply_so n a f =
    ap₂ (λ x y. x && y) f.closed (four (nat_le (a.implied + n) 200) (nat_le a.disjuncts 100) (nat_le a.conjuncts 100) (nat_le a.sums 100)
    (le_test (a.implied + n) 200 f.implied) (le_test a.disjuncts 100 f.disjuncts) (le_test a.conjuncts 100 f.conjuncts) (le_test a.sums 100 f.sums))

record Disjoin (n : ℕ) (a : Known) : Type 0 where
  closed : is_shut a.minuses ≡ true
  implied : a.implied ≤ 200
  disjuncts : a.disjuncts + n ≤ 200
  conjuncts : a.conjuncts ≤ 100
  sums : a.sums ≤ 100

disjoin : (n : ℕ) (a : Known) → may_disjoin n a ≡ true → Disjoin n a
disjoin n a h =
    let x = both (is_shut a.minuses) _ h in
    let y = both (nat_le a.implied 200) _ x.1 in
    let z = both (nat_le (a.disjuncts + n) 200) _ y.1 in
    let w = both (nat_le a.conjuncts 100) (nat_le a.sums 100) z.1 in
    record { closed = x.0; implied = leb-true a.implied 200 y.0; disjuncts = leb-true (a.disjuncts + n) 200 z.0; conjuncts = leb-true a.conjuncts 100 w.0; sums = leb-true a.sums 100 w.1 }

may_disjoin_so : (n : ℕ) (a : Known) → Disjoin n a → may_disjoin n a ≡ true
may_disjoin_so n a f =
    ap₂ (λ x y. x && y) f.closed (four (nat_le a.implied 200) (nat_le (a.disjuncts + n) 200) (nat_le a.conjuncts 100) (nat_le a.sums 100)
    (le_test a.implied 200 f.implied) (le_test (a.disjuncts + n) 200 f.disjuncts) (le_test a.conjuncts 100 f.conjuncts) (le_test a.sums 100 f.sums))

record Conjoin (n : ℕ) (a : Known) : Type 0 where
  closed : is_shut a.minuses ≡ true
  implied : a.implied ≤ 200
  disjuncts : a.disjuncts ≤ 200
  conjuncts : a.conjuncts + n ≤ 200
  sums : a.sums ≤ 100

conjoin : (n : ℕ) (a : Known) → may_conjoin n a ≡ true → Conjoin n a
conjoin n a h =
    let x = both (is_shut a.minuses) _ h in
    let y = both (nat_le a.implied 200) _ x.1 in
    let z = both (nat_le a.disjuncts 200) _ y.1 in
    let w = both (nat_le (a.conjuncts + n) 200) (nat_le a.sums 100) z.1 in
    record { closed = x.0; implied = leb-true a.implied 200 y.0; disjuncts = leb-true a.disjuncts 200 z.0; conjuncts = leb-true (a.conjuncts + n) 200 w.0; sums = leb-true a.sums 100 w.1 }

may_conjoin_so : (n : ℕ) (a : Known) → Conjoin n a → may_conjoin n a ≡ true
may_conjoin_so n a f =
    ap₂ (λ x y. x && y) f.closed (four (nat_le a.implied 200) (nat_le a.disjuncts 200) (nat_le (a.conjuncts + n) 200) (nat_le a.sums 100)
    (le_test a.implied 200 f.implied) (le_test a.disjuncts 200 f.disjuncts) (le_test (a.conjuncts + n) 200 f.conjuncts) (le_test a.sums 100 f.sums))

pub record Sum (a : Known) : Type 0 where
  pub closed : is_shut a.minuses ≡ true
  pub implied : a.implied ≤ 200
  pub disjuncts : a.disjuncts ≤ 200
  pub conjuncts : a.conjuncts ≤ 200

sum_is : (a : Known) → may_sum a ≡ true → Sum a
sum_is a h =
    let x = both (is_shut a.minuses) _ h in
    let y = both (nat_le a.implied 200) _ x.1 in
    let z = both (nat_le a.disjuncts 200) (nat_le a.conjuncts 200) y.1 in
    record { closed = x.0; implied = leb-true a.implied 200 y.0; disjuncts = leb-true a.disjuncts 200 z.0; conjuncts = leb-true a.conjuncts 200 z.1 }

pub may_sum_so : (a : Known) → Sum a → may_sum a ≡ true
may_sum_so a f =
    four (is_shut a.minuses) (nat_le a.implied 200) (nat_le a.disjuncts 200) (nat_le a.conjuncts 200) f.closed (le_test a.implied 200 f.implied) (le_test a.disjuncts 200 f.disjuncts) (le_test a.conjuncts 200 f.conjuncts)

pub record Operate (c n : ℕ) (a : Known) : Type 0 where
  pub free : is_free_open c a.minuses ≡ true
  pub implied : a.implied ≤ 200
  pub disjuncts : a.disjuncts ≤ 200
  pub conjuncts : a.conjuncts ≤ 200
  pub sums : a.sums + n ≤ 200

pub operate : (c n : ℕ) (a : Known) → may_operate c n a ≡ true → Operate c n a
operate c n a h =
    let x = both (is_free_open c a.minuses) _ h in
    let y = both (nat_le a.implied 200) _ x.1 in
    let z = both (nat_le a.disjuncts 200) _ y.1 in
    let w = both (nat_le a.conjuncts 200) (nat_le (a.sums + n) 200) z.1 in
    record { free = x.0; implied = leb-true a.implied 200 y.0; disjuncts = leb-true a.disjuncts 200 z.0; conjuncts = leb-true a.conjuncts 200 w.0; sums = leb-true (a.sums + n) 200 w.1 }

pub may_operate_so : (c n : ℕ) (a : Known) → Operate c n a → may_operate c n a ≡ true
may_operate_so c n a f =
    ap₂ (λ x y. x && y) f.free (four (nat_le a.implied 200) (nat_le a.disjuncts 200) (nat_le a.conjuncts 200) (nat_le (a.sums + n) 200)
    (le_test a.implied 200 f.implied) (le_test a.disjuncts 200 f.disjuncts) (le_test a.conjuncts 200 f.conjuncts) (le_test (a.sums + n) 200 f.sums))

-- From sums to forms.

pub condition_row : (operands : ℕ) → operands ≤ 50 → Conforms p.condition_disjunction operands 0
condition_row operands h c h0 b rest xs bs ls e f =
    let a = e.first in
    let facts = low_is a e.fits in
    let t = top_of (subst (λ zs. Fits rest zs ls) e.is f) facts.closed in
    let w = t.within in
    let k : Known = record { bracket = a.bracket; minuses = shut; implied = 0; disjuncts = 100; conjuncts = 100; sums = 100 } in
    pass_top t p.condition_disjunction operands 50 h b (λ ns. refl) k refl
    (record {
      opening = w.opening;
      implied = omega arith;
      disjuncts = omega (arith, w.disjuncts, facts.disjuncts);
      conjuncts = omega (arith, w.conjuncts, facts.conjuncts);
      summands = omega (arith, w.summands, facts.sums);
      factors = omega (arith, w.factors, facts.sums);
      short = short_of (counted mark.Implication b t.level) (omega arith) (omega (arith, w.disjuncts, facts.disjuncts)) (omega (arith, w.conjuncts, facts.conjuncts)) (omega (arith, w.summands, facts.sums)) (omega (arith, w.factors, facts.sums));
    })
    (implying 50 (implying 1 k) ∷ e.more)
    (over_part (becomes_here (may_imply 1) (implying 1) k e.more refl) (over_part (becomes_here (may_imply 50) (implying 50) (implying 1 k) e.more refl) nothing))
    (λ ns g. subst (λ zs. Fits rest zs ns) (sym e.becomes) (fits_wider g refl refl refl (omega arith) (omega arith) (omega arith) (omega arith)))

pub disjunction_row : (operands : ℕ) → operands ≤ 50 → Conforms p.disjunction_conjunction operands 0
disjunction_row operands h c h0 b rest xs bs ls e f =
    let a = e.first in
    let facts = imply 1 a e.fits in
    let t = top_of (subst (λ zs. Fits rest zs ls) e.is f) facts.closed in
    let w = t.within in
    let more = one_more_is t.level.implied in
    let k : Known = record { bracket = a.bracket; minuses = shut; implied = a.implied + 1; disjuncts = 0; conjuncts = 100; sums = 100 } in
    pass_top t p.disjunction_conjunction operands 50 h b (λ ns. refl) k refl
    (record {
      opening = w.opening;
      implied = omega (arith, w.implied, more);
      disjuncts = omega arith;
      conjuncts = omega (arith, w.conjuncts, facts.conjuncts);
      summands = omega (arith, w.summands, facts.sums);
      factors = omega (arith, w.factors, facts.sums);
      short = short_of (counted mark.Disjunction b t.level) (omega (arith, w.implied, more, facts.implied)) (omega arith) (omega (arith, w.conjuncts, facts.conjuncts)) (omega (arith, w.summands, facts.sums)) (omega (arith, w.factors, facts.sums));
    })
    (disjoining 50 (disjoining 1 k) ∷ e.more)
    (over_part (becomes_here (may_disjoin 1) (disjoining 1) k e.more
    (may_disjoin_so 1 k (record { closed = refl; implied = facts.implied; disjuncts = omega arith; conjuncts = omega arith; sums = omega arith })))
    (over_part (becomes_here (may_disjoin 50) (disjoining 50) (disjoining 1 k) e.more
    (may_disjoin_so 50 (disjoining 1 k) (record { closed = refl; implied = facts.implied; disjuncts = omega arith; conjuncts = omega arith; sums = omega arith }))) nothing))
    (λ ns g. subst (λ zs. Fits rest zs ns) (sym e.becomes) (fits_wider g refl refl refl (omega arith) (omega arith) (omega arith) (omega arith)))

pub conjunction_row : (operands : ℕ) → operands ≤ 50 → Conforms p.conjunction_negation operands 0
conjunction_row operands h c h0 b rest xs bs ls e f =
    let a = e.first in
    let facts = disjoin 1 a e.fits in
    let t = top_of (subst (λ zs. Fits rest zs ls) e.is f) facts.closed in
    let w = t.within in
    let more = one_more_is t.level.disjuncts in
    let k : Known = record { bracket = a.bracket; minuses = shut; implied = a.implied; disjuncts = a.disjuncts + 1; conjuncts = 0; sums = 100 } in
    pass_top t p.conjunction_negation operands 50 h b (λ ns. refl) k refl
    (record {
      opening = w.opening;
      implied = w.implied;
      disjuncts = omega (arith, w.disjuncts, more);
      conjuncts = omega arith;
      summands = omega (arith, w.summands, facts.sums);
      factors = omega (arith, w.factors, facts.sums);
      short = short_of (counted mark.Conjunction b t.level) (omega (arith, w.implied, facts.implied)) (omega (arith, w.disjuncts, more, facts.disjuncts)) (omega arith) (omega (arith, w.summands, facts.sums)) (omega (arith, w.factors, facts.sums));
    })
    (conjoining 50 (conjoining 1 k) ∷ e.more)
    (over_part (becomes_here (may_conjoin 1) (conjoining 1) k e.more
    (may_conjoin_so 1 k (record { closed = refl; implied = facts.implied; disjuncts = facts.disjuncts; conjuncts = omega arith; sums = omega arith })))
    (over_part (becomes_here (may_conjoin 50) (conjoining 50) (conjoining 1 k) e.more
    (may_conjoin_so 50 (conjoining 1 k) (record { closed = refl; implied = facts.implied; disjuncts = facts.disjuncts; conjuncts = omega arith; sums = omega arith }))) nothing))
    (λ ns g. subst (λ zs. Fits rest zs ns) (sym e.becomes) (fits_wider g refl refl refl (omega arith) (omega arith) (omega arith) (omega arith)))

-- one more operand of `/\`
abbrev conjunct : Known → Known
conjunct a = record { bracket = a.bracket; minuses = shut; implied = a.implied; disjuncts = a.disjuncts; conjuncts = a.conjuncts + 1; sums = a.sums }

conjunct_within : (a : Known) (l : Level) (b : Terminal) → Conjoin 1 a → Within a l → Within (conjunct a) (counted mark.Conjunct b l)
conjunct_within a l b facts w =
    let more = one_more_is l.conjuncts in
    record {
      opening = w.opening;
      implied = w.implied;
      disjuncts = w.disjuncts;
      conjuncts = omega (arith, w.conjuncts, more);
      summands = w.summands;
      factors = w.factors;
      short = short_of (counted mark.Conjunct b l) (omega (arith, w.implied, facts.implied)) (omega (arith, w.disjuncts, facts.disjuncts)) (omega (arith, w.conjuncts, more, facts.conjuncts)) (omega (arith, w.summands, facts.sums)) (omega (arith, w.factors, facts.sums));
    }

pub negation_row : (operands : ℕ) → Conforms p.negation_sum operands 0
negation_row operands c h0 b rest xs bs ls e f =
    let a = e.first in
    let facts = conjoin 1 a e.fits in
    let t = top_of (subst (λ zs. Fits rest zs ls) e.is f) facts.closed in
    let k = conjunct a in
    let z : may_sum k ≡ true = may_sum_so k (record { closed = refl; implied = facts.implied; disjuncts = facts.disjuncts; conjuncts = facts.conjuncts }) in
    let y : may_compare (summed 60 k) ≡ true = ap₂ (λ u v. u && v) z refl in
    pass_top t p.negation_sum operands operands (omega arith) b (λ ns. refl) k refl (conjunct_within a t.level b facts t.within)
    (summed 100 (summed 60 k) ∷ e.more)
    (over_part (becomes_here may_sum (summed 60) k e.more z) (over_part (becomes_here may_compare (summed 100) (summed 60 k) e.more y) nothing))
    (λ ns g. subst (λ zs. Fits rest zs ns) (sym e.becomes) (fits_wider g refl refl refl (omega arith) (omega arith) (omega arith) (omega arith)))

pub not_row : (operands : ℕ) → Conforms p.negation_exclamation operands 0
not_row operands c h0 b rest xs bs ls e f =
    let a = e.first in
    let facts = conjoin 1 a e.fits in
    let t = top_of (subst (λ zs. Fits rest zs ls) e.is f) facts.closed in
    let k = conjunct a in
    pass_top t p.negation_exclamation operands operands (omega arith) b (λ ns. refl) k refl (conjunct_within a t.level b facts t.within)
    (k ∷ e.more)
    (over_part refl (over_token refl (over_part (becomes_here (may_conjoin 1) (conjoining 1) (new false) (k ∷ e.more) refl) (over_part (ends_here (conjoining 1 (new false)) (k ∷ e.more) refl) nothing))))
    (λ ns g. subst (λ zs. Fits rest zs ns) (sym e.becomes) (fits_wider g refl refl refl (omega arith) (omega arith) (omega arith) (omega (arith, facts.sums))))

-- Lists of operands.

-- a production of a part that leaves the innermost level as it is
module _ {a : Known} {rest : List Level} {xs bs : List Known} {ls : List Level} (t : Top a rest xs ls) (closed : is_shut a.minuses ≡ true) where
  pub pass_plain : (r : Production Rule) (operands credit : ℕ) → operands ≤ credit → (b : Terminal) → ((l : Level) → counted r.rule.mark b l ≡ l) → ((ns : List Level) → nested r.rule.mark ns ≡ ns)
      → (behind : List Known) → Effects credit r.body (a ∷ xs) behind → ((ns : List Level) → Fits rest behind ns → Fits rest bs ns) → Passes r operands b rest bs ls
  pass_plain r operands credit h b same nest behind e within = pass_top t r operands credit h b nest a closed (subst (λ l. Within a l) (sym (same t.level)) t.within) behind e within

pub no_tail : Conforms p.tail_none 0 0
no_tail c h0 b rest xs bs ls e f =
    let a = e.first in
    let facts = imply c a e.fits in
    pass_plain (top_of (subst (λ zs. Fits rest zs ls) e.is f) facts.closed) facts.closed p.tail_none 0 0 (omega arith) b (λ l. refl) (λ ns. refl) (a ∷ e.more) nothing
    (λ ns g. subst (λ zs. Fits rest zs ns) (sym e.becomes) (fits_wider g facts.closed refl refl (omega arith) facts.disjuncts facts.conjuncts facts.sums))

pub no_last_tail : Conforms p.last_tail_none 0 0
no_last_tail c h0 b rest xs bs ls e f =
    let a = e.first in
    let facts = imply c a e.fits in
    pass_plain (top_of (subst (λ zs. Fits rest zs ls) e.is f) facts.closed) facts.closed p.last_tail_none 0 0 (omega arith) b (λ l. refl) (λ ns. refl) (a ∷ e.more) nothing
    (λ ns g. subst (λ zs. Fits rest zs ns) (sym e.becomes) (fits_wider g facts.closed refl refl (omega arith) facts.disjuncts facts.conjuncts facts.sums))

pub no_disjuncts : Conforms p.more_conjunctions_none 0 0
no_disjuncts c h0 b rest xs bs ls e f =
    let a = e.first in
    let facts = disjoin c a e.fits in
    pass_plain (top_of (subst (λ zs. Fits rest zs ls) e.is f) facts.closed) facts.closed p.more_conjunctions_none 0 0 (omega arith) b (λ l. refl) (λ ns. refl) (a ∷ e.more) nothing
    (λ ns g. subst (λ zs. Fits rest zs ns) (sym e.becomes) (fits_wider g facts.closed refl refl (omega arith) (omega arith) facts.conjuncts facts.sums))

pub no_conjuncts : Conforms p.more_negations_none 0 0
no_conjuncts c h0 b rest xs bs ls e f =
    let a = e.first in
    let facts = conjoin c a e.fits in
    pass_plain (top_of (subst (λ zs. Fits rest zs ls) e.is f) facts.closed) facts.closed p.more_negations_none 0 0 (omega arith) b (λ l. refl) (λ ns. refl) (a ∷ e.more) nothing
    (λ ns g. subst (λ zs. Fits rest zs ns) (sym e.becomes) (fits_wider g facts.closed refl refl (omega arith) (omega arith) (omega arith) facts.sums))

record Compare (a : Known) : Type 0 where
  may : Sum a
  sums : a.sums ≤ 100

compare : (a : Known) → may_compare a ≡ true → Compare a
compare a h = let x = both (may_sum a) (nat_le a.sums 100) h in record { may = sum_is a x.0; sums = leb-true a.sums 100 x.1 }

pub no_comparison : Conforms p.compared_none 0 0
no_comparison c h0 b rest xs bs ls e f =
    let a = e.first in
    let facts = compare a e.fits in
    pass_plain (top_of (subst (λ zs. Fits rest zs ls) e.is f) facts.may.closed) facts.may.closed p.compared_none 0 0 (omega arith) b (λ l. refl) (λ ns. refl) (a ∷ e.more) nothing
    (λ ns g. subst (λ zs. Fits rest zs ns) (sym e.becomes) (fits_wider g facts.may.closed refl refl (omega arith) (omega arith) (omega arith) facts.sums))

-- a level without open prefixes
abbrev pub shut_now : Known → Known
shut_now a = record { bracket = a.bracket; minuses = shut; implied = a.implied; disjuncts = a.disjuncts; conjuncts = a.conjuncts; sums = a.sums }

pub top_shut : {a : Known} {rest : List Level} {xs : List Known} {ls : List Level} → Top a rest xs ls → Top (shut_now a) rest xs ls
top_shut t = record {
  level = t.level;
  more = t.more;
  is = t.is;
  within = record { opening = t.within.opening; implied = t.within.implied; disjuncts = t.within.disjuncts; conjuncts = t.within.conjuncts; summands = t.within.summands; factors = t.within.factors; short = t.within.short };
  outside = t.outside;
}

pub comparison_row : (takes starts stops k : ℕ) (act : Action) → bracket_kind k ≡ Neither → (operands : ℕ)
    → Conforms (record { part = 132; rule = record { takes = takes; action = act; mark = mark.Plain }; starts = starts; stops = stops; body = Token k ∷ Part 133 ∷ [] }) operands 0
comparison_row takes starts stops k act kind operands c h0 b rest xs bs ls e f =
    let r : Production Rule = record { part = 132; rule = record { takes = takes; action = act; mark = mark.Plain }; starts = starts; stops = stops; body = Token k ∷ Part 133 ∷ [] } in
    let a = e.first in
    let facts = compare a e.fits in
    let z : may_sum (shut_now a) ≡ true = may_sum_so (shut_now a) (record { closed = refl; implied = facts.may.implied; disjuncts = facts.may.disjuncts; conjuncts = facts.may.conjuncts }) in
    pass_plain (top_shut (top_of (subst (λ zs. Fits rest zs ls) e.is f) facts.may.closed)) refl r operands operands (omega arith) b (λ l. refl) (λ ns. refl) (summed 60 (shut_now a) ∷ e.more)
    (over_token (ap (λ x. over_bracket x (shut_now a ∷ e.more)) kind) (over_part (becomes_here may_sum (summed 60) (shut_now a) e.more z) nothing))
    (λ ns g. subst (λ zs. Fits rest zs ns) (sym e.becomes) (fits_wider g refl refl refl (omega arith) (omega arith) (omega arith) (omega arith)))

pub and_row : (operands made : ℕ) → operands + 1 ≤ made → Conforms p.more_negations_and operands made
and_row operands made h c h0 b rest xs bs ls e f =
    let a = e.first in
    let facts = conjoin c a e.fits in
    let k = shut_now a in
    pass_plain (top_shut (top_of (subst (λ zs. Fits rest zs ls) e.is f) facts.closed)) refl p.more_negations_and operands operands (omega arith) b (λ l. refl) (λ ns. refl)
    (conjoining operands (conjoining 1 k) ∷ e.more)
    (over_token refl
    (over_part (becomes_here (may_conjoin 1) (conjoining 1) k e.more
    (may_conjoin_so 1 k (record { closed = refl; implied = facts.implied; disjuncts = facts.disjuncts; conjuncts = omega (arith, facts.conjuncts, h, h0); sums = facts.sums })))
    (over_part (becomes_here (may_conjoin operands) (conjoining operands) (conjoining 1 k) e.more
    (may_conjoin_so operands (conjoining 1 k) (record { closed = refl; implied = facts.implied; disjuncts = facts.disjuncts; conjuncts = omega (arith, facts.conjuncts, h, h0); sums = omega arith }))) nothing)))
    (λ ns g. subst (λ zs. Fits rest zs ns) (sym e.becomes) (fits_wider g refl refl refl (omega arith) (omega arith) (omega (arith, h, h0)) (omega arith)))

pub or_row : (operands made : ℕ) → operands + 1 ≤ made → Conforms p.more_conjunctions_or operands made
or_row operands made h c h0 b rest xs bs ls e f =
    let a = e.first in
    let facts = disjoin c a e.fits in
    let k = shut_now a in
    pass_plain (top_shut (top_of (subst (λ zs. Fits rest zs ls) e.is f) facts.closed)) refl p.more_conjunctions_or operands operands (omega arith) b (λ l. refl) (λ ns. refl)
    (disjoining operands (disjoining 1 k) ∷ e.more)
    (over_token refl
    (over_part (becomes_here (may_disjoin 1) (disjoining 1) k e.more
    (may_disjoin_so 1 k (record { closed = refl; implied = facts.implied; disjuncts = omega (arith, facts.disjuncts, h, h0); conjuncts = facts.conjuncts; sums = facts.sums })))
    (over_part (becomes_here (may_disjoin operands) (disjoining operands) (disjoining 1 k) e.more
    (may_disjoin_so operands (disjoining 1 k) (record { closed = refl; implied = facts.implied; disjuncts = omega (arith, facts.disjuncts, h, h0); conjuncts = omega arith; sums = omega arith }))) nothing)))
    (λ ns g. subst (λ zs. Fits rest zs ns) (sym e.becomes) (fits_wider g refl refl refl (omega arith) (omega (arith, h, h0)) (omega arith) (omega arith)))

pub arrow_row : (operands made : ℕ) → operands ≤ made → Conforms p.tail_arrow operands made
arrow_row operands made h c h0 b rest xs bs ls e f =
    let a = e.first in
    let facts = imply c a e.fits in
    let k = shut_now a in
    pass_plain (top_shut (top_of (subst (λ zs. Fits rest zs ls) e.is f) facts.closed)) refl p.tail_arrow operands operands (omega arith) b (λ l. refl) (λ ns. refl)
    (implying operands k ∷ e.more)
    (over_token refl (over_part (becomes_here (may_imply operands) (implying operands) k e.more
    (may_imply_so operands k (record { closed = refl; implied = omega (arith, facts.implied, h, h0); disjuncts = facts.disjuncts; conjuncts = facts.conjuncts; sums = facts.sums }))) nothing))
    (λ ns g. subst (λ zs. Fits rest zs ns) (sym e.becomes) (fits_wider g refl refl refl (omega (arith, h, h0)) (omega arith) (omega arith) (omega arith)))

pub conclusion_row : (operands made : ℕ) → operands + 1 ≤ made → Conforms p.conclusion_disjunction operands made
conclusion_row operands made h c h0 b rest xs bs ls e f =
    let a = e.first in
    let facts = imply c a e.fits in
    let k = shut_now a in
    pass_plain (top_shut (top_of (subst (λ zs. Fits rest zs ls) e.is f) facts.closed)) refl p.conclusion_disjunction operands operands (omega arith) b (λ l. refl) (λ ns. refl)
    (implying operands (implying 1 k) ∷ e.more)
    (over_part (becomes_here (may_imply 1) (implying 1) k e.more
    (may_imply_so 1 k (record { closed = refl; implied = omega (arith, facts.implied, h, h0); disjuncts = facts.disjuncts; conjuncts = facts.conjuncts; sums = facts.sums })))
    (over_part (becomes_here (may_imply operands) (implying operands) (implying 1 k) e.more
    (may_imply_so operands (implying 1 k) (record { closed = refl; implied = omega (arith, facts.implied, h, h0); disjuncts = omega arith; conjuncts = omega arith; sums = omega arith }))) nothing))
    (λ ns g. subst (λ zs. Fits rest zs ns) (sym e.becomes) (fits_wider g refl refl refl (omega (arith, h, h0)) (omega arith) (omega arith) (omega arith)))

pub iff_row : (operands made : ℕ) → operands + 1 ≤ made → Conforms p.tail_double_arrow operands made
iff_row operands made h c h0 b rest xs bs ls e f =
    let a = e.first in
    let facts = imply c a e.fits in
    let t = top_of (subst (λ zs. Fits rest zs ls) e.is f) facts.closed in
    let w = t.within in
    let k : Known = record { bracket = a.bracket; minuses = shut; implied = 0; disjuncts = a.disjuncts; conjuncts = a.conjuncts; sums = a.sums } in
    pass_top t p.tail_double_arrow operands operands (omega arith) b (λ ns. refl) k refl
    (record {
      opening = w.opening;
      implied = omega arith;
      disjuncts = w.disjuncts;
      conjuncts = w.conjuncts;
      summands = w.summands;
      factors = w.factors;
      short = short_of (counted mark.Implication b t.level) (omega arith) (omega (arith, w.disjuncts, facts.disjuncts)) (omega (arith, w.conjuncts, facts.conjuncts)) (omega (arith, w.summands, facts.sums)) (omega (arith, w.factors, facts.sums));
    })
    (implying operands (implying 1 k) ∷ e.more)
    (over_token refl
    (over_part (becomes_here (may_imply 1) (implying 1) k e.more
    (may_imply_so 1 k (record { closed = refl; implied = omega arith; disjuncts = facts.disjuncts; conjuncts = facts.conjuncts; sums = facts.sums })))
    (over_part (becomes_here (may_imply operands) (implying operands) (implying 1 k) e.more
    (may_imply_so operands (implying 1 k) (record { closed = refl; implied = omega (arith, facts.implied, h, h0); disjuncts = omega arith; conjuncts = omega arith; sums = omega arith }))) nothing)))
    (λ ns g. subst (λ zs. Fits rest zs ns) (sym e.becomes) (fits_wider g refl refl refl (omega (arith, h, h0)) (omega arith) (omega arith) (omega arith)))

pub question_row : (operands : ℕ) → Conforms p.tail_question operands 0
question_row operands c h0 b rest xs bs ls e f =
    let a = e.first in
    let facts = imply c a e.fits in
    let k = shut_now a in
    pass_plain (top_shut (top_of (subst (λ zs. Fits rest zs ls) e.is f) facts.closed)) refl p.tail_question operands operands (omega arith) b (λ l. refl) (λ ns. refl)
    (k ∷ e.more)
    (over_part refl (over_token refl (over_part (becomes_here is_low (λ x. low x.bracket) (new false) (k ∷ e.more) refl)
    (over_token refl (over_part (becomes_here is_low (λ x. low x.bracket) (low false) (k ∷ e.more) refl) (over_part (ends_here (low false) (k ∷ e.more) refl) nothing))))))
    (λ ns g. subst (λ zs. Fits rest zs ns) (sym e.becomes) (fits_wider g refl refl refl (omega arith) facts.disjuncts facts.conjuncts facts.sums))

pub sum_row : (operands : ℕ) → operands ≤ 50 → Conforms p.sum_operand operands 0
sum_row operands h c h0 b rest xs bs ls e f =
    let a = e.first in
    let facts = sum_is a e.fits in
    let t = top_of (subst (λ zs. Fits rest zs ls) e.is f) facts.closed in
    let w = t.within in
    let k : Known = record { bracket = a.bracket; minuses = shut; implied = a.implied; disjuncts = a.disjuncts; conjuncts = a.conjuncts; sums = 1 } in
    pass_top t p.sum_operand operands 50 h b (λ ns. refl) k refl
    (record {
      opening = w.opening;
      implied = w.implied;
      disjuncts = w.disjuncts;
      conjuncts = w.conjuncts;
      summands = omega arith;
      factors = omega arith;
      short = short_of (counted mark.Sum b t.level) (omega (arith, w.implied, facts.implied)) (omega (arith, w.disjuncts, facts.disjuncts)) (omega (arith, w.conjuncts, facts.conjuncts)) (omega arith) (omega arith);
    })
    (beginning 50 k ∷ e.more)
    (over_part (becomes_here (may_begin 50) (beginning 50) k e.more
    (may_operate_so 50 51 k (record { free = refl; implied = facts.implied; disjuncts = facts.disjuncts; conjuncts = facts.conjuncts; sums = omega arith }))) nothing)
    (λ ns g. subst (λ zs. Fits rest zs ns) (sym e.becomes) (fits_wider g refl refl refl (omega arith) (omega arith) (omega arith) (omega arith)))
