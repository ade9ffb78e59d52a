-- What is known of levels in front of productions and behind them; productions without chains of their own.
use Rattle.std.specs.Prelude.{ℕ, ◌≡◌, ◌≤◌, Bool, true, false, not, ◌&&◌, if◌then◌else◌, nat_le, nat_lt, List, [], ◌∷◌, ◌++◌, Option, Some, None}
use Rattle.std.proofs.Common.{refl, ap, sym, ◌∙◌, subst, arith}
use Rattle.std.proofs.lemmas.Bool.{false≢true, leb-true}
use Rattle.std.proofs.lemmas.Bool.Decides.{nat_tests}
use Rattle.gb_script.specs.declared.table.Symbol.{Symbol}
use Rattle.gb_script.specs.declared.table.Symbol.TheVariants.{Token, Part}
use Rattle.gb_script.specs.declared.table.Step.{Step}
use Rattle.gb_script.specs.Grammar.{Production}
use Rattle.gb_limits.specs.declared.level.Level.{Level}
use Rattle.gb_limits.specs.declared.level.TheConstants.{CHAIN}
use Rattle.gb_limits.specs.Level.{terminal_before, nested, is_long, top_is_long}
use Rattle.gb_limits.specs.Limits.{begun}
use Rattle.gb_script.specs.declared.action.Mark.{Mark}
use Rattle.gb_script.specs.declared.action.Mark.TheVariants as mark
use Rattle.gb_script.specs.declared.action.Rule.{Rule}
use Rattle.gb_script.specs.declared.terminal.Terminal.{Terminal}
use Rattle.gb_script.specs.declared.text.Text.{Text}
use Rattle.gb_print.proofs.Tokens.{both}
use Rattle.gb_print.proofs.Chains.{begun_by, Open, shut, awaits, any, Known, new, low, opening_of, is_shut, Within, IsMinus, AreMinus, no_minus, one_minus, Minuses, none_open, awaiting, any_open, Short, short_none, short_more, Fits, unknown, known, Class, plain, whole, begins, ends, closes, closes_function, closes_variant, class_of, is_low, is_low_bracket, is_low_form, Effect, bracket_kind, over_bracket, Effects, nothing, over_token, over_part, Passes, Conforms}

-- Short chains.

not_more : (n : ℕ) → n ≤ 256 → nat_lt CHAIN n ≡ false
not_more n h = grind (arith, nat_tests)

pub short_of : (l : Level) → l.implied ≤ 256 → l.disjuncts ≤ 256 → l.conjuncts ≤ 256 → l.summands ≤ 256 → l.factors ≤ 256 → is_long l ≡ false
short_of l i d c s f =
    let a = not_more l.implied i in
    let b = not_more l.disjuncts d in
    let e = not_more l.conjuncts c in
    let g = not_more l.summands s in
    let h = not_more l.factors f in
    rw (a, b, e, g, h) refl

pub minus_short : (n : ℕ) (l : Level) → n ≤ 256 → IsMinus n l → is_long l ≡ false
minus_short n l h m =
    short_of l (omega (arith, m.implied)) (omega (arith, m.disjuncts)) (omega (arith, m.conjuncts)) (omega (arith, h, m.summands)) (omega (arith, h, m.factors))

all_minus_short : {ms ls : List Level} → AreMinus ms → Short ls → Short (ms ++ ls)
all_minus_short no_minus s = s
all_minus_short (one_minus {l = l} m a) s = short_more (minus_short 1 l (omega arith) m) (all_minus_short a s)

minuses_short : {o : Open} {ms ls : List Level} → Minuses o ms → Short ls → Short (ms ++ ls)
minuses_short none_open s = s
minuses_short (awaiting {l = l} m a) s = short_more (minus_short 0 l (omega arith) m) (all_minus_short a s)
minuses_short (any_open a) s = all_minus_short a s

pub fits_short : {rest : List Level} {xs : List Known} {ls : List Level} → Fits rest xs ls → Short ls
fits_short (unknown s) = s
fits_short (known e m w f) = subst Short (sym e) (minuses_short m (short_more w.short (fits_short f)))

pub short_top : (ls : List Level) → Short ls → top_is_long ls ≡ false
short_top [] short_none = refl
short_top (l ∷ ls) (short_more h s) = h

-- The innermost level.

-- what a step begins
pub begun_is : (t : Text) (s : Step Rule) (ls : List Level) → begun t s ls ≡ begun_by s.rule.mark (terminal_before t s.at) ls
begun_is t s [] = refl
begun_is t s (l ∷ ls) = refl

pub record Top (a : Known) (rest : List Level) (xs : List Known) (ls : List Level) : Type 0 where
  pub level : Level
  pub more : List Level
  pub is : ls ≡ level ∷ more
  pub within : Within a level
  pub outside : Fits rest xs more

shut_none : {o : Open} {ms : List Level} → Minuses o ms → is_shut o ≡ true → ms ≡ []
shut_none none_open h = refl
shut_none (awaiting m a) h = absurd cc
shut_none (any_open a) h = absurd cc

pub top_of : {a : Known} {rest : List Level} {xs : List Known} {ls : List Level} → Fits rest (a ∷ xs) ls → is_shut a.minuses ≡ true → Top a rest xs ls
top_of (known {ls = ls} {l = l} e m w f) h = record { level = l; more = ls; is = e ∙ ap (λ k. k ++ (l ∷ ls)) (shut_none m h); within = w; outside = f }

pub closed_none : (o : Open) → is_shut o ≡ true → Minuses o []
closed_none shut h = none_open
closed_none awaits h = absurd cc
closed_none any h = absurd cc

pub on_top : {a : Known} {rest : List Level} {xs : List Known} {ls : List Level} → Top a rest xs ls → is_shut a.minuses ≡ true → Fits rest (a ∷ xs) ls
on_top {a = a} t h = known t.is (closed_none a.minuses h) t.within t.outside

pub all_known : {rest ls : List Level} → Fits rest [] ls → ls ≡ rest
all_known (unknown s) = refl

-- a level that is within bounds is within wider ones
pub wider : {a b : Known} {l : Level} → Within a l → a.bracket ≡ b.bracket → a.implied ≤ b.implied → a.disjuncts ≤ b.disjuncts → a.conjuncts ≤ b.conjuncts → a.sums ≤ b.sums → Within b l
wider w e i d c s = record {
  opening = w.opening ∙ ap opening_of e;
  implied = omega (arith, w.implied, i);
  disjuncts = omega (arith, w.disjuncts, d);
  conjuncts = omega (arith, w.conjuncts, c);
  summands = omega (arith, w.summands, s);
  factors = omega (arith, w.factors, s);
  short = w.short;
}

pub fits_wider : {a b : Known} {rest : List Level} {xs : List Known} {ls : List Level} → Fits rest (a ∷ xs) ls → is_shut a.minuses ≡ true → is_shut b.minuses ≡ true → a.bracket ≡ b.bracket
    → a.implied ≤ b.implied → a.disjuncts ≤ b.disjuncts → a.conjuncts ≤ b.conjuncts → a.sums ≤ b.sums → Fits rest (b ∷ xs) ls
fits_wider f h k e i d c s = let t = top_of f h in on_top (record { level = t.level; more = t.more; is = t.is; within = wider t.within e i d c s; outside = t.outside }) k

-- what a low level is
pub record Low (a : Known) : Type 0 where
  pub closed : is_shut a.minuses ≡ true
  pub implied : a.implied ≤ 100
  pub disjuncts : a.disjuncts ≤ 100
  pub conjuncts : a.conjuncts ≤ 100
  pub sums : a.sums ≤ 100

pub low_is : (a : Known) → is_low a ≡ true → Low a
low_is a h =
    let p = both (is_shut a.minuses) _ h in
    let q = both (nat_le a.implied 100) _ p.1 in
    let r = both (nat_le a.disjuncts 100) _ q.1 in
    let s = both (nat_le a.conjuncts 100) (nat_le a.sums 100) r.1 in
    record { closed = p.0; implied = leb-true a.implied 100 q.0; disjuncts = leb-true a.disjuncts 100 r.0; conjuncts = leb-true a.conjuncts 100 s.0; sums = leb-true a.sums 100 s.1 }

within_low : {a : Known} {l : Level} → Low a → Within a l → Within (low a.bracket) l
within_low h w = wider w refl h.implied h.disjuncts h.conjuncts h.sums

-- What symbols make of what is known, by a test.

abbrev calm_part : Class → List Known → Option (List Known)
calm_part plain xs = Some xs
calm_part whole [] = None
calm_part whole (a ∷ xs) = if is_low a then Some (low a.bracket ∷ xs) else None
calm_part begins xs = Some (new false ∷ xs)
calm_part ends [] = None
calm_part ends (a ∷ xs) = if is_low_form a then Some xs else None
calm_part closes [] = None
calm_part closes (a ∷ xs) = if is_low_bracket a then Some xs else None
calm_part closes_function (a ∷ b ∷ xs) = if is_low_form a && is_low_bracket b then Some xs else None
calm_part closes_variant (a ∷ b ∷ xs) = if is_low_bracket a && is_low b then Some (low b.bracket ∷ xs) else None
calm_part _ xs = None

abbrev and_calm : (List Known → Option (List Known)) → Option (List Known) → Option (List Known)
and_calm f None = None
and_calm f (Some xs) = f xs

abbrev calm : List Symbol → List Known → Option (List Known)
calm [] xs = Some xs
calm (Token k ∷ ss) xs = and_calm (calm ss) (over_bracket (bracket_kind k) xs)
calm (Part n ∷ ss) xs = and_calm (calm ss) (calm_part (class_of n) xs)

if_some : (t : Bool) (xs ys : List Known) → (if t then Some xs else None) ≡ Some ys → (t ≡ true) × (ys ≡ xs)
if_some true xs ys e = (refl, cc)
if_some false xs ys e = absurd cc

effect_by : (c : ℕ) (k : Class) (xs ys : List Known) → calm_part k xs ≡ Some ys → Effect k c xs ys
effect_by c plain xs ys e = cc
effect_by c whole [] ys e = absurd cc
effect_by c whole (a ∷ xs) ys e = let f = if_some (is_low a) (low a.bracket ∷ xs) ys e in record { first = a; more = xs; is = refl; fits = f.0; becomes = f.1 }
effect_by c begins xs ys e = cc
effect_by c ends [] ys e = absurd cc
effect_by c ends (a ∷ xs) ys e = let f = if_some (is_low_form a) xs ys e in record { first = a; is = ap (λ l. a ∷ l) (sym f.1); fits = f.0 }
effect_by c closes [] ys e = absurd cc
effect_by c closes (a ∷ xs) ys e = let f = if_some (is_low_bracket a) xs ys e in record { first = a; is = ap (λ l. a ∷ l) (sym f.1); fits = f.0 }
effect_by c closes_function [] ys e = absurd cc
effect_by c closes_function (a ∷ []) ys e = absurd cc
effect_by c closes_function (a ∷ b ∷ xs) ys e =
    let f = if_some (is_low_form a && is_low_bracket b) xs ys e in
    let parts = both (is_low_form a) (is_low_bracket b) f.0 in
    (b ∷ xs, record { first = a; is = refl; fits = parts.0 }, record { first = b; is = ap (λ l. b ∷ l) (sym f.1); fits = parts.1 })
effect_by c closes_variant [] ys e = absurd cc
effect_by c closes_variant (a ∷ []) ys e = absurd cc
effect_by c closes_variant (a ∷ b ∷ xs) ys e =
    let f = if_some (is_low_bracket a && is_low b) (low b.bracket ∷ xs) ys e in
    let parts = both (is_low_bracket a) (is_low b) f.0 in
    record { first = a; middle = b ∷ xs; is = refl; fits = parts.0; behind = record { first = b; more = xs; is = refl; fits = parts.1; becomes = f.1 } }
effect_by c _ xs ys e = absurd cc

over_by : (c k : ℕ) (ss : List Symbol) (xs ys : List Known) (o : Option (List Known)) → over_bracket (bracket_kind k) xs ≡ o → and_calm (calm ss) o ≡ Some ys
    → ((zs : List Known) → calm ss zs ≡ Some ys → Effects c ss zs ys) → Effects c (Token k ∷ ss) xs ys
over_by c k ss xs ys None h e more = absurd cc
over_by c k ss xs ys (Some zs) h e more = over_token h (more zs e)

part_by : (c n : ℕ) (ss : List Symbol) (xs ys : List Known) (o : Option (List Known)) → calm_part (class_of n) xs ≡ o → and_calm (calm ss) o ≡ Some ys
    → ((zs : List Known) → calm ss zs ≡ Some ys → Effects c ss zs ys) → Effects c (Part n ∷ ss) xs ys
part_by c n ss xs ys None h e more = absurd cc
part_by c n ss xs ys (Some zs) h e more = over_part (effect_by c (class_of n) xs zs h) (more zs e)

effects_by : (c : ℕ) (ss : List Symbol) (xs ys : List Known) → calm ss xs ≡ Some ys → Effects c ss xs ys
effects_by c [] xs ys e = let same : xs ≡ ys = cc in subst (λ zs. Effects c [] xs zs) same nothing
effects_by c (Token k ∷ ss) xs ys e = over_by c k ss xs ys (over_bracket (bracket_kind k) xs) refl e (λ zs h. effects_by c ss zs ys h)
effects_by c (Part n ∷ ss) xs ys e = part_by c n ss xs ys (calm_part (class_of n) xs) refl e (λ zs h. effects_by c ss zs ys h)

-- Productions without chains of their own.

abbrev pub is_plain_mark : Mark → Bool
is_plain_mark mark.Plain = true
is_plain_mark _ = false

abbrev ends_empty : Option (List Known) → Bool
ends_empty (Some []) = true
ends_empty _ = false

abbrev is_like : Bool → Known → Bool
is_like true a = is_low_bracket a
is_like false a = is_low_form a

abbrev ends_low : Bool → Option (List Known) → Bool
ends_low b (Some (a ∷ [])) = is_like b a
ends_low b _ = false

abbrev row_calm : Class → List Symbol → Bool
row_calm plain ss = ends_empty (calm ss [])
row_calm whole ss = ends_low true (calm ss (low true ∷ [])) && ends_low false (calm ss (low false ∷ []))
row_calm closes ss = ends_empty (calm ss (low true ∷ []))
row_calm closes_function ss = ends_empty (calm ss (low false ∷ low true ∷ []))
row_calm closes_variant ss = ends_low true (calm ss (low true ∷ low true ∷ [])) && ends_low false (calm ss (low true ∷ low false ∷ []))
row_calm _ ss = false

abbrev pub is_calm : Production Rule → Bool
is_calm r = is_plain_mark r.rule.mark && row_calm (class_of r.part) r.body

pub plain_begun : (m : Mark) (b : Terminal) (ls : List Level) → is_plain_mark m ≡ true → begun_by m b ls ≡ ls
plain_begun mark.Plain b [] h = refl
plain_begun mark.Plain b (l ∷ ls) h = refl
plain_begun _ b ls h = absurd (false≢true h)

pub plain_nested : (m : Mark) (ls : List Level) → is_plain_mark m ≡ true → nested m ls ≡ ls
plain_nested mark.Plain ls h = refl
plain_nested _ ls h = absurd (false≢true h)

none_left : (o : Option (List Known)) → ends_empty o ≡ true → o ≡ Some []
none_left None h = absurd cc
none_left (Some []) h = refl
none_left (Some (a ∷ xs)) h = absurd cc

not_true : (b : Bool) → not b ≡ true → b ≡ false
not_true true h = absurd cc
not_true false h = refl

like_bracket : (b : Bool) (a : Known) → is_like b a ≡ true → (a.bracket ≡ b) × (is_low a ≡ true)
like_bracket true a h = both a.bracket (is_low a) h
like_bracket false a h = let parts = both (not a.bracket) (is_low a) h in (not_true a.bracket parts.0, parts.1)

record OneLow (b : Bool) (o : Option (List Known)) : Type 0 where
  level : Known
  is : o ≡ Some (level ∷ [])
  bracket : level.bracket ≡ b
  low_so : is_low level ≡ true

one_low : (b : Bool) (o : Option (List Known)) → ends_low b o ≡ true → OneLow b o
one_low b None h = absurd cc
one_low b (Some []) h = absurd cc
one_low b (Some (a ∷ [])) h = let f = like_bracket b a h in record { level = a; is = refl; bracket = f.0; low_so = f.1 }
one_low b (Some (a ∷ c ∷ xs)) h = absurd cc

either_low : (b : Bool) (ss : List Symbol) → (ends_low true (calm ss (low true ∷ [])) && ends_low false (calm ss (low false ∷ []))) ≡ true → ends_low b (calm ss (low b ∷ [])) ≡ true
either_low true ss h = (both (ends_low true (calm ss (low true ∷ []))) (ends_low false (calm ss (low false ∷ []))) h).0
either_low false ss h = (both (ends_low true (calm ss (low true ∷ []))) (ends_low false (calm ss (low false ∷ []))) h).1

variant_low : (b : Bool) (ss : List Symbol) → (ends_low true (calm ss (low true ∷ low true ∷ [])) && ends_low false (calm ss (low true ∷ low false ∷ []))) ≡ true → ends_low b (calm ss (low true ∷ low b ∷ [])) ≡ true
variant_low true ss h = (both (ends_low true (calm ss (low true ∷ low true ∷ []))) (ends_low false (calm ss (low true ∷ low false ∷ []))) h).0
variant_low false ss h = (both (ends_low true (calm ss (low true ∷ low true ∷ []))) (ends_low false (calm ss (low true ∷ low false ∷ []))) h).1

module _ (r : Production Rule) (operands c : ℕ) (b : Terminal) (rest : List Level) (xs bs : List Known) (ls : List Level) (m : is_plain_mark r.rule.mark ≡ true) (f : Fits rest xs ls) where
  -- levels of which the outer ones aren't looked at
  passes : (below : List Level) (before behind : List Known) → Fits below before ls → calm r.body before ≡ Some behind → ((ns : List Level) → Fits below behind ns → Fits rest bs ns) → Passes r operands b rest bs ls
  passes below before behind g e w = record {
    short = ap top_is_long (plain_begun r.rule.mark b ls m) ∙ short_top ls (fits_short f);
    credit = operands;
    enough = omega arith;
    below = below;
    known_before = before;
    known_behind = behind;
    fits = subst (λ ns. Fits below before ns) (sym (plain_nested r.rule.mark (begun_by r.rule.mark b ls) m ∙ plain_begun r.rule.mark b ls m)) g;
    effects = effects_by operands r.body before behind e;
    within = w;
  }

  by_class : (k : Class) → row_calm k r.body ≡ true → Effect k c xs bs → Passes r operands b rest bs ls
  by_class plain t e =
      passes ls [] [] (unknown (fits_short f)) (none_left (calm r.body []) t)
      (λ ns g. subst (λ zs. Fits rest zs ns) (sym e) (subst (λ ms. Fits rest xs ms) (sym (all_known g)) f))
  by_class whole t e =
      let a = e.first in
      let h = low_is a e.fits in
      let top = top_of (subst (λ zs. Fits rest zs ls) e.is f) h.closed in
      let o = one_low a.bracket (calm r.body (low a.bracket ∷ [])) (either_low a.bracket r.body t) in
      let z = low_is o.level o.low_so in
      passes top.more (low a.bracket ∷ []) (o.level ∷ [])
      (on_top (record { level = top.level; more = top.more; is = top.is; within = within_low h top.within; outside = unknown (fits_short top.outside) }) refl)
      o.is
      (λ ns g.
      let t = top_of g z.closed in
      subst (λ zs. Fits rest zs ns) (sym e.becomes)
      (on_top (record {
        level = t.level;
        more = t.more;
        is = t.is;
        within = wider (within_low z t.within) o.bracket (omega arith) (omega arith) (omega arith) (omega arith);
        outside = subst (λ ms. Fits rest e.more ms) (sym (all_known t.outside)) top.outside;
      }) refl))
  by_class closes t e =
      let a = e.first in
      let parts = both a.bracket (is_low a) e.fits in
      let h = low_is a parts.1 in
      let top = top_of (subst (λ zs. Fits rest zs ls) e.is f) h.closed in
      passes top.more (low true ∷ []) []
      (on_top (record { level = top.level; more = top.more; is = top.is; within = wider (within_low h top.within) parts.0 (omega arith) (omega arith) (omega arith) (omega arith); outside = unknown (fits_short top.outside) }) refl)
      (none_left (calm r.body (low true ∷ [])) t)
      (λ ns g. subst (λ ms. Fits rest bs ms) (sym (all_known g)) top.outside)
  by_class closes_function t e =
      let a = e.1.first in
      let parts = both (not a.bracket) (is_low a) e.1.fits in
      let h = low_is a parts.1 in
      let top = top_of (subst (λ zs. Fits rest zs ls) e.1.is f) h.closed in
      let z = e.2.first in
      let more = both z.bracket (is_low z) e.2.fits in
      let k = low_is z more.1 in
      let outer = top_of (subst (λ zs. Fits rest zs top.more) e.2.is top.outside) k.closed in
      passes outer.more (low false ∷ low true ∷ []) []
      (on_top (record {
        level = top.level;
        more = top.more;
        is = top.is;
        within = wider (within_low h top.within) (not_true a.bracket parts.0) (omega arith) (omega arith) (omega arith) (omega arith);
        outside = on_top (record { level = outer.level; more = outer.more; is = outer.is; within = wider (within_low k outer.within) more.0 (omega arith) (omega arith) (omega arith) (omega arith); outside = unknown (fits_short outer.outside) }) refl;
      }) refl)
      (none_left (calm r.body (low false ∷ low true ∷ [])) t)
      (λ ns g. subst (λ ms. Fits rest bs ms) (sym (all_known g)) outer.outside)
  by_class closes_variant t e =
      let a = e.first in
      let parts = both a.bracket (is_low a) e.fits in
      let h = low_is a parts.1 in
      let top = top_of (subst (λ zs. Fits rest zs ls) e.is f) h.closed in
      let i = e.behind in
      let k = low_is i.first i.fits in
      let outer = top_of (subst (λ zs. Fits rest zs top.more) i.is top.outside) k.closed in
      let o = one_low i.first.bracket (calm r.body (low true ∷ low i.first.bracket ∷ [])) (variant_low i.first.bracket r.body t) in
      let z = low_is o.level o.low_so in
      passes outer.more (low true ∷ low i.first.bracket ∷ []) (o.level ∷ [])
      (on_top (record {
        level = top.level;
        more = top.more;
        is = top.is;
        within = wider (within_low h top.within) parts.0 (omega arith) (omega arith) (omega arith) (omega arith);
        outside = on_top (record { level = outer.level; more = outer.more; is = outer.is; within = within_low k outer.within; outside = unknown (fits_short outer.outside) }) refl;
      }) refl)
      o.is
      (λ ns g.
      let t = top_of g z.closed in
      subst (λ zs. Fits rest zs ns) (sym i.becomes)
      (on_top (record {
        level = t.level;
        more = t.more;
        is = t.is;
        within = wider (within_low z t.within) o.bracket (omega arith) (omega arith) (omega arith) (omega arith);
        outside = subst (λ ms. Fits rest i.more ms) (sym (all_known t.outside)) outer.outside;
      }) refl))
  by_class _ t e = absurd cc

-- A production without chains of its own does to levels what its part does.
pub calm_conforms : (r : Production Rule) (operands : ℕ) → is_calm r ≡ true → Conforms r operands 0
calm_conforms r operands h c h0 b rest xs bs ls e f =
    let parts = both (is_plain_mark r.rule.mark) (row_calm (class_of r.part) r.body) h in
    by_class r operands c b rest xs bs ls parts.0 f (class_of r.part) parts.1 e
