-- Productions of operands, and of what stands behind them, do to levels what their parts do.
use Rattle.std.specs.Prelude.{ℕ, ◌≡◌, ◌+◌, ◌≤◌, Bool, true, false, not, ◌&&◌, if◌then◌else◌, nat_eq, nat_le, List, [], ◌∷◌, ◌++◌, Some, None}
use Rattle.std.proofs.Common.{refl, ap, sym, ◌∙◌, subst, arith}
use Rattle.std.proofs.lemmas.Bool.{eqb-true}
use Rattle.gb_script.specs.declared.table.Symbol.TheVariants.{Token, Part}
use Rattle.gb_script.specs.Grammar.{Production}
use Rattle.gb_limits.specs.declared.level.Bracket.TheVariants.{Closes, Neither}
use Rattle.gb_limits.specs.declared.level.Level.{Level}
use Rattle.gb_limits.specs.declared.level.Opening.{Opening}
use Rattle.gb_limits.specs.declared.level.Opening.TheVariants as by
use Rattle.gb_limits.specs.Level.{fresh, operand_behind, bounded, extent, ended, outer, nested, top_is_long}
use Rattle.gb_script.specs.declared.action.Action.{Action}
use Rattle.gb_script.specs.declared.action.Mark.TheVariants as mark
use Rattle.gb_script.specs.declared.action.Rule.{Rule}
use Rattle.gb_script.specs.declared.terminal.Terminal.{Terminal}
use Rattle.gb_script.specs.declared.terminal.Terminal.TheVariants as terminal
use Rattle.gb_print.proofs.Tokens.{both}
use Rattle.gb_print.proofs.Chains.{begun_by, Open, shut, awaits, any, Known, new, opening_of, is_shut, is_minus, Within, IsMinus, AreMinus, no_minus, one_minus, Minuses, none_open, awaiting, any_open, Fits, known, plain, run, class_of, EndsAnd, is_low, is_low_bracket, may_sum, is_free_open, not_any, may_operate, may_begin, summed, added_by, operating, beginning, Effect, Effects, nothing, over_token, over_part, bracket_kind, over_bracket, Passes, Conforms}
use Rattle.gb_print.proofs.Levelled.{short_of, minus_short, Top, top_of, fits_short, short_top, fits_wider, low_is}
use Rattle.gb_print.proofs.ChainRows.{comparison_row, pass_top, becomes_here, one_more_is, may_sum_so, Operate, operate, may_operate_so, shut_now}
use Rattle.gb_print.proofs.Productions as p

-- What begins behind a token.
record Behind (l k : Level) : Type 0 where
  opening : k.opening ≡ l.opening
  implied : k.implied ≡ l.implied
  disjuncts : k.disjuncts ≡ l.disjuncts
  conjuncts : k.conjuncts ≡ l.conjuncts
  summands : k.summands ≤ l.summands + 1
  factors : k.factors ≤ l.factors + 1

behind : (b : Terminal) (l : Level) → Behind l (operand_behind b l)
behind terminal.Plus l = record { opening = refl; implied = refl; disjuncts = refl; conjuncts = refl; summands = one_more_is l.summands; factors = omega arith }
behind terminal.Minus l = record { opening = refl; implied = refl; disjuncts = refl; conjuncts = refl; summands = one_more_is l.summands; factors = omega arith }
behind terminal.Xor l = record { opening = refl; implied = refl; disjuncts = refl; conjuncts = refl; summands = one_more_is l.summands; factors = omega arith }
behind terminal.Times l = record { opening = refl; implied = refl; disjuncts = refl; conjuncts = refl; summands = omega arith; factors = one_more_is l.factors }
behind terminal.Slash l = record { opening = refl; implied = refl; disjuncts = refl; conjuncts = refl; summands = omega arith; factors = one_more_is l.factors }
behind terminal.PowerTimes l = record { opening = refl; implied = refl; disjuncts = refl; conjuncts = refl; summands = omega arith; factors = one_more_is l.factors }
behind _ l = record { opening = refl; implied = refl; disjuncts = refl; conjuncts = refl; summands = omega arith; factors = omega arith }

-- a level with one more operand
abbrev one_added : Open → Known → Known
one_added o a = record { bracket = a.bracket; minuses = o; implied = a.implied; disjuncts = a.disjuncts; conjuncts = a.conjuncts; sums = a.sums + 1 }

abbrev with_minuses : Open → Known → Known
with_minuses o a = record { bracket = a.bracket; minuses = o; implied = a.implied; disjuncts = a.disjuncts; conjuncts = a.conjuncts; sums = a.sums }

module _ (a : Known) (i : a.implied ≤ 200) (d : a.disjuncts ≤ 200) (c : a.conjuncts ≤ 200) (s : a.sums + 1 ≤ 200) (b : Terminal) (o : Open) where
  added_within : (l : Level) → Within a l → Within (one_added o a) (operand_behind b l)
  added_within l w =
      let h = behind b l in
      record {
        opening = h.opening ∙ w.opening;
        implied = omega (arith, h.implied, w.implied);
        disjuncts = omega (arith, h.disjuncts, w.disjuncts);
        conjuncts = omega (arith, h.conjuncts, w.conjuncts);
        summands = omega (arith, h.summands, w.summands);
        factors = omega (arith, h.factors, w.factors);
        short = short_of (operand_behind b l) (omega (arith, h.implied, w.implied, i)) (omega (arith, h.disjuncts, w.disjuncts, d)) (omega (arith, h.conjuncts, w.conjuncts, c))
            (omega (arith, h.summands, w.summands, s)) (omega (arith, h.factors, w.factors, s));
      }

same_within : {a : Known} {l : Level} (o : Open) → Within a l → Within (with_minuses o a) l
same_within o w = record { opening = w.opening; implied = w.implied; disjuncts = w.disjuncts; conjuncts = w.conjuncts; summands = w.summands; factors = w.factors; short = w.short }

minus_added : (b : Terminal) (l : Level) → IsMinus 0 l → IsMinus 1 (operand_behind b l)
minus_added b l m =
    let h = behind b l in
    record {
      opening = ap is_minus h.opening ∙ m.opening;
      implied = h.implied ∙ m.implied;
      disjuncts = h.disjuncts ∙ m.disjuncts;
      conjuncts = h.conjuncts ∙ m.conjuncts;
      summands = omega (arith, h.summands, m.summands);
      factors = omega (arith, h.factors, m.factors);
    }

fresh_minus : IsMinus 0 (fresh by.Minus)
fresh_minus = record { opening = refl; implied = refl; disjuncts = refl; conjuncts = refl; summands = omega arith; factors = omega arith }

zero_is : (c : ℕ) → nat_eq c 0 ≡ true → c ≡ 0
zero_is c h = eqb-true c 0 h

free_less : (o : Open) (c d : ℕ) → is_free_open c o ≡ true → d ≤ c → is_free_open d o ≡ true
free_less shut c d h l = refl
free_less awaits c d h l = let z : d ≡ 0 = omega (arith, zero_is c h, l) in rw z refl
free_less any c d h l = let z : d ≡ 0 = omega (arith, zero_is c h, l) in rw z refl

free_shut : (o : Open) (c : ℕ) → is_free_open c o ≡ true → 1 ≤ c → is_shut o ≡ true
free_shut shut c h l = refl
free_shut awaits c h l = absurd (omega (arith, zero_is c h, l))
free_shut any c h l = absurd (omega (arith, zero_is c h, l))

plain_part : (c n : ℕ) (xs : List Known) → class_of n ≡ plain → Effect (class_of n) c xs xs
plain_part c n xs e = subst (λ k. Effect k c xs xs) (sym e) refl

run_part : (c n : ℕ) (k : Known) (xs : List Known) → class_of n ≡ run → may_operate c c k ≡ true → Effect (class_of n) c (k ∷ xs) (operating c k ∷ xs)
run_part c n k xs e h = subst (λ x. Effect x c (k ∷ xs) (operating c k ∷ xs)) (sym e) (becomes_here (may_operate c c) (operating c) k xs h)

-- Operands.

module _ (takes starts stops x q : ℕ) (act : Action) (kx : class_of x ≡ plain) (kq : class_of q ≡ run) where
  abbrev operand_production : Production Rule
  operand_production = record { part = 134; rule = record { takes = takes; action = act; mark = mark.Operand }; starts = starts; stops = stops; body = Part x ∷ Part q ∷ [] }

  operand_by : (operands made c : ℕ) → operands ≤ made → made ≤ c → (b : Terminal) (rest : List Level) (a : Known) (more bs : List Known) (ls : List Level) → not_any a.minuses ≡ true → Operate c (added_by c a.minuses) a → bs ≡ beginning c a ∷ more
      → (o : Open) (ms outer : List Level) (l : Level) → Minuses o ms → a.minuses ≡ o → ls ≡ ms ++ (l ∷ outer) → Within a l → Fits rest more outer → Passes operand_production operands b rest bs ls
  operand_by operands made c h h0 b rest a more bs ls z facts becomes shut ms outer l none_open same e w out =
      let n : added_by c a.minuses ≡ 1 + c = ap (added_by c) same in
      let k = one_added shut a in
      let t : Top a rest more ls = record { level = l; more = outer; is = e; within = w; outside = out } in
      let m : may_operate operands operands k ≡ true =
      may_operate_so operands operands k (record { free = refl; implied = facts.implied; disjuncts = facts.disjuncts; conjuncts = facts.conjuncts; sums = omega (arith, facts.sums, n, h, h0) }) in
      pass_top t operand_production operands operands (omega arith) b (λ ns. refl) k refl
      (added_within a facts.implied facts.disjuncts facts.conjuncts (omega (arith, facts.sums, n)) b shut l w)
      (operating operands k ∷ more)
      (over_part (plain_part operands x (k ∷ more) kx) (over_part (run_part operands q k more kq m) nothing))
      (λ ns g. subst (λ zs. Fits rest zs ns) (sym becomes) (fits_wider g refl refl refl (omega arith) (omega arith) (omega arith) (omega (arith, n, h, h0))))
  operand_by operands made c h h0 b rest a more bs ls z facts becomes awaits ms outer l (awaiting {l = m} {ls = others} one all) same e w out =
      let n : added_by c a.minuses ≡ 0 = ap (added_by c) same in
      let none : c ≡ 0 = zero_is c (sym (ap (is_free_open c) same) ∙ facts.free) in
      let k = with_minuses any a in
      let minus = minus_added b m one in
      let test : may_operate 0 0 k ≡ true =
      may_operate_so 0 0 k (record { free = refl; implied = facts.implied; disjuncts = facts.disjuncts; conjuncts = facts.conjuncts; sums = omega (arith, facts.sums, n) }) in
      record {
        short = ap (λ ns. top_is_long (begun_by mark.Operand b ns)) e ∙ minus_short 1 (operand_behind b m) (omega arith) minus;
        credit = 0;
        enough = omega (arith, h, h0, none);
        below = rest;
        known_before = k ∷ more;
        known_behind = operating 0 k ∷ more;
        fits = subst (λ ns. Fits rest (k ∷ more) ns) (sym (ap (begun_by mark.Operand b) e))
            (known {ms = operand_behind b m ∷ others} {ls = outer} {l = l} refl (any_open (one_minus minus all)) (same_within any w) out);
        effects = over_part (plain_part 0 x (k ∷ more) kx) (over_part (run_part 0 q k more kq test) nothing);
        within = λ ns g. subst (λ zs. Fits rest zs ns) (sym becomes) (fits_wider g refl refl refl (omega arith) (omega arith) (omega arith) (omega (arith, n)));
      }
  operand_by operands made c h h0 b rest a more bs ls z facts becomes any ms outer l (any_open all) same e w out =
      let no : false ≡ true = sym (ap not_any same) ∙ z in absurd cc

  operand_from : (operands made c : ℕ) → operands ≤ made → made ≤ c → (b : Terminal) (rest : List Level) (a : Known) (more bs : List Known) (ls : List Level) → may_begin c a ≡ true → bs ≡ beginning c a ∷ more
      → Fits rest (a ∷ more) ls → Passes operand_production operands b rest bs ls
  operand_from operands made c h h0 b rest a more bs ls test becomes (known {ms = ms} {ls = outer} {l = l} e m w out) =
      let parts = both (not_any a.minuses) (may_operate c (added_by c a.minuses) a) test in
      operand_by operands made c h h0 b rest a more bs ls parts.0 (operate c (added_by c a.minuses) a parts.1) becomes a.minuses ms outer l m refl e w out

  pub operand_row : (operands made : ℕ) → operands ≤ made → Conforms operand_production operands made
  operand_row operands made h c h0 b rest xs bs ls e f = operand_from operands made c h h0 b rest e.first e.more bs ls e.fits e.becomes (subst (λ zs. Fits rest zs ls) e.is f)

-- a prefix `-`
minus_by : (c : ℕ) (b : Terminal) (rest : List Level) (a : Known) (more bs : List Known) (ls : List Level) → not_any a.minuses ≡ true → Operate c (added_by c a.minuses) a → bs ≡ beginning c a ∷ more
    → (o : Open) (ms outer : List Level) (l : Level) → Minuses o ms → a.minuses ≡ o → ls ≡ ms ++ (l ∷ outer) → Within a l → Fits rest more outer → Passes p.operand_minus 0 b rest bs ls
minus_by c b rest a more bs ls z facts becomes shut ms outer l none_open same e w out =
    let n : added_by c a.minuses ≡ 1 + c = ap (added_by c) same in
    let k = one_added awaits a in
    let inside = added_within a facts.implied facts.disjuncts facts.conjuncts (omega (arith, facts.sums, n)) b awaits l w in
    let test : may_begin 0 k ≡ true =
    may_operate_so 0 0 k (record { free = refl; implied = facts.implied; disjuncts = facts.disjuncts; conjuncts = facts.conjuncts; sums = omega (arith, facts.sums, n) }) in
    record {
      short = ap (λ ns. top_is_long (begun_by mark.Negative b ns)) e ∙ inside.short;
      credit = 0;
      enough = omega arith;
      below = rest;
      known_before = k ∷ more;
      known_behind = beginning 0 k ∷ more;
      fits = subst (λ ns. Fits rest (k ∷ more) (fresh by.Minus ∷ ns)) (sym (ap (begun_by mark.Negative b) e))
          (known {ms = fresh by.Minus ∷ []} {ls = outer} {l = operand_behind b l} refl (awaiting fresh_minus no_minus) inside out);
      effects = over_token refl (over_part (becomes_here (may_begin 0) (beginning 0) k more test) nothing);
      within = λ ns g. subst (λ zs. Fits rest zs ns) (sym becomes) (fits_wider g refl refl refl (omega arith) (omega arith) (omega arith) (omega (arith, n)));
    }
minus_by c b rest a more bs ls z facts becomes awaits ms outer l (awaiting {l = m} {ls = others} one all) same e w out =
    let n : added_by c a.minuses ≡ 0 = ap (added_by c) same in
    let k = with_minuses awaits a in
    let minus = minus_added b m one in
    let test : may_begin 0 k ≡ true =
    may_operate_so 0 0 k (record { free = refl; implied = facts.implied; disjuncts = facts.disjuncts; conjuncts = facts.conjuncts; sums = omega (arith, facts.sums, n) }) in
    record {
      short = ap (λ ns. top_is_long (begun_by mark.Negative b ns)) e ∙ minus_short 1 (operand_behind b m) (omega arith) minus;
      credit = 0;
      enough = omega arith;
      below = rest;
      known_before = k ∷ more;
      known_behind = beginning 0 k ∷ more;
      fits = subst (λ ns. Fits rest (k ∷ more) (fresh by.Minus ∷ ns)) (sym (ap (begun_by mark.Negative b) e))
          (known {ms = fresh by.Minus ∷ operand_behind b m ∷ others} {ls = outer} {l = l} refl (awaiting fresh_minus (one_minus minus all)) (same_within awaits w) out);
      effects = over_token refl (over_part (becomes_here (may_begin 0) (beginning 0) k more test) nothing);
      within = λ ns g. subst (λ zs. Fits rest zs ns) (sym becomes) (fits_wider g refl refl refl (omega arith) (omega arith) (omega arith) (omega (arith, n)));
    }
minus_by c b rest a more bs ls z facts becomes any ms outer l (any_open all) same e w out =
    let no : false ≡ true = sym (ap not_any same) ∙ z in absurd cc

minus_from : (c : ℕ) (b : Terminal) (rest : List Level) (a : Known) (more bs : List Known) (ls : List Level) → may_begin c a ≡ true → bs ≡ beginning c a ∷ more → Fits rest (a ∷ more) ls → Passes p.operand_minus 0 b rest bs ls
minus_from c b rest a more bs ls test becomes (known {ms = ms} {ls = outer} {l = l} e m w out) =
    let parts = both (not_any a.minuses) (may_operate c (added_by c a.minuses) a) test in
    minus_by c b rest a more bs ls parts.0 (operate c (added_by c a.minuses) a parts.1) becomes a.minuses ms outer l m refl e w out

pub minus_row : Conforms p.operand_minus 0 0
minus_row c h0 b rest xs bs ls e f = minus_from c b rest e.first e.more bs ls e.fits e.becomes (subst (λ zs. Fits rest zs ls) e.is f)

-- What stands behind an operand.

plain_same : (b : Terminal) (ls : List Level) → begun_by mark.Plain b ls ≡ ls
plain_same b [] = refl
plain_same b (l ∷ ls) = refl

-- a production that leaves levels to its body
pass_all : (r : Production Rule) (operands : ℕ) (b : Terminal) {rest : List Level} {xs bs : List Known} {ls : List Level} → Fits rest xs ls → ((ns : List Level) → nested r.rule.mark (begun_by r.rule.mark b ns) ≡ ns) → begun_by r.rule.mark b ls ≡ ls
    → (known_behind : List Known) → Effects operands r.body xs known_behind → ((ns : List Level) → Fits rest known_behind ns → Fits rest bs ns) → Passes r operands b rest bs ls
pass_all r operands b {rest = rest} {xs = xs} {ls = ls} f same begun known_behind e within = record {
  short = ap top_is_long begun ∙ short_top ls (fits_short f);
  credit = operands;
  enough = omega arith;
  below = rest;
  known_before = xs;
  known_behind = known_behind;
  fits = subst (λ ns. Fits rest xs ns) (sym (same ls)) f;
  effects = e;
  within = within;
}

-- fewer operands
may_less : (a : Known) (c d : ℕ) → may_operate c c a ≡ true → d ≤ c → may_operate d d a ≡ true
may_less a c d h l =
    let facts = operate c c a h in
    may_operate_so d d a (record { free = free_less a.minuses c d facts.free l; implied = facts.implied; disjuncts = facts.disjuncts; conjuncts = facts.conjuncts; sums = omega (arith, facts.sums, l) })

in_brace : (c : ℕ) (k : Known) (xs : List Known) → may_operate c c k ≡ true → EndsAnd is_low_bracket (may_operate c c) (operating c) (new true ∷ k ∷ xs) (operating c k ∷ xs)
in_brace c k xs h = record { first = new true; middle = k ∷ xs; is = refl; fits = refl; behind = becomes_here (may_operate c c) (operating c) k xs h }

module _ (operands made : ℕ) (h : operands ≤ made) where
  pub more_row : Conforms p.run_more_run operands made
  more_row c h0 b rest xs bs ls e f =
      let less = may_less e.first c operands e.fits (omega (arith, h, h0)) in
      pass_all p.run_more_run operands b (subst (λ zs. Fits rest zs ls) e.is f) (plain_same b) (plain_same b ls) (operating operands e.first ∷ e.more)
      (over_part (becomes_here (may_operate operands operands) (operating operands) e.first e.more less) nothing)
      (λ ns g. subst (λ zs. Fits rest zs ns) (sym e.becomes) (fits_wider g refl refl refl (omega arith) (omega arith) (omega arith) (omega (arith, h, h0))))

  pub item_row : (takes starts stops x : ℕ) (act : Action) → class_of x ≡ plain
      → Conforms (record { part = 136; rule = record { takes = takes; action = act; mark = mark.Plain }; starts = starts; stops = stops; body = Part x ∷ Part 135 ∷ [] }) operands made
  item_row takes starts stops x act kx c h0 b rest xs bs ls e f =
      let r : Production Rule = record { part = 136; rule = record { takes = takes; action = act; mark = mark.Plain }; starts = starts; stops = stops; body = Part x ∷ Part 135 ∷ [] } in
      let less = may_less e.first c operands e.fits (omega (arith, h, h0)) in
      pass_all r operands b (subst (λ zs. Fits rest zs ls) e.is f) (plain_same b) (plain_same b ls) (operating operands e.first ∷ e.more)
      (over_part (plain_part operands x (e.first ∷ e.more) kx) (over_part (becomes_here (may_operate operands operands) (operating operands) e.first e.more less) nothing))
      (λ ns g. subst (λ zs. Fits rest zs ns) (sym e.becomes) (fits_wider g refl refl refl (omega arith) (omega arith) (omega arith) (omega (arith, h, h0))))

  pub open_brace_row : Conforms p.more_run_open_brace operands made
  open_brace_row c h0 b rest xs bs ls e f =
      let less = may_less e.first c operands e.fits (omega (arith, h, h0)) in
      pass_all p.more_run_open_brace operands b (subst (λ zs. Fits rest zs ls) e.is f) (plain_same b) (plain_same b ls) (operating operands e.first ∷ e.more)
      (over_token refl (over_part (in_brace operands e.first e.more less) nothing))
      (λ ns g. subst (λ zs. Fits rest zs ns) (sym e.becomes) (fits_wider g refl refl refl (omega arith) (omega arith) (omega arith) (omega (arith, h, h0))))

  pub braced_row : (takes starts stops x : ℕ) (act : Action) → class_of x ≡ plain
      → Conforms (record { part = 137; rule = record { takes = takes; action = act; mark = mark.Plain }; starts = starts; stops = stops; body = Part x ∷ Token 87 ∷ Part 135 ∷ [] }) operands made
  braced_row takes starts stops x act kx c h0 b rest xs bs ls e f =
      let r : Production Rule = record { part = 137; rule = record { takes = takes; action = act; mark = mark.Plain }; starts = starts; stops = stops; body = Part x ∷ Token 87 ∷ Part 135 ∷ [] } in
      let i = e.behind in
      let less = may_less i.first c operands i.fits (omega (arith, h, h0)) in
      let closes : over_bracket Closes xs ≡ Some (i.first ∷ i.more) =
      ap (over_bracket Closes) e.is ∙ ap (λ (t : Bool). if t then Some e.middle else None) e.fits ∙ ap Some i.is in
      pass_all r operands b f (plain_same b) (plain_same b ls) (operating operands i.first ∷ i.more)
      (over_part (plain_part operands x xs kx) (over_token closes (over_part (becomes_here (may_operate operands operands) (operating operands) i.first i.more less) nothing)))
      (λ ns g. subst (λ zs. Fits rest zs ns) (sym i.becomes) (fits_wider g refl refl refl (omega arith) (omega arith) (omega arith) (omega (arith, h, h0))))

-- The end of a run.

end_same : (b : Terminal) (ls : List Level) → begun_by mark.SumEnd b ls ≡ ls
end_same b [] = refl
end_same b (l ∷ ls) = refl

minus_extent : (o : Opening) → is_minus o ≡ true → nat_le (extent o) (extent by.BoundedMinus) ≡ true
minus_extent by.Minus h = refl
minus_extent by.BoundedMinus h = refl
minus_extent by.Form h = absurd cc
minus_extent by.Bracket h = absurd cc

level_extent : (b : Bool) → nat_le (extent (opening_of b)) (extent by.BoundedMinus) ≡ false
level_extent true = refl
level_extent false = refl

ended_here : (b : Bool) (l : Level) (ls : List Level) → l.opening ≡ opening_of b → ended by.BoundedMinus (l ∷ ls) ≡ l ∷ ls
ended_here b l ls e = ap (λ (t : Bool). if t then ended by.BoundedMinus ls else l ∷ ls) (ap (λ o. nat_le (extent o) (extent by.BoundedMinus)) e ∙ level_extent b)

ended_one : (m : Level) (ls : List Level) → is_minus m.opening ≡ true → ended by.BoundedMinus (m ∷ ls) ≡ ended by.BoundedMinus ls
ended_one m ls h = ap (λ (t : Bool). if t then ended by.BoundedMinus ls else m ∷ ls) (minus_extent m.opening h)

ended_all : (ms ls : List Level) → AreMinus ms → ended by.BoundedMinus (ms ++ ls) ≡ ended by.BoundedMinus ls
ended_all [] ls no_minus = refl
ended_all (m ∷ ms) ls (one_minus one all) = ended_one m (ms ++ ls) one.opening ∙ ended_all ms ls all

ended_minuses : {o : Open} {ms : List Level} (ls : List Level) → Minuses o ms → ended by.BoundedMinus (ms ++ ls) ≡ ended by.BoundedMinus ls
ended_minuses ls none_open = refl
ended_minuses ls (awaiting {l = m} {ls = ms} one all) = ended_one m (ms ++ ls) one.opening ∙ ended_all ms ls all
ended_minuses ls (any_open {ls = ms} all) = ended_all ms ls all

end_from : (c : ℕ) (b : Terminal) (rest : List Level) (a : Known) (more bs : List Known) (ls : List Level) → bs ≡ operating c a ∷ more → Fits rest (a ∷ more) ls → Passes p.run_none 0 b rest bs ls
end_from c b rest a more bs ls becomes (known {ms = ms} {ls = outer} {l = l} e m w out) =
    let f : Fits rest (a ∷ more) ls = known e m w out in
    record {
      short = ap top_is_long (end_same b ls) ∙ short_top ls (fits_short f);
      credit = 0;
      enough = omega arith;
      below = rest;
      known_before = shut_now a ∷ more;
      known_behind = shut_now a ∷ more;
      fits = subst (λ ns. Fits rest (shut_now a ∷ more) ns)
          (sym (ap (ended by.BoundedMinus) (end_same b ls ∙ e) ∙ ended_minuses (l ∷ outer) m ∙ ended_here a.bracket l outer w.opening))
          (known {ms = []} {ls = outer} {l = l} refl none_open (same_within shut w) out);
      effects = nothing;
      within = λ ns g. subst (λ zs. Fits rest zs ns) (sym becomes) (fits_wider g refl refl refl (omega arith) (omega arith) (omega arith) (omega arith));
    }

pub end_row : Conforms p.run_none 0 0
end_row c h0 b rest xs bs ls e f = end_from c b rest e.first e.more bs ls e.becomes (subst (λ zs. Fits rest zs ls) e.is f)

-- Operators between operands.

not_minus : (b : Bool) → nat_le (extent (opening_of b)) (extent by.Minus) ≡ false
not_minus true = refl
not_minus false = refl

no_minus_ended : (b : Bool) (l : Level) (ls : List Level) → l.opening ≡ opening_of b → ended by.Minus (l ∷ ls) ≡ l ∷ ls
no_minus_ended b l ls e = ap (λ (t : Bool). if t then ended by.Minus ls else l ∷ ls) (ap (λ o. nat_le (extent o) (extent by.Minus)) e ∙ not_minus b)

pub operator_row : (takes starts stops k : ℕ) (act : Action) → bracket_kind k ≡ Neither → (operands made : ℕ) → operands + 1 ≤ made
    → Conforms (record { part = 136; rule = record { takes = takes; action = act; mark = mark.Operator }; starts = starts; stops = stops; body = Token k ∷ Part 134 ∷ [] }) operands made
operator_row takes starts stops k act kind operands made h c h0 b rest xs bs ls e f =
    let a = e.first in
    let facts = operate c c a e.fits in
    let t = top_of (subst (λ zs. Fits rest zs ls) e.is f) (free_shut a.minuses c facts.free (omega (arith, h, h0))) in
    let n = shut_now a in
    let test : may_begin operands n ≡ true =
    may_operate_so operands (1 + operands) n (record { free = refl; implied = facts.implied; disjuncts = facts.disjuncts; conjuncts = facts.conjuncts; sums = omega (arith, facts.sums, h, h0) }) in
    record {
      short = ap (λ ns. top_is_long (begun_by mark.Operator b ns)) t.is ∙ t.within.short;
      credit = operands;
      enough = omega arith;
      below = rest;
      known_before = n ∷ e.more;
      known_behind = beginning operands n ∷ e.more;
      fits = subst (λ ns. Fits rest (n ∷ e.more) ns) (sym (ap (λ ns. ended by.Minus (begun_by mark.Operator b ns)) t.is ∙ no_minus_ended a.bracket t.level t.more t.within.opening))
          (known {ms = []} {ls = t.more} {l = t.level} refl none_open (same_within shut t.within) t.outside);
      effects = over_token (ap (λ x. over_bracket x (n ∷ e.more)) kind) (over_part (becomes_here (may_begin operands) (beginning operands) n e.more test) nothing);
      within = λ ns g. subst (λ zs. Fits rest zs ns) (sym e.becomes) (fits_wider g refl refl refl (omega arith) (omega arith) (omega arith) (omega (arith, h, h0)));
    }

bounded_opening : (b : Bool) → bounded (opening_of b) ≡ opening_of b
bounded_opening true = refl
bounded_opening false = refl

pub bound_row : (takes starts stops k : ℕ) (act : Action) → bracket_kind k ≡ Neither → (operands : ℕ)
    → Conforms (record { part = 139; rule = record { takes = takes; action = act; mark = mark.Bounded }; starts = starts; stops = stops; body = Token k ∷ Part 133 ∷ [] }) operands 0
bound_row takes starts stops k act kind operands c h0 b rest xs bs ls e f =
    let r : Production Rule = record { part = 139; rule = record { takes = takes; action = act; mark = mark.Bounded }; starts = starts; stops = stops; body = Token k ∷ Part 133 ∷ [] } in
    let a = e.first in
    let parts = both (is_shut a.minuses) (may_operate c c a) e.fits in
    let facts = operate c c a parts.1 in
    let t = top_of (subst (λ zs. Fits rest zs ls) e.is f) parts.0 in
    let w = t.within in
    let n = shut_now a in
    let test : may_sum n ≡ true = may_sum_so n (record { closed = refl; implied = facts.implied; disjuncts = facts.disjuncts; conjuncts = facts.conjuncts }) in
    pass_top t r operands operands (omega arith) b (λ ns. refl) n refl
    (record { opening = ap bounded w.opening ∙ bounded_opening a.bracket; implied = w.implied; disjuncts = w.disjuncts; conjuncts = w.conjuncts; summands = w.summands; factors = w.factors; short = w.short })
    (summed 60 n ∷ e.more)
    (over_token (ap (λ x. over_bracket x (n ∷ e.more)) kind) (over_part (becomes_here may_sum (summed 60) n e.more test) nothing))
    (λ ns g. subst (λ zs. Fits rest zs ns) (sym e.becomes) (fits_wider g refl refl refl (omega arith) (omega arith) (omega arith) (omega arith)))

-- a judgment with a bound
shut_adds : (o : Open) (c : ℕ) → is_shut o ≡ true → added_by c o ≡ 1 + c
shut_adds shut c h = refl
shut_adds awaits c h = absurd cc
shut_adds any c h = absurd cc

pub phoare_row : (operands made : ℕ) → operands ≤ made → 1 ≤ made → Conforms p.operand_phoare operands made
phoare_row operands made h some c h0 b rest xs bs ls e f =
    let a = e.first in
    let parts = both (not_any a.minuses) (may_operate c (added_by c a.minuses) a) e.fits in
    let facts = operate c (added_by c a.minuses) a parts.1 in
    let closed = free_shut a.minuses c facts.free (omega (arith, some, h0)) in
    let n = shut_adds a.minuses c closed in
    let t = top_of (subst (λ zs. Fits rest zs ls) e.is f) closed in
    let k = one_added shut a in
    let test : may_operate operands operands k ≡ true =
    may_operate_so operands operands k (record { free = refl; implied = facts.implied; disjuncts = facts.disjuncts; conjuncts = facts.conjuncts; sums = omega (arith, facts.sums, n, h, h0) }) in
    pass_top t p.operand_phoare operands operands (omega arith) b (λ ns. refl) k refl
    (added_within a facts.implied facts.disjuncts facts.conjuncts (omega (arith, facts.sums, n)) b shut t.level t.within)
    (operating operands k ∷ e.more)
    (over_part refl (over_part (becomes_here (λ x. is_shut x.minuses && may_operate operands operands x) (operating operands) k e.more test) nothing))
    (λ ns g. subst (λ zs. Fits rest zs ns) (sym e.becomes) (fits_wider g refl refl refl (omega arith) (omega arith) (omega arith) (omega (arith, n, h, h0))))

-- Levels that begin and end.

begin_same : (b : Terminal) (ls : List Level) → begun_by mark.Begin b ls ≡ ls
begin_same b [] = refl
begin_same b (l ∷ ls) = refl

pub begin_row : Conforms p.level_none 0 0
begin_row c h0 b rest xs bs ls e f = record {
  short = ap top_is_long (begin_same b ls) ∙ short_top ls (fits_short f);
  credit = 0;
  enough = omega arith;
  below = rest;
  known_before = new false ∷ xs;
  known_behind = new false ∷ xs;
  fits = subst (λ ns. Fits rest (new false ∷ xs) (fresh by.Form ∷ ns)) (sym (begin_same b ls))
      (known {ms = []} {ls = ls} {l = fresh by.Form} refl none_open
      (record { opening = refl; implied = omega arith; disjuncts = omega arith; conjuncts = omega arith; summands = omega arith; factors = omega arith; short = short_of (fresh by.Form) (omega arith) (omega arith) (omega arith) (omega arith) (omega arith) }) f);
  effects = nothing;
  within = λ ns g. subst (λ zs. Fits rest zs ns) (sym e) g;
}

level_same : (b : Terminal) (ls : List Level) → begun_by mark.End b ls ≡ ls
level_same b [] = refl
level_same b (l ∷ ls) = refl

pub level_end_row : Conforms p.level_end_none 0 0
level_end_row c h0 b rest xs bs ls e f =
    let parts = both (not e.first.bracket) (is_low e.first) e.fits in
    let t = top_of (subst (λ zs. Fits rest zs ls) e.is f) (low_is e.first parts.1).closed in
    record {
      short = ap top_is_long (level_same b ls) ∙ short_top ls (fits_short f);
      credit = 0;
      enough = omega arith;
      below = rest;
      known_before = bs;
      known_behind = bs;
      fits = subst (λ ns. Fits rest bs ns) (sym (ap outer (level_same b ls ∙ t.is))) t.outside;
      effects = nothing;
      within = λ ns g. g;
    }

-- The rows of the table.

pub head_row : (operands made : ℕ) → operands ≤ made → Conforms p.operand_head operands made
head_row = operand_row p.operand_head.rule.takes p.operand_head.starts p.operand_head.stops 140 135 p.operand_head.rule.action refl refl

pub suffix_row : (operands made : ℕ) → operands ≤ made → Conforms p.more_run_suffix operands made
suffix_row operands made h = item_row operands made h p.more_run_suffix.rule.takes p.more_run_suffix.starts p.more_run_suffix.stops 141 p.more_run_suffix.rule.action refl

pub atom_row : (operands made : ℕ) → operands ≤ made → Conforms p.more_run_atom operands made
atom_row operands made h = item_row operands made h p.more_run_atom.rule.takes p.more_run_atom.starts p.more_run_atom.stops 147 p.more_run_atom.rule.action refl

pub side_row : (operands made : ℕ) → operands ≤ made → Conforms p.brace_run_side_suffix operands made
side_row operands made h = braced_row operands made h p.brace_run_side_suffix.rule.takes p.brace_run_side_suffix.starts p.brace_run_side_suffix.stops 143 p.brace_run_side_suffix.rule.action refl

pub coin_row : (operands made : ℕ) → operands ≤ made → Conforms p.brace_run_coin operands made
coin_row operands made h = braced_row operands made h p.brace_run_coin.rule.takes p.brace_run_coin.starts p.brace_run_coin.stops 138 p.brace_run_coin.rule.action refl

pub plus_row : (operands made : ℕ) → operands + 1 ≤ made → Conforms p.more_run_plus operands made
plus_row = operator_row p.more_run_plus.rule.takes p.more_run_plus.starts p.more_run_plus.stops 98 p.more_run_plus.rule.action refl

pub minus_operator_row : (operands made : ℕ) → operands + 1 ≤ made → Conforms p.more_run_minus operands made
minus_operator_row = operator_row p.more_run_minus.rule.takes p.more_run_minus.starts p.more_run_minus.stops 99 p.more_run_minus.rule.action refl

pub times_row : (operands made : ℕ) → operands + 1 ≤ made → Conforms p.more_run_times operands made
times_row = operator_row p.more_run_times.rule.takes p.more_run_times.starts p.more_run_times.stops 97 p.more_run_times.rule.action refl

pub slash_row : (operands made : ℕ) → operands + 1 ≤ made → Conforms p.more_run_slash operands made
slash_row = operator_row p.more_run_slash.rule.takes p.more_run_slash.starts p.more_run_slash.stops 100 p.more_run_slash.rule.action refl

pub power_row : (operands made : ℕ) → operands + 1 ≤ made → Conforms p.more_run_power_times operands made
power_row = operator_row p.more_run_power_times.rule.takes p.more_run_power_times.starts p.more_run_power_times.stops 101 p.more_run_power_times.rule.action refl

pub xor_row : (operands made : ℕ) → operands + 1 ≤ made → Conforms p.more_run_xor operands made
xor_row = operator_row p.more_run_xor.rule.takes p.more_run_xor.starts p.more_run_xor.stops 110 p.more_run_xor.rule.action refl

pub bound_equal_row : (operands : ℕ) → Conforms p.phoare_run_equals operands 0
bound_equal_row = bound_row p.phoare_run_equals.rule.takes p.phoare_run_equals.starts p.phoare_run_equals.stops 102 p.phoare_run_equals.rule.action refl

pub bound_at_most_row : (operands : ℕ) → Conforms p.phoare_run_less_equal operands 0
bound_at_most_row = bound_row p.phoare_run_less_equal.rule.takes p.phoare_run_less_equal.starts p.phoare_run_less_equal.stops 105 p.phoare_run_less_equal.rule.action refl

pub bound_at_least_row : (operands : ℕ) → Conforms p.phoare_run_greater_equal operands 0
bound_at_least_row = bound_row p.phoare_run_greater_equal.rule.takes p.phoare_run_greater_equal.starts p.phoare_run_greater_equal.stops 106 p.phoare_run_greater_equal.rule.action refl

pub equals_row : (operands : ℕ) → Conforms p.compared_equals operands 0
equals_row = comparison_row p.compared_equals.rule.takes p.compared_equals.starts p.compared_equals.stops 102 p.compared_equals.rule.action refl

pub differs_row : (operands : ℕ) → Conforms p.compared_different operands 0
differs_row = comparison_row p.compared_different.rule.takes p.compared_different.starts p.compared_different.stops 103 p.compared_different.rule.action refl

pub less_row : (operands : ℕ) → Conforms p.compared_comparator operands 0
less_row = comparison_row p.compared_comparator.rule.takes p.compared_comparator.starts p.compared_comparator.stops 104 p.compared_comparator.rule.action refl

pub at_most_row : (operands : ℕ) → Conforms p.compared_less_equal operands 0
at_most_row = comparison_row p.compared_less_equal.rule.takes p.compared_less_equal.starts p.compared_less_equal.stops 105 p.compared_less_equal.rule.action refl
