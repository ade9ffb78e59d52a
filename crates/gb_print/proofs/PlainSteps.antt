-- Entries of contexts but hypotheses have no chains.
use Rattle.std.specs.Prelude.{ℕ, zero, suc, ◌≡◌, ◌+◌, ◌&&◌, ◌||◌, Bool, true, false, if◌then◌else◌, nat_eq, nat_le, List, [], ◌∷◌, ◌++◌}
use Rattle.std.specs.List.{list_all, list_any}
use Rattle.std.proofs.Common.{refl, ap, ap₂, sym, ◌∙◌, subst, arith}
use Rattle.gb_script.specs.declared.table.Step.{Step}
use Rattle.gb_script.specs.declared.table.Symbol.{Symbol}
use Rattle.gb_script.specs.declared.table.Symbol.TheVariants.{Token, Part}
use Rattle.gb_script.specs.Grammar.{Production, Derives, done as derived_none, token as derived_token, choose}
use Rattle.gb_language.specs.Language.{all_rows, all_symbols, goal_language}
use Rattle.gb_limits.specs.declared.level.Bracket.{Bracket}
use Rattle.gb_limits.specs.declared.level.Bracket.TheVariants.{Opens, Closes, Neither}
use Rattle.gb_limits.specs.declared.level.Level.{Level}
use Rattle.gb_limits.specs.declared.level.Opening.{Opening}
use Rattle.gb_limits.specs.declared.level.Opening.TheVariants as by
use Rattle.gb_limits.specs.Level.{fresh, terminal_before, extent, ended, outer, bracket_of, bracketed, top_is_long}
use Rattle.gb_limits.specs.Limits.{Walk, begun, stepped, taken, begin_too_many, over, walked, NoneLong}
use Rattle.gb_limits.proofs.Nesting.{walked-start, walked-more, too_many_at}
use Rattle.gb_script.specs.declared.action.Rule.{Rule}
use Rattle.gb_script.specs.declared.text.Text.{Text}
use Rattle.gb_script.specs.Text.{terminal_at}
use Rattle.gb_print.proofs.Tokens.{both}
use Rattle.gb_print.proofs.Chains.{Short, short_none, short_more}
use Rattle.gb_print.proofs.Levelled.{short_of, short_top, begun_is, is_plain_mark, plain_begun, plain_nested}
use Rattle.gb_print.proofs.Taking.{of_production}

-- the parts of entries
abbrev is_entry_part : ℕ → Bool
is_entry_part n =
    list_any (λ m. nat_eq m n)
    (1 ∷ 86 ∷ 87 ∷ 88 ∷ 89 ∷ 90 ∷ 91 ∷ 95 ∷ 97 ∷ 99 ∷ 100 ∷ 101 ∷ 102 ∷ 103 ∷ 104 ∷ 105 ∷ 106 ∷ 107 ∷ 108 ∷ 109 ∷ 112 ∷ 113 ∷ 114 ∷ 115 ∷ 116 ∷ 117 ∷ 118 ∷ 119 ∷ 160 ∷ 161 ∷ 164 ∷ 165 ∷ 251 ∷ 252 ∷ [])

abbrev are_entry_parts : List Symbol → Bool
are_entry_parts [] = true
are_entry_parts (Token k ∷ ss) = are_entry_parts ss
are_entry_parts (Part n ∷ ss) = is_entry_part n && are_entry_parts ss

abbrev is_entry_row : Production Rule → Bool
is_entry_row r = if is_entry_part r.part then is_plain_mark r.rule.mark && are_entry_parts r.body else true

entry_rows : list_all is_entry_row goal_language ≡ true
unfolding goal_language all_rows all_symbols
entry_rows = refl

more_parts : (xs ys : List Symbol) → are_entry_parts xs ≡ true → are_entry_parts ys ≡ true → are_entry_parts (xs ++ ys) ≡ true
more_parts [] ys h k = k
more_parts (Token j ∷ xs) ys h k = more_parts xs ys h k
more_parts (Part n ∷ xs) ys h k = let parts = both (is_entry_part n) (are_entry_parts xs) h in ap₂ (λ a b. a && b) parts.0 (more_parts xs ys parts.1 k)

abbrev is_plain_step : Step Rule → Bool
is_plain_step s = is_plain_mark s.rule.mark

plain_steps : {ss : List Symbol} {at : ℕ} {w : List ℕ} {ps : List (Step Rule)} → Derives goal_language ss at w ps → are_entry_parts ss ≡ true → list_all is_plain_step ps ≡ true
plain_steps derived_none h = refl
plain_steps (derived_token d) h = plain_steps d h
plain_steps (choose {n = n} {ss = ss} r i al d) h =
    let here = both (is_entry_part n) (are_entry_parts ss) h in
    let tested = of_production is_entry_row goal_language i.place r entry_rows i.row_is in
    let row : (is_plain_mark r.rule.mark && are_entry_parts r.body) ≡ true =
    sym (ap (λ (b : Bool). if b then is_plain_mark r.rule.mark && are_entry_parts r.body else true) (ap is_entry_part i.part_is ∙ here.0)) ∙ tested in
    let parts = both (is_plain_mark r.rule.mark) (are_entry_parts r.body) row in
    ap₂ (λ a b. a && b) parts.0 (plain_steps d (more_parts r.body ss parts.1 here.1))

-- Levels stay short.

step_begun : (t : Text) (s : Step Rule) (ls : List Level) → is_plain_step s ≡ true → begun t s ls ≡ ls
step_begun t s ls h = begun_is t s ls ∙ plain_begun s.rule.mark (terminal_before t s.at) ls h

step_taken : (t : Text) (s : Step Rule) (ls : List Level) → is_plain_step s ≡ true → stepped t s ls ≡ ls
step_taken t s ls h = plain_nested s.rule.mark (begun t s ls) h ∙ step_begun t s ls h

record Stays (t : Text) (i : ℕ) (ls : List Level) (ss : List (Step Rule)) : Type 0 where
  levels : Short (taken t i ls ss).levels
  rest : list_all is_plain_step (taken t i ls ss).rest ≡ true
  few : begin_too_many t i ls ss ≡ false

if_both : (c d e : Bool) → d ≡ false → e ≡ false → (c && (d || e)) ≡ false
if_both true d e h k = ap₂ (λ a b. a || b) h k
if_both false d e h k = refl

stays_by : (t : Text) (i : ℕ) (ls : List Level) (s : Step Rule) (ss : List (Step Rule)) (c : Bool) → nat_le s.at i ≡ c → Short ls → is_plain_step s ≡ true → list_all is_plain_step ss ≡ true → Stays t i ls ss → Stays t i ls (s ∷ ss)
stays_by t i ls s ss true e short h k more =
    let is : taken t i ls (s ∷ ss) ≡ taken t i ls ss =
    ap (λ (c : Bool). if c then taken t i (stepped t s ls) ss else record { levels = ls; rest = s ∷ ss }) e ∙ ap (λ ns. taken t i ns ss) (step_taken t s ls h) in
    record {
      levels = subst (λ (w : Walk). Short w.levels) (sym is) more.levels;
      rest = ap (λ (w : Walk). list_all is_plain_step w.rest) is ∙ more.rest;
      few = if_both (nat_le s.at i) (top_is_long (begun t s ls)) (begin_too_many t i (stepped t s ls) ss) (ap top_is_long (step_begun t s ls h) ∙ short_top ls short)
          (ap (λ ns. begin_too_many t i ns ss) (step_taken t s ls h) ∙ more.few);
    }
stays_by t i ls s ss false e short h k more =
    let is : taken t i ls (s ∷ ss) ≡ record { levels = ls; rest = s ∷ ss } =
    ap (λ (c : Bool). if c then taken t i (stepped t s ls) ss else record { levels = ls; rest = s ∷ ss }) e in
    record {
      levels = subst (λ (w : Walk). Short w.levels) (sym is) short;
      rest = ap (λ (w : Walk). list_all is_plain_step w.rest) is ∙ ap₂ (λ a b. a && b) h k;
      few = if_both (nat_le s.at i) (top_is_long (begun t s ls)) (begin_too_many t i (stepped t s ls) ss) (ap top_is_long (step_begun t s ls h) ∙ short_top ls short)
          (ap (λ ns. begin_too_many t i ns ss) (step_taken t s ls h) ∙ more.few);
    }

stays : (t : Text) (i : ℕ) (ls : List Level) (ss : List (Step Rule)) → Short ls → list_all is_plain_step ss ≡ true → Stays t i ls ss
stays t i ls [] short h = record { levels = short; rest = refl; few = refl }
stays t i ls (s ∷ ss) short h =
    let parts = both (is_plain_step s) (list_all is_plain_step ss) h in
    stays_by t i ls s ss (nat_le s.at i) refl short parts.0 parts.1 (stays t i ls ss short parts.1)

short_fresh : (o : Opening) (ls : List Level) → Short ls → Short (fresh o ∷ ls)
short_fresh o ls s = short_more (short_of (fresh o) (omega arith) (omega arith) (omega arith) (omega arith) (omega arith)) s

short_outer : (ls : List Level) → Short ls → Short (outer ls)
short_outer [] s = s
short_outer (l ∷ ls) (short_more h s) = s

ended_by : (o : Opening) (l : Level) (ls : List Level) (c : Bool) → Short (l ∷ ls) → Short (ended o ls) → Short (if c then ended o ls else l ∷ ls)
ended_by o l ls true s k = k
ended_by o l ls false s k = s

short_ended : (o : Opening) (ls : List Level) → Short ls → Short (ended o ls)
short_ended o [] s = s
short_ended o (l ∷ ls) (short_more h s) = ended_by o l ls (nat_le (extent l.opening) (extent o)) (short_more h s) (short_ended o ls s)

short_bracketed : (b : Bracket) (ls : List Level) → Short ls → Short (bracketed b ls)
short_bracketed Opens ls s = short_fresh by.Bracket ls s
short_bracketed Closes ls s = short_outer (ended by.Form ls) (short_ended by.Form ls s)
short_bracketed Neither ls s = s

record Keeps (t : Text) (steps : List (Step Rule)) (i : ℕ) : Type 0 where
  levels : Short (walked t steps i).levels
  rest : list_all is_plain_step (walked t steps i).rest ≡ true

keeps : (t : Text) (steps : List (Step Rule)) → list_all is_plain_step steps ≡ true → (i : ℕ) → Keeps t steps i
keeps t steps h zero =
    let e = walked-start t steps in
    record { levels = subst (λ (w : Walk). Short w.levels) (sym e) (short_fresh by.Bracket [] short_none); rest = ap (λ (w : Walk). list_all is_plain_step w.rest) e ∙ h }
keeps t steps h (suc i) =
    let k = keeps t steps h i in
    let s = stays t i (walked t steps i).levels (walked t steps i).rest k.levels k.rest in
    let n : suc i ≡ i + 1 = omega arith in
    let e : walked t steps (suc i) ≡ over t i (walked t steps i) = ap (walked t steps) n ∙ walked-more t steps i in
    record {
      levels = subst (λ (w : Walk). Short w.levels) (sym e) (short_bracketed (bracket_of (terminal_at t i)) (taken t i (walked t steps i).levels (walked t steps i).rest).levels s.levels);
      rest = ap (λ (w : Walk). list_all is_plain_step w.rest) e ∙ s.rest;
    }

pub entry_short : (t : Text) {w : List ℕ} {steps : List (Step Rule)} → Derives goal_language (Part 251 ∷ []) 0 w steps → NoneLong t steps
entry_short t {steps = steps} d j h =
    let k = keeps t steps (plain_steps d refl) j in
    let s = stays t j (walked t steps j).levels (walked t steps j).rest k.levels k.rest in
    sym (too_many_at t steps j (walked t steps j).levels (walked t steps j).rest refl refl) ∙ s.few
