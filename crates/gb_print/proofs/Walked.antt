-- The steps of what reads are walked over with short chains.
use Rattle.std.specs.Prelude.{ℕ, zero, suc, ◌≡◌, ◌+◌, ◌≤◌, Bool, true, false, if◌then◌else◌, nat_le, List, [], ◌∷◌, length, drop, Some, None, slice_get}
use Rattle.std.proofs.Common.{refl, ap, sym, ◌∙◌, subst, arith}
use Rattle.gb_script.specs.declared.table.Step.{Step}
use Rattle.gb_script.specs.declared.table.Symbol.{Symbol}
use Rattle.gb_script.specs.declared.table.Symbol.TheVariants.{Part}
use Rattle.gb_script.specs.Grammar.{Grammar, step}
use Rattle.gb_limits.specs.declared.level.Bracket.{Bracket}
use Rattle.gb_limits.specs.declared.level.Bracket.TheVariants.{Opens, Closes, Neither}
use Rattle.gb_limits.specs.declared.level.Level.{Level}
use Rattle.gb_limits.specs.declared.level.Opening.TheVariants as by
use Rattle.gb_limits.specs.Kinds.{kind_of}
use Rattle.gb_limits.specs.Level.{fresh, bracket_of, bracketed, ended, outer, extent, nested, terminal_before, top_is_long}
use Rattle.gb_limits.specs.Limits.{stepped, NoneLong}
use Rattle.gb_script.specs.declared.action.Rule.{Rule}
use Rattle.gb_script.specs.declared.terminal.Terminal.{Terminal}
use Rattle.gb_script.specs.declared.terminal.Terminal.TheVariants as terminal
use Rattle.gb_script.specs.declared.text.Lexeme.{Lexeme}
use Rattle.gb_script.specs.declared.text.Text.{Text}
use Rattle.gb_script.specs.declared.tree.Node.{Node}
use Rattle.gb_script.specs.declared.value.Value.{Value}
use Rattle.gb_script.specs.declared.value.Value.TheVariants.{Tree}
use Rattle.gb_script.specs.Build.{IsTree}
use Rattle.gb_script.proofs.Stacks.{append_nil}
use Rattle.gb_limits.specs.Lexeme.{kinds_of}
use Rattle.gb_print.specs.Nodes.{placeless}
use Rattle.gb_script.specs.Text.{terminal_at, terminal_or_other}
use Rattle.gb_print.proofs.Chains.{Known, new, opening_of, is_low, is_low_bracket, short_none, Fits, unknown, known, none_open, operands_in, class_of, Effect, bracket_kind, over_bracket, Effects, nothing, over_token, over_part}
use Rattle.gb_print.proofs.Levelled.{short_of, begun_is, top_of, low_is}
use Rattle.gb_print.proofs.Tokens.{both}
use Rattle.gb_print.proofs.Reading.{Reads, done, token, part}
use Rattle.gb_print.proofs.Sound.{bare_lexemes, drop_next, derived, spelled}
use Rattle.gb_print.proofs.Walks.{Walks, stay, pass, take, walks_more, none_long}

-- Tokens.

bracket_is : (t : Terminal) → bracket_of t ≡ bracket_kind (kind_of t)
unfolding kind_of
bracket_is terminal.OpenRound = refl
bracket_is terminal.OpenSquare = refl
bracket_is terminal.OpenBrace = refl
bracket_is terminal.OpenEqual = refl
bracket_is terminal.OpenGet = refl
bracket_is terminal.CloseRound = refl
bracket_is terminal.CloseSquare = refl
bracket_is terminal.CloseBrace = refl
bracket_is _ = refl

abbrev first_terminal : List Lexeme → Terminal
first_terminal [] = terminal.Other
first_terminal (l ∷ ls) = l.terminal

terminal_here : (p : ℕ) (ls : List Lexeme) → terminal_or_other (slice_get ls p) ≡ first_terminal (drop p (bare_lexemes ls))
terminal_here zero [] = refl
terminal_here zero (l ∷ ls) = refl
terminal_here (suc p) [] = refl
terminal_here (suc p) (l ∷ ls) = terminal_here p ls

bracket_stays : (l : Level) (ls : List Level) → l.opening ≡ opening_of true → ended by.Form (l ∷ ls) ≡ l ∷ ls
bracket_stays l ls e = ap (λ o. if nat_le (extent o) (extent by.Form) then ended by.Form ls else l ∷ ls) e

fresh_fits : (rest : List Level) (xs : List Known) (ls : List Level) → Fits rest xs ls → Fits rest (new true ∷ xs) (fresh by.Bracket ∷ ls)
fresh_fits rest xs ls f =
    known {ms = []} {ls = ls} {l = fresh by.Bracket} refl none_open
    (record { opening = refl; implied = omega arith; disjuncts = omega arith; conjuncts = omega arith; summands = omega arith; factors = omega arith; short = short_of (fresh by.Bracket) (omega arith) (omega arith) (omega arith) (omega arith) (omega arith) }) f

closes_by : (t : Bool) (xs bs : List Known) → (if t then Some xs else None) ≡ Some bs → (t ≡ true) × (bs ≡ xs)
closes_by true xs bs e = (refl, cc)
closes_by false xs bs e = absurd cc

over_fits : (b : Bracket) (rest : List Level) (xs bs : List Known) (ls : List Level) → over_bracket b xs ≡ Some bs → Fits rest xs ls → Fits rest bs (bracketed b ls)
over_fits Opens rest xs bs ls e f = let same : new true ∷ xs ≡ bs = cc in subst (λ zs. Fits rest zs (fresh by.Bracket ∷ ls)) same (fresh_fits rest xs ls f)
over_fits Neither rest xs bs ls e f = let same : xs ≡ bs = cc in subst (λ zs. Fits rest zs ls) same f
over_fits Closes rest [] bs ls e f = absurd cc
over_fits Closes rest (a ∷ xs) bs ls e f =
    let c = closes_by (is_low_bracket a) xs bs e in
    let parts = both a.bracket (is_low a) c.0 in
    let t = top_of f (low_is a parts.1).closed in
    let opening : t.level.opening ≡ opening_of true = t.within.opening ∙ ap opening_of parts.0 in
    subst (λ zs. Fits rest zs (bracketed Closes ls)) (sym c.1)
    (subst (λ ns. Fits rest xs ns) (sym (ap (λ ns. outer (ended by.Form ns)) t.is ∙ ap outer (bracket_stays t.level t.more opening))) t.outside)

-- what is dropped to nothing
all_dropped : (n : ℕ) (xs : List Lexeme) → drop n xs ≡ [] → (ls : List Lexeme) → length xs ≡ length ls → length ls ≤ n
all_dropped zero [] e ls h = omega (arith, h)
all_dropped zero (x ∷ xs) e ls h = absurd cc
all_dropped (suc n) [] e ls h = omega (arith, h)
all_dropped (suc n) (x ∷ xs) e [] h = omega arith
all_dropped (suc n) (x ∷ xs) e (l ∷ ls) h = let more = all_dropped n xs e ls (omega (arith, h)) in omega (arith, more)

same_length : (ls : List Lexeme) → length (bare_lexemes ls) ≡ length ls
same_length [] = refl
same_length (l ∷ ls) = ap suc (same_length ls)

-- Steps.

module _ (g : Grammar Rule) (t : Text) where
  pub record Walked (p : ℕ) (steps : List (Step Rule)) (rest : List Level) (bs : List Known) (ls : List Level) (end : ℕ) : Type 0 where
    pub levels : List Level
    pub fits : Fits rest bs levels
    pub walks : Walks t p steps ls end levels

  pub walked : {ss : List Symbol} {ls rest : List Lexeme} {vs : List Value} (d : Reads g ss ls rest vs) (p : ℕ) (e : drop p (bare_lexemes t.lexemes) ≡ ls) (c : ℕ) → operands_in vs ≤ c
      → (below : List Level) (xs bs : List Known) (levels : List Level) → Effects c ss xs bs → Fits below xs levels → Walked p (derived g t d p e).steps below bs levels (derived g t d p e).end
  unfolding derived
  walked done p e c h below xs bs levels nothing f = record { levels = levels; fits = f; walks = stay }
  walked (token {k = k} {l = l} {ls = ls} kind fine d) p e c h below xs bs levels (over_token o more) f =
      let here : terminal_at t p ≡ l.terminal = terminal_here p t.lexemes ∙ ap first_terminal e in
      let bracket : bracket_of (terminal_at t p) ≡ bracket_kind k = ap bracket_of here ∙ bracket_is l.terminal ∙ ap bracket_kind kind in
      let inner = walked d (p + 1) (drop_next p (bare_lexemes t.lexemes) l ls e) c h below _ bs (bracketed (bracket_of (terminal_at t p)) levels) more
      (over_fits (bracket_of (terminal_at t p)) below xs _ levels (ap (λ b. over_bracket b xs) bracket ∙ o) f) in
      record { levels = inner.levels; fits = inner.fits; walks = pass inner.walks }
  walked (part {vs = vs} {ws = ws} {m = m} r i al fair enough made conforms fewer b d) p e c h below xs bs levels (over_part {bs = middle} effect more) f =
      let s = step r p in
      let passes = conforms c (omega (arith, fewer, h)) (terminal_before t p) below xs middle levels (subst (λ n. Effect (class_of n) c xs middle) (sym i.part_is) effect) f in
      let inner = walked b p e passes.credit passes.enough passes.below passes.known_before passes.known_behind (stepped t s levels) passes.effects
      (subst (λ ns. Fits passes.below passes.known_before (nested r.rule.mark ns)) (sym (begun_is t s levels)) passes.fits) in
      let first = derived g t b p e in
      let behind = walked d first.end first.rest_is c (omega (arith, fewer, h)) below middle bs inner.levels more (passes.within inner.levels inner.fits) in
      record {
        levels = behind.levels;
        fits = behind.fits;
        walks = take {ms = behind.levels} refl (ap top_is_long (begun_is t s levels) ∙ passes.short) (walks_more t {ms = inner.levels} {ns = behind.levels} inner.walks behind.walks);
      }

  -- Tokens that read as a tree spell it, with short chains.
  pub record Spelled (n : ℕ) (x : Node) : Type 0 where
    pub tree : Node
    pub is_tree : IsTree g n (kinds_of t) t tree
    pub same : placeless tree ≡ x
    pub short : NoneLong t is_tree.0

  pub spelled_short : (n : ℕ) (x : Node) (bs : List Known) → Effects 0 (Part n ∷ []) (new true ∷ []) bs → Reads g (Part n ∷ []) (bare_lexemes t.lexemes) [] (Tree x ∷ []) → Spelled n x
  unfolding spelled
  spelled_short n x bs effects d =
      let s = spelled g t n x d in
      let all = derived g t d 0 refl in
      let w = walked d 0 refl 0 (omega arith) [] (new true ∷ []) bs (fresh by.Bracket ∷ []) effects (fresh_fits [] [] [] (unknown short_none)) in
      let short = none_long t all.steps (all_dropped all.end (bare_lexemes t.lexemes) all.rest_is t.lexemes (same_length t.lexemes)) w.walks in
      record { tree = s.0; is_tree = s.1; same = s.2; short = subst (λ steps. NoneLong t steps) (sym (append_nil all.steps)) short }
