-- Texts of which no token is left out and no number is out of range.
use Rattle.std.specs.Prelude.{ℕ, zero, suc, ◌≡◌, ◌^◌, ◌<◌, Bool, true, false, not, ◌&&◌, ◌||◌, if◌then◌else◌, nat_eq, nat_lt, List, [], ◌∷◌, ◌++◌, length, codes, slice_get}
use Rattle.std.specs.List.{list_all}
use Rattle.std.specs.Str.{bytes_eq}
use Rattle.std.proofs.Common.{refl, ap, ap₂, sym, ◌∙◌, subst, arith, append_assoc}
use Rattle.std.proofs.lemmas.Bool.{false≢true, ltb-true, eqb-true}
use Rattle.gb_script.specs.declared.table.Symbol.{Symbol}
use Rattle.gb_script.specs.declared.table.Symbol.TheVariants.{Token, Part}
use Rattle.gb_script.specs.Grammar.{Grammar, Production, IsProduction}
use Rattle.gb_limits.specs.declared.left_out.TheConstants.{LEFT_OUT}
use Rattle.gb_limits.specs.Kinds.{kind_of}
use Rattle.gb_limits.specs.LeftOut.{is_word_of, is_left_out, name_before, NoneLeftOut}
use Rattle.gb_limits.specs.Numbers.{is_number, number_of, digits_at, NoneOverflow}
use Rattle.gb_script.specs.declared.action.Rule.{Rule}
use Rattle.gb_script.specs.declared.terminal.Terminal.{Terminal}
use Rattle.gb_script.specs.declared.terminal.Terminal.TheVariants as terminal
use Rattle.gb_script.specs.declared.text.Lexeme.{Lexeme}
use Rattle.gb_script.specs.declared.text.Text.{Text}
use Rattle.gb_script.specs.declared.value.Value.{Value}
use Rattle.gb_script.specs.Text.{name_at, name_or_none, terminal_or_other}
use Rattle.gb_language.specs.Language.{all_rows, all_symbols}
use Rattle.gb_print.proofs.Fine.{implies, is_number_kind, is_fine}
use Rattle.gb_print.proofs.Tokens.{both}
use Rattle.gb_script.proofs.Stacks.{append_nil}
use Rattle.gb_print.proofs.Sound.{bare_lexemes}
use Rattle.gb_print.proofs.Reading.{lexeme_kind, Reads, done, token, part}
use Rattle.gb_print.proofs.Taking.{of_production, same_part}
use Rattle.gb_print.proofs.Productions.{grammar}

-- Each text of the symbols begins with another token than one of this kind, as far as this many levels tell.
abbrev pub begins_otherwise : ℕ → ℕ → Grammar Rule → List Symbol → Bool
begins_otherwise f k g [] = false
begins_otherwise f k g (Token j ∷ ss) = not (nat_eq j k)
begins_otherwise zero k g (Part n ∷ ss) = false
begins_otherwise (suc f) k g (Part n ∷ ss) = list_all (λ (r : Production Rule). if nat_eq r.part n then begins_otherwise f k g (r.body ++ ss) else true) g

all_implied : (p q : Production Rule → Bool) → ((r : Production Rule) → p r ≡ true → q r ≡ true) → (g : Grammar Rule) → list_all p g ≡ true → list_all q g ≡ true
all_implied p q h [] a = refl
all_implied p q h (r ∷ g) a = let parts = both (p r) (list_all p g) a in ap₂ (λ x y. x && y) (h r parts.0) (all_implied p q h g parts.1)

if_implied : (t a b : Bool) → (a ≡ true → b ≡ true) → (if t then a else true) ≡ true → (if t then b else true) ≡ true
if_implied true a b h k = h k
if_implied false a b h k = refl

begins_more : (f k : ℕ) (g : Grammar Rule) (xs ys : List Symbol) → begins_otherwise f k g xs ≡ true → begins_otherwise f k g (xs ++ ys) ≡ true
begins_more f k g [] ys h = absurd cc
begins_more f k g (Token j ∷ xs) ys h = h
begins_more zero k g (Part n ∷ xs) ys h = absurd cc
begins_more (suc f) k g (Part n ∷ xs) ys h =
    all_implied (λ r. if nat_eq r.part n then begins_otherwise f k g (r.body ++ xs) else true) (λ r. if nat_eq r.part n then begins_otherwise f k g (r.body ++ (xs ++ ys)) else true)
    (λ r. if_implied (nat_eq r.part n) (begins_otherwise f k g (r.body ++ xs)) (begins_otherwise f k g (r.body ++ (xs ++ ys)))
    (λ a. subst (λ l. begins_otherwise f k g l ≡ true) (append_assoc r.body xs ys) (begins_more f k g (r.body ++ xs) ys a))) g h

-- Behind each `{` of the symbols stands no `+`.
abbrev pub braces_ok : Grammar Rule → List Symbol → Bool
braces_ok g [] = true
braces_ok g (Token j ∷ ss) = implies (nat_eq j 86) (begins_otherwise 12 98 g ss) && braces_ok g ss
braces_ok g (Part n ∷ ss) = braces_ok g ss

implied_more : (t a b : Bool) → (a ≡ true → b ≡ true) → implies t a ≡ true → implies t b ≡ true
implied_more true a b h k = h k
implied_more false a b h k = refl

braces_more : (g : Grammar Rule) (xs ys : List Symbol) → braces_ok g xs ≡ true → braces_ok g ys ≡ true → braces_ok g (xs ++ ys) ≡ true
braces_more g [] ys h k = k
braces_more g (Token j ∷ xs) ys h k =
    let parts = both (implies (nat_eq j 86) (begins_otherwise 12 98 g xs)) (braces_ok g xs) h in
    ap₂ (λ x y. x && y) (implied_more (nat_eq j 86) (begins_otherwise 12 98 g xs) (begins_otherwise 12 98 g (xs ++ ys)) (begins_more 12 98 g xs ys) parts.0) (braces_more g xs ys parts.1 k)
braces_more g (Part n ∷ xs) ys h k = braces_more g xs ys h k

-- The symbols may stand behind a token of a kind.
record Follows (g : Grammar Rule) (k : ℕ) (ss : List Symbol) : Type 0 where
  first : k ≡ 86 → (f : ℕ) × (begins_otherwise f 98 g ss ≡ true)
  later : braces_ok g ss ≡ true

-- None of these tokens behind one of a kind is left out or out of range.
abbrev pub is_kept : ℕ → List Lexeme → Bool
is_kept k [] = true
is_kept k (l ∷ ls) = is_fine (lexeme_kind l) l.name && (not (nat_eq k 86 && nat_eq (lexeme_kind l) 98) && is_kept (lexeme_kind l) ls)

apart_by : (s t : Bool) → (s ≡ true → not t ≡ true) → not (s && t) ≡ true
apart_by true t h = h refl
apart_by false t h = refl

module _ (g : Grammar Rule) (table : list_all (λ (r : Production Rule). braces_ok g r.body) g ≡ true) where
  opened_by : (n : ℕ) (ss : List Symbol) (r : Production Rule) → IsProduction g n r → (f : ℕ) → begins_otherwise f 98 g (Part n ∷ ss) ≡ true → (e : ℕ) × (begins_otherwise e 98 g (r.body ++ ss) ≡ true)
  opened_by n ss r i zero a = absurd cc
  opened_by n ss r i (suc f) a =
      let tested = of_production (λ (q : Production Rule). if nat_eq q.part n then begins_otherwise f 98 g (q.body ++ ss) else true) g i.place r a i.row_is in
      (f, sym (ap (λ (b : Bool). if b then begins_otherwise f 98 g (r.body ++ ss) else true) (same_part r.part n i.part_is)) ∙ tested)

  opened : (k n : ℕ) (ss : List Symbol) (r : Production Rule) → IsProduction g n r → Follows g k (Part n ∷ ss) → Follows g k (r.body ++ ss)
  opened k n ss r i o = record {
    first = λ h. let b = o.first h in opened_by n ss r i b.0 b.1;
    later = braces_more g r.body ss (of_production (λ (q : Production Rule). braces_ok g q.body) g i.place r table i.row_is) o.later;
  }

  kept_reads : {ss : List Symbol} {ls rest : List Lexeme} {vs : List Value} → Reads g ss ls rest vs → (k : ℕ) (tail : List Symbol) → Follows g k (ss ++ tail)
      → ((j : ℕ) → Follows g j tail → is_kept j rest ≡ true) → is_kept k ls ≡ true
  kept_reads done k tail o more = more k o
  kept_reads (token {k = j} {ss = ss} {l = l} {ls = ls} e z d) k tail o more =
      let parts = both (implies (nat_eq j 86) (begins_otherwise 12 98 g (ss ++ tail))) (braces_ok g (ss ++ tail)) o.later in
      let apart : not (nat_eq k 86 && nat_eq (lexeme_kind l) 98) ≡ true =
      apart_by (nat_eq k 86) (nat_eq (lexeme_kind l) 98) (λ h. ap (λ m. not (nat_eq m 98)) e ∙ (o.first (eqb-true k 86 h)).1) in
      let next : Follows g (lexeme_kind l) (ss ++ tail) = record {
        first = λ h. (12, ap (λ m. implies (nat_eq m 86) (begins_otherwise 12 98 g (ss ++ tail))) (sym (sym e ∙ h)) ∙ parts.0);
        later = parts.1;
      } in
      ap₂ (λ x y. x && y) z (ap₂ (λ x y. x && y) apart (kept_reads d (lexeme_kind l) tail next more))
  kept_reads (part {n = n} {ss = ss} r i al fair enough made x y b d) k tail o more =
      kept_reads b k (ss ++ tail) (opened k n (ss ++ tail) r i o) (λ j f. kept_reads d j tail f more)

  -- Tokens that read as symbols with which no `+` begins are kept, behind any token.
  pub kept : {ss : List Symbol} {ls : List Lexeme} {vs : List Value} (f : ℕ) → begins_otherwise f 98 g ss ≡ true → braces_ok g ss ≡ true → Reads g ss ls [] vs → (k : ℕ) → is_kept k ls ≡ true
  kept {ss = ss} f h b d k =
      kept_reads d k [] (subst (λ l. Follows g k l) (sym (append_nil ss)) (record { first = λ e. (f, h); later = b })) (λ j e. refl)

pub form_braces : list_all (λ (r : Production Rule). braces_ok (grammar 0) r.body) (grammar 0) ≡ true
unfolding grammar all_rows all_symbols
form_braces = refl

pub goal_braces : list_all (λ (r : Production Rule). braces_ok (grammar 1) r.body) (grammar 1) ≡ true
unfolding grammar all_rows all_symbols
goal_braces = refl

pub form_begins : begins_otherwise 20 98 (grammar 0) (Part 120 ∷ []) ≡ true
unfolding grammar all_rows all_symbols
form_begins = refl

pub entry_begins : begins_otherwise 12 98 (grammar 1) (Part 251 ∷ []) ≡ true
unfolding grammar all_rows all_symbols
entry_begins = refl

pub hypothesis_begins : begins_otherwise 12 98 (grammar 1) (Part 253 ∷ []) ≡ true
unfolding grammar all_rows all_symbols
hypothesis_begins = refl

pub conclusion_begins : begins_otherwise 20 98 (grammar 1) (Part 120 ∷ []) ≡ true
unfolding grammar all_rows all_symbols
conclusion_begins = refl

-- .. whatever their places
bare_kept : (k : ℕ) (ls : List Lexeme) → is_kept k (bare_lexemes ls) ≡ is_kept k ls
bare_kept k [] = refl
bare_kept k (l ∷ ls) = ap (λ b. is_fine (lexeme_kind l) l.name && (not (nat_eq k 86 && nat_eq (lexeme_kind l) 98) && b)) (bare_kept (lexeme_kind l) ls)

pub kept_so : (k : ℕ) (ls : List Lexeme) → is_kept k (bare_lexemes ls) ≡ true → is_kept k ls ≡ true
kept_so k ls h = sym (bare_kept k ls) ∙ h

pub kept_append : (k : ℕ) (xs ys : List Lexeme) → is_kept k xs ≡ true → ((j : ℕ) → is_kept j ys ≡ true) → is_kept k (xs ++ ys) ≡ true
kept_append k [] ys h a = a k
kept_append k (x ∷ xs) ys h a =
    let fine = both (is_fine (lexeme_kind x) x.name) _ h in
    let rest = both (not (nat_eq k 86 && nat_eq (lexeme_kind x) 98)) (is_kept (lexeme_kind x) xs) fine.1 in
    ap₂ (λ p q. p && q) fine.0 (ap₂ (λ p q. p && q) rest.0 (kept_append (lexeme_kind x) xs ys rest.1 a))

-- No token is left out.

pairs : (p q x y : Bool) → implies p y ≡ true → implies q x ≡ true → not (x && y) ≡ true → (p && q) ≡ false
pairs true true true y h k a = let no : not y ≡ true = a in let no_more : not true ≡ true = sym (ap not h) ∙ no in absurd cc
pairs true true false y h k a = absurd cc
pairs true false x y h k a = refl
pairs false q x y h k a = refl

false_of : (b : Bool) → not b ≡ true → b ≡ false
false_of true h = absurd cc
false_of false h = refl

with_false : (a b : Bool) → b ≡ false → (a && b) ≡ false
with_false true b h = h
with_false false b h = refl

record Fine (k : ℕ) (n : List ℕ) : Type 0 where
  kept : is_word_of LEFT_OUT n ≡ false
  no_proc : bytes_eq n (codes "proc") ≡ false
  plus : implies (bytes_eq n (codes "+")) (nat_eq k 98) ≡ true
  brace : implies (bytes_eq n (codes "{")) (nat_eq k 86) ≡ true
  range : implies (is_number_kind k) (nat_lt (number_of n) (2 ^ 127)) ≡ true

fine : (k : ℕ) (n : List ℕ) → is_fine k n ≡ true → Fine k n
unfolding is_fine
fine k n h =
    let a = both (not (is_word_of LEFT_OUT n)) _ h in
    let b = both (not (bytes_eq n (codes "proc"))) _ a.1 in
    let c = both (implies (bytes_eq n (codes "+")) (nat_eq k 98)) _ b.1 in
    let d = both (implies (bytes_eq n (codes "{")) (nat_eq k 86)) _ c.1 in
    record { kept = false_of (is_word_of LEFT_OUT n) a.0; no_proc = false_of (bytes_eq n (codes "proc")) b.0; plus = c.0; brace = d.0; range = d.1 }

-- the bytes of the token before one of these, which stand behind a token of such bytes
abbrev before_in : List ℕ → List Lexeme → ℕ → List ℕ
before_in b ls zero = b
before_in b ls (suc j) = name_or_none (slice_get ls j)

same_before : (x : Lexeme) (ls : List Lexeme) (j : ℕ) → before_in x.name ls j ≡ name_or_none (slice_get (x ∷ ls) j)
same_before x ls zero = refl
same_before x ls (suc j) = refl

left_out_in : (b : List ℕ) (k : ℕ) (ls : List Lexeme) → bytes_eq b (codes "proc") ≡ false → implies (bytes_eq b (codes "{")) (nat_eq k 86) ≡ true → is_kept k ls ≡ true
    → (j : ℕ) → j < length ls → is_left_out (before_in b ls j) (name_or_none (slice_get ls j)) ≡ false
left_out_in b k [] p q h j l = absurd (omega arith)
left_out_in b k (x ∷ ls) p q h zero l =
    let parts = both (is_fine (lexeme_kind x) x.name) _ h in
    let rest = both (not (nat_eq k 86 && nat_eq (lexeme_kind x) 98)) (is_kept (lexeme_kind x) ls) parts.1 in
    let f = fine (lexeme_kind x) x.name parts.0 in
    let no_plus = pairs (bytes_eq x.name (codes "+")) (bytes_eq b (codes "{")) (nat_eq k 86) (nat_eq (lexeme_kind x) 98) f.plus q rest.0 in
    let no_star = with_false (bytes_eq x.name (codes "*")) (bytes_eq b (codes "proc")) p in
    ap₂ (λ s t. s || t) (ap₂ (λ s t. s || t) f.kept no_plus) no_star
left_out_in b k (x ∷ ls) p q h (suc j) l =
    let parts = both (is_fine (lexeme_kind x) x.name) _ h in
    let rest = both (not (nat_eq k 86 && nat_eq (lexeme_kind x) 98)) (is_kept (lexeme_kind x) ls) parts.1 in
    let f = fine (lexeme_kind x) x.name parts.0 in
    subst (λ n. is_left_out n (name_or_none (slice_get ls j)) ≡ false) (same_before x ls j)
    (left_out_in x.name (lexeme_kind x) ls f.no_proc f.brace rest.1 j (omega arith))

same_name : (t : Text) (j : ℕ) → before_in [] t.lexemes j ≡ name_before t j
same_name t zero = refl
same_name t (suc j) = refl

pub none_left_out : (t : Text) → is_kept 0 t.lexemes ≡ true → NoneLeftOut t
none_left_out t h j l = sym (ap (λ n. is_left_out n (name_at t j)) (same_name t j)) ∙ left_out_in [] 0 t.lexemes refl refl h j l

-- No number is out of range.

number_kind : (t : Terminal) → is_number t ≡ true → is_number_kind (kind_of t) ≡ true
unfolding kind_of
number_kind terminal.Number h = refl
number_kind terminal.Zero h = refl
number_kind terminal.One h = refl
number_kind terminal.Two h = refl
number_kind _ h = absurd (false≢true h)

in_range_by : (b : Bool) (k : ℕ) (n : List ℕ) → (b ≡ true → is_number_kind k ≡ true) → implies (is_number_kind k) (nat_lt (number_of n) (2 ^ 127)) ≡ true → number_of (if b then n else []) < 2 ^ 127
in_range_by true k n h f = ltb-true (number_of n) (2 ^ 127) (sym (ap (λ (c : Bool). implies c (nat_lt (number_of n) (2 ^ 127))) (h refl)) ∙ f)
in_range_by false k n h f = omega arith

ranges_in : (k : ℕ) (ls : List Lexeme) → is_kept k ls ≡ true → (j : ℕ) → j < length ls
    → number_of (if is_number (terminal_or_other (slice_get ls j)) then name_or_none (slice_get ls j) else []) < 2 ^ 127
ranges_in k [] h j l = absurd (omega arith)
ranges_in k (x ∷ ls) h zero l =
    let parts = both (is_fine (lexeme_kind x) x.name) _ h in
    in_range_by (is_number x.terminal) (lexeme_kind x) x.name (number_kind x.terminal) (fine (lexeme_kind x) x.name parts.0).range
ranges_in k (x ∷ ls) h (suc j) l =
    let parts = both (is_fine (lexeme_kind x) x.name) _ h in
    let rest = both (not (nat_eq k 86 && nat_eq (lexeme_kind x) 98)) (is_kept (lexeme_kind x) ls) parts.1 in
    ranges_in (lexeme_kind x) ls rest.1 j (omega arith)

pub none_overflows : (t : Text) → is_kept 0 t.lexemes ≡ true → NoneOverflow t
unfolding digits_at
none_overflows t h j l = ranges_in 0 t.lexemes h j l
