-- The names that are printed for what is bound are names: a letter, digits and primes, as no reserved word is.
use Rattle.std.specs.Prelude.{ℕ, zero, suc, ◌≡◌, ◌/◌, ◌%◌, ◌<◌, ◌==◌, Bool, true, false, not, ◌&&◌, ◌||◌, if◌then◌else◌, nat_eq, List, [], ◌∷◌, ◌++◌, length, take, codes, Option, Some, None, unwrap_or}
use Rattle.std.specs.List.{list_all}
use Rattle.std.specs.Cmp.Lexicographic.{pointwise}
use Rattle.std.specs.Char.{is_ascii_digit}
use Rattle.std.specs.Fmt.{decimal, digits, digits_onto, digit_glyph}
use Rattle.std.proofs.Common.{refl, ap, ap₂, sym, ◌∙◌, arith}
use Rattle.std.proofs.lemmas.Bool.{eqb-true}
use Rattle.std.proofs.lemmas.Bool.Decides.{nat_tests}
use Rattle.gb_lex.specs.Byte.{is_word_start, is_word_byte}
use Rattle.gb_lex.specs.declared.token.Kind.TheVariants.{Word}
use Rattle.gb_limits.specs.declared.spelling.Spelling.{Spelling}
use Rattle.gb_limits.specs.declared.spelling.TheConstants.{SPELLINGS}
use Rattle.gb_limits.specs.declared.left_out.TheConstants.{LEFT_OUT}
use Rattle.gb_limits.specs.LeftOut.{is_word_of}
use Rattle.gb_limits.specs.Lexeme.{spells, spelled_in, terminal_of}
use Rattle.gb_read_script.specs.Words.{is_name}
use Rattle.gb_script.specs.declared.terminal.Terminal.{Terminal}
use Rattle.gb_script.specs.declared.terminal.Terminal.TheVariants as terminal
use Rattle.gb_terms.specs.declared.term.Head.{Head}
use Rattle.gb_terms.specs.declared.term.Head.TheVariants as term
use Rattle.gb_print_names.specs.Text.{Text}
use Rattle.gb_print_names.specs.BoundNames.{Name, Place, is_taken, primed, numbered, bound_name}
use Rattle.gb_print.specs.Layout.{letter}
use Rattle.gb_print.specs.Written.{is_name_text}
use Rattle.gb_print.proofs.Tokens.{both}
use Rattle.gb_print.proofs.NameWords.{false_by}

-- the letters of what is bound
abbrev is_letter : ℕ → Bool
is_letter c = c == 118 || (c == 109 || c == 65)

-- what stands behind them
abbrev is_mark : ℕ → Bool
is_mark b = is_ascii_digit b || b == 39

abbrev pub is_made : Text → Bool
is_made [] = false
is_made (c ∷ w) = is_letter c && list_all is_mark w

-- No spelling is a letter, or has a mark behind its first byte.
abbrev apart : List ℕ → Bool
apart (a ∷ b ∷ t) = not (is_mark b) && not (is_letter a && b == 32)
apart _ = false

all_apart : list_all (λ (s : Spelling). apart s.text) SPELLINGS ≡ true
all_apart = refl

no_mark : (t : Text) (c d : ℕ) (w : Text) → apart t ≡ true → is_mark d ≡ true → spells t (c ∷ d ∷ w) ≡ true → ⊥
unfolding spells
no_mark [] c d w a m h = absurd cc
no_mark (x ∷ []) c d w a m h = absurd cc
no_mark (x ∷ y ∷ t) c d w a m h =
    let begins = both (pointwise nat_eq (c ∷ d ∷ w) (take (length (c ∷ d ∷ w)) (x ∷ y ∷ t))) _ h in
    let more = both (nat_eq c x) (pointwise nat_eq (d ∷ w) (take (length (d ∷ w)) (y ∷ t))) begins.0 in
    let second = both (nat_eq d y) (pointwise nat_eq w (take (length w) t)) more.1 in
    let same : d ≡ y = eqb-true d y second.0 in
    let marked : is_mark y ≡ true = sym (ap is_mark same) ∙ m in
    let unmarked : not (is_mark y) ≡ true = (both (not (is_mark y)) (not (is_letter x && y == 32)) a).0 in
    let no : not true ≡ true = sym (ap not marked) ∙ unmarked in
    absurd cc

no_letter : (t : Text) (c : ℕ) → apart t ≡ true → is_letter c ≡ true → spells t (c ∷ []) ≡ true → ⊥
unfolding spells
no_letter [] c a l h = absurd cc
no_letter (x ∷ []) c a l h = absurd cc
no_letter (x ∷ y ∷ t) c a l h =
    let facts = both (pointwise nat_eq (c ∷ []) (take (length (c ∷ [])) (x ∷ y ∷ t))) _ h in
    let first = both (nat_eq c x) true facts.0 in
    let same : c ≡ x = eqb-true c x first.0 in
    let lettered : is_letter x ≡ true = sym (ap is_letter same) ∙ l in
    let both_are : (is_letter x && y == 32) ≡ true = ap₂ (λ p q. p && q) lettered facts.1 in
    let none : not (is_letter x && y == 32) ≡ true = (both (not (is_mark y)) (not (is_letter x && y == 32)) a).1 in
    let no : not true ≡ true = sym (ap not both_are) ∙ none in
    absurd cc

spelled_by : (b : Bool) (s : Spelling) (o : Option Terminal) → (b ≡ true → ⊥) → o ≡ None → (if b then Some s.terminal else o) ≡ None
spelled_by true s o f e = absurd (f refl)
spelled_by false s o f e = e

-- such a word is spelled by none
unspelled : (ss : List Spelling) (c : ℕ) (w : Text) → list_all (λ (s : Spelling). apart s.text) ss ≡ true → is_letter c ≡ true → list_all is_mark w ≡ true → spelled_in ss (c ∷ w) ≡ None
unspelled [] c w a l m = refl
unspelled (s ∷ ss) c [] a l m =
    let parts = both (apart s.text) (list_all (λ (r : Spelling). apart r.text) ss) a in
    spelled_by (spells s.text (c ∷ [])) s (spelled_in ss (c ∷ [])) (no_letter s.text c parts.0 l) (unspelled ss c [] parts.1 l m)
unspelled (s ∷ ss) c (d ∷ w) a l m =
    let parts = both (apart s.text) (list_all (λ (r : Spelling). apart r.text) ss) a in
    spelled_by (spells s.text (c ∷ d ∷ w)) s (spelled_in ss (c ∷ d ∷ w)) (no_mark s.text c d w parts.0 (both (is_mark d) (list_all is_mark w) m).0) (unspelled ss c (d ∷ w) parts.1 l m)

-- .. and is no word that is left out
all_kept : list_all apart LEFT_OUT ≡ true
all_kept = refl

kept_in : (ws : List Text) (c : ℕ) (w : Text) → list_all apart ws ≡ true → is_letter c ≡ true → list_all is_mark w ≡ true → is_word_of ws (c ∷ w) ≡ false
unfolding is_word_of
kept_in [] c w a l m = refl
kept_in (t ∷ ts) c [] a l m =
    let parts = both (apart t) (list_all apart ts) a in
    ap₂ (λ p q. p || q) (false_by (spells t (c ∷ [])) (no_letter t c parts.0 l)) (kept_in ts c [] parts.1 l m)
kept_in (t ∷ ts) c (d ∷ w) a l m =
    let parts = both (apart t) (list_all apart ts) a in
    ap₂ (λ p q. p || q) (false_by (spells t (c ∷ d ∷ w)) (no_mark t c d w parts.0 (both (is_mark d) (list_all is_mark w) m).0)) (kept_in ts c (d ∷ w) parts.1 l m)

letter_starts : (c : ℕ) → is_letter c ≡ true → is_word_start c ≡ true
letter_starts c h = grind (arith, nat_tests)

mark_byte : (b : ℕ) → is_mark b ≡ true → is_word_byte b ≡ true
mark_byte b h = grind (arith, nat_tests)

marks_bytes : (w : Text) → list_all is_mark w ≡ true → list_all is_word_byte w ≡ true
marks_bytes [] h = refl
marks_bytes (b ∷ w) h = let parts = both (is_mark b) (list_all is_mark w) h in ap₂ (λ p q. p && q) (mark_byte b parts.0) (marks_bytes w parts.1)

made_name : (x : Text) → is_made x ≡ true → is_name_text x ≡ true
made_name [] h = absurd cc
made_name (c ∷ w) h =
    let parts = both (is_letter c) (list_all is_mark w) h in
    let name : is_name (terminal_of Word (c ∷ w)) ≡ true = ap (λ (o : Option Terminal). is_name (unwrap_or o terminal.Name)) (unspelled SPELLINGS c w all_apart parts.0 parts.1) in
    let kept : not (is_word_of LEFT_OUT (c ∷ w)) ≡ true = ap not (kept_in LEFT_OUT c w all_kept parts.0 parts.1) in
    ap₂ (λ p q. p && q) (ap₂ (λ p q. p && q) (letter_starts c parts.0) (marks_bytes w parts.1)) (ap₂ (λ p q. p && q) name kept)

-- Numbers, whatever their size.

glyph_digit : (d : ℕ) → d < 10 → is_ascii_digit (digit_glyph false d) ≡ true
glyph_digit d h = grind (arith, nat_tests)

glyph_mark : (n : ℕ) → is_mark (digit_glyph false (n % 10)) ≡ true
glyph_mark n = let d = glyph_digit (n % 10) (omega arith) in rw d refl

digits_by : (b : Bool) (x y : Text) → list_all is_mark x ≡ true → list_all is_mark y ≡ true → list_all is_mark (if b then x else y) ≡ true
digits_by true x y h k = h
digits_by false x y h k = k

digits_marks : (k n : ℕ) (acc : Text) → list_all is_mark acc ≡ true → list_all is_mark (digits_onto k 10 false n acc) ≡ true
digits_marks zero n acc h = h
digits_marks (suc k) n acc h =
    let more : list_all is_mark (digit_glyph false (n % 10) ∷ acc) ≡ true = ap₂ (λ p q. p && q) (glyph_mark n) h in
    digits_by (n / 10 == 0) (digit_glyph false (n % 10) ∷ acc) (digits_onto k 10 false (n / 10) (digit_glyph false (n % 10) ∷ acc)) more (digits_marks k (n / 10) (digit_glyph false (n % 10) ∷ acc) more)

decimal_marks : (n : ℕ) → list_all is_mark (decimal n) ≡ true
unfolding digits
decimal_marks n = digits_marks 64 n [] refl

-- Names.

marks_append : (w v : Text) → list_all is_mark w ≡ true → list_all is_mark v ≡ true → list_all is_mark (w ++ v) ≡ true
marks_append [] v h k = k
marks_append (b ∷ w) v h k = let parts = both (is_mark b) (list_all is_mark w) h in ap₂ (λ p q. p && q) parts.0 (marks_append w v parts.1 k)

made_append : (x v : Text) → is_made x ≡ true → list_all is_mark v ≡ true → is_made (x ++ v) ≡ true
made_append [] v h k = absurd cc
made_append (c ∷ w) v h k = let parts = both (is_letter c) (list_all is_mark w) h in ap₂ (λ p q. p && q) parts.0 (marks_append w v parts.1 k)

made_by : (b : Bool) (x y : Text) → is_made x ≡ true → is_made y ≡ true → is_made (if b then x else y) ≡ true
made_by true x y h k = h
made_by false x y h k = k

made_primed : (n : ℕ) (taken : Name → Bool) (x : Name) → is_made x ≡ true → is_made (primed n taken x) ≡ true
made_primed zero taken x h = h
made_primed (suc n) taken x h = made_by (taken x) (primed n taken (x ++ codes "'")) x (made_primed n taken (x ++ codes "'") (made_append x (codes "'") h refl)) h

made_numbered : (x : Name) (n : ℕ) → is_made x ≡ true → is_made (numbered x n) ≡ true
made_numbered x n h = made_by (n == 0) x (x ++ decimal n) h (made_append x (decimal n) h (decimal_marks n))

made_letter : (h : Head) → is_made (letter h) ≡ true
made_letter (term.Lit v) = refl
made_letter (term.Whole n) = refl
made_letter (term.Read r) = refl
made_letter (term.Bound i) = refl
made_letter (term.Builtin o) = refl
made_letter (term.User x) = refl
made_letter (term.All u) = refl
made_letter (term.Some u) = refl
made_letter term.AllMemory = refl
made_letter term.SomeMemory = refl
made_letter (term.AllModule b) = refl
made_letter term.Mu = refl
made_letter (term.Sum q) = refl
made_letter (term.Weights ps) = refl
made_letter term.Map = refl
made_letter term.Restrict = refl
made_letter (term.Pr p s) = refl
made_letter (term.Glob m s) = refl
made_letter (term.Hoare c) = refl
made_letter (term.Phoare c r) = refl
made_letter (term.Equiv c d) = refl

-- What is printed for what a head binds is a name.
pub bound_is_name : (h : Head) (at : Place) → is_name_text (bound_name (letter h) at) ≡ true
bound_is_name h at = made_name (bound_name (letter h) at) (made_primed _ (is_taken at) (numbered (letter h) (length at.bound)) (made_numbered (letter h) (length at.bound) (made_letter h)))
