-- A letter, and digits and primes behind it, are a name: no reserved word is so.
use Rattle.std.proofs.Common.{◌≡◌, ◌<◌, ◌^◌, ℕ, zero, suc, Bool, true, false, not, ◌&&◌, ◌||◌, ◌==◌, if◌then◌else◌, List, [], ◌∷◌, ◌++◌, length, take, codes, Option, Some, None, refl, ap, ap₂, sym, ◌∙◌, arith}
use Rattle.std.specs.Prelude.{nat_eq, unwrap_or}
use Rattle.std.specs.Char.{is_ascii_digit}
use Rattle.std.specs.Cmp.Lexicographic.{pointwise}
use Rattle.std.specs.Fmt.{decimal}
use Rattle.std.specs.List.{list_all}
use Rattle.std.specs.Str.Parse.{AllDigits}
use Rattle.std.proofs.lemmas.Bool.{eqb-true}
use Rattle.std.proofs.lemmas.Bool.Decides.{nat_tests}
use Rattle.std.proofs.lemmas.Fmt.{decimal_is_IsNumeral}
use Rattle.std.proofs.lemmas.Str.Parse.{digit_from_value}
use Rattle.gb_lex.specs.Byte.{is_word_start, is_word_byte}
use Rattle.gb_lex.specs.declared.token.Kind.TheVariants.{Word}
use Rattle.gb_limits.specs.declared.spelling.Spelling.{Spelling}
use Rattle.gb_limits.specs.declared.spelling.TheConstants.{SPELLINGS}
use Rattle.gb_limits.specs.declared.left_out.TheConstants.{LEFT_OUT}
use Rattle.gb_limits.specs.LeftOut.{is_word_of}
use Rattle.gb_limits.specs.Lexeme.{spells, spelled_in, terminal_of}
use Rattle.gb_read_script.specs.Words.{is_name}
use Rattle.gb_script.specs.declared.terminal.Terminal.{Terminal}
use Rattle.gb_script.specs.declared.terminal.Terminal.TheVariants as terminal
use Rattle.gb_print_names.specs.Text.{Text}
use Rattle.gb_print_names.specs.BoundNames.{Name, primed}
use Rattle.gb_print.specs.Written.{is_name_text}
use Rattle.gb_print.proofs.Tokens.{both}
use Rattle.gb_print.proofs.NameWords.{false_by}

abbrev is_mark : ℕ → Bool
is_mark b = is_ascii_digit b || b == 39

abbrev pub AreMarks : Text → Type 0
AreMarks w = list_all is_mark w ≡ true

-- a text with no mark behind its first byte
abbrev apart : Text → Bool
apart (a ∷ b ∷ t) = not (is_mark b)
apart _ = false

spellings_apart : list_all (λ (s : Spelling). apart s.text) SPELLINGS ≡ true
spellings_apart = refl

left_out_apart : list_all apart LEFT_OUT ≡ true
left_out_apart = refl

no_mark : (t : Text) (c d : ℕ) (w : Text) → apart t ≡ true → is_mark d ≡ true → spells t (c ∷ d ∷ w) ≡ true → ⊥
unfolding spells
no_mark [] c d w a m h = absurd cc
no_mark (x ∷ []) c d w a m h = absurd cc
no_mark (x ∷ y ∷ t) c d w a m h =
    let begins = both (pointwise nat_eq (c ∷ d ∷ w) (take (length (c ∷ d ∷ w)) (x ∷ y ∷ t))) _ h in
    let more = both (nat_eq c x) (pointwise nat_eq (d ∷ w) (take (length (d ∷ w)) (y ∷ t))) begins.0 in
    let second = both (nat_eq d y) (pointwise nat_eq w (take (length w) t)) more.1 in
    let same : d ≡ y = eqb-true d y second.0 in
    let marked : is_mark y ≡ true = sym (ap is_mark same) ∙ m in
    let no : not true ≡ true = sym (ap not marked) ∙ a in
    absurd cc

spelled_by : (b : Bool) (s : Spelling) (o : Option Terminal) → (b ≡ true → ⊥) → o ≡ None → (if b then Some s.terminal else o) ≡ None
spelled_by true s o f e = absurd (f refl)
spelled_by false s o f e = e

unspelled : (ss : List Spelling) (c d : ℕ) (w : Text) → list_all (λ (s : Spelling). apart s.text) ss ≡ true → is_mark d ≡ true → spelled_in ss (c ∷ d ∷ w) ≡ None
unspelled [] c d w a m = refl
unspelled (s ∷ ss) c d w a m =
    let parts = both (apart s.text) (list_all (λ (r : Spelling). apart r.text) ss) a in
    spelled_by (spells s.text (c ∷ d ∷ w)) s (spelled_in ss (c ∷ d ∷ w)) (no_mark s.text c d w parts.0 m) (unspelled ss c d w parts.1 m)

kept_in : (ts : List Text) (c d : ℕ) (w : Text) → list_all apart ts ≡ true → is_mark d ≡ true → is_word_of ts (c ∷ d ∷ w) ≡ false
unfolding is_word_of
kept_in [] c d w a m = refl
kept_in (t ∷ ts) c d w a m =
    let parts = both (apart t) (list_all apart ts) a in
    ap₂ (λ p q. p || q) (false_by (spells t (c ∷ d ∷ w)) (no_mark t c d w parts.0 m)) (kept_in ts c d w parts.1 m)

mark_byte : (b : ℕ) → is_mark b ≡ true → is_word_byte b ≡ true
mark_byte b h = grind (arith, nat_tests)

marks_bytes : (w : Text) → AreMarks w → list_all is_word_byte w ≡ true
marks_bytes [] h = refl
marks_bytes (b ∷ w) h = let parts = both (is_mark b) (list_all is_mark w) h in ap₂ (λ p q. p && q) (mark_byte b parts.0) (marks_bytes w parts.1)

-- a letter that is a name, with marks behind it
pub marked_name : (c : ℕ) (w : Text) → is_word_start c ≡ true → is_name_text (c ∷ []) ≡ true → AreMarks w → is_name_text (c ∷ w) ≡ true
marked_name c [] s n h = n
marked_name c (d ∷ w) s n h =
    let m = both (is_mark d) (list_all is_mark w) h in
    let name : is_name (terminal_of Word (c ∷ d ∷ w)) ≡ true = ap (λ (o : Option Terminal). is_name (unwrap_or o terminal.Name)) (unspelled SPELLINGS c d w spellings_apart m.0) in
    let kept : not (is_word_of LEFT_OUT (c ∷ d ∷ w)) ≡ true = ap not (kept_in LEFT_OUT c d w left_out_apart m.0) in
    ap₂ (λ p q. p && q) (ap₂ (λ p q. p && q) s (marks_bytes (d ∷ w) h)) (ap₂ (λ p q. p && q) name kept)

marks_append : (w v : Text) → AreMarks w → AreMarks v → AreMarks (w ++ v)
marks_append [] v h k = k
marks_append (b ∷ w) v h k = let parts = both (is_mark b) (list_all is_mark w) h in ap₂ (λ p q. p && q) parts.0 (marks_append w v parts.1 k)

-- primes behind a letter
either_name : (b : Bool) (x y : Text) → is_name_text x ≡ true → is_name_text y ≡ true → is_name_text (if b then x else y) ≡ true
either_name true x y h k = h
either_name false x y h k = k

primes_behind : (c : ℕ) → is_word_start c ≡ true → is_name_text (c ∷ []) ≡ true → (n : ℕ) (taken : Name → Bool) (w : Text) → AreMarks w → is_name_text (primed n taken (c ∷ w)) ≡ true
primes_behind c s l zero taken w h = marked_name c w s l h
primes_behind c s l (suc n) taken w h =
    either_name (taken (c ∷ w)) (primed n taken (c ∷ (w ++ codes "'"))) (c ∷ w) (primes_behind c s l n taken (w ++ codes "'") (marks_append w (codes "'") h refl)) (marked_name c w s l h)

pub primed_name : (c : ℕ) → is_word_start c ≡ true → is_name_text (c ∷ []) ≡ true → (n : ℕ) (taken : Name → Bool) → is_name_text (primed n taken (c ∷ [])) ≡ true
primed_name c s l n taken = primes_behind c s l n taken [] refl

-- a number

digits_marks : (ds : Text) → AllDigits 10 ds → AreMarks ds
digits_marks [] h = refl
digits_marks (d ∷ ds) h =
    let low = digit_from_value d h.0 in
    let digit : is_mark d ≡ true = grind (arith, low, nat_tests) in
    ap₂ (λ p q. p && q) digit (digits_marks ds h.1)

pub numbered_name : (c : ℕ) → is_word_start c ≡ true → is_name_text (c ∷ []) ≡ true → (n : ℕ) → n < 2 ^ 64 → is_name_text (c ∷ decimal n) ≡ true
numbered_name c s l n h = marked_name c (decimal n) s l (digits_marks (decimal n) (let k = decimal_is_IsNumeral n h in k.0.1))

-- These letters are names.

pub name_k : is_name_text (codes "k") ≡ true
unfolding spells is_word_of
name_k = refl

pub name_l : is_name_text (codes "l") ≡ true
unfolding spells is_word_of
name_l = refl

pub name_m : is_name_text (codes "m") ≡ true
unfolding spells is_word_of
name_m = refl
