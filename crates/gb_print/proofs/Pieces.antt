-- What is written, in front of what follows.
use Rattle.std.specs.Prelude.{ℕ, suc, ◌≡◌, ◌-◌, ◌<◌, Bool, true, false, nat_eq, nat_lt, List, [], ◌∷◌, ◌++◌, length, drop, codes}
use Rattle.std.specs.List.{list_all, ends_with}
use Rattle.std.specs.Cmp.Lexicographic.{pointwise}
use Rattle.std.specs.Fmt.{decimal}
use Rattle.std.specs.Char.{is_ascii_digit}
use Rattle.std.proofs.Common.{refl, ap, sym, ◌∙◌, subst, arith, append_assoc, length-append}
use Rattle.std.proofs.lemmas.Bool.{ltb-true}
use Rattle.std.proofs.lemmas.Bool.Decides.{nat_tests}
use Rattle.gb_lex.specs.Byte.{is_word_start, is_word_byte}
use Rattle.gb_script.specs.declared.tree.Node.{Node}
use Rattle.gb_script.proofs.Stacks.{append_nil}
use Rattle.gb_print_names.specs.Text.{Text, Writing, ◌▸◌, nothing, word}
use Rattle.gb_print.specs.Written.{is_name_text, is_path, is_word, in_range}
use Rattle.gb_print.proofs.Tokens.{both, is_digits}
use Rattle.gb_print.proofs.Levels.{Before}
use Rattle.gb_print.proofs.NameWords.{dotted, joined, some_words, range_is, decimal_digits}
use Rattle.gb_print.proofs.Operands.{IsForm, IsOperand, IsSummand, summand_of, form_of_summand}

-- A text that ends with a bar.
abbrev pub ends_bar : Text → Bool
ends_bar t = ends_with nat_eq t (codes "|")

-- What is written behind a text, with others behind it.
pub record Writes (w : Writing) (φ : Before) : Type 0 where
  pub same : (before mid : Text) → w before ++ mid ≡ before ++ φ mid

pub literal : (t : Text) → Writes (word t) (λ mid. t ++ mid)
literal t = record { same = λ before mid. append_assoc before t mid }

pub both_written : {f g : Writing} {φ ψ : Before} → Writes f φ → Writes g ψ → Writes (f ▸ g) (λ mid. φ (ψ mid))
both_written {f = f} {ψ = ψ} a b = record { same = λ before mid. b.same (f before) mid ∙ a.same before (ψ mid) }

pub empty_written : Writes nothing (λ mid. mid)
empty_written = record { same = λ before mid. refl }

-- The end of a text is the end of what is behind it.
ends_drop : (b : ℕ) (l : Text) → 0 < length l → ends_bar (b ∷ l) ≡ ends_bar l
ends_drop b [] h = absurd (omega arith)
ends_drop b (c ∷ l) h =
    let e : suc (suc (length l)) - 1 ≡ suc (suc (length l) - 1) = omega arith in
    ap (λ n. pointwise nat_eq (codes "|") (drop n (b ∷ c ∷ l))) e

pub ends_behind : (a l : Text) → 0 < length l → ends_bar (a ++ l) ≡ ends_bar l
ends_behind [] l h = refl
ends_behind (b ∷ a) l h = ends_drop b (a ++ l) (omega (arith, length-append a l)) ∙ ends_behind a l h

pub ends_nothing : (w : Text) → ends_bar (w ++ []) ≡ ends_bar w
ends_nothing w = ap ends_bar (append_nil w)

not_bar_byte : (b : ℕ) → is_word_byte b ≡ true → nat_eq 124 b ≡ false
not_bar_byte b h = grind (arith, nat_tests)

digit_not_bar : (b : ℕ) → is_ascii_digit b ≡ true → nat_eq 124 b ≡ false
digit_not_bar b h = grind (arith, nat_tests)

start_byte : (b : ℕ) → is_word_start b ≡ true → is_word_byte b ≡ true
start_byte b h = grind (arith, nat_tests)

-- texts of bytes that aren't bars
ends_plain : (p : ℕ → Bool) → ((b : ℕ) → p b ≡ true → nat_eq 124 b ≡ false) → (b : ℕ) (w : Text) → p b ≡ true → list_all p w ≡ true → ends_bar (b ∷ w) ≡ false
ends_plain p apart b [] h a = let n = apart b h in rw n refl
ends_plain p apart b (c ∷ w) h a = let parts = both (p c) (list_all p w) a in ends_drop b (c ∷ w) (omega arith) ∙ ends_plain p apart c w parts.0 parts.1

pub name_ends : (x : Text) → is_name_text x ≡ true → ends_bar x ≡ false
name_ends [] h = absurd cc
name_ends (b ∷ w) h =
    let word_is = both (is_word (b ∷ w)) _ h in
    let parts = both (is_word_start b) (list_all is_word_byte w) word_is.0 in
    ends_plain is_word_byte not_bar_byte b w (start_byte b parts.0) parts.1

pub digits_end : (x : Text) → is_digits x ≡ true → ends_bar x ≡ false
digits_end [] h = absurd cc
digits_end (b ∷ w) h = let parts = both (is_ascii_digit b) (list_all is_ascii_digit w) h in ends_plain is_ascii_digit digit_not_bar b w parts.0 parts.1

pub name_some : (x : Text) → is_name_text x ≡ true → 0 < length x
name_some [] h = absurd cc
name_some (b ∷ w) h = omega arith

joined_some : (w : Text) (ws : List Text) → is_name_text w ≡ true → 0 < length (joined (w ∷ ws))
joined_some w ws h = let s = name_some w h in omega (arith, s, length-append w (dotted ws))

joined_ends : (w : Text) (ws : List Text) → list_all is_name_text (w ∷ ws) ≡ true → ends_bar (joined (w ∷ ws)) ≡ false
joined_ends w [] h = let parts = both (is_name_text w) true h in ends_nothing w ∙ name_ends w parts.0
joined_ends w (v ∷ ws) h =
    let parts = both (is_name_text w) (list_all is_name_text (v ∷ ws)) h in
    let rest = both (is_name_text v) (list_all is_name_text ws) parts.1 in
    let s = joined_some v ws rest.0 in
    ends_behind w (46 ∷ joined (v ∷ ws)) (omega arith) ∙ ends_drop 46 (joined (v ∷ ws)) s ∙ joined_ends v ws parts.1

pub path_ends : (x : Text) → is_path x ≡ true → ends_bar x ≡ false
path_ends x h =
    let s = some_words x in
    let all : list_all is_name_text (s.first ∷ s.more) ≡ true = sym (ap (λ l. list_all is_name_text l) s.are) ∙ h in
    sym (ap ends_bar s.whole) ∙ joined_ends s.first s.more all

pub path_some : (x : Text) → is_path x ≡ true → 0 < length x
path_some x h =
    let s = some_words x in
    let all : list_all is_name_text (s.first ∷ s.more) ≡ true = sym (ap (λ l. list_all is_name_text l) s.are) ∙ h in
    subst (λ l. 0 < length l) s.whole (joined_some s.first s.more (both (is_name_text s.first) (list_all is_name_text s.more) all).0)

pub digits_some : (x : Text) → is_digits x ≡ true → 0 < length x
digits_some [] h = absurd cc
digits_some (b ∷ w) h = omega arith

pub number_some : (n : ℕ) → in_range n ≡ true → 0 < length (decimal n)
number_some n h = digits_some (decimal n) (decimal_digits n (range_is n h))

pub number_ends : (n : ℕ) → in_range n ≡ true → ends_bar (decimal n) ≡ false
number_ends n h = digits_end (decimal n) (decimal_digits n (range_is n h))

-- Forms that are written.

pub record Shows (stage : ℕ) (w : Writing) (x : Node) : Type 0 where
  pub text : Before
  pub bar : Bool
  pub writes : Writes w text
  pub ends : (before : Text) → ends_bar (w before) ≡ bar
  pub form : IsForm stage text bar x

pub record ShowsSummand (stage : ℕ) (w : Writing) (x : Node) : Type 0 where
  pub text : Before
  pub bar : Bool
  pub writes : Writes w text
  pub ends : (before : Text) → ends_bar (w before) ≡ bar
  pub summand : IsSummand stage text bar x

pub record ShowsOperand (stage : ℕ) (w : Writing) (x : Node) : Type 0 where
  pub text : Before
  pub bar : Bool
  pub writes : Writes w text
  pub ends : (before : Text) → ends_bar (w before) ≡ bar
  pub operand : IsOperand stage text bar x

pub as_summand : {stage : ℕ} {w : Writing} {x : Node} → ShowsOperand stage w x → ShowsSummand stage w x
as_summand s = record { text = s.text; bar = s.bar; writes = s.writes; ends = s.ends; summand = summand_of s.operand }

pub as_form : {stage : ℕ} {w : Writing} {x : Node} → ShowsSummand stage w x → Shows stage w x
as_form s = record { text = s.text; bar = s.bar; writes = s.writes; ends = s.ends; form = form_of_summand s.summand }

pub operand_as_form : {stage : ℕ} {w : Writing} {x : Node} → ShowsOperand stage w x → Shows stage w x
operand_as_form s = as_form (as_summand s)

-- a text that ends with no bar, behind others
pub ends_literal : (t : Text) → nat_lt 0 (length t) ≡ true → ends_bar t ≡ false → (before : Text) → ends_bar (before ++ t) ≡ false
ends_literal t h e before = ends_behind before t (ltb-true 0 (length t) h) ∙ e
