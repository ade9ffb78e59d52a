-- Names, numbers and paths.
use Rattle.std.specs.Prelude.{ℕ, ◌≡◌, ◌+◌, ◌-◌, ◌*◌, ◌<◌, ◌%◌, ◌^◌, ◌==◌, Bool, true, false, not, ◌&&◌, ◌||◌, if◌then◌else◌, nat_eq, nat_lt, List, [], ◌∷◌, ◌++◌, length, take, map, codes, Option, Some, unwrap_or}
use Rattle.std.specs.List.{list_all}
use Rattle.std.specs.Cmp.Lexicographic.{pointwise}
use Rattle.std.specs.Char.{is_ascii_digit}
use Rattle.std.specs.Str.{bytes_eq}
use Rattle.std.specs.Fmt.{decimal}
use Rattle.std.proofs.Common.{refl, ap, ap₂, sym, ◌∙◌, subst, arith, append_assoc}
use Rattle.std.proofs.lemmas.Bool.{false≢true, eqb-true, ltb-true}
use Rattle.std.proofs.lemmas.Slice.Eq.{bytes_eq-Decides}
use Rattle.std.proofs.lemmas.Bool.Decides.{nat_tests}
use Rattle.std.proofs.lemmas.Fmt.{decimal_by_steps_wide}
use Rattle.gb_goal.specs.Answers.{nowhere}
use Rattle.gb_script.specs.declared.table.Symbol.TheVariants.{Token, Part}
use Rattle.gb_script.specs.Grammar.{Production, IsProduction}
use Rattle.gb_lex.specs.Byte.{is_word_start, is_word_byte}
use Rattle.gb_lex.specs.declared.token.Kind.TheVariants.{Word, Number}
use Rattle.gb_limits.specs.declared.spelling.Spelling.{Spelling}
use Rattle.gb_limits.specs.declared.spelling.TheConstants.{SPELLINGS}
use Rattle.gb_limits.specs.declared.left_out.TheConstants.{LEFT_OUT}
use Rattle.gb_limits.specs.Kinds.{kind_of}
use Rattle.gb_limits.specs.LeftOut.{is_word_of}
use Rattle.gb_limits.specs.Lexeme.{spells, spelled_in, terminal_of}
use Rattle.gb_limits.specs.Numbers.{is_number, number_behind, number_of}
use Rattle.gb_read_script.specs.Words.{is_name}
use Rattle.gb_script.specs.declared.action.Action.TheVariants.{Spell}
use Rattle.gb_script.specs.declared.action.Mark.TheVariants as mark
use Rattle.gb_script.specs.declared.action.Rule.{Rule}
use Rattle.gb_script.specs.declared.head.Head.TheVariants as head
use Rattle.gb_script.specs.declared.terminal.Terminal.{Terminal}
use Rattle.gb_script.specs.declared.terminal.Terminal.TheVariants as terminal
use Rattle.gb_script.specs.declared.tree.Node.{Node}
use Rattle.gb_script.specs.declared.value.Value.TheVariants.{Tree, Trees}
use Rattle.gb_script.specs.Build.{flat}
use Rattle.gb_script.specs.Tree.{node}
use Rattle.gb_script.proofs.Stacks.{append_nil}
use Rattle.gb_print.specs.Nodes.{word, words, with_byte, word_nodes, of_words, path}
use Rattle.gb_print.specs.Written.{is_word, is_name_text, is_path, in_range}
use Rattle.gb_print.proofs.Fine.{implies, is_number_kind, is_fine}
use Rattle.gb_print.proofs.Lexed.{ahead}
use Rattle.gb_print.proofs.Tokens.{Next, is_digits, both, word_lexed, number_lexed, word_cut, number_cut, begins_form}
use Rattle.gb_print.proofs.Symbols.{path_dot}
use Rattle.gb_print.proofs.Attaching.{Plain, plain_node}
use Rattle.gb_print.proofs.Levels.{is_quiet, Spelt, end, tok, named, row, followed}
use Rattle.gb_print.proofs.Productions as p

-- Names.

abbrev name_production : ℕ → ℕ → Production Rule
name_production k starts = record { part = 165; rule = record { takes = 0; action = Spell head.Name; mark = mark.Plain }; starts = starts; stops = 0; body = Token k ∷ [] }

abbrev NameRow : ℕ → Terminal → Type 0
NameRow stage t = (starts : ℕ) × IsProduction (p.grammar stage) 165 (name_production (kind_of t) starts) × (is_quiet (name_production (kind_of t) starts) ≡ true)

name_row : (stage : ℕ) (t : Terminal) → is_name t ≡ true → NameRow stage t
unfolding kind_of
name_row stage terminal.Name h = (p.name_name.starts, p.is_name_name stage, refl)
name_row stage terminal.Move h = (p.name_move.starts, p.is_name_move stage, refl)
name_row stage terminal.Split h = (p.name_split.starts, p.is_name_split stage, refl)
name_row stage terminal.Left h = (p.name_plain_step.starts, p.is_name_plain_step stage, refl)
name_row stage terminal.Right h = (p.name_plain_step.starts, p.is_name_plain_step stage, refl)
name_row stage terminal.Assumption h = (p.name_plain_step.starts, p.is_name_plain_step stage, refl)
name_row stage terminal.Trivial h = (p.name_plain_step.starts, p.is_name_plain_step stage, refl)
name_row stage terminal.Done h = (p.name_plain_step.starts, p.is_name_plain_step stage, refl)
name_row stage terminal.Apply h = (p.name_apply.starts, p.is_name_apply stage, refl)
name_row stage terminal.Have h = (p.name_have.starts, p.is_name_have stage, refl)
name_row stage terminal.Rewrite h = (p.name_rewrite.starts, p.is_name_rewrite stage, refl)
name_row stage terminal.Case h = (p.name_case.starts, p.is_name_case stage, refl)
name_row stage terminal.Subst h = (p.name_subst.starts, p.is_name_subst stage, refl)
name_row stage terminal.Skip h = (p.name_skip.starts, p.is_name_skip stage, refl)
name_row stage terminal.Wp h = (p.name_body_step.starts, p.is_name_body_step stage, refl)
name_row stage terminal.Sim h = (p.name_body_step.starts, p.is_name_body_step stage, refl)
name_row stage terminal.Symmetry h = (p.name_body_step.starts, p.is_name_body_step stage, refl)
name_row stage terminal.Seq h = (p.name_seq.starts, p.is_name_seq stage, refl)
name_row stage terminal.Rnd h = (p.name_rnd.starts, p.is_name_rnd stage, refl)
name_row stage terminal.Call h = (p.name_call.starts, p.is_name_call stage, refl)
name_row stage terminal.Inline h = (p.name_inline.starts, p.is_name_inline stage, refl)
name_row stage terminal.Swap h = (p.name_swap.starts, p.is_name_swap stage, refl)
name_row stage terminal.RcondTrue h = (p.name_position_step.starts, p.is_name_position_step stage, refl)
name_row stage terminal.RcondFalse h = (p.name_position_step.starts, p.is_name_position_step stage, refl)
name_row stage terminal.Unroll h = (p.name_position_step.starts, p.is_name_position_step stage, refl)
name_row stage terminal.Kill h = (p.name_position_step.starts, p.is_name_position_step stage, refl)
name_row stage terminal.Conseq h = (p.name_conseq.starts, p.is_name_conseq stage, refl)
name_row stage terminal.Transitivity h = (p.name_transitivity.starts, p.is_name_transitivity stage, refl)
name_row stage terminal.ByEquiv h = (p.name_by_step.starts, p.is_name_by_step stage, refl)
name_row stage terminal.ByPhoare h = (p.name_by_step.starts, p.is_name_by_step stage, refl)
name_row stage terminal.Fel h = (p.name_fel.starts, p.is_name_fel stage, refl)
name_row stage terminal.Smt h = (p.name_smt.starts, p.is_name_smt stage, refl)
name_row stage terminal.Linear h = (p.name_linear.starts, p.is_name_linear stage, refl)
name_row stage terminal.LawOfOr h = (p.name_law.starts, p.is_name_law stage, refl)
name_row stage terminal.LawOfNot h = (p.name_law.starts, p.is_name_law stage, refl)
name_row stage terminal.LawOfFalse h = (p.name_law.starts, p.is_name_law stage, refl)
name_row stage terminal.LawOfEqual h = (p.name_law.starts, p.is_name_law stage, refl)
name_row stage terminal.LawOfSubset h = (p.name_law.starts, p.is_name_law stage, refl)
name_row stage terminal.LawOfLeast h = (p.name_law.starts, p.is_name_law stage, refl)
name_row stage terminal.LawOfMost h = (p.name_law.starts, p.is_name_law stage, refl)
name_row stage terminal.SplitLaw h = (p.name_split_law.starts, p.is_name_split_law stage, refl)
name_row stage terminal.Eager h = (p.name_eager.starts, p.is_name_eager stage, refl)
name_row stage _ h = absurd (false≢true h)

-- what a name is
pub name_facts : (x : List ℕ) → is_name_text x ≡ true → (is_word x ≡ true) × (is_name (terminal_of Word x) ≡ true) × (not (is_word_of LEFT_OUT x) ≡ true)
name_facts x h =
    let word_is = both (is_word x) (is_name (terminal_of Word x) && not (is_word_of LEFT_OUT x)) h in
    let name_is = both (is_name (terminal_of Word x)) (not (is_word_of LEFT_OUT x)) word_is.1 in
    (word_is.0, name_is.0, name_is.1)

no_number : (t : Terminal) → is_name t ≡ true → is_number_kind (kind_of t) ≡ false
unfolding kind_of
no_number terminal.Number h = absurd cc
no_number terminal.Zero h = absurd cc
no_number terminal.One h = absurd cc
no_number terminal.Two h = absurd cc
no_number _ h = refl

-- texts that are no names
no_text_by : (x y : List ℕ) (test : List ℕ → Bool) (t : Bool) → (t ≡ true → x ≡ y) → test x ≡ true → test y ≡ false → t ≡ false
no_text_by x y test true same h k = let no : true ≡ false = sym h ∙ ap test (same refl) ∙ k in absurd cc
no_text_by x y test false same h k = refl

no_text : (x y : List ℕ) (test : List ℕ → Bool) → test x ≡ true → test y ≡ false → bytes_eq x y ≡ false
no_text x y test h k = no_text_by x y test (bytes_eq x y) (bytes_eq-Decides x y).0 h k

fine_name : (x : List ℕ) → is_name_text x ≡ true → is_fine (kind_of (terminal_of Word x)) x ≡ true
unfolding is_fine spells
fine_name x h =
    let facts = name_facts x h in
    let no_proc = no_text x (codes "proc") (λ y. is_name (terminal_of Word y)) facts.1 refl in
    let no_plus = no_text x (codes "+") is_word facts.0 refl in
    let no_brace = no_text x (codes "{") is_word facts.0 refl in
    let no_digits = no_number (terminal_of Word x) facts.1 in
    rw (facts.2, no_proc, no_plus, no_brace, no_digits) refl

pub name_next : (x mid : List ℕ) → is_name_text x ≡ true → ahead is_word_byte mid ≡ false → Next (x ++ mid) (kind_of (terminal_of Word x)) x mid
name_next x mid h f =
    let facts = name_facts x h in
    record { terminal = terminal_of Word x; first = word_lexed x mid facts.0 f; kind = refl; fine = fine_name x h; cut = word_cut x mid facts.0 f }

pub name_reads : {stage : ℕ} (x mid : List ℕ) → is_name_text x ≡ true → ahead is_word_byte mid ≡ false → Spelt stage (Part 165 ∷ []) (x ++ mid) mid (Tree (word x) ∷ [])
name_reads {stage} x mid h f =
    let next = name_next x mid h f in
    let r = name_row stage (terminal_of Word x) (name_facts x h).1 in
    row (name_production (kind_of (terminal_of Word x)) r.0) r.1 r.2 refl (ap (λ n. Tree (node head.Name n [] nowhere) ∷ []) (named next)) (tok next end) end

-- Numbers.

abbrev number_production : ℕ → ℕ → Production Rule
number_production k starts = record { part = 164; rule = record { takes = 0; action = Spell head.Number; mark = mark.Plain }; starts = starts; stops = 0; body = Token k ∷ [] }

abbrev NumberRow : ℕ → Terminal → Type 0
NumberRow stage t = (starts : ℕ) × IsProduction (p.grammar stage) 164 (number_production (kind_of t) starts) × (is_quiet (number_production (kind_of t) starts) ≡ true)

number_row : (stage : ℕ) (t : Terminal) → is_number t ≡ true → NumberRow stage t
unfolding kind_of
number_row stage terminal.Number h = (p.number_number.starts, p.is_number_number stage, refl)
number_row stage terminal.Zero h = (p.number_zero.starts, p.is_number_zero stage, refl)
number_row stage terminal.One h = (p.number_one.starts, p.is_number_one stage, refl)
number_row stage terminal.Two h = (p.number_two.starts, p.is_number_two stage, refl)
number_row stage _ h = absurd (false≢true h)

-- Spellings that begin with a digit are of numbers.
abbrev first_byte : List ℕ → ℕ
first_byte [] = 0
first_byte (b ∷ w) = b

abbrev is_fair : Spelling → Bool
is_fair s = implies (is_ascii_digit (first_byte s.text)) (is_number s.terminal)

fair : list_all is_fair SPELLINGS ≡ true
fair = refl

same_first : (t : List ℕ) (b : ℕ) (w : List ℕ) → spells t (b ∷ w) ≡ true → first_byte t ≡ b
unfolding spells
same_first [] b w h = absurd cc
same_first (c ∷ t) b w h =
    let parts = both (pointwise nat_eq (b ∷ w) (take (length (b ∷ w)) (c ∷ t))) _ h in
    let firsts = both (nat_eq b c) _ parts.0 in
    sym (eqb-true b c firsts.0)

fair_number : (s : Spelling) (b : ℕ) (w : List ℕ) → is_ascii_digit b ≡ true → is_fair s ≡ true → spells s.text (b ∷ w) ≡ true → is_number s.terminal ≡ true
fair_number s b w d f h =
    let first = same_first s.text b w h in
    let digit : is_ascii_digit (first_byte s.text) ≡ true = ap is_ascii_digit first ∙ d in
    sym (ap (λ t. implies t (is_number s.terminal)) digit) ∙ f

number_here : (t : Bool) (s : Spelling) (o : Option Terminal) → (t ≡ true → is_number s.terminal ≡ true) → is_number (unwrap_or o terminal.Number) ≡ true
    → is_number (unwrap_or (if t then Some s.terminal else o) terminal.Number) ≡ true
number_here true s o h k = h refl
number_here false s o h k = k

number_in : (ss : List Spelling) (b : ℕ) (w : List ℕ) → is_ascii_digit b ≡ true → list_all is_fair ss ≡ true → is_number (unwrap_or (spelled_in ss (b ∷ w)) terminal.Number) ≡ true
number_in [] b w d f = refl
number_in (s ∷ ss) b w d f =
    let parts = both (is_fair s) (list_all is_fair ss) f in
    number_here (spells s.text (b ∷ w)) s (spelled_in ss (b ∷ w)) (fair_number s b w d parts.0) (number_in ss b w d parts.1)

number_terminal : (x : List ℕ) → is_digits x ≡ true → is_number (terminal_of Number x) ≡ true
number_terminal [] h = absurd cc
number_terminal (b ∷ w) h = number_in SPELLINGS b w (both (is_ascii_digit b) (list_all is_ascii_digit w) h).0 fair

-- No word that is left out begins with a digit.
abbrev is_apart : List ℕ → Bool
is_apart t = not (is_ascii_digit (first_byte t))

pub false_by : (t : Bool) → (t ≡ true → ⊥) → t ≡ false
false_by true h = absurd (h refl)
false_by false h = refl

not_spelled : (t : List ℕ) (b : ℕ) (w : List ℕ) → is_ascii_digit b ≡ true → is_apart t ≡ true → spells t (b ∷ w) ≡ true → ⊥
not_spelled t b w d a h =
    let no : not true ≡ true = sym (ap not (ap is_ascii_digit (same_first t b w h) ∙ d)) ∙ a in
    absurd cc

kept_in : (ws : List (List ℕ)) (b : ℕ) (w : List ℕ) → is_ascii_digit b ≡ true → list_all is_apart ws ≡ true → is_word_of ws (b ∷ w) ≡ false
unfolding is_word_of
kept_in [] b w d a = refl
kept_in (t ∷ ts) b w d a =
    let parts = both (is_apart t) (list_all is_apart ts) a in
    ap₂ (λ p q. p || q) (false_by (spells t (b ∷ w)) (not_spelled t b w d parts.0)) (kept_in ts b w d parts.1)

all_apart : list_all is_apart LEFT_OUT ≡ true
all_apart = refl

kept_number : (x : List ℕ) → is_digits x ≡ true → is_word_of LEFT_OUT x ≡ false
kept_number [] h = absurd cc
kept_number (b ∷ w) h = kept_in LEFT_OUT b w (both (is_ascii_digit b) (list_all is_ascii_digit w) h).0 all_apart

fine_by : (t : Bool) → implies t true ≡ true
fine_by true = refl
fine_by false = refl

fine_number : (k : ℕ) (x : List ℕ) → is_digits x ≡ true → nat_lt (number_of x) (2 ^ 127) ≡ true → is_fine k x ≡ true
unfolding is_fine
fine_number k x h l =
    let kept = kept_number x h in
    let no_proc = no_text x (codes "proc") is_digits h refl in
    let no_plus = no_text x (codes "+") is_digits h refl in
    let no_brace = no_text x (codes "{") is_digits h refl in
    rw (kept, no_proc, no_plus, no_brace, l) (fine_by (is_number_kind k))

number_reads : {stage : ℕ} (x mid : List ℕ) → is_digits x ≡ true → nat_lt (number_of x) (2 ^ 127) ≡ true → ahead is_ascii_digit mid ≡ false
    → Spelt stage (Part 164 ∷ []) (x ++ mid) mid (Tree (node head.Number x [] nowhere) ∷ [])
number_reads {stage} x mid h l f =
    let k = kind_of (terminal_of Number x) in
    let next : Next (x ++ mid) k x mid = record { terminal = terminal_of Number x; first = number_lexed x mid h f; kind = refl; fine = fine_number k x h l; cut = number_cut x mid h f } in
    let r = number_row stage (terminal_of Number x) (number_terminal x h) in
    row (number_production (kind_of (terminal_of Number x)) r.0) r.1 r.2 refl (ap (λ n. Tree (node head.Number n [] nowhere) ∷ []) (named next)) (tok next end) end

digit_is : (n : ℕ) → n < 10 → is_ascii_digit (48 + n) ≡ true
digit_is n h = grind (arith, nat_tests)

all_more : (w : List ℕ) (d : ℕ) → list_all is_ascii_digit w ≡ true → is_ascii_digit d ≡ true → list_all is_ascii_digit (w ++ d ∷ []) ≡ true
all_more [] d h k = rw k refl
all_more (b ∷ w) d h k = let parts = both (is_ascii_digit b) (list_all is_ascii_digit w) h in ap₂ (λ x y. x && y) parts.0 (all_more w d parts.1 k)

digits_more : (ds : List ℕ) (d : ℕ) → is_digits ds ≡ true → is_ascii_digit d ≡ true → is_digits (ds ++ d ∷ []) ≡ true
digits_more [] d h k = absurd cc
digits_more (b ∷ w) d h k = let parts = both (is_ascii_digit b) (list_all is_ascii_digit w) h in ap₂ (λ x y. x && y) parts.0 (all_more w d parts.1 k)

one_digit : (d : ℕ) → is_ascii_digit d ≡ true → is_digits (d ∷ []) ≡ true
one_digit d k = rw k refl

-- A number is printed by digits.
pub decimal_digits : (n : ℕ) → n < 10 ^ 64 → is_digits (decimal n) ≡ true
decimal_digits n h =
    decimal_by_steps_wide (λ m ds. is_digits ds ≡ true) (λ m l. one_digit (48 + m) (digit_is m l))
    (λ m ds l e. digits_more ds (48 + m % 10) e (digit_is (m % 10) (omega arith))) n h

-- Its digits spell the number.
digit_behind : (n : ℕ) (ds : List ℕ) (d : ℕ) → number_behind n (ds ++ d ∷ []) ≡ number_behind n ds * 10 + (d - 48)
digit_behind n [] d = refl
digit_behind n (b ∷ ds) d = digit_behind (n * 10 + (b - 48)) ds d

decimal_value : (n : ℕ) → n < 10 ^ 64 → number_of (decimal n) ≡ n
decimal_value n h =
    decimal_by_steps_wide (λ m ds. number_of ds ≡ m) (λ m l. omega arith)
    (λ m ds l e. digit_behind 0 ds (48 + m % 10) ∙ (let whole : number_of ds * 10 + (48 + m % 10 - 48) ≡ m = omega (arith, e) in whole)) n h

-- A number in range has digits.
pub range_is : (n : ℕ) → in_range n ≡ true → n < 10 ^ 64
range_is n h = let l : n < 2 ^ 127 = ltb-true n (2 ^ 127) h in omega arith

pub decimal_reads : {stage : ℕ} (n : ℕ) (mid : List ℕ) → in_range n ≡ true → ahead is_ascii_digit mid ≡ false
    → Spelt stage (Part 164 ∷ []) (decimal n ++ mid) mid (Tree (node head.Number (decimal n) [] nowhere) ∷ [])
decimal_reads n mid h f =
    let wide = range_is n h in
    number_reads (decimal n) mid (decimal_digits n wide) (ap (λ m. nat_lt m (2 ^ 127)) (decimal_value n wide) ∙ h) f

-- Paths.

-- words behind others, each behind a dot
abbrev pub dotted : List (List ℕ) → List ℕ
dotted [] = []
dotted (w ∷ ws) = 46 ∷ (w ++ dotted ws)

abbrev pub joined : List (List ℕ) → List ℕ
joined [] = []
joined (w ∷ ws) = w ++ dotted ws

pub record Some_words (x : List ℕ) : Type 0 where
  pub first : List ℕ
  pub more : List (List ℕ)
  pub are : words x ≡ first ∷ more
  pub whole : joined (first ∷ more) ≡ x

words_by : (b : ℕ) (bs : List ℕ) (t : Bool) → (b == 46) ≡ t → Some_words bs → Some_words (b ∷ bs)
words_by b bs true e s = record {
  first = [];
  more = s.first ∷ s.more;
  are = ap (λ (c : Bool). if c then [] ∷ words bs else with_byte b (words bs)) e ∙ ap (λ l. [] ∷ l) s.are;
  whole = ap₂ (λ c l. c ∷ l) (sym (eqb-true b 46 e)) s.whole;
}
words_by b bs false e s = record {
  first = b ∷ s.first;
  more = s.more;
  are = ap (λ (c : Bool). if c then [] ∷ words bs else with_byte b (words bs)) e ∙ ap (λ l. with_byte b l) s.are;
  whole = ap (λ l. b ∷ l) s.whole;
}

pub some_words : (x : List ℕ) → Some_words x
some_words [] = record { first = []; more = []; are = refl; whole = refl }
some_words (b ∷ bs) = words_by b bs (b == 46) refl (some_words bs)

pub name_start : (x : List ℕ) → is_name_text x ≡ true → (b : ℕ) × (w : List ℕ) × (x ≡ b ∷ w) × (is_word_start b ≡ true)
name_start [] h = absurd cc
name_start (b ∷ w) h =
    (b, w, refl, (both (is_word_start b) (list_all is_word_byte w) (name_facts (b ∷ w) h).0).0)

pub behind_dots : (ws : List (List ℕ)) (mid : List ℕ) → ahead is_word_byte mid ≡ false → ahead is_word_byte (dotted ws ++ mid) ≡ false
behind_dots [] mid f = f
behind_dots (w ∷ ws) mid f = refl

pub dot_before : (x mid : List ℕ) → is_name_text x ≡ true → Next (46 ∷ (x ++ mid)) 125 (codes ".") (x ++ mid)
dot_before x mid h =
    let s = name_start x h in
    subst (λ l. Next (46 ∷ (l ++ mid)) 125 (codes ".") (l ++ mid)) (sym s.2) (path_dot s.0 (s.1 ++ mid) s.3)

flat_path : (x : Node) (ws : List (List ℕ)) → flat head.Path nowhere (x ∷ (map word ws ++ [])) ≡ of_words (x ∷ map word ws)
flat_path x [] = refl
flat_path x (w ∷ ws) = ap (λ l. node head.Path [] (x ∷ word w ∷ l) nowhere) (append_nil (map word ws))

module _ {stage : ℕ} where
  pub more_words : (ws : List (List ℕ)) (mid : List ℕ) → list_all is_name_text ws ≡ true → ahead is_word_byte mid ≡ false → Spelt stage (Part 161 ∷ []) (dotted ws ++ mid) mid (Trees (map word ws) ∷ [])
  more_words [] mid h f = row p.more_dotted_none (p.is_more_dotted_none stage) refl refl refl end end
  more_words (w ∷ ws) mid h f =
      let facts = both (is_name_text w) (list_all is_name_text ws) h in
      let inner = followed (name_reads w (dotted ws ++ mid) facts.0 (behind_dots ws mid f)) (more_words ws mid facts.1 f) in
      row p.more_dotted_dot (p.is_more_dotted_dot stage) refl refl (ap (λ l. Trees (word w ∷ l) ∷ []) (append_nil (map word ws)))
      (subst (λ l. Spelt stage (Token 125 ∷ Part 165 ∷ Part 161 ∷ []) (46 ∷ l) mid (Tree (word w) ∷ Trees (map word ws) ∷ [])) (sym (append_assoc w (dotted ws) mid))
      (tok (dot_before w (dotted ws ++ mid) facts.0) inner)) end

  pub words_read : (w : List ℕ) (ws : List (List ℕ)) (mid : List ℕ) → list_all is_name_text (w ∷ ws) ≡ true → ahead is_word_byte mid ≡ false
      → Spelt stage (Part 160 ∷ []) (w ++ (dotted ws ++ mid)) mid (Tree (of_words (map word (w ∷ ws))) ∷ [])
  words_read w ws mid h f =
      let facts = both (is_name_text w) (list_all is_name_text ws) h in
      row p.path_name (p.is_path_name stage) refl refl (ap (λ z. Tree z ∷ []) (flat_path (word w) ws))
      (followed (name_reads w (dotted ws ++ mid) facts.0 (behind_dots ws mid f)) (more_words ws mid facts.1 f)) end

  pub path_reads : (x mid : List ℕ) → is_path x ≡ true → ahead is_word_byte mid ≡ false → Spelt stage (Part 160 ∷ []) (x ++ mid) mid (Tree (path x) ∷ [])
  path_reads x mid h f =
      let s = some_words x in
      let all : list_all is_name_text (s.first ∷ s.more) ≡ true = sym (ap (λ l. list_all is_name_text l) s.are) ∙ h in
      subst (λ l. Spelt stage (Part 160 ∷ []) (l ++ mid) mid (Tree (path x) ∷ [])) s.whole
      (subst (λ l. Spelt stage (Part 160 ∷ []) l mid (Tree (path x) ∷ [])) (sym (append_assoc s.first (dotted s.more) mid))
      (subst (λ l. Spelt stage (Part 160 ∷ []) (s.first ++ (dotted s.more ++ mid)) mid (Tree (of_words (map word l)) ∷ [])) (sym s.are)
      (words_read s.first s.more mid all f)))

plain_words : (ws : List (List ℕ)) → Plain (of_words (map word ws))
plain_words [] = plain_node head.Path [] [] refl refl
plain_words (w ∷ []) = plain_node head.Name w [] refl refl
plain_words (w ∷ v ∷ ws) = plain_node head.Path [] (map word (w ∷ v ∷ ws)) refl refl

pub map_word_end : (ws : List (List ℕ)) (x : List ℕ) → map word ws ++ word x ∷ [] ≡ map word (ws ++ x ∷ [])
map_word_end [] x = refl
map_word_end (w ∷ ws) x = ap (λ l. word w ∷ l) (map_word_end ws x)

pub dotted_end : (ws : List (List ℕ)) (x mid : List ℕ) → dotted (ws ++ x ∷ []) ++ mid ≡ dotted ws ++ (46 ∷ (x ++ mid))
dotted_end [] x mid = ap (λ l. 46 ∷ (l ++ mid)) (append_nil x)
dotted_end (w ∷ ws) x mid =
    ap (λ l. 46 ∷ l) (append_assoc w (dotted (ws ++ x ∷ [])) mid ∙ ap (λ l. w ++ l) (dotted_end ws x mid) ∙ sym (append_assoc w (dotted ws) (46 ∷ (x ++ mid))))

pub all_names_end : (ws : List (List ℕ)) (x : List ℕ) → list_all is_name_text ws ≡ true → is_name_text x ≡ true → list_all is_name_text (ws ++ x ∷ []) ≡ true
all_names_end [] x h k = rw k refl
all_names_end (w ∷ ws) x h k = let facts = both (is_name_text w) (list_all is_name_text ws) h in ap₂ (λ a b. a && b) facts.0 (all_names_end ws x facts.1 k)

-- what is read of a path with a name behind it
pub member_from : {stage : ℕ} (n : ℕ) (g : List Node → Node) (m x rest mid : List ℕ) → is_path m ≡ true → is_name_text x ≡ true
    → ((w : List ℕ) (ws : List (List ℕ)) → list_all is_name_text (w ∷ (ws ++ x ∷ [])) ≡ true → Spelt stage (Part n ∷ []) (w ++ (dotted (ws ++ x ∷ []) ++ rest)) mid (Tree (g (map word (w ∷ (ws ++ x ∷ [])))) ∷ []))
    → Spelt stage (Part n ∷ []) (m ++ (46 ∷ (x ++ rest))) mid (Tree (g (word_nodes m ++ word x ∷ [])) ∷ [])
member_from {stage} n g m x rest mid h k reads =
    let s = some_words m in
    let all : list_all is_name_text (s.first ∷ s.more) ≡ true = sym (ap (λ l. list_all is_name_text l) s.are) ∙ h in
    let bytes : s.first ++ (dotted (s.more ++ x ∷ []) ++ rest) ≡ m ++ (46 ∷ (x ++ rest)) =
    ap (λ l. s.first ++ l) (dotted_end s.more x rest) ∙ sym (append_assoc s.first (dotted s.more) (46 ∷ (x ++ rest))) ∙ ap (λ l. l ++ (46 ∷ (x ++ rest))) s.whole in
    let trees : map word (s.first ∷ (s.more ++ x ∷ [])) ≡ word_nodes m ++ word x ∷ [] =
    sym (map_word_end (s.first ∷ s.more) x) ∙ ap (λ l. map word l ++ word x ∷ []) (sym s.are) in
    subst (λ l. Spelt stage (Part n ∷ []) l mid (Tree (g (word_nodes m ++ word x ∷ [])) ∷ [])) bytes
    (subst (λ l. Spelt stage (Part n ∷ []) (s.first ++ (dotted (s.more ++ x ∷ []) ++ rest)) mid (Tree (g l) ∷ [])) trees
    (reads s.first s.more (all_names_end (s.first ∷ s.more) x all k)))

-- a name behind a path and a dot
pub member_reads : {stage : ℕ} (m x mid : List ℕ) → is_path m ≡ true → is_name_text x ≡ true → ahead is_word_byte mid ≡ false
    → Spelt stage (Part 160 ∷ []) (m ++ (46 ∷ (x ++ mid))) mid (Tree (of_words (word_nodes m ++ word x ∷ [])) ∷ [])
member_reads m x mid h k f = member_from 160 of_words m x mid mid h k (λ w ws all. words_read w (ws ++ x ∷ []) mid all f)

pub plain_member : (m x : List ℕ) → Plain (of_words (word_nodes m ++ word x ∷ []))
plain_member m x = subst (λ l. Plain (of_words l)) (sym (map_word_end (words m) x)) (plain_words (words m ++ x ∷ []))

pub plain_path : (x : List ℕ) → Plain (path x)
plain_path x = plain_words (words x)

pub start_begins : (b : ℕ) → is_word_start b ≡ true → begins_form b ≡ true
start_begins b h = rw h refl

pub path_start : (x : List ℕ) → is_path x ≡ true → (b : ℕ) × (w : List ℕ) × (x ≡ b ∷ w) × (is_word_start b ≡ true)
path_start x h =
    let s = some_words x in
    let all : list_all is_name_text (s.first ∷ s.more) ≡ true = sym (ap (λ l. list_all is_name_text l) s.are) ∙ h in
    let n = name_start s.first (both (is_name_text s.first) (list_all is_name_text s.more) all).0 in
    (n.0, n.1 ++ dotted s.more, sym s.whole ∙ ap (λ l. l ++ dotted s.more) n.2, n.3)
