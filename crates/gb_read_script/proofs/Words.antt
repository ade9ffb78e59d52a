-- The names and numbers of trees are tokens of their texts.
use Rattle.std.specs.Prelude.{◌≡◌, ℕ, ◌^◌, ◌<◌, Bool, true, List, [], Option, Some, None, length, slice_get, if◌then◌else◌}
use Rattle.std.specs.Option.{option_map}
use Rattle.std.proofs.Common.{refl, ap, sym, ◌∙◌, subst}
use Rattle.std.proofs.lemmas.Option.{slice_get-map, slice_get_within}
use Rattle.gb_script.specs.declared.head.Head.{Head}
use Rattle.gb_script.specs.declared.head.Head.TheVariants as head
use Rattle.gb_script.specs.declared.terminal.Terminal.{Terminal}
use Rattle.gb_script.specs.declared.terminal.Terminal.TheVariants.{Number, Zero, One, Two, Name, Move, Split, Left, Right, Assumption, Trivial, Done, Apply, Have, Rewrite, Case, Subst, Skip, Wp, Sim, Symmetry, Seq, Rnd, Call, Inline, Swap, RcondTrue, RcondFalse, Unroll, Kill, Conseq, Transitivity, ByEquiv, ByPhoare, Fel, Smt, Linear, LawOfOr, LawOfNot, LawOfFalse, LawOfEqual, LawOfSubset, LawOfLeast, LawOfMost, SplitLaw, Eager}
use Rattle.gb_script.specs.declared.text.Lexeme.{Lexeme}
use Rattle.gb_script.specs.declared.text.Text.{Text}
use Rattle.gb_script.specs.declared.tree.Node.{Node}
use Rattle.gb_script.specs.Each.{Each}
use Rattle.gb_script.specs.Sorts.{holds}
use Rattle.gb_script.specs.Spelled.{IsToken, IsSpelledBy, stays, IsSpelled}
use Rattle.gb_script.specs.Text.{terminal_at, terminal_or_other, name_at}
use Rattle.gb_script.specs.Tree.{head_of, text_of, place_of}
use Rattle.gb_script.proofs.Each.{each_so}
use Rattle.gb_script.proofs.Sorts.{not_false}
use Rattle.gb_language.specs.Language.{node_signatures, node_spelling, still_kinds, IsTreeSpelled}
use Rattle.gb_limits.specs.Kinds.{kind_of}
use Rattle.gb_limits.specs.Lexeme.{kinds_of}
use Rattle.gb_limits.specs.Numbers.{is_number, number_of, digits_at, NoneOverflow}
use Rattle.gb_read_script.specs.Words.{is_name, IsTokenOf, IsWord, IsInRange}

-- The kinds of a head are those of tokens that pass the test.
abbrev AreKinds : (Terminal → Bool) → Head → Type 0
AreKinds test h = (x : Terminal) → holds (node_spelling h) (kind_of x) ≡ true → test x ≡ true

number_kinds : AreKinds is_number head.Number
unfolding kind_of node_spelling
number_kinds Number h = refl
number_kinds Zero h = refl
number_kinds One h = refl
number_kinds Two h = refl
number_kinds _ h = absurd (not_false h)

name_kinds : AreKinds is_name head.Name
unfolding kind_of node_spelling
name_kinds Name h = refl
name_kinds Move h = refl
name_kinds Split h = refl
name_kinds Left h = refl
name_kinds Right h = refl
name_kinds Assumption h = refl
name_kinds Trivial h = refl
name_kinds Done h = refl
name_kinds Apply h = refl
name_kinds Have h = refl
name_kinds Rewrite h = refl
name_kinds Case h = refl
name_kinds Subst h = refl
name_kinds Skip h = refl
name_kinds Wp h = refl
name_kinds Sim h = refl
name_kinds Symmetry h = refl
name_kinds Seq h = refl
name_kinds Rnd h = refl
name_kinds Call h = refl
name_kinds Inline h = refl
name_kinds Swap h = refl
name_kinds RcondTrue h = refl
name_kinds RcondFalse h = refl
name_kinds Unroll h = refl
name_kinds Kill h = refl
name_kinds Conseq h = refl
name_kinds Transitivity h = refl
name_kinds ByEquiv h = refl
name_kinds ByPhoare h = refl
name_kinds Fel h = refl
name_kinds Smt h = refl
name_kinds Linear h = refl
name_kinds LawOfOr h = refl
name_kinds LawOfNot h = refl
name_kinds LawOfFalse h = refl
name_kinds LawOfEqual h = refl
name_kinds LawOfSubset h = refl
name_kinds LawOfLeast h = refl
name_kinds LawOfMost h = refl
name_kinds SplitLaw h = refl
name_kinds Eager h = refl
name_kinds _ h = absurd (not_false h)

-- A token of one of the kinds passes the test.
passes : (test : Terminal → Bool) (ks : List ℕ) → ((x : Terminal) → holds ks (kind_of x) ≡ true → test x ≡ true) → (kind : ℕ) (o : Option Lexeme)
    → option_map (λ (l : Lexeme). kind_of l.terminal) o ≡ Some kind → holds ks kind ≡ true → test (terminal_or_other o) ≡ true
passes test ks are kind None e h = absurd cc
passes test ks are kind (Some l) e h = are l.terminal (subst (λ (k : ℕ). holds ks k ≡ true) (let z : kind ≡ kind_of l.terminal = cc in z) h)

token_of : (test : Terminal → Bool) (ks : List ℕ) → ((x : Terminal) → holds ks (kind_of x) ≡ true → test x ≡ true) → (t : Text) (x : Node)
    → IsToken (kinds_of t) t ks true (text_of x) (place_of x) → IsTokenOf test t x
token_of test ks are t x k =
    let found = sym (slice_get-map (λ (l : Lexeme). kind_of l.terminal) t.lexemes k.at) ∙ k.kind_is in
    (k.at, passes test ks are k.kind (slice_get t.lexemes k.at) found k.one_of, k.bytes, k.place refl)

-- What is said of the texts of nodes.
abbrev Spelled : Text → Node → Type 0
Spelled t x = IsSpelled node_signatures node_spelling still_kinds (kinds_of t) t x

as_head : (t : Text) (x : Node) (h : Head) → head_of x ≡ h → Spelled t x → IsSpelledBy (kinds_of t) t (node_spelling h) (stays node_signatures still_kinds h) (text_of x) (place_of x)
as_head t x h e s = subst (λ (z : Head). IsSpelledBy (kinds_of t) t (node_spelling z) (stays node_signatures still_kinds z) (text_of x) (place_of x)) e s

number_token : (t : Text) (x : Node) → Spelled t x → head_of x ≡ head.Number → IsTokenOf is_number t x
unfolding node_spelling node_signatures
number_token t x s e = token_of is_number (node_spelling head.Number) number_kinds t x (as_head t x head.Number e s)

name_token : (t : Text) (x : Node) → Spelled t x → head_of x ≡ head.Name → IsTokenOf is_name t x
unfolding node_spelling node_signatures
name_token t x s e = token_of is_name (node_spelling head.Name) name_kinds t x (as_head t x head.Name e s)

word : (t : Text) (x : Node) → Spelled t x → IsWord t x
word t x s = record { name = name_token t x s; number = number_token t x s }

pub all_words : (t : Text) (x : Node) → IsTreeSpelled (kinds_of t) t x → Each (IsWord t) x
all_words t x d = each_so (Spelled t) (IsWord t) (word t) d

-- Numbers.

within : (t : Text) (at : ℕ) (o : Option Lexeme) → slice_get t.lexemes at ≡ o → is_number (terminal_or_other o) ≡ true → at < length t.lexemes
within t at None e h = absurd (not_false h)
within t at (Some l) e h = slice_get_within t.lexemes at l e

digits_are : (t : Text) (at : ℕ) → is_number (terminal_at t at) ≡ true → digits_at t at ≡ name_at t at
unfolding digits_at
digits_are t at h = ap (λ (b : Bool). if b then name_at t at else []) h

small : (t : Text) → NoneOverflow t → (x : Node) → IsWord t x → IsInRange x
small t n x w e =
    let k = w.number e in
    subst (λ (d : List ℕ). number_of d < 2 ^ 127) (digits_are t k.0 k.1 ∙ sym k.2) (n k.0 (within t k.0 (slice_get t.lexemes k.0) refl k.1))

pub all_in_range : (t : Text) → NoneOverflow t → (x : Node) → Each (IsWord t) x → Each IsInRange x
all_in_range t n x d = each_so (IsWord t) IsInRange (small t n) d
