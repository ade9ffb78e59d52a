use Rattle.std.proofs.Common.{◌≡◌, ℕ, ◌<◌, ◌≤◌, ◌+◌, Bool, true, false, List, ap, sym, ◌∙◌, get_or, drop, length}
use Rattle.std.specs.Prelude.{◌||◌, []}
use Rattle.std.proofs.lemmas.List.{drop_more, drop_all}
use Rattle.gb_limits.specs.Lexeme.{spells}
use Rattle.gb_limits.specs.LeftOut.{is_word_of}
use Rattle.gb_limits.proofs.left_out.is_word_of.Goals as goal

-- the words from a position on
from_word : (ws : List (List ℕ)) (i : ℕ) (d : List ℕ) (bytes : List ℕ) (b : Bool) → i < length ws → spells (get_or ws i d) bytes ≡ b
    → is_word_of (drop i ws) bytes ≡ (b || is_word_of (drop (i + 1) ws) bytes)
unfolding is_word_of
from_word ws i d bytes b h e =
    ap (λ (l : List (List ℕ)). is_word_of l bytes) (drop_more ws i d h) ∙ ap (λ (x : Bool). x || is_word_of (drop (i + 1) ws) bytes) e

no_word : (ws : List (List ℕ)) (i : ℕ) (bytes : List ℕ) → length ws ≤ i → is_word_of (drop i ws) bytes ≡ false
unfolding is_word_of
no_word ws i bytes h = ap (λ (l : List (List ℕ)). is_word_of l bytes) (drop_all i ws h)

pub returns-then-spells : goal.returns-then-spells
returns-then-spells c =
    sym (from_word c.args.words.now c.loop-word.word-index [] c.args.bytes.now true c.loop-word-test.true (sym c.spells.ensures ∙ c.if-spells.true)) ∙ c.loop-word.invariant

pub loop-word-preserved : goal.loop-word-preserved
loop-word-preserved c =
    sym (from_word c.args.words.now c.loop-word.word-index [] c.args.bytes.now false c.loop-word-test.true (sym c.spells.ensures ∙ c.if-spells.false)) ∙ c.loop-word.invariant

pub returns : goal.returns
returns c = sym (no_word c.args.words.now c.loop-word.word-index c.args.bytes.now c.loop-word-test.false) ∙ c.loop-word.invariant
