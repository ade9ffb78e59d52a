use Rattle.std.proofs.Common.{◌≡◌, ℕ, ◌+◌, ◌<◌, sym, ap, arith, ◌∙◌, length, get_or, take, drop, map, List, [], ◌∷◌, ◌++◌}
use Rattle.std.proofs.lemmas.List.{map_more, take_all}
use Rattle.gb_core.specs.declared.place.Place.{Place}
use Rattle.gb_lex.specs.declared.token.Token.{Token}
use Rattle.gb_lex.specs.declared.token.Kind.TheVariants.{Word}
use Rattle.gb_lex.specs.PlaceAfter.{place_after}
use Rattle.gb_script.specs.declared.text.Lexeme.{Lexeme}
use Rattle.gb_script.specs.declared.text.Text.{Text}
use Rattle.gb_limits.specs.Lexeme.{placed, lexeme_of}
use Rattle.gb_limits.proofs.Spans.{spans_at, spans_from, spans_end, line_fits, col_fits, place_at_start, place_on}
use Rattle.gb_limits.proofs.lexeme.text.Goals as goal

-- any token, for positions behind the last one
abbrev none : Token
none = record { kind = Word; from = 0; to = 0 }

-- one more token at its place
lexemes_more : (bytes : List ℕ) (at place : Place) (tokens : List Token) (i : ℕ) (lexemes more : List Lexeme) → i < length tokens
    → place ≡ place_after at (take (get_or tokens i none).from bytes) → lexemes ≡ map (lexeme_of bytes at) (take i tokens)
    → more ≡ lexemes ++ placed bytes (get_or tokens i none) place ∷ [] → more ≡ map (lexeme_of bytes at) (take (i + 1) tokens)
lexemes_more bytes at place tokens i lexemes more within here so_far e =
    e
    ∙ (ap (λ (p : Place). lexemes ++ placed bytes (get_or tokens i none) p ∷ []) here
    ∙ (ap (λ (l : List Lexeme). l ++ lexeme_of bytes at (get_or tokens i none) ∷ []) so_far ∙ sym (map_more (lexeme_of bytes at) tokens i none within)))

same_text : (a b : List Lexeme) (p q : Place) → a ≡ b → p ≡ q → ◌≡◌ {A = Text} (record { lexemes = a; end = p }) (record { lexemes = b; end = q })
same_text a b p q e f = ap (λ (l : List Lexeme). record { lexemes = l; end = p }) e ∙ ap (λ (x : Place). record { lexemes = b; end = x }) f

pub loop-token-init : goal.loop-token-init
loop-token-init c = record { spans = c.requires.spans; reached = sym (place_at_start c.args.at); made = c.new-lexemes.ensures }

pub later_place-place-requires-clause-ordered : goal.later_place-place-requires-clause-ordered
later_place-place-requires-clause-ordered c = (spans_at c.args.tokens.now c.loop-token.token-index none c.loop-token.reached (length c.args.bytes.now) c.loop-token-test.true c.loop-token.invariant.spans).lower

pub later_place-place-requires-clause-within : goal.later_place-place-requires-clause-within
later_place-place-requires-clause-within c =
    let s = spans_at c.args.tokens.now c.loop-token.token-index none c.loop-token.reached (length c.args.bytes.now) c.loop-token-test.true c.loop-token.invariant.spans in let grows = s.grows in let within = s.within in omega (arith, grows, within)

pub later_place-place-requires-clause-line : goal.later_place-place-requires-clause-line
later_place-place-requires-clause-line c =
    let s = spans_at c.args.tokens.now c.loop-token.token-index none c.loop-token.reached (length c.args.bytes.now) c.loop-token-test.true c.loop-token.invariant.spans in let grows = s.grows in let within = s.within in line_fits c.args.bytes.now c.args.at c.requires.line c.requires.column c.loop-token.place c.loop-token.reached (get_or c.args.tokens.now c.loop-token.token-index none).from c.loop-token.invariant.reached s.lower (omega (arith, grows, within))

pub later_place-place-requires-clause-column : goal.later_place-place-requires-clause-column
later_place-place-requires-clause-column c =
    let s = spans_at c.args.tokens.now c.loop-token.token-index none c.loop-token.reached (length c.args.bytes.now) c.loop-token-test.true c.loop-token.invariant.spans in let grows = s.grows in let within = s.within in col_fits c.args.bytes.now c.args.at c.requires.line c.requires.column c.loop-token.place c.loop-token.reached (get_or c.args.tokens.now c.loop-token.token-index none).from c.loop-token.invariant.reached s.lower (omega (arith, grows, within))

pub push_lexeme-requires-clause-ordered : goal.push_lexeme-requires-clause-ordered
push_lexeme-requires-clause-ordered c =
    let grows = (spans_at c.args.tokens.now c.loop-token.token-index none c.loop-token.reached (length c.args.bytes.now) c.loop-token-test.true c.loop-token.invariant.spans).grows in omega (arith, grows)

pub push_lexeme-requires-clause-within : goal.push_lexeme-requires-clause-within
push_lexeme-requires-clause-within c =
    let s = spans_at c.args.tokens.now c.loop-token.token-index none c.loop-token.reached (length c.args.bytes.now) c.loop-token-test.true c.loop-token.invariant.spans in s.within

pub loop-token-preserved : goal.loop-token-preserved
loop-token-preserved c =
    let s = spans_at c.args.tokens.now c.loop-token.token-index none c.loop-token.reached (length c.args.bytes.now) c.loop-token-test.true c.loop-token.invariant.spans in
    let grows = s.grows in
    let here : c.later_place-place.result ≡ place_after c.args.at (take (get_or c.args.tokens.now c.loop-token.token-index none).from c.args.bytes.now) =
    c.later_place-place.ensures ∙ place_on c.args.at c.loop-token.place c.args.bytes.now c.loop-token.reached (get_or c.args.tokens.now c.loop-token.token-index none).from c.loop-token.invariant.reached s.lower in
    record {
      spans = spans_from _ _ _ _ (omega (arith, grows)) s.later;
      reached = here;
      made = lexemes_more c.args.bytes.now c.args.at c.later_place-place.result c.args.tokens.now c.loop-token.token-index c.loop-token.lexemes c.push_lexeme.new.lexemes c.loop-token-test.true here c.loop-token.invariant.made c.in_ok-push_lexeme.ensures;
    }

pub later_place-end-requires-clause-ordered : goal.later_place-end-requires-clause-ordered
later_place-end-requires-clause-ordered c = spans_end c.loop-token.reached (drop c.loop-token.token-index c.args.tokens.now) (length c.args.bytes.now) c.loop-token.invariant.spans

pub later_place-end-requires-clause-line : goal.later_place-end-requires-clause-line
later_place-end-requires-clause-line c =
    let within = spans_end c.loop-token.reached (drop c.loop-token.token-index c.args.tokens.now) (length c.args.bytes.now) c.loop-token.invariant.spans in line_fits c.args.bytes.now c.args.at c.requires.line c.requires.column c.loop-token.place c.loop-token.reached (length c.args.bytes.now) c.loop-token.invariant.reached within (omega arith)

pub later_place-end-requires-clause-column : goal.later_place-end-requires-clause-column
later_place-end-requires-clause-column c =
    let within = spans_end c.loop-token.reached (drop c.loop-token.token-index c.args.tokens.now) (length c.args.bytes.now) c.loop-token.invariant.spans in col_fits c.args.bytes.now c.args.at c.requires.line c.requires.column c.loop-token.place c.loop-token.reached (length c.args.bytes.now) c.loop-token.invariant.reached within (omega arith)

pub returns : goal.returns
returns c =
    let within = spans_end c.loop-token.reached (drop c.loop-token.token-index c.args.tokens.now) (length c.args.bytes.now) c.loop-token.invariant.spans in
    let end = c.later_place-end.ensures ∙ (place_on c.args.at c.loop-token.place c.args.bytes.now c.loop-token.reached (length c.args.bytes.now) c.loop-token.invariant.reached within ∙ ap (λ (l : List ℕ). place_after c.args.at l) (take_all (length c.args.bytes.now) c.args.bytes.now (omega arith))) in
    same_text c.loop-token.lexemes (map (lexeme_of c.args.bytes.now c.args.at) c.args.tokens.now) c.later_place-end.result (place_after c.args.at c.args.bytes.now)
    (c.loop-token.invariant.made ∙ ap (λ (l : List Token). map (lexeme_of c.args.bytes.now c.args.at) l) (take_all c.loop-token.token-index c.args.tokens.now c.loop-token-test.false)) end
