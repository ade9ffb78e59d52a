-- What is printed of a form is read back.
use Rattle.std.specs.Prelude.{ℕ, ◌≡◌, Bool, true, List, [], ◌∷◌, None}
use Rattle.std.proofs.Common.{refl, sym, ◌∙◌, subst}
use Rattle.gb_core.specs.declared.place.Place.{Place as TextPlace}
use Rattle.gb_script.specs.Grammar.{Grammar}
use Rattle.gb_script.specs.declared.table.Symbol.TheVariants.{Part}
use Rattle.gb_language.specs.declared.rows.TheConstants.{FORM}
use Rattle.gb_language.specs.Language.{language, goal_language}
use Rattle.gb_lex.specs.Lex.{fault_of}
use Rattle.gb_limits.specs.LeftOut.{NoneLeftOut}
use Rattle.gb_limits.specs.Lexeme.{kinds_of}
use Rattle.gb_limits.specs.Limits.{NoneLong}
use Rattle.gb_limits.specs.Numbers.{NoneOverflow}
use Rattle.gb_read_script.specs.Reading.{SpellsForm}
use Rattle.gb_script.specs.declared.action.Rule.{Rule}
use Rattle.gb_script.specs.declared.text.Lexeme.{Lexeme}
use Rattle.gb_script.specs.declared.text.Text.{Text as TokenText}
use Rattle.gb_script.specs.declared.tree.Node.{Node}
use Rattle.gb_script.specs.declared.value.Value.TheVariants.{Tree}
use Rattle.gb_script.specs.Build.{IsTree}
use Rattle.gb_script.proofs.Stacks.{append_nil}
use Rattle.gb_terms.specs.declared.term.Term.{Term}
use Rattle.gb_print_names.specs.Text.{Text, Writing}
use Rattle.gb_print_names.specs.BoundNames.{Place}
use Rattle.gb_print.specs.FormText.{form_text}
use Rattle.gb_print.specs.Nodes.{placeless}
use Rattle.gb_print.specs.Forms.{form_tree}
use Rattle.gb_print.specs.Written.{IsWritten}
use Rattle.gb_print.specs.ReadBack.{tokens_at}
use Rattle.gb_print.proofs.Faultless.{whole_cut, faultless}
use Rattle.gb_print.proofs.Kept.{is_kept, kept, kept_so, form_braces, form_begins, none_left_out, none_overflows}
use Rattle.gb_print.proofs.Reading.{Reads}
use Rattle.gb_print.proofs.Sound.{bare_lexemes}
use Rattle.gb_print.proofs.Chains.{new, low, is_low, nothing, over_part}
use Rattle.gb_print.proofs.ChainRows.{becomes_here}
use Rattle.gb_print.proofs.Walked.{spelled_short}
use Rattle.gb_print.proofs.Lexed.{lexed, lexed_after}
use Rattle.gb_print.proofs.LexemesAre.{lexemes_are}
use Rattle.gb_print.proofs.Levels.{Fits, Spelt}
use Rattle.gb_print.proofs.Productions.{grammar}
use Rattle.gb_print.proofs.Pieces.{Shows}
use Rattle.gb_print.proofs.PartsShown.{part_form}
use Rattle.gb_print.proofs.TermsShown.{term_shown}

pub scripts : grammar 0 ≡ language
unfolding grammar language
scripts = refl

pub goals : grammar 1 ≡ goal_language
unfolding grammar goal_language
goals = refl

no_tokens : lexed [] ≡ []
unfolding lexed lexed_after
no_tokens = refl

pub fits_end : (bar : Bool) → Fits bar []
fits_end bar = record { word = refl; bars = λ e. refl }

-- what the tokens of bytes that are spelled to their end read
reads_whole : {stage part : ℕ} {x : Node} (bytes : Text) (at : TextPlace) → Spelt stage (Part part ∷ []) bytes [] (Tree x ∷ []) → Reads (grammar stage) (Part part ∷ []) (bare_lexemes (tokens_at bytes at).lexemes) [] (Tree x ∷ [])
reads_whole {stage} {part} {x} bytes at d =
    subst (λ (ls : List Lexeme). Reads (grammar stage) (Part part ∷ []) ls [] (Tree x ∷ [])) (sym (lexemes_are at bytes))
    (subst (λ (ls : List Lexeme). Reads (grammar stage) (Part part ∷ []) (lexed bytes) ls (Tree x ∷ [])) no_tokens d.reads)

-- Bytes that are spelled to their end as a part of forms have no token that is left out or out of range.
pub kept_whole : (bytes : Text) (at : TextPlace) {x : Node} → Spelt 0 (Part 120 ∷ []) bytes [] (Tree x ∷ []) → is_kept 0 (tokens_at bytes at).lexemes ≡ true
kept_whole bytes at {x} d =
    kept_so 0 (tokens_at bytes at).lexemes (kept (grammar 0) form_braces 20 form_begins refl (reads_whole bytes at d) 0)

-- what is written of a form, alone
pub alone : {stage : ℕ} {w : Writing} {x : Node} → Shows stage w x → Spelt stage (Part 120 ∷ []) (w []) [] (Tree x ∷ [])
alone {stage} {w} {x} s =
    let bytes : s.text [] ≡ w [] = sym (s.writes.same [] []) ∙ append_nil (w []) in
    subst (λ (b : Text). Spelt stage (Part 120 ∷ []) b [] (Tree x ∷ [])) bytes (s.form.reads [] (fits_end s.bar))

-- What is written of a form falls into tokens, none of which is left out or out of range.
pub form_kept : (at : Place) (t : Term) → IsWritten 0 at t
    → (fault_of (form_text t at []) ≡ None) × ((place : TextPlace) → NoneLeftOut (tokens_at (form_text t at []) place) × NoneOverflow (tokens_at (form_text t at []) place))
form_kept at t d =
    let bytes = form_text t at [] in
    let shown = alone (part_form (term_shown 0 d) true) in (
      faultless (whole_cut shown.cut),
      λ place. let are = kept_whole bytes place shown in (none_left_out (tokens_at bytes place) are, none_overflows (tokens_at bytes place) are),
    )

-- The tokens of a form are a text with short chains.
pub record FormBack (t : TokenText) (x : Node) : Type 0 where
  pub tree : Node
  pub spells : SpellsForm t tree
  pub same : placeless tree ≡ x
  pub short : NoneLong t spells.0

form_spelled : (t : TokenText) (x : Node) → ((g : Grammar Rule) → grammar 0 ≡ g → (y : Node) × (d : IsTree g FORM (kinds_of t) t y) × (placeless y ≡ x) × NoneLong t d.0) → FormBack t x
form_spelled t x h = let s = h language scripts in record { tree = s.0; spells = s.1; same = s.2; short = s.3 }

pub form_back : (at : Place) (t : Term) → IsWritten 0 at t → (place : TextPlace) → FormBack (tokens_at (form_text t at []) place) (form_tree t at)
form_back at t d place =
    let bytes = form_text t at [] in
    let x = form_tree t at in
    let tokens = tokens_at bytes place in
    let s = spelled_short (grammar 0) tokens 120 x (low true ∷ []) (over_part (becomes_here is_low (λ a. low a.bracket) (new true) [] refl) nothing) (reads_whole bytes place (alone (part_form (term_shown 0 d) true))) in
    form_spelled tokens x (λ g e. subst (λ (g : Grammar Rule). (y : Node) × (d : IsTree g FORM (kinds_of tokens) tokens y) × (placeless y ≡ x) × NoneLong tokens d.0) e (s.tree, s.is_tree, s.same, s.short))
