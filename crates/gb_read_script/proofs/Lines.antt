-- Lines of tokens, from the last token to the first.
use Rattle.std.proofs.Common.{◌≡◌, ℕ, ◌+◌, ◌<◌, cond, List, [], ◌∷◌, ◌++◌, length, get_or, drop, refl, ap, sym, ◌∙◌, inl, inr}
use Rattle.std.specs.List.{prefix_len}
use Rattle.std.proofs.lemmas.List.{at_drop_more}
use Rattle.gb_core.specs.declared.place.Place.{Place}
use Rattle.gb_language.specs.Language.{IsLine}
use Rattle.gb_script.specs.declared.text.Lexeme.{Lexeme}
use Rattle.gb_read_script.specs.declared.line.Line.{Line}
use Rattle.gb_read_script.specs.Line.{before, lines_before}
use Rattle.gb_read_script.specs.declared.goal_lines.LineSort.{LineSort}
use Rattle.gb_read_script.specs.declared.goal_lines.LineSort.TheVariants.{Binder, Hypothesis, Conclusion}
use Rattle.gb_read_script.specs.GoalLines.{part_of, is_dash}

pub lines_more : (end : Place) (ts : List Lexeme) (t : Lexeme) (lines : List Line)
    → lines_before end (ts ++ t ∷ []) lines ≡ lines_before end ts (before t end lines)
lines_more end [] t lines = refl
lines_more end (x ∷ xs) t lines = ap (before x end) (lines_more end xs t lines)

-- the tokens `-` from a position on
pub dashes_at : (ts : List Lexeme) (i : ℕ) (t : Lexeme) → i < length ts → t ≡ get_or ts i t
    → prefix_len is_dash (drop i ts) ≡ cond (is_dash t) (1 + prefix_len is_dash (drop (i + 1) ts)) 0
dashes_at ts i t lt e =
    at_drop_more (prefix_len is_dash) ts i t lt ∙ ap (λ (x : Lexeme). cond (is_dash x) (1 + prefix_len is_dash (drop (i + 1) ts)) 0) (sym e)

pub part_is_line : (sort : LineSort) → IsLine (part_of sort)
part_is_line Binder = inl refl
part_is_line Hypothesis = inr (inl refl)
part_is_line Conclusion = inr (inr refl)
