-- Lines of a goal, from the first on.
use Rattle.std.specs.Prelude.{◌≡◌, List, [], ◌∷◌, ◌++◌}
use Rattle.std.specs.List.{All}
use Rattle.std.proofs.Common.{refl, ap, ◌∙◌, sym, inl}
use Rattle.gb_core.specs.declared.place.Place.{Place}
use Rattle.gb_script.specs.declared.text.Text.{Text}
use Rattle.gb_read_script.specs.declared.goal_lines.ReadLine.{ReadLine}
use Rattle.gb_read_script.specs.GoalLines.{IsEntry, texts, IsRuler, IsContext, IsLineFault, IsAt, IsSyntaxPlace}

texts_more : (es : List ReadLine) (l : ReadLine) (rest : List Text) → texts es ++ l.text ∷ rest ≡ texts (es ++ l ∷ []) ++ rest
texts_more [] l rest = refl
texts_more (e ∷ es) l rest = ap (λ (ts : List Text). e.text ∷ ts) (texts_more es l rest)

-- an entry more
pub one_more : (lines : List Text) (es : List ReadLine) (t : Text) (rest : List Text) (l : ReadLine)
    → lines ≡ texts es ++ t ∷ rest → l.text ≡ t → lines ≡ texts (es ++ l ∷ []) ++ rest
one_more lines es t rest l whole same =
    whole ∙ (ap (λ (x : Text). texts es ++ x ∷ rest) (sym same) ∙ texts_more es l rest)

pub at_ruler : (lines : List Text) (es : List ReadLine) (t : Text) (rest : List Text)
    → lines ≡ texts es ++ t ∷ rest → All IsEntry es → IsRuler t → IsContext lines es rest
at_ruler lines es t rest whole each dashes = record { ruler = t; whole = whole; each = each; dashes = dashes }

pub line_fault : (lines : List Text) (es : List ReadLine) (t : Text) (rest : List Text) (end place : Place)
    → lines ≡ texts es ++ t ∷ rest → All IsEntry es → IsAt (IsLineFault t) t place → IsSyntaxPlace lines end place
line_fault lines es t rest end place whole each fault =
    record { entries = es; rest = t ∷ rest; whole = whole; each = each; fault = inl fault }
