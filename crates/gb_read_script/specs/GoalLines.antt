-- The lines of a goal, by the steps that derive them.
use Rattle.std.specs.Prelude.{◌≡◌, ℕ, ◌<◌, ◌⊎◌, min, max, Bool, true, false, List, [], ◌∷◌, ◌++◌, length, map}
use Rattle.std.specs.List.{All, prefix_len}
use Rattle.gb_core.specs.declared.place.Place.{Place}
use Rattle.gb_core.specs.declared.refusal.Refused.{Refused}
use Rattle.gb_core.specs.declared.refusal.Refused.TheVariants.{NoMemory, ReadFault, Script}
use Rattle.gb_core.specs.declared.refusal.Why.{Why}
use Rattle.gb_core.specs.declared.refusal.Why.TheVariants.{Syntax}
use Rattle.gb_script.specs.declared.table.Step.{Step}
use Rattle.gb_script.specs.Parsing.{Spells, FirstFault}
use Rattle.gb_script.specs.declared.action.Rule.{Rule}
use Rattle.gb_language.specs.declared.rows.TheConstants.{ENTRY, HYPOTHESIS, FORM}
use Rattle.gb_language.specs.Language.{goal_language}
use Rattle.gb_script.specs.declared.terminal.Terminal.{Terminal}
use Rattle.gb_script.specs.declared.terminal.Terminal.TheVariants.{Minus}
use Rattle.gb_script.specs.declared.text.Lexeme.{Lexeme}
use Rattle.gb_script.specs.declared.text.Text.{Text}
use Rattle.gb_limits.specs.Lexeme.{kinds_of}
use Rattle.gb_script.specs.Text.{place_at}
use Rattle.gb_read_script.specs.declared.goal_lines.Attempt.{Attempt}
use Rattle.gb_read_script.specs.declared.goal_lines.Attempt.TheVariants.{Steps, Stop}
use Rattle.gb_read_script.specs.declared.goal_lines.Line.{Line}
use Rattle.gb_read_script.specs.declared.goal_lines.Line.TheVariants.{Entry, Ruler}
use Rattle.gb_read_script.specs.declared.goal_lines.LineSort.{LineSort}
use Rattle.gb_read_script.specs.declared.goal_lines.LineSort.TheVariants.{Binder, Hypothesis, Conclusion}
use Rattle.gb_read_script.specs.declared.goal_lines.ReadLine.{ReadLine}
use Rattle.gb_read_script.specs.declared.goal_lines.ReadGoal.{ReadGoal}

-- the part of the grammar by which lines of a sort are read
abbrev pub part_of : LineSort → ℕ
part_of Binder = ENTRY
part_of Hypothesis = HYPOTHESIS
part_of Conclusion = FORM

-- By these steps, the text is a line of this sort.
abbrev pub IsLineText : LineSort → Text → List (Step Rule) → Type 0
IsLineText sort t steps = Spells goal_language (part_of sort) (kinds_of t) steps

-- The text is no line of this sort.
abbrev pub IsNoLine : LineSort → Text → Type 0
IsNoLine sort t = (steps : List (Step Rule)) → IsLineText sort t steps → ⊥

-- This token is the first with which no line of this sort goes on.
abbrev pub Stops : LineSort → Text → ℕ → Type 0
Stops sort t at = FirstFault goal_language (part_of sort) (kinds_of t) at

-- what reading a text as a line of this sort comes to
abbrev pub IsAttempt : LineSort → Text → Attempt → Type 0
IsAttempt sort t (Steps steps) = IsLineText sort t steps
IsAttempt sort t (Stop at) = Stops sort t at

-- A line of this sort may be an entry of a context: a hypothesis only where the text is no binder.
abbrev pub MayBeEntry : LineSort → Text → Type 0
MayBeEntry Binder t = Unit {0}
MayBeEntry Hypothesis t = IsNoLine Binder t
MayBeEntry Conclusion t = ⊥

-- The line is one of its sort, by its steps.
abbrev pub IsRead : ReadLine → Type 0
IsRead l = IsLineText l.sort l.text l.steps

-- The line is an entry of a context.
abbrev pub IsEntry : ReadLine → Type 0
IsEntry l = IsRead l × MayBeEntry l.sort l.text

-- The line is a conclusion.
abbrev pub IsConclusion : ReadLine → Type 0
IsConclusion l = (l.sort ≡ Conclusion) × IsRead l

unfoldable pub is_minus : Terminal → Bool
is_minus Minus = true
is_minus _ = false

abbrev pub is_dash : Lexeme → Bool
is_dash l = is_minus l.terminal

-- how many tokens `-` a line begins with
abbrev pub dashes : Text → ℕ
dashes t = prefix_len is_dash t.lexemes

-- The text is no entry of a context.
abbrev pub IsNoEntry : Text → Type 0
IsNoEntry t = IsNoLine Binder t × IsNoLine Hypothesis t

-- The line is `---`, which is no entry.
abbrev pub IsRuler : Text → Type 0
IsRuler t = (dashes t ≡ 3) × (length t.lexemes ≡ 3) × IsNoEntry t

-- what a text before the conclusion is
abbrev pub IsLine : Text → Line → Type 0
IsLine t (Entry l) = (l.text ≡ t) × IsEntry l
IsLine t Ruler = IsRuler t

abbrev pub texts : List ReadLine → List Text
texts lines = map (λ (l : ReadLine). l.text) lines

-- Lines are entries, then `---`, then further lines.
pub record IsContext (lines : List Text) (entries : List ReadLine) (rest : List Text) : Type 0 where
  pub ruler : Text
  pub whole : lines ≡ texts entries ++ ruler ∷ rest
  pub each : All IsEntry entries
  pub dashes : IsRuler ruler

-- Lines are a goal: the entries of a context, then `---`, then the conclusion.
abbrev pub IsGoal : List Text → ReadGoal → Type 0
IsGoal lines goal = IsContext lines goal.context (goal.conclusion.text ∷ []) × IsConclusion goal.conclusion

-- The line before the conclusion can be read in no way: this token is the last at which one of the ways stops.
abbrev pub IsLineFault : Text → ℕ → Type 0
IsLineFault t at = (binder hypothesis : ℕ) × Stops Binder t binder × Stops Hypothesis t hypothesis
    × (IsRuler t → ⊥) × (at ≡ max (max binder hypothesis) (min (dashes t) 3))

-- A token of the text of which this holds stands at this place.
abbrev pub IsAt : (ℕ → Type 0) → Text → Place → Type 0
IsAt P t place = (at : ℕ) × P at × (place ≡ place_at t at)

-- Behind `---` no conclusion goes on at this place: there is none, it can't be read, or another line follows.
abbrev pub IsEndingFault : List Text → Place → Place → Type 0
IsEndingFault [] end place = place ≡ end
IsEndingFault (last ∷ more) end place =
    IsAt (Stops Conclusion last) last place
    ⊎ (((steps : List (Step Rule)) × IsLineText Conclusion last steps) × (0 < length more) × (place ≡ last.end))

-- Behind entries no goal goes on at this place: there is no `---`, a line can't be read, or no conclusion follows.
abbrev pub IsFaultBehind : List Text → Place → Place → Type 0
IsFaultBehind [] end place = place ≡ end
IsFaultBehind (l ∷ ls) end place = IsAt (IsLineFault l) l place ⊎ (IsRuler l × IsEndingFault ls end place)

-- No goal goes on at this place in lines that end at a place.
pub record IsSyntaxPlace (lines : List Text) (end place : Place) : Type 0 where
  pub entries : List ReadLine
  pub rest : List Text
  pub whole : lines ≡ texts entries ++ rest
  pub each : All IsEntry entries
  pub fault : IsFaultBehind rest end place

-- Refused for the syntax, at such a place.
abbrev pub IsSyntax : (Place → Type 0) → Why → Place → Type 0
IsSyntax P why place = (why ≡ Syntax) × P place

-- A refusal is for want of memory, or has such a reason and place.
abbrev pub IsRefusedFor : (Why → Place → Type 0) → Refused → Type 0
IsRefusedFor P NoMemory = Unit {0}
IsRefusedFor P ReadFault = ⊥
IsRefusedFor P (Script why place) = P why place
