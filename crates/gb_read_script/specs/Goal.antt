-- What the text of a goal spells, and why one is refused.
use Rattle.std.specs.Prelude.{◌≡◌, ℕ, ◌⊎◌, List, [], ◌∷◌, ◌++◌, None}
use Rattle.std.specs.List.{All, AllZip}
use Rattle.gb_core.specs.declared.place.Place.{Place}
use Rattle.gb_core.specs.declared.refusal.Refused.TheVariants.{Script}
use Rattle.gb_core.specs.declared.refusal.Why.{Why}
use Rattle.gb_core.specs.declared.refusal.Why.TheVariants.{LeftOut, TooMany}
use Rattle.gb_lex.specs.Lex.{tokens_of, fault_of, IsCharacterFault}
use Rattle.gb_script.specs.declared.text.Text.{Text}
use Rattle.gb_script.specs.declared.tree.Node.{Node}
use Rattle.gb_language.specs.declared.rows.TheConstants.{ENTRY, HYPOTHESIS, FORM}
use Rattle.gb_language.specs.Language.{IsLineTree, IsSorted}
use Rattle.gb_limits.specs.Lexeme.{kinds_of, text_at}
use Rattle.gb_limits.specs.LeftOut.{NoneLeftOut}
use Rattle.gb_limits.specs.Limits.{NoneLong}
use Rattle.gb_limits.specs.Numbers.{NoneOverflow}
use Rattle.gb_limits.specs.Places.{IsChainPlace, IsOverflowPlace}
use Rattle.gb_read_script.specs.Reading.{IsLeftOutPlace}
use Rattle.gb_read_script.specs.declared.goal_lines.ReadLine.{ReadLine}
use Rattle.gb_read_script.specs.declared.goal_lines.ReadGoal.{ReadGoal}
use Rattle.gb_read_script.specs.declared.goal_tree.SequentTree.{SequentTree}
use Rattle.gb_read_script.specs.Line.{line_texts}
use Rattle.gb_read_script.specs.GoalLines.{part_of, IsGoal, IsSyntaxPlace, IsSyntax}

-- Trees.

-- The line spells this tree.
abbrev pub IsTreeOf : ReadLine → Node → Type 0
IsTreeOf l x = IsLineTree (part_of l.sort) (kinds_of l.text) l.text x

-- The lines of a goal but `---` spell these trees, one each.
abbrev pub AreTreesOf : ReadGoal → SequentTree → Type 0
AreTreesOf goal tree = AllZip IsTreeOf goal.context tree.context × IsTreeOf goal.conclusion tree.conclusion

-- where the text of a goal begins
abbrev pub beginning : Place
beginning = record { file = 0; line = 1; col = 1 }

-- the tokens of a goal's text, with their places
abbrev pub goal_text : List ℕ → Text
goal_text bytes = text_at bytes beginning (tokens_of bytes)

abbrev pub goal_lines : List ℕ → List Text
goal_lines bytes = line_texts (goal_text bytes)

-- The text spells this goal.
abbrev pub SpellsGoal : List ℕ → SequentTree → Type 0
SpellsGoal bytes tree = (goal : ReadGoal) × IsGoal (goal_lines bytes) goal × AreTreesOf goal tree

-- The tree is well-sorted, as a binder or a hypothesis.
abbrev pub IsSortedEntry : Node → Type 0
IsSortedEntry x = IsSorted ENTRY x ⊎ IsSorted HYPOTHESIS x

abbrev pub IsSortedGoal : SequentTree → Type 0
IsSortedGoal tree = All IsSortedEntry tree.context × IsSorted FORM tree.conclusion

-- Limits.

-- the lines of a goal but `---`
abbrev pub all_lines : ReadGoal → List ReadLine
all_lines goal = goal.context ++ goal.conclusion ∷ []

-- No chain of the line is too long, by its steps.
abbrev pub IsShort : ReadLine → Type 0
IsShort l = NoneLong l.text l.steps

-- In the first of these lines that isn't short the first operand too many of a chain begins at this place.
abbrev pub IsLongPlace : List ReadLine → Place → Type 0
IsLongPlace [] place = ⊥
IsLongPlace (l ∷ ls) place = IsChainPlace l.text l.steps place ⊎ (IsShort l × IsLongPlace ls place)

-- A chain of these lines has an operand too many.
abbrev pub IsTooMany : List ReadLine → Why → Place → Type 0
IsTooMany lines why place = (why ≡ TooMany 256) × IsLongPlace lines place

-- A chain of the lines of a text has an operand too many, or, where none has, a number of the text is out of range.
abbrev pub IsExcess : Text → List ReadLine → Why → Place → Type 0
IsExcess t lines why place = IsTooMany lines why place ⊎ (All IsShort lines × IsOverflowPlace t why place)

-- Refusals.

-- Why the tokens of a text are no goal's, and where: a byte starts none, or one is left out.
abbrev pub IsTokenRefusal : List ℕ → Why → Place → Type 0
IsTokenRefusal bytes why place =
    IsCharacterFault bytes beginning (Script why place)
    ⊎ ((fault_of bytes ≡ None) × (why ≡ LeftOut) × IsLeftOutPlace (goal_text bytes) place)

-- Why the lines of a text are refused, and where: they are no goal, or one that passes a limit.
abbrev pub IsLineRefusal : Text → Why → Place → Type 0
IsLineRefusal t why place =
    IsSyntax (IsSyntaxPlace (line_texts t) t.end) why place
    ⊎ ((goal : ReadGoal) × IsGoal (line_texts t) goal × IsExcess t (all_lines goal) why place)

-- Why the text of a goal is refused, and where: its tokens come before its lines.
abbrev pub IsGoalRefusal : List ℕ → Why → Place → Type 0
IsGoalRefusal bytes why place =
    IsTokenRefusal bytes why place
    ⊎ ((fault_of bytes ≡ None) × NoneLeftOut (goal_text bytes) × IsLineRefusal (goal_text bytes) why place)

-- The lines of a text are this goal, and pass no limit.
pub record IsWithin (t : Text) (goal : ReadGoal) : Type 0 where
  pub lines : IsGoal (line_texts t) goal
  pub short : All IsShort (all_lines goal)
  pub numbers : NoneOverflow t

-- The text is one of a goal, and passes no limit.
pub record IsGoalAllowed (bytes : List ℕ) : Type 0 where
  pub faultless : fault_of bytes ≡ None
  pub left_out : NoneLeftOut (goal_text bytes)
  pub goal : ReadGoal
  pub within : IsWithin (goal_text bytes) goal
