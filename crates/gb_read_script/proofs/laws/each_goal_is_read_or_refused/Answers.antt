use Rattle.std.specs.Prelude.{◌⊎◌, ℕ, List}
use Rattle.std.proofs.Common.{inl, inr, ⊎_elim}
use Rattle.gb_script.specs.declared.table.Step.{Step}
use Rattle.gb_script.specs.Parsing.{Spells, FirstFault, StepsBefore, IsTextOrFault}
use Rattle.gb_script.specs.declared.action.Rule.{Rule}
use Rattle.gb_language.specs.Language.{goal_language}
use Rattle.gb_script.specs.declared.text.Text.{Text}
use Rattle.gb_limits.specs.Lexeme.{kinds_of}
use Rattle.gb_read_script.specs.declared.goal_lines.LineSort.{LineSort}
use Rattle.gb_read_script.specs.GoalLines.{part_of, IsLineText, Stops}
use Rattle.gb_read_script.proofs.Lines.{part_is_line}
use Rattle.gb_read_script.proofs.GoalOutcomes.{goal_outcome}
use Rattle.gb_read_script.proofs.laws.each_goal_is_read_or_refused.Goals as goal

tried : (sort : LineSort) (t : Text) → IsTextOrFault goal_language (part_of sort) (kinds_of t)
    → ((steps : List (Step Rule)) × IsLineText sort t steps) ⊎ ((at : ℕ) × Stops sort t at)
tried sort t x =
    ⊎_elim (λ (y : (steps : List (Step Rule)) × Spells goal_language (part_of sort) (kinds_of t) steps). inl y)
    (λ (y : (at : ℕ) × (steps : List (Step Rule)) × FirstFault goal_language (part_of sort) (kinds_of t) at × StepsBefore goal_language (part_of sort) (kinds_of t) at steps).
    inr (y.0, y.2)) x

pub returns : goal.returns
returns c =
    let places = c.none_or_a_first_place.ensures in
    goal_outcome places.left_out places.long places.overflow
    (λ sort t. tried sort t (c.each_text_or_fault.ensures.lines (part_of sort) (kinds_of t) (part_is_line sort) (c.kinds_are_kinds.ensures t)))
    (λ l read. c.texts_spell_trees.ensures.lines (part_of l.sort) (kinds_of l.text) l.text l.steps (part_is_line l.sort) read)
    c.each_fault_has_a_place.ensures
