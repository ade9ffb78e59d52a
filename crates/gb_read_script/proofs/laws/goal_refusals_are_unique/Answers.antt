use Rattle.std.proofs.Common.{List, ◌≡◌, ℕ}
use Rattle.gb_script.specs.declared.table.Step.{Step}
use Rattle.gb_script.specs.declared.action.Rule.{Rule}
use Rattle.gb_language.specs.Language.{goal_language}
use Rattle.gb_script.specs.declared.text.Text.{Text}
use Rattle.gb_limits.specs.Lexeme.{kinds_of}
use Rattle.gb_read_script.specs.declared.goal_lines.LineSort.{LineSort}
use Rattle.gb_read_script.specs.GoalLines.{part_of, IsLineText, Stops}
use Rattle.gb_read_script.proofs.Lines.{part_is_line}
use Rattle.gb_read_script.proofs.Reasons.{one_refusal, no_refusal}
use Rattle.gb_read_script.proofs.laws.goal_refusals_are_unique.Goals as goal

pub returns : goal.returns
returns c =
    let places = c.first_places_are_unique.ensures in
    let text : (sort : LineSort) (t : Text) (a b : List (Step Rule)) → IsLineText sort t a → IsLineText sort t b → a ≡ b =
    λ sort t a b. c.steps_are_unique.ensures.lines (part_of sort) (kinds_of t) a b (part_is_line sort) (c.kinds_are_kinds.ensures t) in
    let stop : (sort : LineSort) (t : Text) (a b : ℕ) → Stops sort t a → Stops sort t b → a ≡ b =
    λ sort t. c.first_faults_are_unique.ensures goal_language (part_of sort) (kinds_of t) in
    record {
      unique = one_refusal text stop places.left_out places.long places.overflow;
      none = no_refusal text stop places.left_out places.long places.overflow;
    }
