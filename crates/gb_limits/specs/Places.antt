-- Places at which a text passes a limit.
use Rattle.std.specs.Prelude.{◌≡◌, ℕ, ℤ, List}
use Rattle.gb_core.specs.declared.place.Place.{Place}
use Rattle.gb_core.specs.declared.refusal.Why.{Why}
use Rattle.gb_core.specs.declared.refusal.Why.TheVariants.{Overflow}
use Rattle.gb_script.specs.declared.table.Step.{Step}
use Rattle.gb_script.specs.declared.action.Rule.{Rule}
use Rattle.gb_script.specs.declared.text.Text.{Text}
use Rattle.gb_script.specs.Text.{place_at}
use Rattle.gb_limits.specs.Limits.{IsFirstTooDeep, IsFirstLong}
use Rattle.gb_limits.specs.Numbers.{IsFirstOverflow}

-- The first token that stands in too many levels stands at this place.
abbrev pub IsDepthPlace : Text → List (Step Rule) → ℕ → Place → Type 0
IsDepthPlace t steps fault place = (at : ℕ) × IsFirstTooDeep t steps fault at × (place ≡ place_at t at)

-- The first operand too many of a chain begins at this place.
abbrev pub IsChainPlace : Text → List (Step Rule) → Place → Type 0
IsChainPlace t steps place = (at : ℕ) × IsFirstLong t steps at × (place ≡ place_at t at)

-- The first number out of range stands at this place; why tells the operands of the operation that leads out.
abbrev pub IsOverflowPlace : Text → Why → Place → Type 0
IsOverflowPlace t why place =
    (at : ℕ) × (left : ℤ) × (right : ℤ) × IsFirstOverflow t at left right × (why ≡ Overflow left right) × (place ≡ place_at t at)
