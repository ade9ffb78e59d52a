-- The trees that a text spells, and why one is refused.
use Rattle.std.specs.Prelude.{◌≡◌, ℕ, List, ◌⊎◌, length}
use Rattle.gb_core.specs.declared.place.Place.{Place}
use Rattle.gb_core.specs.declared.refusal.Why.{Why}
use Rattle.gb_core.specs.declared.refusal.Why.TheVariants.{Depth, LeftOut, Syntax, TooMany}
use Rattle.gb_script.specs.declared.table.Step.{Step}
use Rattle.gb_script.specs.Parsing.{Spells, FirstFault, StepsBefore}
use Rattle.gb_script.specs.declared.action.Rule.{Rule}
use Rattle.gb_script.specs.declared.text.Text.{Text}
use Rattle.gb_script.specs.declared.tree.Node.{Node}
use Rattle.gb_script.specs.Text.{place_at}
use Rattle.gb_language.specs.declared.rows.TheConstants.{COMMAND, FORM}
use Rattle.gb_language.specs.Language.{language, IsTextTree}
use Rattle.gb_limits.specs.Lexeme.{kinds_of}
use Rattle.gb_limits.specs.LeftOut.{IsFirstLeftOut, NoneLeftOut}
use Rattle.gb_limits.specs.Limits.{NoneTooDeep, NoneLong}
use Rattle.gb_limits.specs.Numbers.{NoneOverflow}
use Rattle.gb_limits.specs.Places.{IsDepthPlace, IsChainPlace, IsOverflowPlace}

-- The text is one of this part, by these steps.
abbrev pub IsText : ℕ → Text → List (Step Rule) → Type 0
IsText part t steps = Spells language part (kinds_of t) steps

-- The text is one of this part, and spells this tree.
abbrev pub SpellsTree : ℕ → Text → Node → Type 0
SpellsTree part t x = IsTextTree part (kinds_of t) t x

-- The text spells this command.
abbrev pub SpellsCommand : Text → Node → Type 0
SpellsCommand t c = SpellsTree COMMAND t c

-- The text spells this form.
abbrev pub SpellsForm : Text → Node → Type 0
SpellsForm t f = SpellsTree FORM t f

-- These steps read the text of this part up to this token, the first with which no text goes on, or up to the end where it ends too soon.
abbrev pub StopsAt : ℕ → Text → ℕ → List (Step Rule) → Type 0
StopsAt part t at steps = FirstFault language part (kinds_of t) at × StepsBefore language part (kinds_of t) at steps

-- The first token that is left out stands at this place.
abbrev pub IsLeftOutPlace : Text → Place → Type 0
IsLeftOutPlace t place = (at : ℕ) × IsFirstLeftOut t at × (place ≡ place_at t at)

-- Why a text is refused that these steps read up to this token, and where.
abbrev pub IsStop : Text → ℕ → List (Step Rule) → Why → Place → Type 0
IsStop t at steps why place =
    ((why ≡ Depth) × IsDepthPlace t steps at place)
    ⊎ ((why ≡ Syntax) × NoneTooDeep t steps at × (place ≡ place_at t at))

-- A chain of the text of these steps has an operand too many, or, where none has, a number is out of range.
abbrev pub IsExcess : Text → List (Step Rule) → Why → Place → Type 0
IsExcess t steps why place =
    ((why ≡ TooMany 256) × IsChainPlace t steps place) ⊎ (NoneLong t steps × IsOverflowPlace t why place)

-- The limit that the text of these steps passes, and where.
abbrev pub IsLimit : Text → List (Step Rule) → Why → Place → Type 0
IsLimit t steps why place =
    ((why ≡ Depth) × IsDepthPlace t steps (length t.lexemes) place)
    ⊎ (NoneTooDeep t steps (length t.lexemes) × IsExcess t steps why place)

-- Why a text of this part without words that are left out is refused, and where.
abbrev pub IsFault : ℕ → Text → Why → Place → Type 0
IsFault part t why place =
    ((at : ℕ) × (steps : List (Step Rule)) × StopsAt part t at steps × IsStop t at steps why place)
    ⊎ ((steps : List (Step Rule)) × IsText part t steps × IsLimit t steps why place)

-- Why a text of this part is refused, and where: a token that is left out comes before any other fault.
abbrev pub IsRefusal : ℕ → Text → Why → Place → Type 0
IsRefusal part t why place =
    ((why ≡ LeftOut) × IsLeftOutPlace t place) ⊎ (NoneLeftOut t × IsFault part t why place)

-- The text is one of this part, and passes no limit of its steps and numbers.
pub record IsWithin (part : ℕ) (t : Text) : Type 0 where
  pub steps : List (Step Rule)
  pub text : IsText part t steps
  pub deep : NoneTooDeep t steps (length t.lexemes)
  pub long : NoneLong t steps
  pub numbers : NoneOverflow t

-- No token of the text is left out; it is one of this part and passes no limit.
abbrev pub IsAllowed : ℕ → Text → Type 0
IsAllowed part t = NoneLeftOut t × IsWithin part t
